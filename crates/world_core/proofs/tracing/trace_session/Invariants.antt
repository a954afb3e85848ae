use Rattle.world_core.specs.Tracing.{Traces}
use Rattle.world_core.proofs.tracing.trace_session.Given as goal

abbrev pub invariant-loop-event : goal.invariant-loop-event
invariant-loop-event l = Traces l.protos l.seed l.world l.generator
