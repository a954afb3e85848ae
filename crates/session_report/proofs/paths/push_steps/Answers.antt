-- One step more is written.
use Rattle.std.specs.String.{string_bytes}
use Rattle.session_report.proofs.Ways.{down_more}
use Rattle.session_report.proofs.paths.push_steps.Goals as goal

pub down-preserved : goal.down-preserved
down-preserved c =
    down_more (string_bytes c.down.out) (string_bytes c.write.new.self) _ c.down.steps.items c.pop.new.self.items c.in-Some.step c.in_ok-write.ensures.bytes c.in-Some.ensures.items c.down.invariant
