use Rattle.std.proofs.Common.{ℕ, ◌<◌, IsSome, slice_index_or}
use Rattle.session_meaning.specs.Draft.{DraftFunction}
use Rattle.protos.proofs.protos.has_modules.Given as goal

abbrev pub invariant-loop-f : goal.invariant-loop-f
invariant-loop-f l = (n : ℕ) (d : DraftFunction) → n < l.f → IsSome (slice_index_or l.registry.functions n d).code
