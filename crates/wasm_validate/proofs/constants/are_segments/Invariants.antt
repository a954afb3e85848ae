use Rattle.std.proofs.Common.{ℕ, ◌<◌, get_or}
use Rattle.faaslet_meaning.specs.declared.module.Segment.{Segment}
use Rattle.wasm_validate.specs.Rules.{SegmentIn}
use Rattle.wasm_validate.proofs.constants.are_segments.Given as goal

abbrev pub invariant-loop-segment : goal.invariant-loop-segment
invariant-loop-segment l = (k : ℕ) (d : Segment) → k < l.segment-index → SegmentIn l.spaces (get_or l.segments k d)
