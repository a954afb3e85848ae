use Rattle.wasm_validate.specs.Rules.{SegmentIn}
use Rattle.wasm_validate.proofs.Turns.{all_more}
use Rattle.wasm_validate.proofs.constants.are_segments.Goals as goal

pub loop-segment-preserved : goal.loop-segment-preserved
loop-segment-preserved c =
    let l = c.loop-segment in
    all_more (SegmentIn c.args.spaces.now) c.args.segments.now l.segment-index c.segment-item.result c.segment-item.is c.loop-segment-test.true (c.segment_holds.ensures.0 c.if-not-segment_holds.false) l.invariant
