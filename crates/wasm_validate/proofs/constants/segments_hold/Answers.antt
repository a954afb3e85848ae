use Rattle.std.proofs.Common.{sym}
use Rattle.faaslet_meaning.specs.Valid.{SegmentOk}
use Rattle.wasm_validate.specs.Rules.{SegmentIn}
use Rattle.wasm_validate.proofs.Kept.{segment_is, all_of}
use Rattle.wasm_validate.proofs.constants.segments_hold.Goals as goal

pub returns : goal.returns
returns c =
    let m = c.args.module.now in
    let s = c.args.spaces.now in (
      λ t. all_of (SegmentIn s) (SegmentOk m) _ _ c.as_slice.ensures (λ d. (segment_is m s c.requires d).0) (c.are_segments.ensures.0 t),
      λ h. c.are_segments.ensures.1 (all_of (SegmentOk m) (SegmentIn s) _ _ (sym c.as_slice.ensures) (λ d. (segment_is m s c.requires d).1) h),
    )
