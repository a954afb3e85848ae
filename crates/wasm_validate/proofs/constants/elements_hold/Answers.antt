use Rattle.std.proofs.Common.{sym}
use Rattle.faaslet_meaning.specs.Valid.{ElementOk}
use Rattle.wasm_validate.specs.Rules.{ElementIn}
use Rattle.wasm_validate.proofs.Kept.{element_is, all_of}
use Rattle.wasm_validate.proofs.constants.elements_hold.Goals as goal

pub returns : goal.returns
returns c =
    let m = c.args.module.now in
    let s = c.args.spaces.now in (
      λ t. all_of (ElementIn s) (ElementOk m) _ _ c.as_slice.ensures (λ e. (element_is m s c.requires e).0) (c.are_elements.ensures.0 t),
      λ h. c.are_elements.ensures.1 (all_of (ElementOk m) (ElementIn s) _ _ (sym c.as_slice.ensures) (λ e. (element_is m s c.requires e).1) h),
    )
