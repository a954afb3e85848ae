use Rattle.std.proofs.Common.{◌∙◌, sym}
use Rattle.wasm_validate.proofs.Kept.{constant_by}
use Rattle.wasm_validate.proofs.constants.globals_hold.Goals as goal

pub returns : goal.returns
returns c =
    let globals = c.as_slice.ensures.value ∙ c.requires.imported_globals_are in
    let defined = c.as_slice-2.ensures in
    (λ t. constant_by _ _ _ _ globals defined (c.are_constant.ensures.0 t), λ h. c.are_constant.ensures.1 (constant_by _ _ _ _ (sym globals) (sym defined) h))
