use Rattle.std.proofs.Common.{◌∙◌, sym}
use Rattle.wasm_validate.proofs.Opens.{none_shown, none_open}
use Rattle.std.proofs.Common.{eq-eqb}
use Rattle.std.proofs.lemmas.Bool.{eqb-true}
use Rattle.wasm_validate.proofs.blocks.Blocks.is_closed.Goals as goal

pub returns : goal.returns
returns c = (
  λ t. sym c.self.view_is ∙ none_open c.self.inside.controls c.self.inside.operands (sym c.len.ensures ∙ eqb-true _ _ t),
  λ e. eq-eqb c.len.result 0 (c.len.ensures ∙ none_shown c.self.inside.controls c.self.inside.operands (c.self.view_is ∙ e)),
)
