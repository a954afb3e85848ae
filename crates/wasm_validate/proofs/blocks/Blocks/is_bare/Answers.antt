use Rattle.std.proofs.Common.{◌∙◌, Some, None, sym, ap}
use Rattle.std.proofs.lemmas.Bool.{eqb-true}
use Rattle.wasm_validate.specs.Frames.{pop_any}
use Rattle.wasm_validate.proofs.Opens.{pop_unknown}
use Rattle.wasm_validate.proofs.blocks.Blocks.is_bare.Goals as goal

pub returns-then-control : goal.returns-then-control
returns-then-control c =
    λ t.
    ap pop_any (sym c.self.view_is)
    ∙ pop_unknown c.self.inside.controls c.in-Some.control c.self.inside.operands (sym c.in-Some.ensures) (sym c.len.ensures ∙ eqb-true _ _ t) c.if-control.true
    ∙ ap (λ x. Some (None, x)) c.self.view_is
