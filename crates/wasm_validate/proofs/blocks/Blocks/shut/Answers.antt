use Rattle.std.proofs.Common.{◌∙◌, ap, sym}
use Rattle.wasm_validate.specs.Frames.{closed}
use Rattle.wasm_validate.proofs.Opens.{shut_none, shut_more}
use Rattle.wasm_validate.proofs.blocks.Blocks.shut.Goals as goal

pub returns-in-None : goal.returns-in-None
returns-in-None c = ap closed (sym c.self.view_is) ∙ shut_none c.self.inside.controls c.self.inside.operands (sym c.in-None.ensures)

pub returns-then-len-control : goal.returns-then-len-control
returns-then-len-control c =
    ap closed (sym c.self.view_is)
    ∙ shut_more c.self.inside.controls c.in-Some.control c.self.inside.operands (sym c.in-Some.ensures) c.self.invariant (λ e. c.if-len-control.true (c.len.ensures ∙ e))
