use Rattle.std.proofs.Common.{◌∙◌, ap, sym, Some, None}
use Rattle.wasm_validate.specs.Frames.{pop_any}
use Rattle.wasm_validate.proofs.Opens.{pop_none, pop_unknown, pop_nothing, pop_known, pop_absent, rises_pop}
use Rattle.wasm_validate.proofs.blocks.Blocks.pop_any.Goals as goal

pub returns : goal.returns
returns c = ap pop_any (sym c.self.view_is) ∙ pop_none c.self.inside.controls c.self.inside.operands (sym c.in-None.ensures)

pub returns-then-control : goal.returns-then-control
returns-then-control c =
    ap pop_any (sym c.self.view_is)
    ∙ pop_unknown c.self.inside.controls c.in-Some.control c.self.inside.operands (sym c.in-Some.ensures) (sym c.len.ensures ∙ c.if-len-control.true) c.if-control.true
    ∙ ap (λ x. Some (None, x)) c.self.view_is

pub returns-then-len-control : goal.returns-then-len-control
returns-then-len-control c =
    ap pop_any (sym c.self.view_is)
    ∙ pop_nothing c.self.inside.controls c.in-Some.control c.self.inside.operands (sym c.in-Some.ensures) (sym c.len.ensures ∙ c.if-len-control.true) c.if-control.false

pub invariant_of-self : goal.invariant_of-self
invariant_of-self c =
    rises_pop c.self.inside.controls c.in-Some.control c.self.inside.operands c.pop.new.self c.in-Some-pop.operand (sym c.in-Some.ensures) c.self.invariant (λ e. c.if-len-control.false (c.len.ensures ∙ e)) c.in-Some-pop.ensures

pub returns-in-Some-pop : goal.returns-in-Some-pop
returns-in-Some-pop c =
    ap pop_any (sym c.self.view_is)
    ∙ pop_known c.self.inside.controls c.in-Some.control c.self.inside.operands c.pop.new.self c.in-Some-pop.operand (sym c.in-Some.ensures) c.self.invariant (λ e. c.if-len-control.false (c.len.ensures ∙ e)) c.in-Some-pop.ensures

pub returns-in-None-pop : goal.returns-in-None-pop
returns-in-None-pop c = absurd (pop_absent c.self.inside.controls c.in-Some.control c.self.inside.operands (sym c.in-Some.ensures) c.self.invariant (λ e. c.if-len-control.false (c.len.ensures ∙ e)) c.in-None-pop.ensures.0)
