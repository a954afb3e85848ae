use Rattle.std.proofs.Common.{◌≡◌, ◌∙◌, ap, sym, Option, Some, None, List, option_map, slice_get, ⊎_elim}
use Rattle.faaslet_meaning.specs.declared.instr.ValType.{ValType}
use Rattle.wasm_validate.specs.declared.kind.Control.{Control}
use Rattle.wasm_validate.specs.Views.{frames}
use Rattle.wasm_validate.specs.Frames.{Frame, label_of, label_type}
use Rattle.wasm_validate.proofs.Opens.{label_shown}
use Rattle.wasm_validate.proofs.blocks.Blocks.label.Goals as goal

label : (fs : List Frame) (ks : List Control) (os : List (Option ValType)) (n : _) (k : Option Control) → frames ks os ≡ fs → k ≡ slice_get ks n → option_map label_of (slice_get fs n) ≡ option_map (λ k. label_type k.kind k.ends) k
label fs ks os n k v e = ap (λ l. option_map label_of (slice_get l n)) (sym v) ∙ label_shown ks os n ∙ ap (λ o. option_map (λ k. label_type k.kind k.ends) o) (sym e)

pub returns-in-Again : goal.returns-in-Again
returns-in-Again c =
    sym (label c.args.self.now c.self.inside.controls c.self.inside.operands c.args.n (Some c.in-Some.control) c.self.view_is c.in-Some.ensures
    ∙ ap (λ k. Some (label_type k c.in-Some.control.ends)) c.in-Again.is)

pub returns-in-Body : goal.returns-in-Body
returns-in-Body c =
    sym (label c.args.self.now c.self.inside.controls c.self.inside.operands c.args.n (Some c.in-Some.control) c.self.view_is c.in-Some.ensures
    ∙ ⊎_elim (λ e. ap (λ k. Some (label_type k c.in-Some.control.ends)) e) (λ e. ap (λ k. Some (label_type k c.in-Some.control.ends)) e) c.in-Body.is)

pub returns-in-None : goal.returns-in-None
returns-in-None c = sym (label c.args.self.now c.self.inside.controls c.self.inside.operands c.args.n None c.self.view_is c.in-None.ensures)
