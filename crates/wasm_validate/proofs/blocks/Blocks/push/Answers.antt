use Rattle.std.proofs.Common.{◌≡◌, ◌∙◌, ◌∷◌, ap, sym, Some, length}
use Rattle.wasm_validate.specs.Frames.{push}
use Rattle.wasm_validate.proofs.Opens.{frames_push, rises_push}
use Rattle.wasm_validate.specs.Views.{frames, Rises}
use Rattle.std.proofs.Common.{subst}
use Rattle.wasm_validate.proofs.blocks.Blocks.push.Goals as goal

pub invariant_of-self-2 : goal.invariant_of-self-2
invariant_of-self-2 c =
    let e : c.push.new.self ≡ c.args.operand ∷ c.self.inside.operands = c.in_ok-push.ensures in
    subst (λ l. Rises c.self.inside.controls (length l)) (sym e) (rises_push _ _ c.args.operand c.self.invariant)

pub returns : goal.returns
returns c =
    let e : c.push.new.self ≡ c.args.operand ∷ c.self.inside.operands = c.in_ok-push.ensures in
    ap (λ x. Some (push c.args.operand x)) (sym c.self.view_is) ∙ ap (λ x. Some x) (sym (frames_push _ _ c.args.operand c.self.invariant)) ∙ ap (λ l. Some (frames c.self.inside.controls l)) (sym e)
