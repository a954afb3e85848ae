-- A branch goes to a label, or leaves the frame.
use Rattle.std.proofs.Common.{◌≡◌, ◌∙◌, ap, sym, refl, ◌∷◌, true, false, Some}
use Rattle.std.specs.Prelude.{slice_get}
use Rattle.std.proofs.lemmas.Bool.{not-true, not-false, both_ways}
use Rattle.wasm_interp.proofs.Branches.{branch_fits, branch_follows}
use Rattle.wasm_interp.proofs.thread.Thread.branch.Goals as goal

pub unwind-requires : goal.unwind-requires
unwind-requires c =
    let (memory, d, s, ok) = c.requires.ready in
    let fits = branch_fits memory c.args.self.now d c.args.n s c.requires.inner c.get-label.result (ap (λ l. slice_get l 0) (sym c.cut.ensures) ∙ c.get-label.ensures) ok in
    record { few = fits.0; within = fits.1 }

pub returns-then-not-label-clause-done : goal.returns-then-not-label-clause-done
returns-then-not-label-clause-done c memory d s ok =
    let t = c.args.self.now in
    let out : c.get-label.result.again ≡ false = not-true _ c.if-not-label.true in
    branch_follows memory t d c.args.n s c.requires.inner c.get-label.result c.unwind.new.self c.pop.new.self _ (ap (λ l. slice_get l 0) (sym c.cut.ensures) ∙ c.get-label.ensures) c.unwind.ensures
    (λ h. let top : Some c.pop.result ≡ Some c.get-label.result = ap (λ l. slice_get l 0) (sym c.pop.ensures) ∙ c.get-label.ensures in let q : c.pop.result ≡ c.get-label.result = cc in let e : c.cut.new.self ≡ c.get-label.result ∷ c.pop.new.self = c.pop.ensures ∙ ap (λ x. x ∷ c.pop.new.self) q in (sym c.cut.ensures ∙ e, refl))
    (λ h. absurd (both_ways _ out h)) ok

pub returns-else-not-label-clause-done : goal.returns-else-not-label-clause-done
returns-else-not-label-clause-done c memory d s ok =
    let t = c.args.self.now in
    let on : c.get-label.result.again ≡ true = not-false _ c.if-not-label.false in
    branch_follows memory t d c.args.n s c.requires.inner c.get-label.result c.unwind.new.self c.cut.new.self _ (ap (λ l. slice_get l 0) (sym c.cut.ensures) ∙ c.get-label.ensures) c.unwind.ensures
    (λ h. absurd (both_ways _ h on))
    (λ h. (c.cut.ensures, refl)) ok
