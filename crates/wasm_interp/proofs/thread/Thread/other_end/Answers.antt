-- At an `else` the `if` is left.
use Rattle.std.proofs.Common.{◌≡◌, ◌∙◌, ◌<◌, sym, ap, subst, arith, lit<, Some, length}
use Rattle.std.specs.Prelude.{slice_get}
use Rattle.wasm_interp.specs.declared.thread.Label.{Label as Mark}
use Rattle.wasm_interp.specs.Places.{Closes}
use Rattle.wasm_interp.proofs.Steps.{else_closes}
use Rattle.wasm_interp.proofs.thread.Thread.other_end.Goals as goal

pub get-target-requires : goal.get-target-requires
get-target-requires c =
    let (memory, d, s, ok) = c.requires.ready in
    let e = else_closes memory c.args.self.now d c.requires.at s in
    let some : 0 < length c.args.self.now.labels = omega (arith, ap length e.labels_are) in
    (lit< tt, some)

pub leave-requires-clause-deep : goal.leave-requires-clause-deep
leave-requires-clause-deep c =
    let (memory, d, s, ok) = c.requires.ready in
    (else_closes memory c.args.self.now d c.requires.at s).deep

pub returns-clause-done : goal.returns-clause-done
returns-clause-done c memory d s ok =
    let t = c.args.self.now in
    let e = else_closes memory t d c.requires.at s in
    let top : Some e.mark ≡ Some c.get-target.result = ap (λ l. slice_get l 0) (sym e.labels_are) ∙ c.get-target.ensures in
    let is : e.mark ≡ c.get-target.result = cc in
    c.leave.ensures.done memory d s (subst (λ (k : Mark). Closes t.here.code.now t.here.pc k.target) is e.closes)
