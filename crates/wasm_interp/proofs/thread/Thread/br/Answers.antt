-- `br` branches to the label of its number.
use Rattle.std.proofs.Common.{◌∙◌, sym, subst}
use Rattle.faaslet_meaning.specs.Configuration.{Next}
use Rattle.wasm_interp.specs.Stands.{Follows}
use Rattle.wasm_interp.proofs.Choices.{out_is}
use Rattle.wasm_interp.proofs.thread.Thread.br.Goals as goal

pub leave_frame-requires : goal.leave_frame-requires
leave_frame-requires c =
    let (memory, d, s, ok) = c.requires in
    let e = out_is memory c.args.self.now d c.args.n s c.if-n-self.false ok in
    (memory, d, s, λ h. ok (e ∙ h))

pub returns-else-n-self-clause-done : goal.returns-else-n-self-clause-done
returns-else-n-self-clause-done c memory d s ok =
    let e = out_is memory c.args.self.now d c.args.n s c.if-n-self.false ok in
    subst (λ (x : Next). Follows memory c.leave_frame.new.self x c.leave_frame.result) (sym e) (c.leave_frame.ensures.done memory d s (λ h. ok (e ∙ h)))
