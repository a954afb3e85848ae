use Rattle.std.proofs.Common.{sym, ap, ◌∙◌, subst}
use Rattle.std.specs.Prelude.{codes}
use Rattle.faaslet_meaning.specs.declared.module.Module.{Module}
use Rattle.faaslet_meaning.specs.Program.{export_of}
use Rattle.faaslet_meaning.specs.Valid.{Valid}
use Rattle.proto_faaslet.proofs.Enters.{start_enters, init_enters}
use Rattle.proto_faaslet.proofs.entries.initialize.Goals as goal

pub pass-requires-clause-entry : goal.pass-requires-clause-entry
pass-requires-clause-entry g c =
    let m = c.args.module.now in
    let v : Valid m = subst Valid c.module.ensures.same c.module.ensures.valid in
    λ k e. start_enters m v c.requires.runnable.imports c.requires.limits m.start v.rules.start_ok k (ap (λ (x : Module). x.start) (sym c.module.ensures.same) ∙ e)

pub pass-requires-2-clause-entry : goal.pass-requires-2-clause-entry
pass-requires-2-clause-entry g c =
    let m = c.args.module.now in
    let v : Valid m = subst Valid c.module.ensures.same c.module.ensures.valid in
    λ k e. init_enters m v c.requires.runnable.imports c.requires.limits c.requires.runnable.init k (ap (λ x. export_of x (codes "init")) (sym c.module-2.ensures.same) ∙ sym c.export_of-init.ensures ∙ e)
