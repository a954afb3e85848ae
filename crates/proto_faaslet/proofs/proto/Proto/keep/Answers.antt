use Rattle.std.proofs.Common.{◌≡◌, Some, refl, sym, ap, ◌∙◌, subst}
use Rattle.std.specs.Prelude.{codes}
use Rattle.faaslet_meaning.specs.Program.{export_of}
use Rattle.faaslet_meaning.specs.Valid.{Valid}
use Rattle.proto_faaslet.specs.Entries.{IsKept}
use Rattle.proto_faaslet.proofs.Begun.{store}
use Rattle.proto_faaslet.proofs.Built.{image_is, image_within}
use Rattle.proto_faaslet.proofs.Enters.{main_enters}
use Rattle.proto_faaslet.proofs.proto.Proto.keep.Goals as goal

pub returns : goal.returns
returns c =
    let m = c.args.module.now in
    let memory = c.args.memory.now.memory in
    let image = c.in_ok-image.image in
    let v : Valid m = subst Valid c.module.ensures.same c.module.ensures.valid in
    let main : export_of m (codes "main") ≡ Some c.in-Some.main = ap (λ x. export_of x (codes "main")) (sym c.module.ensures.same) ∙ sym c.in-Some.ensures in
    record {
      code = refl;
      quota_is = refl;
      store_is = ap (store c.args.kept.globals c.args.kept.table) (image_is memory image c.args.quota c.requires.kept.one c.in_ok-image.ensures.pages c.in_ok-image.ensures.bytes c.requires.kept.quota_is);
      main_is = main;
      enters = main_enters m v c.requires.runnable.imports c.requires.limits c.requires.runnable.main c.in-Some.main main;
    }

pub invariant_of-result : goal.invariant_of-result
invariant_of-result c =
    let m = c.args.module.now in
    let memory = c.args.memory.now.memory in
    let image = c.in_ok-image.image in
    let v : Valid m = subst Valid c.module.ensures.same c.module.ensures.valid in
    let main : export_of m (codes "main") ≡ _ = ap (λ x. export_of x (codes "main")) (sym c.module.ensures.same) ∙ sym c.in-Some.ensures in
    record {
      imports = c.requires.runnable.imports;
      kept = subst (λ x. IsKept m c.args.quota (store c.args.kept.globals c.args.kept.table x)) (sym (image_is memory image c.args.quota c.requires.kept.one c.in_ok-image.ensures.pages c.in_ok-image.ensures.bytes c.requires.kept.quota_is)) c.requires.kept;
      within = image_within memory image c.args.quota c.requires.kept.one c.in_ok-image.ensures.pages c.in_ok-image.ensures.bytes c.requires.kept.quota_is c.in_ok-image.ensures.sound;
      main = main_enters m v c.requires.runnable.imports c.requires.limits c.requires.runnable.main c.in-Some.main main;
    }
