-- `local.set` writes the local of its number.
use Rattle.std.proofs.Common.{◌∙◌, ap, sym, subst}
use Rattle.faaslet_meaning.specs.Step.{plain_step}
use Rattle.faaslet_meaning.specs.Limits.{with_values}
use Rattle.faaslet_meaning.specs.declared.instr.Instr.TheVariants.{LocalSet}
use Rattle.std.proofs.Common.{None}
use Rattle.wasm_interp.specs.Stands.{Follows}
use Rattle.wasm_interp.proofs.LocalSteps.{set_taken}
use Rattle.wasm_interp.proofs.thread.Thread.local_set.Goals as goal

pub set_local-requires : goal.set_local-requires
set_local-requires c =
    let p = c.requires.0 in
    let (memory, d, s, ok) = c.requires.1 in
    let k = set_taken p memory c.args.self.now d c.args.k c.pop-v.result c.pop-v.new.self c.pop-v.ensures s ok in
    let e = ap (plain_step p d (LocalSet c.args.k)) k.values_are in
    (memory, with_values d k.rest, k.stands, λ h. ok (e ∙ h))

pub returns-clause-done : goal.returns-clause-done
returns-clause-done c p memory d s ok =
    let k = set_taken p memory c.args.self.now d c.args.k c.pop-v.result c.pop-v.new.self c.pop-v.ensures s ok in
    let e = ap (plain_step p d (LocalSet c.args.k)) k.values_are in
    subst (λ n. Follows memory c.set_local.new.self n None) (sym e) (c.set_local.ensures.done memory (with_values d k.rest) k.stands (λ h. ok (e ∙ h)))
