-- `br_table` takes the label of its index, or the last.
use Rattle.std.proofs.Common.{◌∙◌, sym, ap, subst, refl}
use Rattle.std.specs.Prelude.{slice_get, unwrap_or}
use Rattle.std.specs.Int.{w32}
use Rattle.faaslet_meaning.specs.declared.instr.Instr.TheVariants.{BrTable}
use Rattle.faaslet_meaning.specs.Configuration.{Next}
use Rattle.faaslet_meaning.specs.ControlRules.{br}
use Rattle.faaslet_meaning.specs.Integers.{low}
use Rattle.faaslet_meaning.specs.Limits.{with_values}
use Rattle.faaslet_meaning.specs.Step.{plain_step}
use Rattle.wasm_interp.specs.Stands.{Follows}
use Rattle.wasm_interp.proofs.Values.{taken}
use Rattle.wasm_interp.proofs.Choices.{br_table_needs}
use Rattle.wasm_interp.proofs.thread.Thread.br_table.Goals as goal

pub br-requires : goal.br-requires
br-requires c =
    let p = c.requires.0 in
    let (memory, d, s, ok) = c.requires.1 in
    let ls = c.args.targets.now in
    let k = taken memory c.args.self.now d c.pop-x.result c.pop-x.new.self d.frame.values c.pop-x.ensures s refl (br_table_needs p d ls c.args.last d.frame.values ok) in
    let to = c.target.ensures ∙ ap (λ xs. unwrap_or (slice_get xs (low w32 c.pop-x.result)) c.args.last) c.as_slice.ensures in
    let e = ap (plain_step p d (BrTable ls c.args.last)) k.values_are ∙ ap (br (with_values d k.rest)) (sym to) in
    (memory, with_values d k.rest, k.stands, λ h. ok (e ∙ h))

pub returns-clause-done : goal.returns-clause-done
returns-clause-done c p memory d s ok =
    let ls = c.args.targets.now in
    let k = taken memory c.args.self.now d c.pop-x.result c.pop-x.new.self d.frame.values c.pop-x.ensures s refl (br_table_needs p d ls c.args.last d.frame.values ok) in
    let to = c.target.ensures ∙ ap (λ xs. unwrap_or (slice_get xs (low w32 c.pop-x.result)) c.args.last) c.as_slice.ensures in
    let e = ap (plain_step p d (BrTable ls c.args.last)) k.values_are ∙ ap (br (with_values d k.rest)) (sym to) in
    subst (λ (x : Next). Follows memory c.br.new.self x c.br.result) (sym e) (c.br.ensures.done memory (with_values d k.rest) k.stands (λ h. ok (e ∙ h)))
