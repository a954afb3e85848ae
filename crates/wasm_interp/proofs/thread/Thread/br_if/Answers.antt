-- `br_if` branches where its operand is not zero.
use Rattle.std.proofs.Common.{◌∙◌, sym, ap, subst, refl}
use Rattle.faaslet_meaning.specs.declared.instr.Instr.TheVariants.{BrIf}
use Rattle.faaslet_meaning.specs.Configuration.{Next, goes}
use Rattle.faaslet_meaning.specs.ControlRules.{br}
use Rattle.faaslet_meaning.specs.Limits.{with_values}
use Rattle.faaslet_meaning.specs.Step.{plain_step}
use Rattle.wasm_interp.specs.Stands.{Follows}
use Rattle.wasm_interp.proofs.Values.{taken}
use Rattle.wasm_interp.proofs.Choices.{br_if_needs, chosen_first}
use Rattle.wasm_interp.proofs.thread.Thread.br_if.Goals as goal

pub br-requires : goal.br-requires
br-requires c =
    let p = c.requires.0 in
    let (memory, d, s, ok) = c.requires.1 in
    let k = taken memory c.args.self.now d c.pop.result c.pop.new.self d.frame.values c.pop.ensures s refl (br_if_needs p d c.args.n d.frame.values ok) in
    let d' = with_values d k.rest in
    let e = ap (plain_step p d (BrIf c.args.n)) k.values_are ∙ chosen_first c.pop.result (br d' c.args.n) (goes d') c.if-pop-eq0.false in
    (memory, d', k.stands, λ h. ok (e ∙ h))

pub returns-else-pop-eq0-clause-done : goal.returns-else-pop-eq0-clause-done
returns-else-pop-eq0-clause-done c p memory d s ok =
    let k = taken memory c.args.self.now d c.pop.result c.pop.new.self d.frame.values c.pop.ensures s refl (br_if_needs p d c.args.n d.frame.values ok) in
    let d' = with_values d k.rest in
    let e = ap (plain_step p d (BrIf c.args.n)) k.values_are ∙ chosen_first c.pop.result (br d' c.args.n) (goes d') c.if-pop-eq0.false in
    subst (λ (x : Next). Follows memory c.br.new.self x c.br.result) (sym e) (c.br.ensures.done memory d' k.stands (λ h. ok (e ∙ h)))
