-- A call through the table finds its element, or traps as the definition says.
use Rattle.std.proofs.Common.{◌∙◌, ap, sym, subst, refl, Some}
use Rattle.faaslet_meaning.specs.declared.instr.Instr.TheVariants.{CallIndirect}
use Rattle.faaslet_meaning.specs.Configuration.{Next}
use Rattle.faaslet_meaning.specs.Limits.{with_values}
use Rattle.faaslet_meaning.specs.Program.{program_of}
use Rattle.faaslet_meaning.specs.Step.{plain_step}
use Rattle.wasm_interp.specs.StandsFor.{StageStands}
use Rattle.wasm_interp.proofs.Values.{taken}
use Rattle.wasm_interp.proofs.Calling.{some_index, indirect_of, element_is}
use Rattle.wasm_interp.proofs.thread.Thread.invoke_indirect.Goals as goal

pub invoke_typed-requires-clause-ready : goal.invoke_typed-requires-clause-ready
invoke_typed-requires-clause-ready c =
    let (grants, (memory, d, s, ok)) = c.requires.ready in
    let p = program_of c.args.code.now grants in
    let t = c.args.t in
    let k = taken memory c.args.self.now d c.pop-x.result c.pop-x.new.self d.frame.values c.pop-x.ensures s refl (some_index p d t d.frame.values ok) in
    let step = ap (plain_step p d (CallIndirect t)) k.values_are in
    let i = indirect_of p (with_values d k.rest) t c.pop-x.result (λ h. ok (step ∙ h)) in
    let found = element_is memory (record c.args.self.now { values = c.pop-x.new.self }) p (with_values d k.rest) i.type c.pop-x.result (Some c.in-Some.f) (c.get.ensures ∙ ap (λ o. Some o) c.in-Some.is) k.stands in
    (grants, i.type, i.at, (memory, with_values d k.rest, k.stands, λ h. ok (step ∙ i.is ∙ found ∙ h)))

pub returns-in-Some-clause-done : goal.returns-in-Some-clause-done
returns-in-Some-clause-done c grants memory d s ok =
    let p = program_of c.args.code.now grants in
    let t = c.args.t in
    let k = taken memory c.args.self.now d c.pop-x.result c.pop-x.new.self d.frame.values c.pop-x.ensures s refl (some_index p d t d.frame.values ok) in
    let step = ap (plain_step p d (CallIndirect t)) k.values_are in
    let i = indirect_of p (with_values d k.rest) t c.pop-x.result (λ h. ok (step ∙ h)) in
    let found = element_is memory (record c.args.self.now { values = c.pop-x.new.self }) p (with_values d k.rest) i.type c.pop-x.result (Some c.in-Some.f) (c.get.ensures ∙ ap (λ o. Some o) c.in-Some.is) k.stands in
    let way = step ∙ i.is ∙ found in
    subst (λ (n : Next). StageStands memory c.invoke_typed.new.self c.invoke_typed.result n) (sym way) (c.invoke_typed.ensures.done grants memory (with_values d k.rest) i.type k.stands i.at (λ h. ok (way ∙ h)))
