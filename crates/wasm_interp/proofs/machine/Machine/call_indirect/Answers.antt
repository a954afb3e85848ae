-- A call through the table, of the whole machine.
use Rattle.std.proofs.Common.{◌≡◌, ◌∙◌, ap, sym, subst}
use Rattle.std.specs.Prelude.{option_map}
use Rattle.std.proofs.lemmas.Option.{same_Some}
use Rattle.faaslet_meaning.specs.declared.module.Module.{Module}
use Rattle.faaslet_meaning.specs.declared.instr.Instr.TheVariants.{CallIndirect}
use Rattle.wasm_interp.specs.Goes.{instruction}
use Rattle.faaslet_meaning.specs.Configuration.{Program}
use Rattle.faaslet_meaning.specs.Program.{program_of}
use Rattle.wasm_interp.specs.StandsFor.{StageStands}
use Rattle.wasm_interp.proofs.machine.Machine.call_indirect.Goals as goal

pub returns-clause-done : goal.returns-clause-done
returns-clause-done g c p d l s ok =
    let memory = g.M.Linear.memory c.args.self.now.memory in
    let code : c.in-Some.code.now ≡ l.code = same_Some _ _ (sym (ap (option_map (λ r. r.now)) c.in-Some.is) ∙ l.is_loaded) in
    let same : program_of c.in-Some.code.now l.grants ≡ p = ap (λ (m : Module). program_of m l.grants) code ∙ sym l.program_is in
    subst (λ (x : Program). StageStands memory c.invoke_indirect-self.new.self c.invoke_indirect-self.result (instruction (CallIndirect c.args.t) x d)) same
    (c.invoke_indirect-self.ensures.done l.grants memory d s (λ h. ok (ap (λ (x : Program). instruction (CallIndirect c.args.t) x d) (sym same) ∙ h)))
