-- One turn pays for its instruction and does it, or ends a block.
use Rattle.std.proofs.Common.{◌-◌, ◌∙◌, ◌<◌, subst, sym, ap, refl, arith}
use Rattle.faaslet_meaning.specs.declared.instr.Instr.{Instr}
use Rattle.faaslet_meaning.specs.Configuration.{Next, Configuration}
use Rattle.faaslet_meaning.specs.Step.{begin, step, step_at}
use Rattle.faaslet_meaning.specs.declared.outcome.Outcome.TheVariants.{FuelOut}
use Rattle.wasm_interp.specs.declared.machine.Stage.TheVariants as stage
use Rattle.wasm_interp.specs.Places.{InstrAt}
use Rattle.wasm_interp.specs.Stands.{Follows}
use Rattle.wasm_interp.specs.StandsFor.{StageStands}
use Rattle.wasm_interp.proofs.Opening.{end_closes}
use Rattle.wasm_interp.proofs.Steps.{else_closes, pays, pays_none, pays_one, paid_stands, begun_is}
use Rattle.wasm_interp.proofs.Settling.{settled_stands, still_loaded}
use Rattle.wasm_interp.proofs.machine.Machine.step.Goals as goal

pub end-result-requires-clause-ready : goal.end-result-requires-clause-ready
end-result-requires-clause-ready g c =
    let m = c.args.self.now in
    let a = c.requires in
    let memory = g.M.Linear.memory m.memory in
    let at = subst (λ (i : Instr). InstrAt m.thread.here i) c.in-End.is c.instr-instr.ensures.at in
    let e = ap (step_at a.program a.config) (end_closes memory m.thread a.config at a.stands).0 in
    (memory, a.config, a.stands, λ h. a.not_stuck (e ∙ h))

pub other_end-result-requires-clause-ready : goal.other_end-result-requires-clause-ready
other_end-result-requires-clause-ready g c =
    let m = c.args.self.now in
    let a = c.requires in
    let memory = g.M.Linear.memory m.memory in
    let at = subst (λ (i : Instr). InstrAt m.thread.here i) c.in-Else.is c.instr-instr.ensures.at in
    let e = ap (step_at a.program a.config) (else_closes memory m.thread a.config at a.stands).is in
    (memory, a.config, a.stands, λ h. a.not_stuck (e ∙ h))

pub perform-requires : goal.perform-requires
perform-requires g c =
    let m = c.args.self.now in
    let a = c.requires in
    let memory = g.M.Linear.memory m.memory in
    let i = c.instr-instr.result.now in
    let begun = begun_is i c.in_default.not-End c.in_default.not-Else in
    let some : 0 < a.config.fuel = omega (arith, a.stands.kept.fuel_is, c.if-self-eq0.false) in
    let e = pays a.program memory m.thread a.config i begun c.instr-instr.ensures.at a.stands ∙ pays_one a.config a.config.fuel (λ (d : Configuration). begin a.program d a.config.frame.rest) some in
    record {
      able = record {
        runs = a.runs;
        program = a.program;
        loaded = still_loaded g.M.Linear.backing m _ a.program (record { code = refl; given = refl; writable = refl; rooms = record { globals = refl; table = refl }; backing = refl; aside = refl }) a.loaded;
        config = record a.config { fuel = a.config.fuel - 1 };
        stands = paid_stands memory m.thread a.config a.stands;
        not_stuck = λ h. a.not_stuck (e ∙ h);
      };
      at = c.instr-instr.ensures.at;
      near = c.instr-instr.ensures.near;
      begun = begun;
    }

pub returns-in-End-clause-done : goal.returns-in-End-clause-done
returns-in-End-clause-done g c p d l s ok =
    let m = c.args.self.now in
    let memory = g.M.Linear.memory m.memory in
    let at = subst (λ (i : Instr). InstrAt m.thread.here i) c.in-End.is c.instr-instr.ensures.at in
    let e = ap (step_at p d) (end_closes memory m.thread d at s).0 in
    settled_stands g.M.Linear.memory m c.settle.new.self c.end-result.new.self (step p d) c.end-result.result c.settle.ensures c.requires.runs
    (subst (λ (n : Next). Follows memory c.end-result.new.self n c.end-result.result) (sym e) (c.end-result.ensures.done memory d s (λ h. ok (e ∙ h))))

pub returns-in-Else-clause-done : goal.returns-in-Else-clause-done
returns-in-Else-clause-done g c p d l s ok =
    let m = c.args.self.now in
    let memory = g.M.Linear.memory m.memory in
    let at = subst (λ (i : Instr). InstrAt m.thread.here i) c.in-Else.is c.instr-instr.ensures.at in
    let e = ap (step_at p d) (else_closes memory m.thread d at s).is in
    settled_stands g.M.Linear.memory m c.settle-in-Else.new.self c.other_end-result.new.self (step p d) c.other_end-result.result c.settle-in-Else.ensures c.requires.runs
    (subst (λ (n : Next). Follows memory c.other_end-result.new.self n c.other_end-result.result) (sym e) (c.other_end-result.ensures.done memory d s (λ h. ok (e ∙ h))))

pub returns-then-self-eq0 : goal.returns-then-self-eq0
returns-then-self-eq0 g c =
    let m = c.args.self.now in
    let memory = g.M.Linear.memory m.memory in
    let i = c.instr-instr.result.now in
    let begun = begun_is i c.in_default.not-End c.in_default.not-Else in
    record {
      done = λ p d l s ok.
          let e = pays p memory m.thread d i begun c.instr-instr.ensures.at s ∙ pays_none d d.fuel _ (sym s.kept.fuel_is ∙ c.if-self-eq0.true) in
          subst (λ (n : Next). StageStands memory m.thread (stage.Over FuelOut) n) (sym e) (refl, s.kept);
      same = record { code = refl; given = refl; writable = refl; rooms = record { globals = refl; table = refl }; backing = refl; aside = refl };
    }

pub returns-else-self-eq0 : goal.returns-else-self-eq0
returns-else-self-eq0 g c =
    let m = c.args.self.now in
    let memory = g.M.Linear.memory m.memory in
    let i = c.instr-instr.result.now in
    let begun = begun_is i c.in_default.not-End c.in_default.not-Else in
    record {
      done = λ p d l s ok.
          let some : 0 < d.fuel = omega (arith, s.kept.fuel_is, c.if-self-eq0.false) in
          let e = pays p memory m.thread d i begun c.instr-instr.ensures.at s ∙ pays_one d d.fuel (λ (b : Configuration). begin p b d.frame.rest) some in
          subst (λ (n : Next). StageStands (g.M.Linear.memory c.perform.new.self.memory) c.perform.new.self.thread c.perform.new.self.stage n) (sym e)
          (c.perform.ensures.done p (record d { fuel = d.fuel - 1 }) (still_loaded g.M.Linear.backing m _ p (record { code = refl; given = refl; writable = refl; rooms = record { globals = refl; table = refl }; backing = refl; aside = refl }) l) (paid_stands memory m.thread d s) (λ h. ok (e ∙ h)));
      same = record { code = c.perform.ensures.same.code; given = c.perform.ensures.same.given; writable = c.perform.ensures.same.writable; rooms = record { globals = c.perform.ensures.same.rooms.globals; table = c.perform.ensures.same.rooms.table }; backing = c.perform.ensures.same.backing; aside = c.perform.ensures.same.aside };
    }
