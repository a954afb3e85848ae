-- One instruction, whichever part of the machine runs it.
use Rattle.std.proofs.Common.{◌∙◌, subst, sym, ap, refl}
use Rattle.faaslet_meaning.specs.Configuration.{Next}
use Rattle.faaslet_meaning.specs.Step.{begin, with_rest}
use Rattle.wasm_interp.specs.Goes.{beginning}
use Rattle.wasm_interp.specs.StandsFor.{StageStands}
use Rattle.wasm_interp.proofs.Opening.{passes}
use Rattle.wasm_interp.proofs.Steps.{plain_is}
use Rattle.wasm_interp.proofs.Settling.{settled_stands, still_loaded}
use Rattle.wasm_interp.proofs.machine.Machine.perform.Goals as goal

pub plain-requires : goal.plain-requires
plain-requires g c =
    let m = c.args.self.now in
    let a = c.requires.able in
    let plain = plain_is c.args.instr.now c.requires.begun c.in_default.not-Block c.in_default.not-Loop c.in_default.not-If in
    let k = passes (g.M.Linear.memory m.memory) m.thread a.config c.args.instr.now plain c.requires.at a.stands in
    record {
      able = record {
        runs = a.runs;
        program = a.program;
        loaded = still_loaded g.M.Linear.backing m _ a.program (record { code = refl; given = refl; writable = refl; rooms = record { globals = refl; table = refl }; backing = refl; aside = refl }) a.loaded;
        config = with_rest a.config k.rest;
        stands = k.stands;
        not_stuck = λ h. a.not_stuck (ap (begin a.program a.config) k.is ∙ h);
      };
      plain = plain;
    }

pub returns-in_default : goal.returns-in_default
returns-in_default g c =
    let m = c.args.self.now in
    let plain = plain_is c.args.instr.now c.requires.begun c.in_default.not-Block c.in_default.not-Loop c.in_default.not-If in
    record {
      done = λ p d l s ok.
          let k = passes (g.M.Linear.memory m.memory) m.thread d c.args.instr.now plain c.requires.at s in
          let e = ap (begin p d) k.is in
          subst (λ (n : Next). StageStands (g.M.Linear.memory c.plain.new.self.memory) c.plain.new.self.thread c.plain.new.self.stage n) (sym e)
          (c.plain.ensures.done p (with_rest d k.rest) (still_loaded g.M.Linear.backing m _ p (record { code = refl; given = refl; writable = refl; rooms = record { globals = refl; table = refl }; backing = refl; aside = refl }) l) k.stands (λ h. ok (e ∙ h)));
      same = record { code = c.plain.ensures.same.code; given = c.plain.ensures.same.given; writable = c.plain.ensures.same.writable; rooms = record { globals = c.plain.ensures.same.rooms.globals; table = c.plain.ensures.same.rooms.table }; backing = c.plain.ensures.same.backing; aside = c.plain.ensures.same.aside };
    }

pub returns-in-Block-clause-done : goal.returns-in-Block-clause-done
returns-in-Block-clause-done g c p d l s ok =
    let m = c.args.self.now in
    settled_stands g.M.Linear.memory m c.settle.new.self c.open-result.new.self (beginning p d) c.open-result.result c.settle.ensures c.requires.able.runs (c.open-result.ensures.done p (g.M.Linear.memory m.memory) d s ok)
