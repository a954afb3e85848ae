-- Each turn is one step, so the run comes to the first stop.
use Rattle.std.proofs.Common.{◌∙◌, sym, ap}
use Rattle.faaslet_meaning.specs.Program.{program_of}
use Rattle.faaslet_meaning.specs.Step.{step}
use Rattle.wasm_interp.specs.Goes.{event_of}
use Rattle.wasm_interp.specs.declared.machine.Machine.{Machine}
use Rattle.wasm_interp.proofs.Runs.{able, at, stepped, leaves_less, runs_so, comes_more, event_is, still_stands, ends_run}
use Rattle.wasm_interp.proofs.Settling.{same_then}
use Rattle.wasm_interp.proofs.machine.Machine.run.Goals as goal

pub returns-clause-ran : goal.returns-clause-ran
returns-clause-ran g c code grants given n s =
    let m = c.turns.self in
    let shape = g.M.Linear.memory in
    let (next, comes, stands) = c.turns.invariant.came code grants given n s in
    let told = ap (λ (x : Machine g.row.M.Denot). event_of x.stage) (sym c.show.ensures.same) ∙ c.told.ensures in
    record {
      next = next;
      comes = comes;
      stands = still_stands shape m c.show.new.self code grants given next c.show.ensures.same stands;
      event = event_is (shape m.memory) m.thread m.stage next c.told.result c.show.new.self.scratch told stands.stage (λ q e vs b p. c.show.ensures.shown (shape m.memory) q vs b e p);
    }

pub returns-clause-end : goal.returns-clause-end
returns-clause-end g c outcome e =
    let (code, grants, given, n, s) = c.requires in
    ends_run g.M.Linear.memory c.show.new.self code grants given n c.told.result outcome e (returns-clause-ran g c code grants given n s)

pub step-requires : goal.step-requires
step-requires g c =
    let m = c.turns.self in
    let (code, grants, given, n, s) = c.turns.invariant.stands in
    able g.M.Linear.memory m code grants given n (runs_so m.stage (sym c.runs.ensures ∙ c.turns-test.true)) s

pub turns-smaller : goal.turns-smaller
turns-smaller g c =
    let m = c.turns.self in
    let (code, grants, given, n, s) = c.turns.invariant.stands in
    leaves_less g.M.Linear.memory m code grants given n (runs_so m.stage (sym c.runs.ensures ∙ c.turns-test.true)) s c.step.new.self c.step.ensures.done

pub turns-preserved : goal.turns-preserved
turns-preserved g c =
    let m = c.turns.self in
    let shape = g.M.Linear.memory in
    let r = runs_so m.stage (sym c.runs.ensures ∙ c.turns-test.true) in
    let (code, grants, given, n, s) = c.turns.invariant.stands in
    record {
      stands = (code, grants, given, step (program_of code grants) (at shape m code grants given n r s).config, stepped shape m code grants given n r s c.step.new.self c.step.ensures.done c.step.ensures.same);
      came = λ code grants given n s.
          let (next, comes, stands) = c.turns.invariant.came code grants given n s in
          let a = at shape m code grants given next r stands in
          (step (program_of code grants) a.config, comes_more (program_of code grants) n next a.config comes a.is, stepped shape m code grants given next r stands c.step.new.self c.step.ensures.done c.step.ensures.same);
      same = same_then _ m c.step.new.self c.turns.invariant.same c.step.ensures.same;
    }
