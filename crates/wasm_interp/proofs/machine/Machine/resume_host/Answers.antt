-- The reply to a host call is what the definition goes on with.
use Rattle.std.proofs.Common.{sym, subst}
use Rattle.faaslet_meaning.specs.Fine.{ground_of, Waits, count}
use Rattle.faaslet_meaning.proofs.SoundSteps.{finished_ok}
use Rattle.wasm_interp.proofs.Fuel.{finished_within}
use Rattle.wasm_interp.proofs.Standing.{at_host}
use Rattle.wasm_interp.proofs.machine.Machine.resume_host.Goals as goal

pub returns-clause-done : goal.returns-clause-done
returns-clause-done g c code grants given d h s fits =
    let m = c.args.self.now in
    let memory = g.M.Linear.memory m.memory in
    record {
      loaded = s.loaded;
      valid = s.valid;
      imports = s.imports;
      agrees = s.agrees;
      given_is = s.given_is;
      typed = finished_ok (ground_of code) d c.args.answer s.typed.1 (λ o e. subst (λ b. Waits (ground_of code) d (count b)) (sym (fits o e)) s.typed);
      within = finished_within given d c.args.answer s.within;
      stage = c.finish-self.ensures.done memory d (at_host memory m.thread m.stage d h s.stage);
    }
