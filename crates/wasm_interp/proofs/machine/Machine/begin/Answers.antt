-- A machine that has begun stands for the configuration about to run the entry.
use Rattle.std.proofs.Common.{[], refl, sym, subst, arith}
use Rattle.faaslet_meaning.specs.Configuration.{Configuration, defined}
use Rattle.faaslet_meaning.specs.ControlRules.{entered}
use Rattle.faaslet_meaning.specs.Fine.{ground_of}
use Rattle.faaslet_meaning.specs.Program.{program_of}
use Rattle.faaslet_meaning.specs.Valid.{Valid}
use Rattle.faaslet_meaning.proofs.SoundCalls.{entry_ok}
use Rattle.faaslet_meaning.proofs.SoundModules.{program_ok}
use Rattle.wasm_interp.specs.Callees.{CalleeIs, OwnIs}
use Rattle.wasm_interp.specs.Stands.{Stands}
use Rattle.wasm_interp.proofs.OwnFunctions.{function_typed}
use Rattle.wasm_interp.proofs.machine.Machine.begin.Goals as goal

pub begin-requires-clause-few : goal.begin-requires-clause-few
begin-requires-clause-few g c =
    let (t, locals, body, e) = c.requires.entry in
    let is : OwnIs t locals body c.in-Own.own = subst (CalleeIs (defined t locals body)) c.in-Own.is (c.find_function.ensures (defined t locals body) e.found) in
    omega (arith, is.locals_are, e.few)

pub unreachable-requires : goal.unreachable-requires
unreachable-requires g c =
    let (t, locals, body, e) = c.requires.entry in
    subst (CalleeIs (defined t locals body)) c.in-Host.is (c.find_function.ensures (defined t locals body) e.found)

pub returns-clause-begun : goal.returns-clause-begun
returns-clause-begun g c grants t locals body agrees e =
    let m = c.args.self.now in
    let code = c.args.code.now in
    let memory = g.M.Linear.memory m.memory in
    let valid = subst Valid c.module-valid.ensures.same c.module-valid.ensures.valid in
    let is : OwnIs t locals body c.in-Own.own = subst (CalleeIs (defined t locals body)) c.in-Own.is (c.find_function.ensures (defined t locals body) e.found) in
    let own : OwnIs t c.in-Own.own.locals body c.in-Own.own = subst (λ k. OwnIs t k body c.in-Own.own) is.locals_are is in
    let first : Configuration = record { frame = entered t locals body []; callers = []; globals = c.args.globals.now; table = c.args.table.now; memory = memory; fuel = c.args.fuel } in
    record {
      loaded = refl;
      valid = valid;
      imports = c.requires.imports;
      agrees = agrees;
      given_is = refl;
      typed = entry_ok (ground_of code) (program_of code grants) (program_ok code valid c.requires.imports grants) c.args.entry t locals body first
          (function_typed code valid c.requires.imports c.args.entry (defined t locals body) e.found) e.found e.params c.requires.globals c.requires.indices;
      within = omega arith;
      stage = subst (λ k. Stands memory c.begin.new.self (record first { frame = entered t k body [] })) (sym is.locals_are) (c.begin.ensures.stands memory t body e.params own);
    }
