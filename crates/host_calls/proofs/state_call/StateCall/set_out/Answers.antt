use Rattle.std.proofs.Common.{ap, arith, ◌∙◌, sym, subst}
use Rattle.host_calls.specs.States.{here, IsAct, AsksIt, Shows, goes}
use Rattle.host_calls.specs.Acts.{whole_acts, probe_of}
use Rattle.host_calls.specs.Reads.{key_of}
use Rattle.host_calls.specs.declared.state_call.StateStage.TheVariants as stage
use Rattle.host_calls.proofs.StateSteps.{probes, set_out}
use Rattle.host_calls.proofs.state_call.StateCall.set_out.Goals as goal

pub returns-then-is_sought-clause-shows : goal.returns-then-is_sought-clause-shows
returns-then-is_sought-clause-shows g c j s same i =
    let h = here g.M.Linear.memory c.args.machine.now c.args.known.now in
    let k = c.args.place in
    let a = c.args.act in
    let at = subst (λ gs. IsAct a k gs c.args.known.now h.memory) (sym same) c.requires.act in
    let few = c.requires.few in
    let r = probes j s h k a i (omega (arith, few, c.requires.act.place)) (sym c.is_sought.ensures ∙ c.if-is_sought.true) at in
    subst (λ told. AsksIt j s (goes j s h (whole_acts k a) a) told (stage.Probes k a) h) (ap (λ gs. probe_of (key_of gs k)) same ∙ sym c.probe_ask.ensures) r

pub returns-clause-shows : goal.returns-clause-shows
returns-clause-shows g c j s same i =
    let h = here g.M.Linear.memory c.args.machine.now c.args.known.now in
    let k = c.args.place in
    let a = c.args.act in
    let few = c.requires.few in
    let e = set_out j s h k a i (omega (arith, few, c.requires.act.place)) (sym c.is_sought.ensures ∙ c.if-is_sought.false) in
    subst (λ v. Shows j s v c.act.result c.act.new.self.stage (here g.M.Linear.memory c.act.new.machine c.act.new.known)) (sym e) (c.act.ensures.shows j s same i)
