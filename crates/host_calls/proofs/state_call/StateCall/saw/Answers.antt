use Rattle.std.proofs.Common.{◌∷◌, arith, sym, subst}
use Rattle.host_calls.specs.States.{here, IsOf, IsAct, sees}
use Rattle.host_calls.proofs.StateSteps.{act_seen, of_seen, shows_back}
use Rattle.host_calls.proofs.state_call.StateCall.saw.Goals as goal

pub act-requires-clause-act : goal.act-requires-clause-act
act-requires-clause-act g c =
    let m = g.M.Linear.memory c.args.machine.now.memory in
    subst (λ known. IsAct c.args.act c.args.place c.args.grants.now known m) (sym c.saw.ensures) (act_seen c.args.act c.args.place c.args.grants.now c.args.known.now m c.requires.needs c.requires.act)

pub returns-clause-shows : goal.returns-clause-shows
returns-clause-shows g c j s same i =
    let shape = g.M.Linear.memory in
    let m = c.args.machine.now in
    let k = c.args.place in
    let a = c.args.act in
    let few = c.requires.few in
    let own = of_seen (here shape m c.args.known.now) s k (omega (arith, few, c.requires.act.place)) i in
    let t = record s { present = k ∷ s.present } in
    let own2 = subst (λ known. IsOf (here shape m known) t) (sym c.saw.ensures) own in
    shows_back j s (k ∷ s.present) (sees j s (here shape m c.args.known.now) k a) c.act.result c.act.new.self.stage (here shape c.act.new.machine c.act.new.known) (c.act.ensures.shows j t same own2)
