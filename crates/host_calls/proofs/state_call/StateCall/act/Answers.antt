use Rattle.std.proofs.Common.{◌≡◌, Some, length, ap, arith, ◌∙◌, sym, subst}
use Rattle.std.specs.Prelude.{Ok}
use Rattle.faaslet_meaning.specs.Memory.{with_map, key_pages}
use Rattle.host_calls.specs.declared.state_act.StateAct.TheVariants as act
use Rattle.host_calls.specs.declared.state_call.StateStage.TheVariants as stage
use Rattle.host_calls.specs.Acts.{acts_of, ask_of}
use Rattle.host_calls.specs.Reads.{key_of, size_of}
use Rattle.host_calls.specs.States.{here, IsOf, IsAct, AsksIt, EndsIt, goes, act_gives}
use Rattle.host_calls.proofs.StateMachines.{carried_few, act_told, act_mapped}
use Rattle.host_calls.proofs.StateSteps.{no_ask}
use Rattle.host_calls.proofs.state_call.StateCall.act.Goals as goal

pub bring_back-requires : goal.bring_back-requires
bring_back-requires g c = omega (arith, c.carried.ensures, carried_few c.args.act c.args.place c.args.grants.now c.args.known.now (g.M.Linear.memory c.args.machine.now.memory) c.requires.act)

pub returns-in-Some-clause-shows : goal.returns-in-Some-clause-shows
returns-in-Some-clause-shows g c j s same i =
    let shape = g.M.Linear.memory in
    let z = c.sized.new.machine in
    let e = c.sized.ensures.same in
    let k = c.args.place in
    let x = c.args.act in
    let known = c.args.known.now in
    let own = subst (λ y. IsOf (here shape y known) s) (sym e) i in
    let asked : ask_of (key_of j.program.grants k) x ≡ Some c.in-Some.ask = ap (λ gs. ask_of (key_of gs k) x) same ∙ ap (λ key. ask_of key x) (sym c.key_at.ensures) ∙ sym c.ask.ensures ∙ c.in-Some.is in
    let at = subst (λ gs. IsAct x k gs known (shape z.memory)) (sym same) (subst (λ y. IsAct x k c.args.grants.now known (shape y.memory)) (sym e) c.requires.act) in
    let r = act_told shape z c.bring_back.new.self j s known k x c.in-Some.ask c.carried.result c.bring_back.ensures c.carried.ensures (ap (λ y. length y.aside) e ∙ c.sized.ensures.aside) asked own at in
    subst (λ t. AsksIt j s (goes j s (here shape c.args.machine.now known) (acts_of k x) x) c.in-Some.ask t (here shape c.bring_back.new.self known)) (sym c.acts-self.ensures)
    (subst (λ y. AsksIt j s (goes j s (here shape y known) (acts_of k x) x) c.in-Some.ask (stage.Acts k x) (here shape c.bring_back.new.self known)) e r)

pub map_key-requires : goal.map_key-requires
map_key-requires g c =
    let shape = g.M.Linear.memory in
    let k = c.args.place in
    let known = c.args.known.now in
    let grants = c.args.grants.now in
    let none = no_ask c.key_at.result c.args.act (sym c.ask.ensures ∙ c.in-None.is) in
    let at = subst (λ y. IsAct act.Map k grants known (shape y.memory)) (sym c.sized.ensures.same) (subst (λ a. IsAct a k grants known (shape c.args.machine.now.memory)) none c.requires.act) in
    let few = c.requires.few in
    let ready = at.ready in
    record { place = omega (arith, few, at.place); some = ready.2; few = ready.0; room = ready.1; may = ready.3 }

pub returns-in-None-clause-shows : goal.returns-in-None-clause-shows
returns-in-None-clause-shows g c j s same i =
    let shape = g.M.Linear.memory in
    let z = c.sized.new.machine in
    let e = c.sized.ensures.same in
    let k = c.args.place in
    let x = c.args.act in
    let known = c.args.known.now in
    let d = c.map_key in
    let own = subst (λ y. IsOf (here shape y known) s) (sym e) i in
    let none = no_ask c.key_at.result x (sym c.ask.ensures ∙ c.in-None.is) in
    let few = c.requires.few in
    let mapped = d.ensures.mapped ∙ ap (λ gs. with_map (shape z.memory) k (key_pages (size_of gs k))) (sym same) in
    let r = act_mapped shape z d.new.machine j s known d.new.known k d.result x d.ensures.only d.ensures.known mapped d.ensures.address none (omega (arith, few, c.requires.act.place)) own in
    subst (λ n. EndsIt s (goes j s (here shape c.args.machine.now known) (acts_of k x) x) (Ok (Some n)) (here shape d.new.machine d.new.known)) (sym c.from.ensures)
    (subst (λ y. EndsIt s (goes j s (here shape y known) (acts_of k x) x) (Ok (Some d.result)) (here shape d.new.machine d.new.known)) e r)

pub returns-in-None-clause-gives : goal.returns-in-None-clause-gives
returns-in-None-clause-gives g c = ap act_gives (sym (no_ask c.key_at.result c.args.act (sym c.ask.ensures ∙ c.in-None.is)))
