use Rattle.std.proofs.Common.{◌∙◌, ap, sym, subst}
use Rattle.host_calls.specs.Acts.{whole_acts}
use Rattle.host_calls.specs.States.{here, IsOf, IsAct, Shows, goes, act_gives, GivesSo}
use Rattle.host_calls.proofs.Loops.{stops_none, stops_some}
use Rattle.host_calls.proofs.StateHosts.{put_gives_is}
use Rattle.host_calls.proofs.StateMachines.{collect_told, collect_end, put_ready}
use Rattle.host_calls.proofs.StateSteps.{of_with}
use Rattle.host_calls.proofs.state_call.StateCall.collect_on.Goals as goal

pub returns-in-Some-clause-shows : goal.returns-in-Some-clause-shows
returns-in-Some-clause-shows g c j s same i =
    let shape = g.M.Linear.memory in
    let r = c.fetch-reached in
    let p = c.in-Some.piece in
    let at = stops_some (shape c.args.machine.now.memory) r.result.span r.result.piece p r.ensures.stops c.in-Some.is in
    collect_told shape c.args.machine.now r.new.machine j s c.args.known.now c.args.place c.args.put c.args.span r.result.span p c.args.grants.now c.read_ask.result r.ensures.only r.ensures.same r.ensures.where_.1 r.ensures.within at same c.requires.place c.read_ask.ensures i

pub set_out-requires-clause-act : goal.set_out-requires-clause-act
set_out-requires-clause-act g c =
    let shape = g.M.Linear.memory in
    subst (λ a. IsAct a c.args.place c.args.grants.now c.args.known.now (shape c.fetch-reached.new.machine.memory)) (sym c.act.ensures)
    (put_ready c.args.put c.args.span.len c.args.place c.args.grants.now c.args.known.now (shape c.fetch-reached.new.machine.memory) c.requires.place c.requires.within.few)

pub returns-in-None-clause-shows : goal.returns-in-None-clause-shows
returns-in-None-clause-shows g c j s same i =
    let shape = g.M.Linear.memory in
    let r = c.fetch-reached in
    let known = c.args.known.now in
    let k = c.args.place in
    let end = stops_none (shape c.args.machine.now.memory) r.result.span r.result.piece r.ensures.stops c.in-None.is in
    let own = subst (λ z. IsOf (here shape z known) s) (sym r.ensures.only) (of_with (here shape c.args.machine.now known) s r.new.machine.aside c.args.machine.now.scratch i) in
    let v = collect_end shape c.args.machine.now r.new.machine j s known k c.args.put c.args.span r.result.span r.ensures.only r.ensures.same r.ensures.where_.1 r.ensures.within r.ensures.sound r.ensures.long end i in
    subst (λ y. Shows j s y c.set_out.result c.set_out.new.self.stage (here shape c.set_out.new.machine c.set_out.new.known))
    (sym (v ∙ ap (λ a. goes j s (here shape r.new.machine known) (whole_acts k a) a) (sym c.act.ensures))) (c.set_out.ensures.shows j s same own)

pub returns-in-None-clause-gives : goal.returns-in-None-clause-gives
returns-in-None-clause-gives g c =
    subst (λ b. GivesSo b c.set_out.result c.set_out.new.self.stage) (ap act_gives c.act.ensures ∙ put_gives_is c.args.put c.args.span.len) c.set_out.ensures.gives
