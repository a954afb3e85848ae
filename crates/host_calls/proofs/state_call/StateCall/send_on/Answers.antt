use Rattle.std.proofs.Common.{◌≡◌, take, drop, subst}
use Rattle.std.specs.Prelude.{IfSome}
use Rattle.host_calls.proofs.StateMachines.{send_asks, send_done}
use Rattle.host_calls.proofs.Loops.{stops_none, stops_some}
use Rattle.host_calls.proofs.state_call.StateCall.send_on.Goals as goal

pub returns-in-Some-clause-shows : goal.returns-in-Some-clause-shows
returns-in-Some-clause-shows g c j s known same i =
    let r = c.send-reached in
    let p = c.in-Some.piece in
    let at = stops_some (g.M.Linear.memory r.new.machine.memory) r.result.span r.result.piece p r.ensures.stops c.in-Some.is in
    let bytes = subst (λ o. IfSome o (λ q. take q.len r.new.machine.scratch ≡ take q.len (drop r.result.span.done c.args.machine.now.aside))) c.in-Some.is r.ensures.bytes in
    send_asks g.M.Linear.memory c.args.machine.now r.new.machine j s known c.args.span r.result.span p c.args.grants.now c.write_ask.result r.ensures.only r.ensures.same r.ensures.where_.1 r.ensures.within at bytes r.ensures.long same c.write_ask.ensures i

pub returns-in-None-clause-shows : goal.returns-in-None-clause-shows
returns-in-None-clause-shows g c j s known same i =
    let r = c.send-reached in
    let end = stops_none (g.M.Linear.memory r.new.machine.memory) r.result.span r.result.piece r.ensures.stops c.in-None.is in
    send_done g.M.Linear.memory c.args.machine.now r.new.machine j s known c.args.span r.result.span r.ensures.only r.ensures.same end i
