use Rattle.host_calls.proofs.CallSteps.{wrote_end}
use Rattle.host_calls.proofs.Loops.{stops_none}
use Rattle.host_calls.proofs.call_call.CallCall.write_on.Goals as goal

pub returns-in-None-clause-shows : goal.returns-in-None-clause-shows
returns-in-None-clause-shows g c j s children same =
    let r = c.fetch-reached in
    let end = stops_none (g.M.Linear.memory c.args.machine.now.memory) r.result.span r.result.piece r.ensures.stops c.in-None.is in
    wrote_end g.M.Linear.memory c.args.machine.now r.new.machine c.bring_back.new.self j s children c.args.span r.result.span r.ensures.only c.bring_back.ensures r.ensures.where_.1 r.ensures.same r.ensures.within r.ensures.sound r.ensures.long end
