use Rattle.host_calls.proofs.call_call.CallCall.step.Goals as goal

pub after-requires-clause-at : goal.after-requires-clause-at
after-requires-clause-at g c = (c.requires.after c.in-Some.reply c.in-Some.is).0
