-- By the lemmas that say it.
use Rattle.held_calls.proofs.Turned.{made_request, made_submit, made_look}
use Rattle.held_calls.proofs.changes.what_is_asked_leaves_the_benches.Goals as goal

pub returns-clause-requests : goal.returns-clause-requests
returns-clause-requests c = made_request

pub returns-clause-submits : goal.returns-clause-submits
returns-clause-submits c = made_submit

pub returns-clause-looks : goal.returns-clause-looks
returns-clause-looks c = made_look
