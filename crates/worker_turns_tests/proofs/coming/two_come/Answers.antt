-- One request came by the session's list, and there will be two.
use Rattle.worker_turns_tests.proofs.Steps.{one_came}
use Rattle.worker_turns_tests.proofs.coming.two_come.Goals as goal

pub submit_request-pass-requires-2-clause-to_come : goal.submit_request-pass-requires-2-clause-to_come
submit_request-pass-requires-2-clause-to_come g c =
    one_came _ _ _ _ _ _ _ _ c.requires.begun c.requires.session c.requires.none (rw c.in-Ok.is at c.submit_request-pass.ensures.ok)
