-- The entry that the turn makes.
use Rattle.faaslet_meaning.specs.Spelling.{spelled_on_table}
use Rattle.faaslet_meaning.specs.Table as calls
use Rattle.worker_turns.proofs.requests.submit_request.Given as goal

abbrev pub ghosts-submit_request_named : goal.ghosts-submit_request_named
ghosts-submit_request_named g a = record { entry = spelled_on_table (calls.submit_request a.function a.host a.input.now) }
