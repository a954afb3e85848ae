-- The entry that a Submit makes.
use Rattle.faaslet_meaning.specs.Spelling.{spelled_on_table}
use Rattle.faaslet_meaning.specs.Table as calls
use Rattle.call_service.proofs.asking.submit.Given as goal

abbrev pub ghosts-submit_named : goal.ghosts-submit_named
ghosts-submit_named g a = record { entry = spelled_on_table (calls.submit a.call a.function a.input.now) }
