-- The entry that a Look makes.
use Rattle.faaslet_meaning.specs.Spelling.{spelled_on_table}
use Rattle.faaslet_meaning.specs.Table as calls
use Rattle.call_service.proofs.asking.look.Given as goal

abbrev pub ghosts-look_named : goal.ghosts-look_named
ghosts-look_named g a = record { entry = spelled_on_table (calls.look a.call a.child) }
