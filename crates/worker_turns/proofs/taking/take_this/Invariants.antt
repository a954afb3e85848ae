-- The entry that the turn makes.
use Rattle.faaslet_meaning.specs.Spelling.{spelled_on_table}
use Rattle.faaslet_meaning.specs.Table as calls
use Rattle.worker_turns.proofs.taking.take_this.Given as goal

abbrev pub ghosts-take_this_named : goal.ghosts-take_this_named
ghosts-take_this_named g a = record { entry = spelled_on_table (calls.take_this a.call a.host a.bench) }
