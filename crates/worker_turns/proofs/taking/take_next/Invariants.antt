-- The entry that the turn makes.
use Rattle.faaslet_meaning.specs.Spelling.{spelled_on_table}
use Rattle.faaslet_meaning.specs.Table as calls
use Rattle.worker_turns.proofs.taking.take_next.Given as goal

abbrev pub ghosts-take_next_named : goal.ghosts-take_next_named
ghosts-take_next_named g a = record { entry = spelled_on_table (calls.take_next a.host a.bench) }
