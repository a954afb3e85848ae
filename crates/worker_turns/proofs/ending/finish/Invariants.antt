-- The entry that the turn makes.
use Rattle.faaslet_meaning.specs.Spelling.{spelled_on_table}
use Rattle.faaslet_meaning.specs.Table as calls
use Rattle.worker_turns.proofs.ending.finish.Given as goal

abbrev pub ghosts-finish_named : goal.ghosts-finish_named
ghosts-finish_named g a = record { entry = spelled_on_table (calls.finish a.call a.outcome a.used a.output.now a.counts.now) }
