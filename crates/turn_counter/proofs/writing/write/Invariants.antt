-- The entry that `write` makes.
use Rattle.std.proofs.Common.{[], ◌∷◌}
use Rattle.turn_counter.proofs.writing.write.Given as goal

abbrev pub ghosts-write_named : goal.ghosts-write_named
ghosts-write_named g a = record { entry = a.line ∷ [] }
