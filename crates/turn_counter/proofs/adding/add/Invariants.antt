-- The entry that `add` makes.
use Rattle.std.proofs.Common.{[], ◌∷◌}
use Rattle.turn_counter.proofs.adding.add.Given as goal

abbrev pub ghosts-add_named : goal.ghosts-add_named
ghosts-add_named g a = record { entry = a.amount ∷ [] }
