-- The two entries that `add_two` makes.
use Rattle.std.proofs.Common.{[], ◌∷◌}
use Rattle.turn_counter.proofs.adding.add_two.Given as goal

abbrev pub ghosts-add_two_named-E-Named : goal.ghosts-add_two_named-E-Named
ghosts-add_two_named-E-Named g a = record { entry = a.x ∷ [] }

abbrev pub ghosts-add_two_named-F-Named : goal.ghosts-add_two_named-F-Named
ghosts-add_two_named-F-Named g a = record { entry = a.y ∷ [] }
