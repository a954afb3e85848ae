-- The entries of both operations of a move, with the bytes that it moves.
use Rattle.faaslet_meaning.specs.Spelling.{spelled}
use Rattle.shared_region.specs.Moves.{global_part, local_part, moved}
use Rattle.turn_cell.specs.Cell.{taken_of}
use Rattle.state_service.proofs.moving.give_both.Given as goal

abbrev pub ghosts-give_named-E-Named : goal.ghosts-give_named-E-Named
ghosts-give_named-E-Named a = record { entry = spelled (local_part a.kind (moved (taken_of a.turns.local).region (taken_of a.turns.global).region a.kind)) }

abbrev pub ghosts-give_named-F-Named : goal.ghosts-give_named-F-Named
ghosts-give_named-F-Named a = record { entry = spelled (global_part a.kind (taken_of a.turns.global).region.size (moved (taken_of a.turns.local).region (taken_of a.turns.global).region a.kind)) }
