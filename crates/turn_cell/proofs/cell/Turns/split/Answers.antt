-- A note may be made.
use Rattle.std.proofs.Common.{rules}
use Rattle.turn_cell.proofs.NoteSteps.{writes}
use Rattle.turn_cell.proofs.cell.Turns.split.Goals as goal

pub split_seat-seat-requires : goal.split_seat-seat-requires
split_seat-seat-requires g c = (search rules, search rules, writes g.S.Kept.makes _ _ _)
