-- Which question an ask of the code is, where it is one on regions. This project's own.
use Rattle.std.specs.Prelude.{ℕ, Bool, true, false, List, Option, Some, None, take, slice_get, option_map}
use Rattle.faaslet_meaning.specs.declared.ask.Ask.{Ask}
use Rattle.faaslet_meaning.specs.declared.ask.Ask.TheVariants as an_ask
use Rattle.faaslet_meaning.specs.declared.ask.AskOp.{AskOp}
use Rattle.faaslet_meaning.specs.declared.ask.AskOp.TheVariants as op
use Rattle.faaslet_meaning.specs.Asks.{operation_of}
use Rattle.faaslet_meaning.specs.Channels.{RegionOperation, Question, ask}
use Rattle.shared_region.specs.Moves.{question_of_move}
use Rattle.shared_region.specs.Shared.{Shared}
use Rattle.turn_cell.specs.declared.cell.Turns.{Turns}
use Rattle.turn_cell.specs.Cell.{start_of}

-- whether it carries bytes
abbrev pub is_carrying : AskOp → Bool
is_carrying (op.Write off len) = true
is_carrying (op.Append len) = true
is_carrying _ = false

-- the operation on a region, with the bytes that it carries from the front of the scratch
abbrev pub asked_operation : AskOp → List ℕ → RegionOperation
asked_operation op.Probe scratch = RegionOperation.probe
asked_operation (op.Read off len) scratch = RegionOperation.read off len
asked_operation (op.Write off len) scratch = RegionOperation.write off (take len scratch)
asked_operation (op.Append len) scratch = RegionOperation.append (take len scratch)
asked_operation op.Size scratch = RegionOperation.size
asked_operation op.LockRead scratch = RegionOperation.lock_read
asked_operation op.LockWrite scratch = RegionOperation.lock_write
asked_operation op.Unlock scratch = RegionOperation.unlock

-- the size of the key that an ask moves
abbrev pub moved_size : List (Turns Shared) → Ask → ℕ
moved_size cells (an_ask.Move key kind) = elim (slice_get cells key) [ Some t ↦ (start_of t).region.size | None ↦ 0 ]
moved_size cells _ = 0

-- the question that an ask is, where the key that it moves has this size
abbrev pub question_of : ℕ → Ask → List ℕ → Option Question
question_of size (an_ask.Region channel o) scratch = option_map (λ operation. ask channel operation) (operation_of o scratch)
question_of size (an_ask.Move key kind) scratch = Some (question_of_move key size kind)
question_of size _ scratch = None
