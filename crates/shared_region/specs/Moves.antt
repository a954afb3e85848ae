-- The two operations of a move. This project's own.
use Rattle.std.specs.Prelude.{ℕ, ◌+◌, ◌≤◌, Bool, true, false, Option, None, Some, Result, Ok, Err, List, map, option_map, slice_range}
use Rattle.faaslet_meaning.specs.declared.ask.Move.{Move}
use Rattle.faaslet_meaning.specs.declared.ask.Move.TheVariants as move
use Rattle.faaslet_meaning.specs.Channels.{RegionOperation, Operation, Reply, Question, fills, pulls, pushes, entries, on_channel}
use Rattle.faaslet_meaning.specs.declared.grant.Channel.{Channel}
use Rattle.faaslet_meaning.specs.Region.{Region, blocked_by}
use Rattle.shared_region.specs.declared.moves.MoveBlocked.{MoveBlocked}

-- the question that a move is, at a key of this size
abbrev pub question_of_move : ℕ → ℕ → Move → Question
question_of_move key size move.Fill = fills key size
question_of_move key size (move.Pull off len) = pulls key off len
question_of_move key size (move.Push off len) = pushes key off len

-- its operation on the replica, and that on the global value, with the bytes that are moved
abbrev pub local_part : Move → List ℕ → RegionOperation
local_part move.Fill bytes = RegionOperation.fill bytes
local_part (move.Pull off len) bytes = RegionOperation.take off bytes
local_part (move.Push off len) bytes = RegionOperation.send off len

abbrev pub global_part : Move → ℕ → List ℕ → RegionOperation
global_part move.Fill size bytes = RegionOperation.send 0 size
global_part (move.Pull off len) size bytes = RegionOperation.send off len
global_part (move.Push off len) size bytes = RegionOperation.put off bytes

-- the bytes that are moved: what the Send is answered
abbrev pub moved : Region → Region → Move → List ℕ
moved local global move.Fill = slice_range global.bytes 0 (0 + global.size)
moved local global (move.Pull off len) = slice_range global.bytes off (off + len)
moved local global (move.Push off len) = slice_range local.bytes off (off + len)

-- the range of a move lies in the size of the key
abbrev pub MoveFits : Move → ℕ → Type 0
MoveFits move.Fill size = Unit {0}
MoveFits (move.Pull off len) size = off + len ≤ size
MoveFits (move.Push off len) size = off + len ≤ size

-- who blocks on the replica, and else who on the global value; and whether on the replica
abbrev pub first_blocker : Option ℕ → Option ℕ → Option (Bool × ℕ)
first_blocker (Some holder) other = Some (true, holder)
first_blocker None other = option_map (λ holder. (false, holder)) other

-- who blocks a move
abbrev pub move_blocker : Region → Region → ℕ → Move → Option (Bool × ℕ)
move_blocker local global maker kind =
    let bytes = moved local global kind in
    first_blocker (blocked_by local maker (local_part kind bytes)) (blocked_by global maker (global_part kind global.size bytes))

-- who an answer names, where it is a refusal
abbrev pub named_by : {T : Type 0} → Result T MoveBlocked → Option (Bool × ℕ)
named_by (Ok x) = None
named_by (Err b) = Some (b.local, b.holder)

-- what a question does on a channel, where it is answered by these bytes
abbrev pub operations_on : Channel → Question → List ℕ → List Operation
operations_on channel question bytes = map (λ x. x.0) (on_channel channel (entries question (Reply.bytes bytes)))
