-- How a move goes: turns of both regions, and both of its operations or neither. This project's own.
use Rattle.std.specs.Prelude.{◌≡◌, ℕ, List, length}
use Rattle.faaslet_meaning.specs.declared.ask.Move.{Move}
use Rattle.faaslet_meaning.specs.declared.ask.Move.TheVariants as move
use Rattle.faaslet_meaning.specs.Channels.{Reply}
use Rattle.shared_region.specs.Moves.{local_part, global_part}
use Rattle.shared_region.specs.Shared.{Shared}
use Rattle.turn_cell.specs.declared.cell.Turns.{Turns}
use Rattle.turn_cell.specs.Cell.{pass_list, pass_number, start_of}
use Rattle.turn_cell.specs.History.{Extends}
use Rattle.region_tier.specs.Answered.{Answered}
use Rattle.region_tier.specs.Tiers.{RegionPass, Goes}
use Rattle.state_service.specs.May.{Cells, Slots}

-- how many bytes a move moves, at a key of this size
abbrev pub moved_length : Move → ℕ → ℕ
moved_length move.Fill size = size
moved_length (move.Pull off len) size = len
moved_length (move.Push off len) size = len

-- what its two operations are answered: the Send with the bytes
abbrev pub local_reply : Move → List ℕ → Reply
local_reply (move.Push off len) bytes = Reply.bytes bytes
local_reply _ bytes = Reply.done

abbrev pub global_reply : Move → List ℕ → Reply
global_reply (move.Push off len) bytes = Reply.done
global_reply _ bytes = Reply.bytes bytes

-- the pass of the key has seen more entries of others, if any, and no other pass has changed
abbrev pub Waited : Cells → Slots → Slots → ℕ → Type 0
Waited cells old new key = Goes cells old new key (λ t p q. Extends (pass_number p) (pass_list p) (pass_list q))

-- the operation on the replica was made, at a key of this size and with these bytes
abbrev pub OnLocal : ℕ → Move → List ℕ → Turns Shared → RegionPass → RegionPass → Type 0
OnLocal size kind bytes t p q = (size ≡ (start_of t).region.size) × (length bytes ≡ moved_length kind size)
    × Answered (start_of t) (pass_number p) (local_part kind bytes) (pass_list p) (pass_list q) (local_reply kind bytes)

-- and that on the global value
abbrev pub OnGlobal : ℕ → Move → List ℕ → Turns Shared → RegionPass → RegionPass → Type 0
OnGlobal size kind bytes t p q = Answered (start_of t) (pass_number p) (global_part kind size bytes) (pass_list p) (pass_list q) (global_reply kind bytes)

-- both operations of a move were made, with the bytes that it moved
pub record Moved (locals globals : Cells) (local local_new global global_new : Slots) (key : ℕ) (kind : Move) : Type 0 where
  pub size : ℕ
  pub bytes : List ℕ
  pub on_local : Goes locals local local_new key (OnLocal size kind bytes)
  pub on_global : Goes globals global global_new key (OnGlobal size kind bytes)
