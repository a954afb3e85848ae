-- What the callers of serve_state know of one key and the passes of two makers. This project's own.
use Rattle.std.specs.Prelude.{◌≡◌, ℕ, ◌+◌, ◌≤◌, List, [], ◌∷◌, Some, length}
use mathlib.Core.Option.{some}
use lib.ListN.{get_elem?}
use Rattle.faaslet_meaning.specs.declared.ask.Ask.{Ask}
use Rattle.faaslet_meaning.specs.declared.ask.Ask.TheVariants as an_ask
use Rattle.faaslet_meaning.specs.declared.ask.AskOp.{AskOp}
use Rattle.faaslet_meaning.specs.declared.ask.AskOp.TheVariants as op
use Rattle.faaslet_meaning.specs.declared.grant.Channel.{Channel}
use Rattle.faaslet_meaning.specs.declared.grant.Channel.TheVariants.{Local, Global}
use Rattle.faaslet_meaning.specs.Channels.{fill, write, send, put}
use Rattle.faaslet_meaning.specs.Region.{Region}
use Rattle.faaslet_meaning.specs.Spelling.{spelled}
use Rattle.shared_region.specs.Entries.{MakesShared}
use Rattle.shared_region.specs.Moves.{MoveFits}
use Rattle.shared_region.specs.Shared.{Shared}
use Rattle.turn_cell.specs.declared.cell.Turns.{Turns}
use Rattle.turn_cell.specs.declared.view.Entry.{Entry}
use Rattle.turn_cell.specs.Cell.{IsPassOf, pass_list, pass_number, start_of, numbers_of}
use Rattle.turn_cell.specs.History.{entry, Extends, MakersBelow, Stands}
use Rattle.region_tier.specs.Tiers.{RegionPass}
use Rattle.state_service.specs.May.{Cells, Slots}

-- one key, whose cell began with this region, for two makers
pub record IsOneKey (cells : Cells) (start : Region) : Type 0 where
  pub cell : Turns Shared
  pub at_cell : get_elem? cells 0 ≡ some cell
  pub one : length cells ≡ 1
  pub start_so : start_of cell ≡ record { region = start; room = 2 }
  pub numbers_so : numbers_of cell ≡ 2

-- the pass of the one key is there, is this maker's, and has seen this list
pub record Sees (cells : Cells) (slots : Slots) (maker : ℕ) (list : List Entry) : Type 0 where
  pub cell : Turns Shared
  pub pass : RegionPass
  pub at_cell : get_elem? cells 0 ≡ some cell
  pub keys : length slots ≡ 1
  pub at_pass : get_elem? slots 0 ≡ some (Some pass)
  pub sits : IsPassOf pass cell
  pub number : pass_number pass ≡ maker
  pub list_so : pass_list pass ≡ list

-- the same, whatever it has seen
abbrev pub Keeps : Cells → Slots → ℕ → Type 0
Keeps cells slots maker = (list : List Entry) × Sees cells slots maker list

-- What a tier of one key tells when it is closed: the region stands for its start by the whole list, in which the lists of
-- both makers stand.
pub record Closes (cells : Cells) (first second : Slots) (list : List Entry) (end : Shared) : Type 0 where
  pub stands : (t : Turns Shared) → get_elem? cells 0 ≡ some t → Stands MakesShared (start_of t) list end
  pub makers : MakersBelow 2 list
  pub first_in : (p : RegionPass) → get_elem? first 0 ≡ some (Some p) → Extends 0 (pass_list p) list
  pub second_in : (p : RegionPass) → get_elem? second 0 ≡ some (Some p) → Extends 1 (pass_list p) list

-- the first maker filled the replica with 1, 2, the second wrote a 9 at its front, and the first sent both bytes
abbrev pub replica_list : List Entry
replica_list = entry 0 (spelled (fill (1 ∷ 2 ∷ []))) ∷ entry 1 (spelled (write 0 (9 ∷ []))) ∷ entry 0 (spelled (send 0 2)) ∷ []

-- the first maker was sent both bytes, and put 9, 2 there
abbrev pub global_list : List Entry
global_list = entry 0 (spelled (send 0 2)) ∷ entry 0 (spelled (put 0 (9 ∷ 2 ∷ []))) ∷ []

-- so it is whenever both tiers are closed
abbrev pub InOrder : Cells → Cells → Slots → Slots → Slots → Slots → Type 0
InOrder locals globals l0 l1 g0 g1 = (w v : List Entry) (x y : Shared) → Closes locals l0 l1 w x → Closes globals g0 g1 v y → (w ≡ replica_list) × (v ≡ global_list)

-- an operation that locks nothing, in two bytes
abbrev pub IsPlainOp : AskOp → Type 0
IsPlainOp op.Probe = Unit {0}
IsPlainOp (op.Read off len) = off + len ≤ 2
IsPlainOp (op.Write off len) = off + len ≤ 2
IsPlainOp (op.Append len) = len ≤ 2
IsPlainOp op.Size = Unit {0}
IsPlainOp _ = ⊥

-- an ask that locks nothing, of the one key and in two bytes
abbrev pub IsPlain : Ask → Type 0
IsPlain (an_ask.Region (Local key) o) = (key ≡ 0) × IsPlainOp o
IsPlain (an_ask.Region (Global key) o) = (key ≡ 0) × IsPlainOp o
IsPlain (an_ask.Move key kind) = (key ≡ 0) × MoveFits kind 2
IsPlain _ = ⊥

-- a lock is taken
abbrev pub IsLock : AskOp → Type 0
IsLock op.LockRead = Unit {0}
IsLock op.LockWrite = Unit {0}
IsLock _ = ⊥

-- the first maker has made nothing yet on the one key of the channel
abbrev pub SeesNothing : Channel → Cells → Cells → Slots → Slots → Type 0
SeesNothing (Local key) locals globals local global = (key ≡ 0) × Sees locals local 0 []
SeesNothing (Global key) locals globals local global = (key ≡ 0) × Sees globals global 0 []
SeesNothing _ locals globals local global = ⊥

-- the channel is of the one key
abbrev pub IsOfKey : Channel → Type 0
IsOfKey (Local key) = key ≡ 0
IsOfKey (Global key) = key ≡ 0
IsOfKey _ = ⊥
