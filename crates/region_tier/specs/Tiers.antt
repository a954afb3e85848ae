-- What contracts see of a tier and of the passes of one maker: the cell and the pass of each key. This project's own.
use Rattle.std.specs.Prelude.{◌≡◌, ℕ, ◌<◌, List, [], ◌∷◌, ◌++◌, Some, None, length, slice_set}
use Rattle.std.specs.Prelude as std
use mathlib.Core.Option.{some}
use lib.ListN.{get_elem?}
use Rattle.faaslet_meaning.specs.Region.{replica, global_value}
use Rattle.shared_region.specs.Entries.{MakesShared}
use Rattle.shared_region.specs.Shared.{Shared}
use Rattle.shared_region.specs.contracts.kept.RegionKept.TheImpl.{ghosts}
use Rattle.turn_cell.specs.declared.cell.Turns.{Turns}
use Rattle.turn_cell.specs.declared.cell.Pass.{Pass}
use Rattle.turn_cell.specs.declared.cell.Held.{Held}
use Rattle.turn_cell.specs.declared.cell.Seen.{Seen}
use Rattle.turn_cell.specs.declared.view.Entry.{Entry}
use Rattle.std.specs.Vec.{vec_capacity}
use Rattle.turn_cell.specs.History.{Stands, Extends, MakersBelow, Each}
use Rattle.turn_cell.specs.Cell.{IsPassOf, IsTurnOf, pass_list, pass_number, turn_list, maker_of, taken_of, value_of, start_of, numbers_of, whole_list}
use Rattle.std.specs.List.{All}
use Rattle.region_tier.specs.declared.cells.Tier.{Tier}
use Rattle.region_tier.specs.declared.cells.TierRoom.{TierRoom}
use Rattle.region_tier.specs.declared.cells.Passes.{Passes}

abbrev pub RegionPass : Type 0
RegionPass = Pass Shared ghosts

abbrev pub RegionHeld : Type 0
RegionHeld = Held Shared ghosts

-- the cell of each key
abbrev pub cells_of : Tier → List (Turns Shared)
cells_of tier = tier.cells.items

-- the pass of each key, or none while its maker has the turn
abbrev pub slots_of : Passes → List (std.Option RegionPass)
slots_of passes = passes.slots.items

-- the pass of this key is there
abbrev pub IsIn : List (std.Option RegionPass) → ℕ → Type 0
IsIn slots key = (pass : RegionPass) × (get_elem? slots key ≡ some (Some pass))

-- the pass of this key is there, and is one of the cell of this key
pub record HasPass (cells : List (Turns Shared)) (slots : List (std.Option RegionPass)) (key : ℕ) (P : Turns Shared → RegionPass → Type 0) : Type 0 where
  pub cell : Turns Shared
  pub pass : RegionPass
  pub at_cell : get_elem? cells key ≡ some cell
  pub at_pass : get_elem? slots key ≡ some (Some pass)
  pub sits : IsPassOf pass cell
  pub low : pass_number pass < numbers_of cell
  pub so : P cell pass

-- the pass of this key has changed, and no other
pub record Goes (cells : List (Turns Shared)) (old new : List (std.Option RegionPass)) (key : ℕ) (P : Turns Shared → RegionPass → RegionPass → Type 0) : Type 0 where
  pub cell : Turns Shared
  pub before : RegionPass
  pub after : RegionPass
  pub at_cell : get_elem? cells key ≡ some cell
  pub at_before : get_elem? old key ≡ some (Some before)
  pub put : new ≡ slice_set old key (Some after)
  pub sits : IsPassOf after cell
  pub number : pass_number after ≡ pass_number before
  pub makers : MakersBelow (numbers_of cell) (pass_list after)
  pub so : P cell before after

-- the pass of this key has the turn: the region stands for its start by a list, which is that of the pass and then entries
-- of others
pub record Took (cells : List (Turns Shared)) (old new : List (std.Option RegionPass)) (key : ℕ) (held : RegionHeld) : Type 0 where
  pub cell : Turns Shared
  pub pass : RegionPass
  pub at_cell : get_elem? cells key ≡ some cell
  pub at_pass : get_elem? old key ≡ some (Some pass)
  pub out : new ≡ slice_set old key None
  pub sits : IsTurnOf held cell
  pub number : maker_of held ≡ pass_number pass
  pub taken : taken_of held ≡ value_of held
  pub stands : Stands MakesShared (start_of cell) (turn_list held) (value_of held)
  pub others : Extends (pass_number pass) (pass_list pass) (turn_list held)
  pub makers : MakersBelow (numbers_of cell) (turn_list held)

-- the pass of this key is out, and this is the turn of a pass of its cell
pub record IsOut (cells : List (Turns Shared)) (slots : List (std.Option RegionPass)) (key : ℕ) (held : RegionHeld) : Type 0 where
  pub cell : Turns Shared
  pub at_cell : get_elem? cells key ≡ some cell
  pub out : get_elem? slots key ≡ some None
  pub sits : IsTurnOf held cell

-- the pass that had the turn is back, with its list at the turn and these entries
pub record Gave (cells : List (Turns Shared)) (old new : List (std.Option RegionPass)) (key : ℕ) (held : RegionHeld) (entries : List Entry) : Type 0 where
  pub cell : Turns Shared
  pub pass : RegionPass
  pub at_cell : get_elem? cells key ≡ some cell
  pub put : new ≡ slice_set old key (Some pass)
  pub sits : IsPassOf pass cell
  pub number : pass_number pass ≡ maker_of held
  pub list : pass_list pass ≡ turn_list held ++ entries
  pub makers : MakersBelow (numbers_of cell) (pass_list pass)

-- one maker's passes, one for each cell, none of which has seen an entry
abbrev pub IsFreshRow : List (Turns Shared) → List (std.Option RegionPass) → ℕ → Type 0
IsFreshRow cells slots number = (length slots ≡ length cells)
    × Each cells (λ k t. (p : RegionPass) × (get_elem? slots k ≡ some (Some p)) × IsPassOf p t × (pass_number p ≡ number) × (pass_list p ≡ []))

-- one maker's passes, one for each cell
abbrev pub IsRow : List (Turns Shared) → List (std.Option RegionPass) → ℕ → Type 0
IsRow cells slots number = (length slots ≡ length cells)
    × Each cells (λ k t. (p : RegionPass) × (get_elem? slots k ≡ some (Some p)) × IsPassOf p t × (pass_number p ≡ number))

-- how many makers a tier has, and for how many keys there is room
abbrev pub numbers_in : Tier → ℕ
numbers_in tier = tier.numbers

abbrev pub room_of : Tier → ℕ
room_of tier = vec_capacity tier.cells

-- the memory with which a tier closes: for each key a home for the passes of its makers, and room for the ends of all keys
pub record IsRoomOf (room : TierRoom) (tier : Tier) : Type 0 where
  pub homes : length room.homes.items ≡ length (cells_of tier)
  pub makers : All (λ h. vec_capacity h ≡ numbers_in tier) room.homes.items
  pub keys : vec_capacity room.ends ≡ room_of tier

-- each maker's passes have room for so many keys
abbrev pub HaveRoom : ℕ → List Passes → Type 0
HaveRoom room rows = Each rows (λ i r. vec_capacity r.slots ≡ room)

-- fresh passes of makers 0, 1, .. in order
abbrev pub AreFreshRows : List (Turns Shared) → ℕ → List Passes → Type 0
AreFreshRows cells numbers rows = (length rows ≡ numbers) × Each rows (λ i r. IsFreshRow cells (slots_of r) i)

-- one cell more, which was opened with this region
pub record Adds (old new : List (Turns Shared)) (region : Shared) (numbers : ℕ) : Type 0 where
  pub cell : Turns Shared
  pub added : new ≡ old ++ cell ∷ []
  pub start : start_of cell ≡ region
  pub numbered : numbers_of cell ≡ numbers

-- each cell was opened with a replica of the size of its key, with room for so many lock holders
abbrev pub AreReplicas : List ℕ → ℕ → List (Turns Shared) → Type 0
AreReplicas sizes numbers cells = Each cells (λ k t. (size : ℕ) × (get_elem? sizes k ≡ some size) × (start_of t ≡ record { region = replica size; room = numbers }) × (numbers_of t ≡ numbers))

-- each cell was opened with the global value of its key, of this size and these initial bytes
abbrev pub AreGlobals : List (ℕ × List ℕ) → ℕ → List (Turns Shared) → Type 0
AreGlobals values numbers cells = Each cells (λ k t. (v : ℕ × List ℕ) × (get_elem? values k ≡ some v) × (start_of t ≡ record { region = global_value v.0 v.1; room = numbers }) × (numbers_of t ≡ numbers))

-- the passes of makers 0, 1, .. in order
abbrev pub AreRows : List (Turns Shared) → ℕ → List Passes → Type 0
AreRows cells numbers rows = (length rows ≡ numbers) × Each rows (λ i r. IsRow cells (slots_of r) i)

-- this row has this pass behind those of that
pub record HasMore (less more : Passes) (pass : RegionPass) : Type 0 where
  pub slots : slots_of more ≡ slots_of less ++ Some pass ∷ []
  pub room : vec_capacity more.slots ≡ vec_capacity less.slots

-- a row was changed at one place: the first has this pass behind those of the second
pub record Changed (old new : List Passes) (maker : ℕ) (P : Passes → Passes → Type 0) : Type 0 where
  pub before : Passes
  pub after : Passes
  pub at : get_elem? old maker ≡ some before
  pub put : new ≡ slice_set old maker after
  pub so : P before after

-- each row has one pass more, that of its place in the column
pub record OneDealt (column : List RegionPass) (dealt : List Passes) (i : ℕ) (r : Passes) : Type 0 where
  pub pass : RegionPass
  pub row : Passes
  pub at_column : get_elem? column i ≡ some pass
  pub at_row : get_elem? dealt i ≡ some row
  pub more : HasMore r row pass

abbrev pub AreDealt : List Passes → List RegionPass → List Passes → Type 0
AreDealt rows column dealt = (length dealt ≡ length rows) × Each rows (OneDealt column dealt)

-- the last slot has its pass
abbrev pub EndsWithPass : List (std.Option RegionPass) → Type 0
EndsWithPass slots = (front : List (std.Option RegionPass)) × (p : RegionPass) × (slots ≡ front ++ Some p ∷ [])

-- a cell has ended with this region and this whole list: the region stands for its start by the list, and each maker's list
-- is a front of it, with no entry of that maker behind
pub record IsClosed (cell : Turns Shared) (rows : List Passes) (key : ℕ) (end : Shared × Seen Shared) : Type 0 where
  pub stands : Stands MakesShared (start_of cell) (whole_list end.1) end.0
  pub makers : MakersBelow (numbers_of cell) (whole_list end.1)
  pub lists : Each rows (λ i r. (p : RegionPass) → get_elem? (slots_of r) key ≡ some (Some p) → Extends i (pass_list p) (whole_list end.1))

-- each cell has ended, in order
abbrev pub AreClosed : List (Turns Shared) → List Passes → List (Shared × Seen Shared) → Type 0
AreClosed cells rows ends = (length ends ≡ length cells) × Each cells (λ k t. (e : Shared × Seen Shared) × (get_elem? ends k ≡ some e) × IsClosed t rows k e)
