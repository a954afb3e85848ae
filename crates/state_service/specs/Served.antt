-- What is so once an ask was served: exactly the entries of its question stand on their objects, and the answer is its
-- reply. This project's own.
use Rattle.std.specs.Prelude.{◌≡◌, ℕ, ◌∷◌, [], List, IsTrue, Some, length}
use mathlib.Core.Option.{some}
use lib.ListN.{get_elem?}
use Rattle.faaslet_meaning.specs.declared.ask.Ask.{Ask}
use Rattle.faaslet_meaning.specs.declared.ask.Reply as coded
use Rattle.faaslet_meaning.specs.declared.grant.Channel.TheVariants.{Local, Global}
use Rattle.faaslet_meaning.specs.Asks.{RepliesAs}
use Rattle.faaslet_meaning.specs.Channels.{RegionOperation, Operation, on_region, Reply, Question, ask, entries, on_channel, has_form}
use Rattle.shared_region.specs.Operations.{laid}
use Rattle.shared_region.specs.Shared.{Shared}
use Rattle.turn_cell.specs.declared.cell.Turns.{Turns}
use Rattle.turn_cell.specs.History.{MakersBelow}
use Rattle.turn_cell.specs.Cell.{IsPassOf, pass_list, pass_number, start_of, numbers_of}
use Rattle.region_tier.specs.Answered.{Answered}
use Rattle.region_tier.specs.Tiers.{RegionPass}
use Rattle.state_service.specs.Asked.{question_of}
use Rattle.state_service.specs.May.{Cells, Slots}

-- The pass of a key made one operation, and this is its reply: of the region to which the entries before it lead. Its list is
-- its earlier list, entries of others, and the operation's entry.
pub record Entered (cells : Cells) (old new : Slots) (key : ℕ) (made : Operation × Reply) : Type 0 where
  pub cell : Turns Shared
  pub before : RegionPass
  pub after : RegionPass
  pub at_cell : get_elem? cells key ≡ some cell
  pub at_before : get_elem? old key ≡ some (Some before)
  pub at_after : get_elem? new key ≡ some (Some after)
  pub sits : IsPassOf after cell
  pub number : pass_number after ≡ pass_number before
  pub makers : MakersBelow (numbers_of cell) (pass_list after)
  pub operation : RegionOperation
  pub operation_so : made.0 ≡ on_region operation
  pub answered : Answered (start_of cell) (pass_number before) operation (pass_list before) (pass_list after) made.1

-- on a key there was nothing done, and its pass is as before, or this one operation
abbrev pub Made : Cells → Slots → Slots → ℕ → List (Operation × Reply) → Type 0
Made cells old new key [] = get_elem? new key ≡ get_elem? old key
Made cells old new key (x ∷ []) = Entered cells old new key x
Made cells old new key (x ∷ y ∷ more) = ⊥

-- bytes of a reply lie at the front of the scratch; those of a move do not pass through it
abbrev pub left_by : Question → Reply → List ℕ → List ℕ
left_by (ask channel o) answer scratch = laid answer scratch
left_by _ answer scratch = scratch

pub record Served (asked : Ask) (size : ℕ) (locals globals : Cells) (local local_new global global_new : Slots) (code : coded.Reply) (scratch told : List ℕ) : Type 0 where
  pub question : Question
  pub question_so : question_of size asked scratch ≡ Some question
  pub answer : Reply
  pub form : IsTrue (has_form question answer)
  pub replies : RepliesAs question code told answer
  pub told_so : told ≡ left_by question answer scratch
  pub local_keys : length local_new ≡ length local
  pub global_keys : length global_new ≡ length global
  pub local_made : (key : ℕ) → Made locals local local_new key (on_channel (Local key) (entries question answer))
  pub global_made : (key : ℕ) → Made globals global global_new key (on_channel (Global key) (entries question answer))
