-- The calls of a bench among all records: where nothing happened to them, where one was taken, and where one ended. This project's
-- own.
use Rattle.std.specs.Prelude.{ℕ, ◌≡◌, true, List, ◌∷◌, ◌++◌, Some, slice_get}
use Rattle.faaslet_meaning.specs.declared.call.CallRecord.{CallRecord}
use Rattle.faaslet_meaning.specs.declared.call.CallState.TheVariants.{Queued, Taken}
use Rattle.faaslet_meaning.specs.declared.outcome.Outcome.{Outcome}
use Rattle.faaslet_meaning.specs.Records.{takes}
use Rattle.faaslet_meaning.specs.Table.{finished_state}
use Rattle.call_table.specs.Makers.{is_on}
use Rattle.call_table.specs.Mine.{is_of, childless, mine, Ordered}

-- The calls that the bench took are the same, at the same places, but for their numbers of children: each that is there was
-- there before, and each that was there still is.
pub record SameOn (bench : ℕ) (before after : List CallRecord) : Type 0 where
  pub mine_so : mine bench after ≡ mine bench before
  pub at : (call : ℕ) (r : CallRecord) → slice_get after call ≡ Some r → is_of bench r.state ≡ true
      → (old : CallRecord) × (slice_get before call ≡ Some old) × (childless old ≡ childless r)
  pub stays : (call : ℕ) (old : CallRecord) → slice_get before call ≡ Some old → is_of bench old.state ≡ true
      → (r : CallRecord) × (slice_get after call ≡ Some r) × (childless old ≡ childless r)

-- the call is at its place, the same but for its number of children
pub record StillAt (call : ℕ) (old : CallRecord) (after : List CallRecord) : Type 0 where
  pub now : CallRecord
  pub there : slice_get after call ≡ Some now
  pub request_so : now.request ≡ old.request
  pub parent_so : now.parent ≡ old.parent
  pub child_so : now.child ≡ old.child
  pub depth_so : now.depth ≡ old.depth
  pub function_so : now.function ≡ old.function
  pub input_so : now.input ≡ old.input
  pub room_so : now.room ≡ old.room
  pub fuel_so : now.fuel ≡ old.fuel
  pub state_so : now.state ≡ old.state

-- The bench of the host took a queued call: its order is the number of calls taken before, above the orders of all of these.
-- No other record changed.
pub record TookAt (host bench call : ℕ) (before after : List CallRecord) : Type 0 where
  pub of : CallRecord
  pub there : slice_get before call ≡ Some of
  pub queued : of.state ≡ Queued
  pub now : slice_get after call ≡ Some (record of { state = Taken host bench (takes before) })
  pub below : Ordered before
  pub others : (n : ℕ) (r : CallRecord) → (n ≡ call → ⊥) → slice_get after n ≡ Some r → slice_get before n ≡ Some r
  pub front : List CallRecord
  pub back : List CallRecord
  pub old_is : mine bench before ≡ front ++ back
  pub new_is : mine bench after ≡ front ++ childless (record of { state = Taken host bench (takes before) }) ∷ back

-- A call that ran on the bench has ended. No other record changed.
pub record EndedAt (bench call : ℕ) (outcome : Outcome) (used : ℕ) (output counts : List ℕ) (before after : List CallRecord) : Type 0 where
  pub of : CallRecord
  pub there : slice_get before call ≡ Some of
  pub on : is_on bench of.state ≡ true
  pub now : slice_get after call ≡ Some (record of { state = finished_state of.state outcome used output counts })
  pub others : (n : ℕ) (r : CallRecord) → (n ≡ call → ⊥) → slice_get after n ≡ Some r → slice_get before n ≡ Some r
  pub front : List CallRecord
  pub back : List CallRecord
  pub old_is : mine bench before ≡ front ++ childless of ∷ back
  pub new_is : mine bench after ≡ front ++ childless (record of { state = finished_state of.state outcome used output counts }) ∷ back
