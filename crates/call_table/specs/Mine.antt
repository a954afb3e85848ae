-- The records that a bench took, and what a take and a Finish do to them. This project's own.
use Rattle.std.specs.Prelude.{ℕ, ◌≡◌, ◌<◌, Bool, false, List, ◌∷◌, ◌++◌, All, Some, filter, map, slice_get, ◌==◌}
use Rattle.faaslet_meaning.specs.declared.call.CallRecord.{CallRecord}
use Rattle.faaslet_meaning.specs.declared.call.CallState.{CallState}
use Rattle.faaslet_meaning.specs.declared.call.CallState.TheVariants.{Queued, Taken, Finished}
use Rattle.faaslet_meaning.specs.declared.outcome.Outcome.{Outcome}
use Rattle.faaslet_meaning.specs.Records.{takes}
use Rattle.faaslet_meaning.specs.Table.{finished_state}

-- the call was taken by the bench, finished or not
abbrev pub is_of : ℕ → CallState → Bool
is_of bench Queued = false
is_of bench (Taken host b order) = b == bench
is_of bench (Finished host b order outcome used output counts) = b == bench

-- a record without its number of children, which its own call raises
abbrev pub childless : CallRecord → CallRecord
childless r = record r { children = 0 }

abbrev pub mine : ℕ → List CallRecord → List CallRecord
mine bench records = map childless (filter (λ r. is_of bench r.state) records)

-- the bench took a call of its host
pub record Took (host bench call : ℕ) (before after : List CallRecord) : Type 0 where
  pub of : CallRecord
  pub there : slice_get before call ≡ Some of
  pub front : List CallRecord
  pub back : List CallRecord
  pub old_is : mine bench before ≡ front ++ back
  pub new_is : mine bench after ≡ front ++ childless (record of { state = Taken host bench (takes before) }) ∷ back
  pub others : (b : ℕ) → (b ≡ bench → ⊥) → mine b after ≡ mine b before

-- a call that runs on the bench was finished
pub record Ended (bench call : ℕ) (outcome : Outcome) (used : ℕ) (output counts : List ℕ) (before after : List CallRecord) : Type 0 where
  pub of : CallRecord
  pub there : slice_get before call ≡ Some of
  pub front : List CallRecord
  pub back : List CallRecord
  pub old_is : mine bench before ≡ front ++ childless of ∷ back
  pub new_is : mine bench after ≡ front ++ childless (record of { state = finished_state of.state outcome used output counts }) ∷ back
  pub others : (b : ℕ) → (b ≡ bench → ⊥) → mine b after ≡ mine b before

-- a call that was taken has an order below this
abbrev pub IsBelow : ℕ → CallState → Type 0
IsBelow n Queued = Unit {0}
IsBelow n (Taken host bench order) = order < n
IsBelow n (Finished host bench order outcome used output counts) = order < n

-- the orders of all calls that were taken are below their number
abbrev pub Ordered : List CallRecord → Type 0
Ordered records = All (λ r. IsBelow (takes records) r.state) records
