-- What the counts of children in records stand for. This project's own.
use Rattle.std.specs.Prelude.{◌≡◌, ℕ, ◌<◌, List, Some, length, slice_get}
use Rattle.faaslet_meaning.specs.declared.call.CallRecord.{CallRecord}
use Rattle.faaslet_meaning.specs.Records.{child_of, calls_of}

-- each child that a record counts is there, and its request has more calls than that
pub record CountsChildren (records : List CallRecord) : Type 0 where
  pub have : (n : ℕ) (r : CallRecord) → slice_get records n ≡ Some r → (child : ℕ) → child < r.children → (k : ℕ) × (child_of records n child ≡ Some k)
  pub few : (n : ℕ) (r : CallRecord) → slice_get records n ≡ Some r → r.children < length (calls_of records r.request)
