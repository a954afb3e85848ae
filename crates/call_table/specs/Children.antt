-- The children of each call, kept beside the records. This project's own.
use Rattle.std.specs.Prelude.{ℕ, ◌≡◌, List, [], None, Some, length, slice_get, vec_capacity}
use Rattle.faaslet_meaning.specs.declared.call.CallRecord.{CallRecord}
use Rattle.faaslet_meaning.specs.Records.{child_of}
use Rattle.call_table.specs.declared.children.Children.{Children}

-- the calls that are kept as the children of a call
abbrev pub children_at : Children → ℕ → List ℕ
children_at k call = elim (slice_get k.lists.items call) [ None ↦ [] | Some v ↦ v.items ]

-- for how many children of a call there is room
abbrev pub room_at : Children → ℕ → ℕ
room_at k call = elim (slice_get k.lists.items call) [ None ↦ 0 | Some v ↦ vec_capacity v ]

-- how many children the record of a call tells
abbrev pub told_at : List CallRecord → ℕ → ℕ
told_at records call = elim (slice_get records call) [ None ↦ 0 | Some r ↦ r.children ]

-- each call has its list, in which its children stand by their numbers
pub record ChildrenFit (records : List CallRecord) (k : Children) : Type 0 where
  pub many : length k.lists.items ≡ length records
  pub each : (call child : ℕ) → slice_get (children_at k call) child ≡ child_of records call child
  pub count : (call : ℕ) → length (children_at k call) ≡ told_at records call
