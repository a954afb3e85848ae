-- What a Submit answers that adds no child. This project's own.
use Rattle.std.specs.Prelude.{ℕ, true, ◌≡◌, List, length, Some, slice_get}
use Rattle.faaslet_meaning.specs.declared.call.CallRecord.{CallRecord}
use Rattle.faaslet_meaning.specs.Channels.{Reply}
use Rattle.faaslet_meaning.specs.Records.{calls_of, bytes_of}
use Rattle.faaslet_meaning.specs.Table.{submit, has_room}
use Rattle.call_table.specs.Made.{Made}
use Rattle.call_table.specs.Session.{SessionTable}
use Rattle.call_table.specs.declared.jobs.SubmitFault.{SubmitFault}
use Rattle.call_table.specs.declared.jobs.SubmitFault.TheVariants as fault

-- the limits are reached that the request of the parent has: its calls, their bytes, the parent's depth
pub record IsFull (before : SessionTable) (parent function : ℕ) (input : List ℕ) (after : SessionTable) (calls bytes depth : ℕ) : Type 0 where
  pub did : Made before (submit parent function input) after Reply.chain_full
  pub same : after ≡ before
  pub of : CallRecord
  pub there : slice_get before.table.records parent ≡ Some of
  pub calls_so : calls ≡ length (calls_of before.table.records of.request)
  pub bytes_so : bytes ≡ bytes_of before.table.records of.request
  pub depth_so : depth ≡ of.depth

-- for want of memory nothing changed, and the limits would allow the child
abbrev pub Refused : SessionTable → ℕ → ℕ → List ℕ → SessionTable → SubmitFault → Type 0
Refused before parent function input after (fault.ChainFull calls bytes depth) = IsFull before parent function input after calls bytes depth
Refused before parent function input after fault.Want = (after ≡ before) × ((p : CallRecord) → slice_get before.table.records parent ≡ Some p → has_room before.table p function input ≡ true)
