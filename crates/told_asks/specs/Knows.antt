-- What holds of the records where a call knows of its children. This project's own.
use Rattle.std.specs.Prelude.{◌≡◌, ℕ, ◌≤◌, List, Some, length, slice_get}
use Rattle.faaslet_meaning.specs.declared.call.CallRecord.{CallRecord}
use Rattle.faaslet_meaning.specs.declared.outcome.Outcome.{Outcome}
use Rattle.faaslet_meaning.specs.Channels.{Reply}
use Rattle.faaslet_meaning.specs.Records.{child_of, told_of}
use Rattle.turn_cell.specs.declared.view.Entry.{Entry}
use Rattle.turn_cell.specs.History.{Stands}
use Rattle.call_table.specs.Makers.{MakesTable}
use Rattle.call_table.specs.Session.{SessionTable}
use Rattle.told_asks.specs.Seen.{Kids}

-- the child of a call has ended with an output of this length
pub record HasOutput (records : List CallRecord) (call child len : ℕ) : Type 0 where
  pub number : ℕ
  pub of : CallRecord
  pub is_child : child_of records call child ≡ Some number
  pub there : slice_get records number ≡ Some of
  pub outcome : Outcome
  pub output : List ℕ
  pub told : told_of of.state ≡ Reply.finished outcome output
  pub long : length output ≡ len

-- The call has a record, which counts no fewer children than it has seen; and each output that it has seen is so long.
pub record Knows (records : List CallRecord) (call : ℕ) (kids : Kids) : Type 0 where
  pub of : CallRecord
  pub there : slice_get records call ≡ Some of
  pub few : length kids ≤ of.children
  pub outputs : (child len : ℕ) → slice_get kids child ≡ Some (Some len) → HasOutput records call child len

-- so it is in the table to which a list leads from the start
abbrev pub KnowsBy : SessionTable → List Entry → ℕ → Kids → Type 0
KnowsBy start list call kids = (t : SessionTable) → Stands MakesTable start list t → Knows t.table.records call kids
