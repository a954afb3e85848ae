-- What a turn of a Submit or of a Look leaves. This project's own.
use Rattle.std.specs.Prelude.{◌≡◌, ℕ, true, List, Some, slice_get}
use Rattle.faaslet_meaning.specs.declared.ask.Reply as coded
use Rattle.faaslet_meaning.specs.declared.ask.Reply.TheVariants as a_reply
use Rattle.faaslet_meaning.specs.declared.call.CallRecord.{CallRecord}
use Rattle.faaslet_meaning.specs.declared.outcome.Outcome.{Outcome}
use Rattle.faaslet_meaning.specs.Asks.{reply_of}
use Rattle.faaslet_meaning.specs.Channels.{Reply}
use Rattle.faaslet_meaning.specs.Table as table
use Rattle.faaslet_meaning.specs.Table.{has_room}
use Rattle.turn_cell.specs.declared.view.Entry.{Entry}
use Rattle.call_table.specs.Session.{SessionTable}
use Rattle.call_service.specs.Served.{AtTurn, Entered, Awaited, left_by}
use Rattle.call_service.specs.declared.service.Service.{Service}
use Rattle.call_service.specs.declared.service.Service.TheVariants as service

-- no memory: nothing was made, and the limits would have allowed the child
pub record Wanted (start : SessionTable) (maker call function : ℕ) (input : List ℕ) (old new : List Entry) : Type 0 where
  pub table : SessionTable
  pub turn : AtTurn start maker call old new table
  pub room : (p : CallRecord) → slice_get table.table.records call ≡ Some p → has_room table.table p function input ≡ true

abbrev pub Submits : SessionTable → ℕ → ℕ → ℕ → List ℕ → List Entry → List Entry → coded.Reply → Type 0
Submits start maker call function input old new (a_reply.Child n) = Entered start maker call old new (table.submit call function input, Reply.child n)
Submits start maker call function input old new a_reply.ChainFull = Entered start maker call old new (table.submit call function input, Reply.chain_full)
Submits start maker call function input old new a_reply.Want = Wanted start maker call function input old new
Submits start maker call function input old new _ = ⊥

-- a Look at a finished child was made, and is answered its outcome and output
pub record Looked (start : SessionTable) (maker call child : ℕ) (old new : List Entry) (code : coded.Reply) (scratch told : List ℕ) : Type 0 where
  pub outcome : Outcome
  pub output : List ℕ
  pub entered : Entered start maker call old new (table.look call child, Reply.finished outcome output)
  pub stands_for : reply_of code told ≡ Some (Reply.finished outcome output)
  pub told_so : told ≡ left_by (Reply.finished outcome output) scratch

abbrev pub Looks : SessionTable → ℕ → ℕ → ℕ → List Entry → List Entry → Service → List ℕ → List ℕ → Type 0
Looks start maker call child old new (service.Replied code) scratch told = Looked start maker call child old new code scratch told
Looks start maker call child old new (service.Awaits n) scratch told = Awaited start maker call child old new n × (told ≡ scratch)
