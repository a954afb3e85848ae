-- What is so once an ask was served: exactly the entries of its question stand on the table, and the answer is its reply; or the
-- child at which it looks isn't finished. This project's own.
use Rattle.std.specs.Prelude.{◌≡◌, ℕ, true, false, List, [], ◌∷◌, ◌++◌, IsTrue, Some, length, drop, slice_get}
use Rattle.faaslet_meaning.specs.declared.ask.Ask.{Ask}
use Rattle.faaslet_meaning.specs.declared.ask.Ask.TheVariants as an_ask
use Rattle.faaslet_meaning.specs.declared.ask.Reply as coded
use Rattle.faaslet_meaning.specs.declared.call.CallRecord.{CallRecord}
use Rattle.faaslet_meaning.specs.declared.grant.Channel.TheVariants.{Table}
use Rattle.faaslet_meaning.specs.Asks.{RepliesAs}
use Rattle.faaslet_meaning.specs.Channels.{submit, Reply, Question, ask, entries, on_channel, has_form}
use Rattle.faaslet_meaning.specs.Lists.{passes_at}
use Rattle.faaslet_meaning.specs.Records.{child_of, is_finished}
use Rattle.faaslet_meaning.specs.Spelling.{spelled_on_table, OperationFits}
use Rattle.faaslet_meaning.specs.Table.{TableOperation, has_room}
use Rattle.turn_cell.specs.declared.view.Entry.{Entry}
use Rattle.turn_cell.specs.History.{Stands, Extends, entry}
use Rattle.call_table.specs.Made as table
use Rattle.call_table.specs.Makers.{MakesTable, MayMake, RunsOn}
use Rattle.call_table.specs.Session.{SessionTable}
use Rattle.call_service.specs.Asked.{question_of, told_as}
use Rattle.call_service.specs.declared.service.Service.{Service}
use Rattle.call_service.specs.declared.service.Service.TheVariants as service

-- At a turn of the maker the table was this: its list is then the earlier one and entries of others, and the call ran on the
-- maker's bench.
pub record AtTurn (start : SessionTable) (maker call : ℕ) (old list : List Entry) (t : SessionTable) : Type 0 where
  pub leads : Stands MakesTable start list t
  pub others : Extends maker old list
  pub runs : RunsOn t.table call maker

-- the maker's one entry more is this operation, answered by the table at its turn
pub record Entered (start : SessionTable) (maker call : ℕ) (old new : List Entry) (made : TableOperation × Reply) : Type 0 where
  pub list : List Entry
  pub before : SessionTable
  pub after : SessionTable
  pub turn : AtTurn start maker call old list before
  pub entered : new ≡ list ++ entry maker (spelled_on_table made.0) ∷ []
  pub did : table.Made before made.0 after made.1
  pub may : MayMake before maker made.0
  pub fits : OperationFits made.0

-- the maker made nothing, or this one operation
abbrev pub Made : SessionTable → ℕ → ℕ → List Entry → List Entry → List (TableOperation × Reply) → Type 0
Made start maker call old new [] = (t : SessionTable) × AtTurn start maker call old new t
Made start maker call old new (x ∷ []) = Entered start maker call old new x
Made start maker call old new (x ∷ y ∷ more) = ⊥

-- the output of a call lies at the front of the scratch
abbrev pub left_by : Reply → List ℕ → List ℕ
left_by (Reply.finished outcome output) scratch = output ++ drop (length output) scratch
left_by _ scratch = scratch

-- where there was no memory for a child, the limits would have allowed it
abbrev pub HadRoom : SessionTable → List Entry → ℕ → Question → Type 0
HadRoom start list call (ask channel (submit function input)) =
    (t : SessionTable) (p : CallRecord) → Stands MakesTable start list t → slice_get t.table.records call ≡ Some p → has_room t.table p function input ≡ true
HadRoom start list call _ = Unit {0}

pub record Answers (callees : List ℕ) (start : SessionTable) (maker call : ℕ) (asked : Ask) (old new : List Entry) (code : coded.Reply) (scratch told : List ℕ) : Type 0 where
  pub question : Question
  pub question_so : question_of callees asked scratch ≡ Some question
  pub answer : Reply
  pub form : IsTrue (has_form question answer)
  pub replies : RepliesAs question code told answer
  pub told_so : told ≡ left_by answer scratch
  pub made : Made start maker call old new (told_as call (on_channel Table (entries question answer)))
  pub want : answer ≡ Reply.want → HadRoom start new call question

-- at a turn the child of the call was this one, and was not finished; nothing was made
pub record Awaited (start : SessionTable) (maker call child : ℕ) (old new : List Entry) (n : ℕ) : Type 0 where
  pub table : SessionTable
  pub turn : AtTurn start maker call old new table
  pub is_child : child_of table.table.records call child ≡ Some n
  pub unfinished : passes_at (λ r. is_finished r.state) table.table.records n ≡ false

abbrev pub Serves : List ℕ → SessionTable → ℕ → ℕ → Ask → List Entry → List Entry → Service → List ℕ → List ℕ → Type 0
Serves callees start maker call asked old new (service.Replied code) scratch told = Answers callees start maker call asked old new code scratch told
Serves callees start maker call (an_ask.Look child) old new (service.Awaits n) scratch told = Awaited start maker call child old new n × (told ≡ scratch)
Serves callees start maker call _ old new (service.Awaits n) scratch told = ⊥
