-- What a look answers. This project's own.
use Rattle.std.specs.Prelude.{ℕ, ◌≡◌, ◌++◌, List, IsTrue, Some, length, drop, slice_get}
use Rattle.faaslet_meaning.specs.declared.ask.Reply as coded
use Rattle.faaslet_meaning.specs.declared.call.CallRecord.{CallRecord}
use Rattle.faaslet_meaning.specs.declared.outcome.Outcome.{Outcome}
use Rattle.faaslet_meaning.specs.Channels.{Reply}
use Rattle.faaslet_meaning.specs.Asks.{reply_of}
use Rattle.faaslet_meaning.specs.Lists.{passes_at}
use Rattle.faaslet_meaning.specs.Records.{is_open, is_finished, child_of, told_of}
use Rattle.faaslet_meaning.specs.Table.{Table, look}
use Rattle.call_table.specs.Did.{Did}
use Rattle.call_table.specs.Made.{Made}
use Rattle.call_table.specs.Session.{SessionTable}

-- the call is finished, and this is what a parent that looks at it is told, with the output at the front of the buffer
pub record Looked (t : Table) (call : ℕ) (reply : coded.Reply) (before after : List ℕ) : Type 0 where
  pub of : CallRecord
  pub there : slice_get t.records call ≡ Some of
  pub finished : IsTrue (is_finished of.state)
  pub told : reply_of reply after ≡ Some (told_of of.state)
  pub rest : (o : Outcome) (output : List ℕ) → told_of of.state ≡ Reply.finished o output → after ≡ output ++ drop (length output) before
  pub did : (parent child : ℕ) → IsTrue (passes_at (λ r. is_open r.state) t.records parent) → child_of t.records parent child ≡ Some call
      → Did t (look parent child) t (told_of of.state)

-- and the Look of a parent whose child it is was answered so
pub record LookedAt (s : SessionTable) (call : ℕ) (reply : coded.Reply) (before after : List ℕ) : Type 0 where
  pub looked : Looked s.table call reply before after
  pub made : (parent child : ℕ) → IsTrue (passes_at (λ r. is_open r.state) s.table.records parent) → child_of s.table.records parent child ≡ Some call
      → Made s (look parent child) s (told_of looked.of.state)
