-- What a take hands out. This project's own.
use Rattle.std.specs.Prelude.{ℕ, false, ◌≡◌, ◌++◌, List, [], Option, Some, None, length, drop, slice_get}
use Rattle.faaslet_meaning.specs.declared.call.CallRecord.{CallRecord}
use Rattle.faaslet_meaning.specs.Channels.{Reply}
use Rattle.faaslet_meaning.specs.Lists.{passes_at}
use Rattle.faaslet_meaning.specs.Records.{queued_calls, is_queued}
use Rattle.faaslet_meaning.specs.Table.{take_next, take_this}
use Rattle.call_table.specs.Made.{Made}
use Rattle.call_table.specs.Session.{SessionTable, unfinished}
use Rattle.call_table.specs.declared.jobs.Job.{Job}
use Rattle.call_table.specs.declared.jobs.Next.{Next}
use Rattle.call_table.specs.declared.jobs.Next.TheVariants as next

-- the job is the call's, and its input stands at the front of the buffer
pub record Handed (records : List CallRecord) (call : ℕ) (job : Job) (before after : List ℕ) : Type 0 where
  pub of : CallRecord
  pub there : slice_get records call ≡ Some of
  pub call_so : job.call ≡ call
  pub function_so : job.function ≡ of.function
  pub len_so : job.len ≡ length of.input
  pub fuel_so : job.fuel ≡ of.fuel
  pub room_so : job.room ≡ of.room
  pub input_so : after ≡ of.input ++ drop (length of.input) before

-- a call was taken and handed out, or none is queued and nothing changed
abbrev pub NextIs : SessionTable → ℕ → ℕ → SessionTable → List ℕ → List ℕ → Next → Type 0
NextIs before host bench after old new (next.Call job) = Made before (take_next host bench) after (Reply.number job.call) × Handed before.table.records job.call job old new
NextIs before host bench after old new (next.None count) =
    (queued_calls before.table.records ≡ []) × (after ≡ before) × (new ≡ old) × (count ≡ unfinished before)

-- the call was taken and handed out, or it is not queued and nothing changed
abbrev pub ThisIs : SessionTable → ℕ → ℕ → ℕ → SessionTable → List ℕ → List ℕ → Option Job → Type 0
ThisIs before call host bench after old new (Some job) = Made before (take_this call host bench) after (Reply.number call) × Handed before.table.records call job old new
ThisIs before call host bench after old new None = (passes_at (λ r. is_queued r.state) before.table.records call ≡ false) × (after ≡ before) × (new ≡ old)
