-- What a call of a world was told, and what is so of each finished call. This project's own.
use Rattle.std.specs.Prelude.{◌≡◌, ℕ, ◌≤◌, All, List, [], Some, None, length, option_and_then, slice_get}
use Rattle.faaslet_meaning.specs.declared.call.CallRecord.{CallRecord}
use Rattle.faaslet_meaning.specs.declared.call.CallState.{CallState}
use Rattle.faaslet_meaning.specs.declared.call.CallState.TheVariants.{Finished}
use Rattle.faaslet_meaning.specs.declared.grant.Channel.{Channel}
use Rattle.faaslet_meaning.specs.declared.grant.Channel.TheVariants.{Local, Global, Table as OnTable}
use Rattle.faaslet_meaning.specs.declared.outcome.Outcome.{Outcome}
use Rattle.faaslet_meaning.specs.Channels.{RegionOperation, Told}
use Rattle.faaslet_meaning.specs.Channels as channels
use Rattle.faaslet_meaning.specs.Region.{replica, global_value}
use Rattle.faaslet_meaning.specs.Table.{empty_table}
use Rattle.faaslet_meaning.specs.Records.{host_of}
use Rattle.faaslet_meaning.specs.History.{History}
use Rattle.faaslet_meaning.specs.Call.{output_limit}
use Rattle.faaslet_meaning.specs.Runs.{Runs}
use Rattle.session_meaning.specs.Plan.{NamedFunction, Plan, callables}
use Rattle.session_meaning.specs.WellFormed.{GrantFits}
use Rattle.session_meaning.specs.Answered.{Answered, asked_on, asked_on_table, told_of}
use Rattle.session_meaning.specs.World.{World}

-- the history of a replica, and of a global value
abbrev pub local_history : World → ℕ → ℕ → History RegionOperation
local_history w host key = elim (option_and_then (λ objects. slice_get objects key) (slice_get w.locals host)) [ None ↦ [] | Some o ↦ o.history ]

abbrev pub global_history : World → ℕ → History RegionOperation
global_history w key = elim (slice_get w.globals key) [ None ↦ [] | Some o ↦ o.history ]

-- What a call that was taken at this host asked on the object of a channel, with the replies. It is the maker of its
-- entries. What takes and finishes it, and what submits it where it is a request's, stands on the table as its own entry too, and
-- is no question.
abbrev pub heard : Plan → World → ℕ → ℕ → Channel → List Answered
heard plan w host call (Local key) =
    elim (slice_get plan.keys key) [ None ↦ [] | Some k ↦ asked_on call (replica k.size) (local_history w host key) ]
heard plan w host call (Global key) =
    elim (slice_get plan.keys key) [ None ↦ [] | Some k ↦ asked_on call (global_value k.size k.init) (global_history w key) ]
heard plan w host call OnTable = asked_on_table call (empty_table plan.hosts (callables plan)) w.table_history

-- what it was told: on each channel its own entries, each with the reply at its place
abbrev pub told_at : Plan → World → ℕ → ℕ → Told
told_at plan w host call ch = told_of (heard plan w host call ch)

abbrev pub told : Plan → World → ℕ → Told
told plan w call ch = elim (option_and_then (λ r. host_of r.state) (slice_get w.table.records call)) [ None ↦ [] | Some host ↦ told_at plan w host call ch ]

-- The call ran as its module says with what it was told, and its counts are those of its entries.
pub record RanAs (plan : Plan) (w : World) (call : ℕ) (r : CallRecord) (outcome : Outcome) (used : ℕ) (output counts : List ℕ) : Type 0 where
  pub function : NamedFunction
  pub function_so : slice_get plan.functions r.function ≡ Some function
  pub runs : Runs function.function r.input (told plan w call) outcome output used
  pub counts_so : counts ≡ channels.counts function.function.grants (told plan w call)

abbrev pub RanBy : Plan → World → ℕ → CallRecord → CallState → Type 0
RanBy plan w call r (Finished host bench order outcome used output counts) = RanAs plan w call r outcome used output counts
RanBy plan w call r s = Unit {0}

-- so of each finished record of a world
abbrev pub CallsRan : Plan → World → Type 0
CallsRan plan w = (call : ℕ) (r : CallRecord) → slice_get w.table.records call ≡ Some r → RanBy plan w call r r.state

-- What it takes: initial bytes fit their key, each grant names a key and has its size, and no room is greater than the
-- output of a child may be.
pub record CallsFit (plan : Plan) : Type 0 where
  pub keys : All (λ k. length k.init ≤ k.size) plan.keys
  pub grants : All (λ f. All (GrantFits plan.keys) f.function.grants) plan.functions
  pub rooms : All (λ f. f.function.room ≤ output_limit) plan.functions
