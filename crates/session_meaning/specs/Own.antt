-- Which entries of a session belong to which call, and so what each call was told. This project's own.
use Rattle.std.specs.Prelude.{ℕ, ◌*◌, ◌/◌, Bool, List, [], ◌∷◌, ◌++◌, Option, Some, None, false, length, filter, take, drop, slice_get, unwrap_or, nat_lt, ◌==◌, ◌&&◌, if◌then◌else◌}
use Rattle.faaslet_meaning.specs.declared.call.CallRecord.{CallRecord}
use Rattle.faaslet_meaning.specs.declared.call.CallState.{CallState}
use Rattle.faaslet_meaning.specs.declared.call.CallState.TheVariants.{Queued, Taken, Finished}
use Rattle.faaslet_meaning.specs.declared.grant.Channel.{Channel}
use Rattle.faaslet_meaning.specs.declared.grant.Channel.TheVariants.{Local, Global, Table as OnTable}
use Rattle.faaslet_meaning.specs.Lists.{total}
use Rattle.faaslet_meaning.specs.Channels.{RegionOperation, Told, channels, same_channel}
use Rattle.faaslet_meaning.specs.Region.{replica, global_value}
use Rattle.faaslet_meaning.specs.Table.{TableOperation, empty_table}
use Rattle.faaslet_meaning.specs.Records.{host_of}
use Rattle.faaslet_meaning.specs.History.{History}
use Rattle.session_meaning.specs.Plan.{Key, Plan, callables}
use Rattle.session_meaning.specs.Answered.{Answered, asked_on, asked_on_table, told_of}

-- What a session has at its end: its records, and what was seen of each object, of the replicas by host and key.
pub record Session : Type 0 where
  pub records : List CallRecord
  pub locals : List (List (History RegionOperation))
  pub globals : List (History RegionOperation)
  pub table_history : History TableOperation

-- Makers below this are benches: eight for each worker. The others are the session's.
abbrev pub benches : Plan → ℕ
benches plan = 8 * plan.hosts * plan.workers

-- the host of a bench: the workers of a host have one number after the other
abbrev pub host_of_bench : Plan → ℕ → ℕ
host_of_bench plan bench = bench / 8 / plan.workers

-- ---- Histories. That of a replica or of the table is what was seen of it.

abbrev pub local_history : Session → ℕ → ℕ → History RegionOperation
local_history s host key = unwrap_or (slice_get (unwrap_or (slice_get s.locals host) []) key) []

-- that of a global value ends with the session's read of the whole value
abbrev pub with_last_read : Plan → Key → History RegionOperation → History RegionOperation
with_last_read plan k seen = seen ++ (benches plan, RegionOperation.read 0 k.size) ∷ []

abbrev pub global_history : Plan → Session → Key → ℕ → History RegionOperation
global_history plan s k key = with_last_read plan k (unwrap_or (slice_get s.globals key) [])

-- ---- What a bench asked on the object of a channel, with the replies.

abbrev pub heard : Plan → Session → ℕ → ℕ → Channel → List Answered
heard plan s bench host (Local key) =
    elim (slice_get plan.keys key) [ None ↦ [] | Some k ↦ asked_on bench (replica k.size) (local_history s host key) ]
heard plan s bench host (Global key) =
    elim (slice_get plan.keys key) [ None ↦ [] | Some k ↦ asked_on bench (global_value k.size k.init) (global_history plan s k key) ]
heard plan s bench host OnTable =
    asked_on_table bench (empty_table plan.hosts (callables plan)) s.table_history

-- how many entries a bench has on the object, of whatever kind
abbrev pub made_by : {O : Type 0} → ℕ → History O → ℕ
made_by bench history = length (filter (λ e. e.0 == bench) history)

abbrev pub made : Plan → Session → ℕ → ℕ → Channel → ℕ
made plan s bench host (Local key) = made_by bench (local_history s host key)
made plan s bench host (Global key) = elim (slice_get plan.keys key) [ None ↦ 0 | Some k ↦ made_by bench (global_history plan s k key) ]
made plan s bench host OnTable = made_by bench s.table_history

-- ---- The parts of the calls of one bench.

-- where a call was taken: the bench, and how many calls were taken before; and its counts
abbrev pub bench_of : CallState → Option ℕ
bench_of Queued = None
bench_of (Taken host bench order) = Some bench
bench_of (Finished host bench order o used output counts) = Some bench

abbrev pub order_of : CallState → ℕ
order_of Queued = 0
order_of (Taken host bench order) = order
order_of (Finished host bench order o used output counts) = order

abbrev pub counts_of : CallState → List ℕ
counts_of (Finished host bench order o used output counts) = counts
counts_of _ = []

-- the count of a channel, 0 where there is no such channel
abbrev pub count_in : List Channel → List ℕ → Channel → ℕ
count_in (ch ∷ chs) (n ∷ ns) sought = if same_channel ch sought then n else count_in chs ns sought
count_in _ _ sought = 0

abbrev pub channels_of : Plan → CallRecord → List Channel
channels_of plan r = elim (slice_get plan.functions r.function) [ None ↦ [] | Some f ↦ channels f.function.grants ]

abbrev pub count_on : Plan → CallRecord → Channel → ℕ
count_on plan r ch = count_in (channels_of plan r) (counts_of r.state) ch

-- a call of this bench, and one that was taken before
abbrev pub is_of_bench : ℕ → CallRecord → Bool
is_of_bench bench r = elim (bench_of r.state) [ None ↦ false | Some b ↦ b == bench ]

abbrev pub is_before : ℕ → ℕ → CallRecord → Bool
is_before bench order r = is_of_bench bench r && nat_lt (order_of r.state) order

-- how many entries the earlier calls of the bench made on a channel
abbrev pub made_before : Plan → Session → ℕ → ℕ → Channel → ℕ
made_before plan s bench order ch = total (λ r. count_on plan r ch) (filter (is_before bench order) s.records)

-- The entries of a bench are cut into consecutive parts, one for each of its calls in the order in which they were taken, each
-- as long as the call's count. The entries of a call are its part.
abbrev pub part : Plan → Session → CallRecord → ℕ → ℕ → Channel → List Answered
part plan s r host bench ch =
    take (count_on plan r ch) (drop (made_before plan s bench (order_of r.state) ch) (heard plan s bench host ch))

abbrev pub own : Plan → Session → CallRecord → Channel → List Answered
own plan s r ch = elim (host_of r.state) [ None ↦ [] | Some host ↦ elim (bench_of r.state) [ None ↦ [] | Some bench ↦ part plan s r host bench ch ] ]

-- what a call was told: each of its entries with its reply
abbrev pub told : Plan → Session → CallRecord → Told
told plan s r ch = told_of (own plan s r ch)

-- the parts of its calls are as many entries as the bench has
abbrev pub used_up : Plan → Session → ℕ → Channel → Bool
used_up plan s bench ch = made plan s bench (host_of_bench plan bench) ch == total (λ r. count_on plan r ch) (filter (is_of_bench bench) s.records)
