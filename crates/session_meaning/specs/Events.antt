-- What a question meets in a world, the first reason why an event may not stand, what an event leaves, and the world that a list
-- of events makes. This project's own.
use Rattle.std.specs.Prelude.{◌≡◌, ℕ, List, [], ◌∷◌, Option, Some, None, length, filter_map, fold, slice_get, unwrap_or, option_map, option_and_then, nat_lt, if◌then◌else◌}
use Rattle.faaslet_meaning.specs.declared.call.CallRecord.{CallRecord}
use Rattle.session_meaning.specs.declared.event.Event.{Event}
use Rattle.session_meaning.specs.declared.event.Event.TheVariants.{Take, Ask, End}
use Rattle.session_meaning.specs.declared.event.Why.{Why}
use Rattle.session_meaning.specs.declared.event.Why.TheVariants.{NoCall, NoHost, NotQueued, NotOpen, NotEnded, HasEnded, Holder, Child}
use Rattle.faaslet_meaning.specs.declared.grant.Channel.{Channel}
use Rattle.faaslet_meaning.specs.declared.grant.Channel.TheVariants.{Local, Global, Table as OnTable}
use Rattle.faaslet_meaning.specs.Lists.{first, passes_at, changed}
use Rattle.faaslet_meaning.specs.Channels.{RegionOperation, Operation, on_region, as_region, Reply, Question, ask, fills, pulls, pushes, Entry, entries}
use Rattle.faaslet_meaning.specs.CallState.{State}
use Rattle.faaslet_meaning.specs.Region as region
use Rattle.faaslet_meaning.specs.Region.{Region, Kind, halves, replica, global_value}
use Rattle.faaslet_meaning.specs.Table as table
use Rattle.faaslet_meaning.specs.Table.{Table, TableOperation, empty_table, submit_request, submit, take_this, finish, look}
use Rattle.faaslet_meaning.specs.Records.{is_queued, is_finished, child_of}
use Rattle.session_meaning.specs.Plan.{Plan}
use Rattle.session_meaning.specs.OpenCall.{Open, opened, asking, Ended, ended, answered}
use Rattle.session_meaning.specs.World.{World, on_table, as_parent, entered, first_world}

-- ---- What a question meets.

-- there is always an object where a call has a channel
abbrev pub local_at : World → ℕ → ℕ → Region
local_at w host key = elim (option_and_then (λ objects. slice_get objects key) (slice_get w.locals host)) [ None ↦ replica 0 | Some o ↦ o.region ]

abbrev pub global_at : World → ℕ → Region
global_at w key = elim (slice_get w.globals key) [ None ↦ global_value 0 [] | Some o ↦ o.region ]

-- the operation whose reply answers a question: of a move the one that sends
abbrev pub answering : Question → Channel × Operation
answering (ask ch op) = (ch, op)
answering (fills key size) = (Global key, on_region (RegionOperation.send 0 size))
answering (pulls key off len) = (Global key, on_region (RegionOperation.send off len))
answering (pushes key off len) = (Local key, on_region (RegionOperation.send off len))

abbrev pub reply_on : World → ℕ → ℕ → Channel → Operation → Reply
reply_on w call host (Local key) op = elim (as_region op) [ None ↦ Reply.done | Some o ↦ region.reply (local_at w host key) call o ]
reply_on w call host (Global key) op = elim (as_region op) [ None ↦ Reply.done | Some o ↦ region.reply (global_at w key) call o ]
reply_on w call host OnTable op = elim (as_parent call op) [ None ↦ Reply.done | Some o ↦ table.reply w.table call o ]

abbrev pub answer : World → ℕ → ℕ → Question → Reply
answer w call host q = let a = answering q in reply_on w call host a.0 a.1

-- its entries, with the reply that it gets now
abbrev pub entries_now : World → ℕ → ℕ → Question → List Entry
entries_now w call host q = entries q (answer w call host q)

-- What keeps a call from its question: another maker holds a lock of a region, or a child is not finished.
pub data Obstacle : Type 0 where
  held : (channel : Channel) (holder : ℕ) → Obstacle
  unfinished : (child : ℕ) → Obstacle

-- a child that is not there would have the next number
abbrev pub child_at : List CallRecord → ℕ → ℕ → ℕ
child_at records parent child = unwrap_or (child_of records parent child) (length records)

abbrev pub unfinished_child : List CallRecord → ℕ → Option Obstacle
unfinished_child records child = if passes_at (λ r. is_finished r.state) records child then None else Some (unfinished child)

-- a lock of the region to which a channel leads
abbrev pub lock_on : World → ℕ → ℕ → Channel → Kind → Option Obstacle
lock_on w call host (Local key) k = option_map (λ holder. held (Local key) holder) (region.blocker (local_at w host key) call k)
lock_on w call host (Global key) k = option_map (λ holder. held (Global key) holder) (region.blocker (global_at w key) call k)
lock_on w call host OnTable k = None

-- A Look waits for its child, any other question for the locks that its operations can't stand beside; of a move the local one is
-- tested first.
abbrev pub obstacle : World → ℕ → ℕ → Question → Option Obstacle
obstacle w call host (ask OnTable (Operation.look child)) = unfinished_child w.table.records (child_at w.table.records call child)
obstacle w call host q = first (filter_map (λ half. lock_on w call host half.0 half.1) (halves q))

-- ---- The first reason why an event may not stand.

abbrev pub open_at : World → ℕ → Option Open
open_at w call = unwrap_or (slice_get w.calls call) None

abbrev pub why_of : Obstacle → Why
why_of (held channel holder) = Holder holder
why_of (unfinished child) = Child child

abbrev pub why_take : World → CallRecord → ℕ → Option Why
why_take w r host = if nat_lt host w.table.hosts then (if is_queued r.state then None else Some NotQueued) else Some NoHost

abbrev pub why_ask : World → ℕ → Open → Option Why
why_ask w call o = elim (asking o.machine) [ None ↦ Some HasEnded | Some a ↦ option_map why_of (obstacle w call o.host a.1) ]

abbrev pub why_end : Open → Option Why
why_end o = elim (ended o) [ None ↦ Some NotEnded | Some e ↦ None ]

abbrev pub why_open : World → ℕ → (Open → Option Why) → Option Why
why_open w call reason = elim (open_at w call) [ None ↦ Some NotOpen | Some o ↦ reason o ]

abbrev pub why : World → Event → Option Why
why w (Take call host) = elim (slice_get w.table.records call) [ None ↦ Some NoCall | Some r ↦ why_take w r host ]
why w (Ask call) = elim (slice_get w.table.records call) [ None ↦ Some NoCall | Some r ↦ why_open w call (why_ask w call) ]
why w (End call) = elim (slice_get w.table.records call) [ None ↦ Some NoCall | Some r ↦ why_open w call why_end ]

-- ---- What an event that may stand leaves.

abbrev pub put_call : World → ℕ → Option Open → World
put_call w call o = record w { calls = changed w.calls call (λ old. o) }

-- The call is taken with its number as its bench.
abbrev pub open_of : Plan → CallRecord → ℕ → Option Open
open_of plan r host = option_map (λ f. opened f.function r.input host) (slice_get plan.functions r.function)

abbrev pub took : Plan → World → ℕ → ℕ → CallRecord → World
took plan w call host r = put_call (on_table w call (take_this call host call)) call (open_of plan r host)

-- Its next question is answered, and its machine goes on up to the one after that.
abbrev pub asked : World → ℕ → Open → State → Question → World
asked w call o s q =
    let es = entries_now w call o.host q in
    put_call (fold (entered call o.host) w es) call (Some (answered o s (answer w call o.host q) es))

-- It is finished as its machine has ended.
abbrev pub finished : World → ℕ → Open → Ended → World
finished w call o e = put_call (on_table w call (finish call e.outcome e.used e.output o.counts)) call None

abbrev pub asked_by : World → ℕ → Open → World
asked_by w call o = elim (asking o.machine) [ None ↦ w | Some a ↦ asked w call o a.0 a.1 ]

abbrev pub finished_by : World → ℕ → Open → World
finished_by w call o = elim (ended o) [ None ↦ w | Some e ↦ finished w call o e ]

abbrev pub step : Plan → World → Event → World
step plan w (Take call host) = elim (slice_get w.table.records call) [ None ↦ w | Some r ↦ took plan w call host r ]
step plan w (Ask call) = elim (open_at w call) [ None ↦ w | Some o ↦ asked_by w call o ]
step plan w (End call) = elim (open_at w call) [ None ↦ w | Some o ↦ finished_by w call o ]

-- ---- A list of events, each of which may stand where it comes, and the world that they make.

abbrev pub Stand : Plan → World → List Event → Type 0
Stand plan w [] = Unit {0}
Stand plan w (e ∷ es) = (why w e ≡ None) × Stand plan (step plan w e) es

abbrev pub world : Plan → List Event → World
world plan events = fold (step plan) (first_world plan) events

pub record Worlds (plan : Plan) (events : List Event) (w : World) : Type 0 where
  pub stand : Stand plan (first_world plan) events
  pub world_so : w ≡ world plan events
