-- The events that a trace offers, read off the calls that are queued and those that are open. This project's own.
use Rattle.std.specs.Prelude.{◌≡◌, ℕ, ◌*◌, Bool, true, false, List, ◌++◌, All, length, map, filter, is_none, nat_lt, ◌||◌}
use Rattle.std.specs.List.{flat_map, range_with_len}
use Rattle.faaslet_meaning.specs.Records.{queued_calls}
use Rattle.session_meaning.specs.declared.event.Event.{Event}
use Rattle.session_meaning.specs.declared.event.Event.TheVariants.{Take, Ask, End}
use Rattle.session_meaning.specs.Events.{why}
use Rattle.session_meaning.specs.Plan.{Plan}
use Rattle.session_meaning.specs.Schedule.{is_awaited, open_calls}
use Rattle.session_meaning.specs.World.{World}
use Rattle.world_core.specs.declared.floor.Floor.{Floor}
use Rattle.world_core.specs.declared.floor.Seat.{Seat}
use Rattle.world_core.specs.declared.floor.Stand.{Stand}
use Rattle.world_core.specs.declared.floor.Stand.TheVariants as stand
use Rattle.world_core.specs.declared.floor.Waiting.{Waiting}

-- a worker is free
abbrev pub has_worker_on : Floor → Bool
has_worker_on f = nat_lt (length f.open.items) f.workers

-- a queued call is offered where it is awaited or a worker is free
abbrev pub may_take : Bool → Waiting → Bool
may_take worker q = q.awaited || worker

abbrev pub same_stand : Stand → Stand → Bool
same_stand stand.Free stand.Free = true
same_stand stand.Blocked stand.Blocked = true
same_stand stand.Ended stand.Ended = true
same_stand _ _ = false

abbrev pub has_stand : Stand → Seat → Bool
has_stand s seat = same_stand seat.stand s

abbrev pub takes_at : ℕ → ℕ → List Event
takes_at hosts call = map (λ host. Take call host) (range_with_len 0 hosts)

abbrev pub takes_on : Floor → List Event
takes_on f = flat_map (λ (q : Waiting). takes_at f.hosts q.call) (filter (may_take (has_worker_on f)) f.queued.items)

abbrev pub asks_on : Floor → List Event
asks_on f = map (λ (s : Seat). Ask s.call) (filter (has_stand stand.Free) f.open.items)

abbrev pub ends_on : Floor → List Event
ends_on f = map (λ (s : Seat). End s.call) (filter (has_stand stand.Ended) f.open.items)

-- each Take by call and then host, each Ask by call, each End by call
abbrev pub offered_on : Floor → List Event
offered_on f = takes_on f ++ asks_on f ++ ends_on f

-- an open call stands so in a world
pub record StandsSo (w : World) (s : Seat) : Type 0 where
  pub free : has_stand stand.Free s ≡ is_none (why w (Ask s.call))
  pub has_ended : has_stand stand.Ended s ≡ is_none (why w (End s.call))

-- these are the calls of a world that are queued and open
pub record FloorHas (plan : Plan) (w : World) (f : Floor) : Type 0 where
  pub hosts : f.hosts ≡ w.table.hosts
  pub workers : f.workers ≡ plan.hosts * plan.workers
  pub queued : map (λ (q : Waiting). q.call) f.queued.items ≡ queued_calls w.table.records
  pub awaited : All (λ (q : Waiting). q.awaited ≡ is_awaited w q.call) f.queued.items
  pub open_so : map (λ (s : Seat). s.call) f.open.items ≡ open_calls w
  pub calls : length w.calls ≡ length w.table.records

-- and each open call stands on the floor as it stands in the world
pub record FloorOf (plan : Plan) (w : World) (f : Floor) : Type 0 where
  pub has : FloorHas plan w f
  pub stands : All (StandsSo w) f.open.items
