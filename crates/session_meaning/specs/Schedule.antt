-- The events that a trace offers, and which of them a seed picks. This project's own.
use Rattle.std.specs.Prelude.{◌≡◌, ℕ, ◌+◌, ◌*◌, ◌/◌, ◌%◌, ◌^◌, Bool, true, false, not, List, [], ◌∷◌, ◌++◌, Option, Some, None, length, map, filter, is_some, is_none, slice_get, nat_lt, ◌==◌, ◌&&◌, ◌||◌}
use Rattle.std.specs.List.{flat_map, list_any, range_with_len}
use Rattle.session_meaning.specs.declared.event.Event.{Event}
use Rattle.session_meaning.specs.declared.event.Event.TheVariants.{Take, Ask, End}
use Rattle.faaslet_meaning.specs.declared.grant.Channel.TheVariants.{Table as OnTable}
use Rattle.faaslet_meaning.specs.Lists.{places, is_empty}
use Rattle.faaslet_meaning.specs.Channels.{Operation, Question, ask}
use Rattle.faaslet_meaning.specs.Records.{is_finished, child_of}
use Rattle.session_meaning.specs.Plan.{Plan}
use Rattle.session_meaning.specs.OpenCall.{asking}
use Rattle.session_meaning.specs.World.{World, first_world}
use Rattle.session_meaning.specs.Events.{why, step, open_at}

-- the calls that are open
abbrev pub open_calls : World → List ℕ
open_calls w = places is_some w.calls

-- the child that a question looks at
abbrev pub looked_at : Question → Option ℕ
looked_at (ask OnTable (Operation.look child)) = Some child
looked_at q = None

-- the next question of a call is the Look of another
abbrev pub looks_at : World → ℕ → ℕ → Bool
looks_at w call other =
    elim (open_at w call) [ None ↦ false | Some o ↦ elim (asking o.machine) [ None ↦ false | Some a ↦ elim (looked_at a.1) [ None ↦ false | Some child ↦ elim (child_of w.table.records call child) [ None ↦ false | Some c ↦ c == other ] ] ] ]

abbrev pub is_awaited : World → ℕ → Bool
is_awaited w call = list_any (λ other. looks_at w other call) (open_calls w)

-- a worker is free
abbrev pub has_worker : Plan → World → Bool
has_worker plan w = nat_lt (length (open_calls w)) (plan.hosts * plan.workers)

-- a Take only where the call is awaited or a worker is free; each Ask and each End
abbrev pub offers : Plan → World → Event → Bool
offers plan w (Take call host) = is_awaited w call || has_worker plan w
offers plan w e = true

abbrev pub calls_of : World → List ℕ
calls_of w = range_with_len 0 (length w.table.records)

abbrev pub takes_of : World → ℕ → List Event
takes_of w call = map (λ host. Take call host) (range_with_len 0 w.table.hosts)

-- each event that names a call and a host of the world: each Take by call and then host, each Ask by call, each End by call
abbrev pub all_events : World → List Event
all_events w = flat_map (takes_of w) (calls_of w) ++ map (λ call. Ask call) (calls_of w) ++ map (λ call. End call) (calls_of w)

-- those that may stand and are offered
abbrev pub offered : Plan → World → List Event
offered plan w = filter (λ e. is_none (why w e) && offers plan w e) (all_events w)

-- the generator: what it goes on to, and its number
abbrev pub next_of : ℕ → ℕ
next_of x = (x * 6364136223846793005 + 1442695040888963407) % 2 ^ 64

abbrev pub number_of : ℕ → ℕ
number_of x = x / 2 ^ 33

-- the place that is picked among so many
abbrev pub pick : ℕ → ℕ → ℕ
pick x count = number_of x % count

-- The events that are picked from a world on, until none is offered
pub data Picks (plan : Plan) : World → ℕ → List Event → Type 0 where
  stops : {w : World} {x : ℕ} → offered plan w ≡ [] → Picks plan w x []
  picks : {w : World} {x : ℕ} {e : Event} {es : List Event} → slice_get (offered plan w) (pick (next_of x) (length (offered plan w))) ≡ Some e → Picks plan (step plan w e) (next_of x) es → Picks plan w x (e ∷ es)

-- the schedule of a seed
abbrev pub Schedule : Plan → ℕ → List Event → Type 0
Schedule plan seed events = Picks plan (first_world plan) seed events

abbrev pub unfinished_calls : World → List ℕ
unfinished_calls w = places (λ r. not (is_finished r.state)) w.table.records

-- nothing is offered, and a call is unfinished
abbrev pub is_stuck : Plan → World → Bool
is_stuck plan w = is_empty (offered plan w) && not (is_empty (unfinished_calls w))
