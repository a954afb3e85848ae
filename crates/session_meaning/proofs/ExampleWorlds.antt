-- What the worked examples of worlds are made of.
use Rattle.std.proofs.Common.{ℕ, zero, suc, List, [], ◌∷◌}
use Rattle.std.specs.Prelude.{◌++◌, pos, codes, Option, Some, None, length, map, option_map, slice_get}
use Rattle.faaslet_meaning.specs.declared.instr.ValType.TheVariants.{I32, I64}
use Rattle.faaslet_meaning.specs.declared.instr.Instr.{Instr}
use Rattle.faaslet_meaning.specs.declared.instr.Instr.TheVariants.{Unreachable, Loop, Br, Drop, Call, Load, Store, MemoryGrow, I32Const, I64Const, Num, End}
use Rattle.faaslet_meaning.specs.declared.module.FuncType.{FuncType}
use Rattle.faaslet_meaning.specs.declared.module.Module.{Module}
use Rattle.session_meaning.specs.declared.event.Event.{Event}
use Rattle.session_meaning.specs.declared.event.Event.TheVariants.{End}
use Rattle.session_meaning.specs.declared.event.Why.{Why}
use Rattle.faaslet_meaning.specs.declared.grant.Grant.{Grant}
use Rattle.faaslet_meaning.specs.declared.grant.Mode.TheVariants.{Write}
use Rattle.faaslet_meaning.specs.Channels.{RegionOperation}
use Rattle.faaslet_meaning.specs.Fresh.{Function}
use Rattle.session_meaning.specs.Plan.{Key, NamedFunction, Request, Plan}
use Rattle.session_meaning.specs.World.{World, Object, first_world}
use Rattle.session_meaning.specs.Events.{why, step, world}
use Rattle.session_meaning.specs.Schedule.{offered, pick, next_of}
use Rattle.session_meaning.specs.SessionReport.{world_report}
use Rattle.faaslet_meaning.proofs.ExampleRuns.{module_of, function, body, one_page, host, func_type}

abbrev pub c : ℕ → Instr
c n = I32Const (pos n)

-- a function with the fuel of a session file and these grants
abbrev pub of_module : Module → List Grant → List ℕ → Function
of_module m grants callees = function m 100000000 grants callees

-- key 0 of size 1 with the mode Write
abbrev pub writes_key : List Grant
writes_key = record { key = 0; size = 1; mode = Write } ∷ []

abbrev types : List FuncType
types = func_type (I32 ∷ []) (I32 ∷ []) ∷ func_type (I32 ∷ []) [] ∷ []

abbrev pub wr : Module
wr = module_of types (host (codes "get_state") 1 ∷ []) one_page (body (c 0 ∷ Call 0 ∷ c 1 ∷ Store 0x3A 0 0 ∷ c 0 ∷ []))

abbrev pub rd : Module
rd = module_of types (host (codes "get_state") 1 ∷ []) one_page (body (c 0 ∷ Call 0 ∷ Load 0x2D 0 0 ∷ []))

abbrev pub pu : Module
pu = module_of types (host (codes "push_state") 2 ∷ []) one_page (body (c 0 ∷ Call 0 ∷ c 0 ∷ []))

abbrev pub pl : Module
pl = module_of types (host (codes "pull_state") 2 ∷ host (codes "get_state") 1 ∷ []) one_page (body (c 0 ∷ Call 0 ∷ c 0 ∷ Call 1 ∷ Load 0x2D 0 0 ∷ []))

abbrev pub hold : Module
hold = module_of types (host (codes "lock_global_write") 2 ∷ []) one_page (body (c 0 ∷ Call 0 ∷ Unreachable ∷ []))

abbrev pub lock : Module
lock = module_of types (host (codes "lock_global_write") 2 ∷ host (codes "unlock_global") 2 ∷ []) one_page (body (c 0 ∷ Call 0 ∷ c 0 ∷ Call 1 ∷ c 0 ∷ []))

abbrev pub sec : Module
sec = module_of types (host (codes "lock_state_write") 2 ∷ host (codes "unlock_state") 2 ∷ []) one_page (body (c 0 ∷ Call 0 ∷ c 0 ∷ Call 1 ∷ c 0 ∷ []))

abbrev pub span : Module
span = module_of types (host (codes "get_state") 1 ∷ []) one_page (body (c 0 ∷ Call 0 ∷ Drop ∷ c 65532 ∷ Load 0x29 3 0 ∷ I64Const (pos 32) ∷ Num 0x88 ∷ Num 0xA7 ∷ []))

-- four bytes of data at 0
abbrev pub app : Module
app =
    record (module_of (func_type (I32 ∷ I32 ∷ I32 ∷ []) (I32 ∷ []) ∷ []) (host (codes "append_state") 1 ∷ []) one_page (body (c 0 ∷ c 0 ∷ c 4 ∷ Call 0 ∷ Drop ∷ c 0 ∷ c 0 ∷ c 1 ∷ Call 0 ∷ []))) {
      segments = record { memory = 0; offset = c 0 ∷ End ∷ []; bytes = 0x61 ∷ 0x62 ∷ 0x63 ∷ 0x64 ∷ [] } ∷ [];
    }

-- submits a child, and awaits it
abbrev chaining : List FuncType
chaining = func_type (I32 ∷ I32 ∷ I32 ∷ []) (I32 ∷ []) ∷ func_type (I32 ∷ []) (I64 ∷ []) ∷ func_type (I32 ∷ []) [] ∷ []

abbrev pub mom : Module
mom =
    module_of chaining (host (codes "lock_global_write") 3 ∷ host (codes "chain_call") 1 ∷ host (codes "await_call") 2 ∷ []) one_page (body (c 0 ∷ Call 0 ∷ c 0 ∷ c 0 ∷ c 0 ∷ Call 1 ∷ Call 2 ∷ Num 0xA7 ∷ []))

abbrev child : List Instr
child = c 0 ∷ c 0 ∷ c 0 ∷ Call 0 ∷ Drop ∷ []

abbrev pub par : Module
par = module_of chaining (host (codes "chain_call") 1 ∷ host (codes "await_call") 2 ∷ []) one_page (body (child ++ child ++ c 0 ∷ Call 1 ∷ Num 0xA7 ∷ c 1 ∷ Call 1 ∷ Num 0xA7 ∷ Num 0x6A ∷ []))

abbrev pub kid : Module
kid = module_of [] [] one_page (body (c 21 ∷ []))

-- submits children until no more may come
abbrev pub many : Module
many = module_of chaining (host (codes "chain_call") 1 ∷ []) one_page (body (Loop (Some I32) ∷ child ++ Br 0 ∷ End ∷ []))

-- pages are grown by 2, 1 and 0, and the answers added
abbrev pub grow : Module
grow = module_of [] [] one_page (body (c 2 ∷ MemoryGrow ∷ c 1 ∷ MemoryGrow ∷ Num 0x6A ∷ c 0 ∷ MemoryGrow ∷ Num 0x6A ∷ []))

abbrev pub named : List ℕ → Function → NamedFunction
named name f = record { name = name; function = f }

abbrev pub request : List ℕ → ℕ → Request
request label f = record { label = label; function = f; host = 0; input = [] }

-- key `k` of size 1, with one byte 0
abbrev pub one_key : List Key
one_key = record { name = codes "k"; size = 1; init = 0 ∷ [] } ∷ []

-- one worker a host
abbrev pub plan_of : ℕ → List Key → List NamedFunction → List Request → Plan
plan_of hosts keys functions requests = record { hosts = hosts; workers = 1; keys = keys; functions = functions; requests = requests }

-- with so many workers a host
abbrev pub with_workers : ℕ → Plan → Plan
with_workers n plan = record plan { workers = n }

-- What is seen of a list of events, where an event that may not stand is passed over: why not, and the world at the end.
pub data SeenWorld : Type 0 where
  seen : (refused : List Why) (w : World) → SeenWorld

abbrev refuse : Why → SeenWorld → SeenWorld
refuse y (seen ys w) = seen (y ∷ ys) w

abbrev pub run_on : Plan → World → List Event → SeenWorld
run_on plan w [] = seen [] w
run_on plan w (e ∷ es) = elim (why w e) [ None ↦ run_on plan (step plan w e) es | Some y ↦ refuse y (run_on plan w es) ]

abbrev pub run_world : Plan → List Event → SeenWorld
run_world plan events = run_on plan (first_world plan) events

abbrev pub refused : SeenWorld → List Why
refused (seen ys w) = ys

abbrev pub at_end : SeenWorld → World
at_end (seen ys w) = w

abbrev pub reported : Plan → SeenWorld → List ℕ
reported plan s = world_report plan (at_end s)

-- the operations of a history, without their makers
abbrev pub operations : Option Object → List RegionOperation
operations None = []
operations (Some o) = map (λ e. e.1) o.history

abbrev pub global_operations : World → ℕ → List RegionOperation
global_operations w key = operations (slice_get w.globals key)

abbrev pub local_operations : World → ℕ → ℕ → List RegionOperation
local_operations w host key = elim (slice_get w.locals host) [ None ↦ [] | Some objects ↦ operations (slice_get objects key) ]

abbrev pub with_event : Event → Option (List Event) → Option (List Event)
with_event e None = None
with_event e (Some es) = Some (e ∷ es)

abbrev pub pick_by : List Event → Option Event → (Event → Option (List Event)) → Option (List Event)
pick_by [] p go = Some []
pick_by (o ∷ os) None go = None
pick_by (o ∷ os) (Some e) go = with_event e (go e)

-- The events that a seed picks, where they are fewer than n.
abbrev pub picked_from : Plan → ℕ → World → ℕ → Option (List Event)
picked_from plan zero w x = None
picked_from plan (suc n) w x = pick_by (offered plan w) (slice_get (offered plan w) (pick (next_of x) (length (offered plan w)))) (λ e. picked_from plan n (step plan w e) (next_of x))

abbrev pub picked : Plan → ℕ → ℕ → Option (List Event)
picked plan n seed = picked_from plan n (first_world plan) seed

-- what is seen of the world of what a seed picks
abbrev pub seen_of : {A : Type 0} → Plan → ℕ → ℕ → (World → A) → Option A
seen_of plan n seed see = option_map (λ events. see (world plan events)) (picked plan n seed)

-- the report of what a seed picks
abbrev pub traced : Plan → ℕ → ℕ → Option (List ℕ)
traced plan n seed = seen_of plan n seed (world_report plan)
