-- Cuts by names: a call goes by its name, a function and a key by theirs, and no number of the whole session is left. This project's
-- own.
use Rattle.std.specs.Prelude.{◌≡◌, ℕ, suc, true, List, [], ◌∷◌, Some, None, map, filter, slice_get}
use Rattle.faaslet_meaning.specs.declared.grant.Grant.{Grant}
use Rattle.faaslet_meaning.specs.declared.grant.Mode.{Mode}
use Rattle.faaslet_meaning.specs.declared.module.Module.{Module}
use Rattle.faaslet_meaning.specs.declared.call.CallRecord.{CallRecord}
use Rattle.session_meaning.specs.declared.event.Event.{Event}
use Rattle.session_meaning.specs.declared.event.Event.TheVariants.{Take, Ask, End}
use Rattle.session_meaning.specs.Plan.{Key, NamedFunction, Request, Plan, Names, is_function_of, is_key_of}
use Rattle.session_meaning.specs.World.{World}
use Rattle.session_meaning.specs.SessionReport.{key_name}
use Rattle.session_meaning.specs.Cut.{kept, rank, call_of, calls_of, world_cut}
use Rattle.session_meaning.specs.CallNames.{CallName, call_name}

-- ---- Plans.

pub record GrantByName : Type 0 where
  pub key : List ℕ
  pub size : ℕ
  pub mode : Mode

pub record FunctionByName : Type 0 where
  pub name : List ℕ
  pub code : Module
  pub quota : ℕ
  pub fuel : ℕ
  pub room : ℕ
  pub grants : List GrantByName
  pub callees : List (List ℕ)

pub record RequestByName : Type 0 where
  pub label : List ℕ
  pub function : List ℕ
  pub host : ℕ
  pub input : List ℕ

pub record PlanByName : Type 0 where
  pub hosts : ℕ
  pub workers : ℕ
  pub keys : List Key
  pub functions : List FunctionByName
  pub requests : List RequestByName

abbrev pub function_name : Plan → ℕ → List ℕ
function_name plan f = elim (slice_get plan.functions f) [ None ↦ [] | Some g ↦ g.name ]

abbrev pub named_grant : Plan → Grant → GrantByName
named_grant plan g = record { key = key_name plan g.key; size = g.size; mode = g.mode }

abbrev pub named_function : Plan → NamedFunction → FunctionByName
named_function plan f =
    record {
      name = f.name;
      code = f.function.code;
      quota = f.function.quota;
      fuel = f.function.fuel;
      room = f.function.room;
      grants = map (named_grant plan) f.function.grants;
      callees = map (function_name plan) f.function.callees;
    }

abbrev pub named_request : Plan → Request → RequestByName
named_request plan r = record { label = r.label; function = function_name plan r.function; host = r.host; input = r.input }

-- The cut of a plan: the hosts and the workers, these keys, these functions, and the requests of these functions, in their order.
abbrev pub plan_by_name : Plan → Names → Names → PlanByName
plan_by_name plan functions keys =
    record {
      hosts = plan.hosts;
      workers = plan.workers;
      keys = filter (λ k. keys k.name) plan.keys;
      functions = map (named_function plan) (filter (λ f. functions f.name) plan.functions);
      requests = map (named_request plan) (filter (λ r. is_function_of plan functions r.function) plan.requests);
    }

-- ---- Events.

pub data EventByName : Type 0 where
  takes : (call : CallName) (host : ℕ) → EventByName
  asks ends : (call : CallName) → EventByName

abbrev pub named_event : Plan → List CallRecord → Event → EventByName
named_event plan records (Take call host) = takes (call_name plan records call) host
named_event plan records (Ask call) = asks (call_name plan records call)
named_event plan records (End call) = ends (call_name plan records call)

-- The cut of a list of events that leads to this world: those on calls of these functions.
abbrev pub events_by_name : Plan → Names → World → List Event → List EventByName
events_by_name plan functions w es = map (named_event plan w.table.records) (filter (λ e. calls_of plan functions w (call_of e)) es)

-- ---- Worlds.

-- The cut of a world. A number n of a call, a function or a key in it stands for the name at place n of its list.
pub record WorldByName : Type 0 where
  pub calls : List CallName
  pub functions : List (List ℕ)
  pub keys : List (List ℕ)
  pub world : World

-- for each item what is said of its number
abbrev pub each : {A B : Type 0} → (ℕ → B) → List A → List B
each f [] = []
each f (x ∷ xs) = f 0 ∷ each (λ n. f (suc n)) xs

abbrev pub world_by_name : Plan → Names → Names → World → WorldByName
world_by_name plan functions keys w =
    record {
      calls = kept (calls_of plan functions w) (each (call_name plan w.table.records) w.table.records);
      functions = map (λ f. f.name) (filter (λ f. functions f.name) plan.functions);
      keys = map (λ k. k.name) (filter (λ k. keys k.name) plan.keys);
      world = world_cut plan functions keys w;
    }

-- What is kept has its name at its number.
pub record NumbersStand (plan : Plan) (f k : Names) (w : World) : Type 0 where
  pub calls : (n : ℕ) (r : CallRecord) → slice_get w.table.records n ≡ Some r → calls_of plan f w n ≡ true → slice_get (world_by_name plan f k w).calls (rank (calls_of plan f w) n) ≡ Some (call_name plan w.table.records n)
  pub functions : (n : ℕ) (g : NamedFunction) → slice_get plan.functions n ≡ Some g → f g.name ≡ true → slice_get (world_by_name plan f k w).functions (rank (is_function_of plan f) n) ≡ Some g.name
  pub keys : (n : ℕ) (g : Key) → slice_get plan.keys n ≡ Some g → k g.name ≡ true → slice_get (world_by_name plan f k w).keys (rank (is_key_of plan k) n) ≡ Some g.name
