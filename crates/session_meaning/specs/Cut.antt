-- The part of a session that some functions and some keys make up, as a session of its own: what is kept is numbered anew in
-- its order, and where calls were placed, on which bench they ran and in which order they were taken is left blank. This
-- project's own.
use Rattle.session_meaning.specs.Events.{Worlds, step}
use Rattle.std.specs.Prelude.{true, false, ◌≡◌, ℕ, zero, suc, Bool, List, [], ◌∷◌, Option, Some, None, map, filter, filter_map, option_map, if◌then◌else◌}
use Rattle.faaslet_meaning.specs.declared.call.CallRecord.{CallRecord}
use Rattle.faaslet_meaning.specs.declared.call.CallState.{CallState}
use Rattle.faaslet_meaning.specs.declared.call.CallState.TheVariants.{Queued, Taken, Finished}
use Rattle.session_meaning.specs.declared.event.Event.{Event}
use Rattle.session_meaning.specs.declared.event.Event.TheVariants.{Take, Ask, End}
use Rattle.session_meaning.specs.declared.event.Why.{Why}
use Rattle.session_meaning.specs.declared.event.Why.TheVariants.{Holder, Child}
use Rattle.faaslet_meaning.specs.declared.grant.Channel.{Channel}
use Rattle.faaslet_meaning.specs.declared.grant.Channel.TheVariants.{Local, Global, Table as OnTable}
use Rattle.faaslet_meaning.specs.declared.grant.Grant.{Grant}
use Rattle.faaslet_meaning.specs.Lists.{passes_at}
use Rattle.faaslet_meaning.specs.Channels.{Operation, Question, ask, fills, pulls, pushes, Entry}
use Rattle.faaslet_meaning.specs.CallState.{Invocation, Progress, runs, asks, over, lost}
use Rattle.faaslet_meaning.specs.Fresh.{Function}
use Rattle.faaslet_meaning.specs.Region.{Region}
use Rattle.faaslet_meaning.specs.Table.{Table, TableOperation, submit_request, submit, take_next, take_this, finish, look}
use Rattle.session_meaning.specs.Plan.{NamedFunction, Request, Plan, Names, is_function_of, is_key_of}
use Rattle.session_meaning.specs.OpenCall.{Machine, stands, is_broken, Open}
use Rattle.session_meaning.specs.World.{Object, World}

-- the items whose numbers are kept
abbrev pub kept : {A : Type 0} → (ℕ → Bool) → List A → List A
kept is [] = []
kept is (x ∷ xs) = if is 0 then x ∷ kept (λ n. is (suc n)) xs else kept (λ n. is (suc n)) xs

-- how many numbers below n are kept, which is the new number of n
abbrev pub rank : (ℕ → Bool) → ℕ → ℕ
rank is zero = 0
rank is (suc n) = if is 0 then suc (rank (λ m. is (suc m)) n) else rank (λ m. is (suc m)) n

-- which functions, keys and calls are kept
pub record Part : Type 0 where
  pub functions : ℕ → Bool
  pub keys : ℕ → Bool
  pub calls : ℕ → Bool

-- ---- Regions and their histories: each maker and each holder is a call.

abbrev pub cut_region : (ℕ → Bool) → Region → Region
cut_region calls s = record s { writer = option_map (rank calls) s.writer; readers = map (rank calls) s.readers }

abbrev pub cut_entry : {O : Type 0} → (ℕ → Bool) → ℕ × O → ℕ × O
cut_entry calls e = (rank calls e.0, e.1)

abbrev pub cut_object : (ℕ → Bool) → Object → Object
cut_object calls o = record { region = cut_region calls o.region; history = map (cut_entry calls) o.history }

abbrev pub cut_objects : Part → List Object → List Object
cut_objects part os = map (cut_object part.calls) (kept part.keys os)

-- ---- Functions and calls.

abbrev pub cut_grant : (ℕ → Bool) → Grant → Grant
cut_grant keys g = record g { key = rank keys g.key }

abbrev pub cut_function : Part → Function → Function
cut_function part f = record f { grants = map (cut_grant part.keys) f.grants; callees = map (rank part.functions) f.callees }

abbrev pub cut_invocation : Part → Invocation → Invocation
cut_invocation part j = record j { program = record j.program { grants = map (cut_grant part.keys) j.program.grants }; callees = map (rank part.functions) j.callees }

abbrev pub cut_channel : (ℕ → Bool) → Channel → Channel
cut_channel keys (Local key) = Local (rank keys key)
cut_channel keys (Global key) = Global (rank keys key)
cut_channel keys OnTable = OnTable

abbrev pub cut_operation : (ℕ → Bool) → Operation → Operation
cut_operation functions (Operation.submit f input) = Operation.submit (rank functions f) input
cut_operation functions op = op

abbrev pub cut_question : Part → Question → Question
cut_question part (ask ch op) = ask (cut_channel part.keys ch) (cut_operation part.functions op)
cut_question part (fills key size) = fills (rank part.keys key) size
cut_question part (pulls key off len) = pulls (rank part.keys key) off len
cut_question part (pushes key off len) = pushes (rank part.keys key) off len

abbrev pub cut_asked : Part → Entry → Entry
cut_asked part e = record e { channel = cut_channel part.keys e.channel; operation = cut_operation part.functions e.operation }

-- the state of a call has places of its grants, and no numbers of the plan
abbrev pub cut_progress : Part → Progress → Progress
cut_progress part (runs s) = runs s
cut_progress part (asks s q) = asks s (cut_question part q)
cut_progress part (over s o) = over s o
cut_progress part lost = lost

abbrev pub cut_machine : Part → Machine → Machine
cut_machine part (stands p) = stands (cut_progress part p)
cut_machine part (is_broken k) = is_broken k

abbrev pub cut_open : Part → Open → Open
cut_open part o = record o { invocation = cut_invocation part o.invocation; machine = cut_machine part o.machine }

-- ---- The call table.

abbrev pub blank_state : CallState → CallState
blank_state Queued = Queued
blank_state (Taken host bench order) = Taken host 0 0
blank_state (Finished host bench order o used output counts) = Finished host 0 0 o used output counts

abbrev pub blank_record : CallRecord → CallRecord
blank_record r = record r { placed = 0; state = blank_state r.state }

-- Requests come first on the table, so a request has the number of its first call.
abbrev pub cut_record : Part → CallRecord → CallRecord
cut_record part r =
    record r { request = rank part.calls r.request; parent = option_map (rank part.calls) r.parent; function = rank part.functions r.function; placed = 0; state = blank_state r.state }

abbrev pub cut_table : Part → Table → Table
cut_table part t =
    record t { functions = kept part.functions t.functions; records = map (cut_record part) (kept part.calls t.records) }

abbrev pub blank_table : Table → Table
blank_table t = record t { records = map blank_record t.records }

-- the entries on kept calls; a TakeNext is no entry of a world
abbrev pub only : Bool → TableOperation → Option TableOperation
only is op = if is then Some op else None

abbrev pub cut_table_operation : Part → TableOperation → Option TableOperation
cut_table_operation part (submit_request f host input) = only (part.functions f) (submit_request (rank part.functions f) host input)
cut_table_operation part (submit parent f input) = only (part.calls parent) (submit (rank part.calls parent) (rank part.functions f) input)
cut_table_operation part (take_next host bench) = None
cut_table_operation part (take_this call host bench) = only (part.calls call) (take_this (rank part.calls call) host 0)
cut_table_operation part (finish call o used output counts) = only (part.calls call) (finish (rank part.calls call) o used output counts)
cut_table_operation part (look parent child) = only (part.calls parent) (look (rank part.calls parent) child)

abbrev pub cut_table_entry : Part → ℕ × TableOperation → Option (ℕ × TableOperation)
cut_table_entry part e = option_map (λ op. (rank part.calls e.0, op)) (cut_table_operation part e.1)

abbrev pub blank_entry : ℕ × TableOperation → ℕ × TableOperation
blank_entry e = elim e.1 [ take_this call host bench ↦ (e.0, take_this call host 0) | _ ↦ e ]

-- ---- Worlds, plans and events.

abbrev pub cut : Part → World → World
cut part w =
    record {
      table = cut_table part w.table;
      table_history = filter_map (cut_table_entry part) w.table_history;
      calls = map (option_map (cut_open part)) (kept part.calls w.calls);
      locals = map (cut_objects part) w.locals;
      globals = cut_objects part w.globals;
    }

abbrev pub blank : World → World
blank w = record w { table = blank_table w.table; table_history = map blank_entry w.table_history }

abbrev pub cut_named : Part → NamedFunction → NamedFunction
cut_named part f = record f { function = cut_function part f.function }

abbrev pub cut_request : Part → Request → Request
cut_request part r = record r { function = rank part.functions r.function }

abbrev pub cut_plan : Part → Plan → Plan
cut_plan part plan =
    record plan {
      keys = kept part.keys plan.keys;
      functions = map (cut_named part) (kept part.functions plan.functions);
      requests = map (cut_request part) (filter (λ r. part.functions r.function) plan.requests);
    }

abbrev pub call_of : Event → ℕ
call_of (Take call host) = call
call_of (Ask call) = call
call_of (End call) = call

abbrev pub cut_event : (ℕ → Bool) → Event → Event
cut_event calls (Take call host) = Take (rank calls call) host
cut_event calls (Ask call) = Ask (rank calls call)
cut_event calls (End call) = End (rank calls call)

-- why an event on a kept call may not stand, with the calls that are named
abbrev pub cut_why : (ℕ → Bool) → Why → Why
cut_why calls (Holder holder) = Holder (rank calls holder)
cut_why calls (Child child) = Child (rank calls child)
cut_why calls why = why

abbrev pub cut_events : (ℕ → Bool) → List Event → List Event
cut_events calls es = map (cut_event calls) (filter (λ e. calls (call_of e)) es)

-- the part of these functions and keys, with the calls of a world that are calls of these functions
abbrev pub calls_of : Plan → Names → World → ℕ → Bool
calls_of plan functions w call = passes_at (λ r. is_function_of plan functions r.function) w.table.records call

abbrev pub part_of : Plan → Names → Names → World → Part
part_of plan functions keys w = record { functions = is_function_of plan functions; keys = is_key_of plan keys; calls = calls_of plan functions w }

-- of a plan no call is asked for
abbrev pub plan_cut : Plan → Names → Names → Plan
plan_cut plan functions keys = cut_plan (record { functions = is_function_of plan functions; keys = is_key_of plan keys; calls = λ n. false }) plan

abbrev pub events_cut : Plan → Names → World → List Event → List Event
events_cut plan functions w es = cut_events (calls_of plan functions w) es

abbrev pub world_cut : Plan → Names → Names → World → World
world_cut plan functions keys w = cut (part_of plan functions keys w) w

-- A world of the cut plan under the cut events, each of which may stand: it is the cut of this world, but for what is blank.
pub record CutWorld (plan : Plan) (functions keys : Names) (events : List Event) (w : World) : Type 0 where
  pub small : World
  pub made : Worlds (plan_cut plan functions keys) (events_cut plan functions w events) small
  pub is_cut : world_cut plan functions keys w ≡ blank small

-- What an event leaves of a cut: on a kept call what its cut leaves of the cut world, but for what is blank, and on any other call
-- nothing.
pub record CutStep (plan : Plan) (functions keys : Names) (w : World) (e : Event) : Type 0 where
  pub kept : calls_of plan functions w (call_of e) ≡ true
      → world_cut plan functions keys (step plan w e)
      ≡ blank (step (plan_cut plan functions keys) (world_cut plan functions keys w) (cut_event (calls_of plan functions w) e))
  pub left : calls_of plan functions w (call_of e) ≡ false → world_cut plan functions keys (step plan w e) ≡ world_cut plan functions keys w
