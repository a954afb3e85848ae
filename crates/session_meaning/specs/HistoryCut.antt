-- The part of a table history that is about calls of some functions, as a table history of its own. This project's own.
use Rattle.std.specs.Prelude.{◌≡◌, ◌==◌, ℕ, Bool, true, false, not, List, [], ◌∷◌, Option, Some, None, map, filter, filter_map, slice_get, if◌then◌else◌}
use Rattle.std.specs.List.{list_all}
use Rattle.faaslet_meaning.specs.declared.call.CallRecord.{CallRecord}
use Rattle.faaslet_meaning.specs.Lists.{passes_at}
use Rattle.faaslet_meaning.specs.Channels.{Operation, Reply}
use Rattle.faaslet_meaning.specs.Table as table
use Rattle.faaslet_meaning.specs.Table.{Table, TableOperation, empty_table, submit_request, submit, take_next, take_this, look, next}
use Rattle.faaslet_meaning.specs.History.{History, Legal, left, table_rules}
use Rattle.session_meaning.specs.Plan.{NamedFunction, Plan, Names, is_function_of, is_key_of, callables}
use Rattle.session_meaning.specs.Cut.{Part, rank, cut_table, blank_table, cut_operation, cut_table_operation, cut_plan}

abbrev pub first_table : Plan → Table
first_table plan = empty_table plan.hosts (callables plan)

-- ---- What is asked of a history.

abbrev pub is_request : TableOperation → Bool
is_request (submit_request function host input) = true
is_request op = false

-- the requests come before all other entries
abbrev pub requests_first : History TableOperation → Bool
requests_first [] = true
requests_first (e ∷ es) = if is_request e.1 then requests_first es else list_all (λ e. not (is_request e.1)) es

-- a call submits calls of what its function may call
abbrev pub MayCall : Plan → Table → TableOperation → Type 0
MayCall plan t (submit parent function input) =
    (p : CallRecord) → slice_get t.records parent ≡ Some p → (f : NamedFunction) × (slice_get plan.functions p.function ≡ Some f) × (k : ℕ) × (slice_get f.function.callees k ≡ Some function)
MayCall plan t op = Unit {0}

abbrev pub CallsGranted : Plan → Table → History TableOperation → Type 0
CallsGranted plan t [] = Unit {0}
CallsGranted plan t (e ∷ es) = MayCall plan t e.1 × CallsGranted plan (table.after t e.0 e.1) es

-- ---- The cut.

-- a TakeNext is the TakeThis of the call that it takes
abbrev pub explicit : Table → TableOperation → TableOperation
explicit t (take_next host bench) = elim (next t host) [ None ↦ take_next host bench | Some call ↦ take_this call host bench ]
explicit t op = op

abbrev pub all_explicit : Table → History TableOperation → List TableOperation
all_explicit t [] = []
all_explicit t (e ∷ es) = explicit t e.1 ∷ all_explicit (table.after t e.0 e.1) es

-- The entries on kept calls. Who made them is left blank, as the benches are.
abbrev pub cut_history : Part → Table → History TableOperation → History TableOperation
cut_history part t es = map (λ op. (0, op)) (filter_map (cut_table_operation part) (all_explicit t es))

-- ---- What calls ask the table, and what they are told.

-- a Submit and a Look, with the call that asks
abbrev pub asks : TableOperation → Option (ℕ × Operation)
asks (submit parent function input) = Some (parent, Operation.submit function input)
asks (look parent child) = Some (parent, Operation.look child)
asks op = None

-- each Submit and each Look by its call, with its reply
abbrev pub asked_in : Table → History TableOperation → List (ℕ × (Operation × Reply))
asked_in t [] = []
asked_in t (e ∷ es) = elim (asks e.1) [ None ↦ asked_in (table.after t e.0 e.1) es | Some a ↦ (a.0, (a.1, table.reply t e.0 e.1)) ∷ asked_in (table.after t e.0 e.1) es ]

-- what one call was told
abbrev pub told_in : ℕ → List (ℕ × (Operation × Reply)) → List (Operation × Reply)
told_in call all = map (λ a. a.1) (filter (λ a. a.0 == call) all)

-- of a kept call, with the function that it submits numbered anew
abbrev pub cut_told : Part → Operation × Reply → Operation × Reply
cut_told part x = (cut_operation part.functions x.0, x.1)

-- these functions and keys, with the calls of these functions that a history leaves
abbrev pub part_in : Plan → Names → Names → History TableOperation → Part
part_in plan functions keys es =
    record {
      functions = is_function_of plan functions;
      keys = is_key_of plan keys;
      calls = passes_at (λ r. is_function_of plan functions r.function) (left table_rules (first_table plan) es).records;
    }

-- The cut of a history is a history of the cut plan. It is legal where the whole is, it leaves the cut of what the whole leaves, but
-- for what is blank, and the Submits and Looks of these calls, and of each of them, are the same in it and get the same replies.
pub record HistoryOfCut (plan : Plan) (part : Part) (es : History TableOperation) : Type 0 where
  pub legal : Legal table_rules (first_table plan) es → Legal table_rules (first_table (cut_plan part plan)) (cut_history part (first_table plan) es)
  pub leaves : cut_table part (left table_rules (first_table plan) es) ≡ blank_table (left table_rules (first_table (cut_plan part plan)) (cut_history part (first_table plan) es))
  pub told : asked_in (first_table (cut_plan part plan)) (cut_history part (first_table plan) es) ≡ map (λ a. (rank part.calls a.0, cut_told part a.1)) (filter (λ a. part.calls a.0) (asked_in (first_table plan) es))
  pub each_call : (call : ℕ) → part.calls call ≡ true → told_in (rank part.calls call) (asked_in (first_table (cut_plan part plan)) (cut_history part (first_table plan) es)) ≡ map (cut_told part) (told_in call (asked_in (first_table plan) es))
