-- The part of an ended session that some functions and some keys make up: of which calls the entries on the objects of these keys are,
-- and what the calls of these functions were told, from this part alone. This project's own.
use Rattle.std.specs.Prelude.{◌≡◌, ℕ, suc, ◌+◌, ◌<◌, ◌≤◌, Bool, true, List, [], ◌∷◌, ◌++◌, None, Some, map, slice_get, unwrap_or, if◌then◌else◌}
use Rattle.faaslet_meaning.specs.declared.call.CallRecord.{CallRecord}
use Rattle.faaslet_meaning.specs.declared.call.CallState.TheVariants.{Queued, Finished}
use Rattle.faaslet_meaning.specs.declared.grant.Channel.{Channel}
use Rattle.faaslet_meaning.specs.declared.grant.Channel.TheVariants.{Local, Global, Table as OnTable}
use Rattle.faaslet_meaning.specs.declared.outcome.Outcome.{Outcome}
use Rattle.faaslet_meaning.specs.Lists.{passes_at}
use Rattle.faaslet_meaning.specs.Channels.{RegionOperation, Told, counts}
use Rattle.faaslet_meaning.specs.History.{History}
use Rattle.faaslet_meaning.specs.Runs.{Runs}
use Rattle.faaslet_meaning.specs.Table.{TableOperation}
use Rattle.session_meaning.specs.Cut.{Part, rank, cut_plan}
use Rattle.session_meaning.specs.HistoryCut.{first_table, cut_history, asked_in, told_in, cut_told, part_in, HistoryOfCut}
use Rattle.session_meaning.specs.Plan.{NamedFunction, Plan, Names, is_function_of, is_key_of}
use Rattle.session_meaning.specs.Own.{Session, local_history, made_by, bench_of, order_of, count_on, made_before, told}

-- a call of these functions
abbrev pub calls_in : Plan → Names → Session → ℕ → Bool
calls_in plan functions s call = passes_at (λ r. is_function_of plan functions r.function) s.records call

-- ---- Entries.

-- The entry of a bench on the object of a channel, with so many of the same bench before it, is of a call of these functions: it lies
-- in the part of that call.
pub record IsOfPart (plan : Plan) (functions : Names) (s : Session) (ch : Channel) (bench before : ℕ) : Type 0 where
  pub call : ℕ
  pub r : CallRecord
  pub here : slice_get s.records call ≡ Some r
  pub is_kept : calls_in plan functions s call ≡ true
  pub of_bench : bench_of r.state ≡ Some bench
  pub from : made_before plan s bench (order_of r.state) ch ≤ before
  pub below : before < made_before plan s bench (order_of r.state) ch + count_on plan r ch

abbrev pub EntriesOfPart : Plan → Names → Session → Channel → History RegionOperation → Type 0
EntriesOfPart plan functions s ch history =
    (maker : ℕ) (op : RegionOperation) (before behind : History RegionOperation)
    → history ≡ before ++ (maker, op) ∷ behind
    → IsOfPart plan functions s ch maker (made_by maker before)

-- ---- What a call was told.

-- the items at the places that are kept, and in place of any other this one
abbrev pub masked : {A : Type 0} → (ℕ → Bool) → A → List A → List A
masked is blank [] = []
masked is blank (x ∷ xs) = (if is 0 then x else blank) ∷ masked (λ n. is (suc n)) blank xs

-- nothing is known of a call
abbrev pub no_call : CallRecord
no_call = record { request = 0; parent = None; child = 0; depth = 0; function = 0; input = []; room = 0; fuel = 0; from = 0; placed = 0; state = Queued; children = 0 }

-- the session with the calls of these functions and the histories of these keys' objects alone
abbrev pub only_part : Plan → Names → Names → Session → Session
only_part plan functions keys s =
    record {
      records = masked (calls_in plan functions s) no_call s.records;
      locals = map (masked (is_key_of plan keys) []) s.locals;
      globals = masked (is_key_of plan keys) [] s.globals;
      table_history = [];
    }

-- the cut of the table's history, with the functions, keys and calls that it keeps
abbrev pub table_part : Plan → Names → Names → Session → Part
table_part plan functions keys s = part_in plan functions keys s.table_history

abbrev pub table_cut : Plan → Names → Names → Session → History TableOperation
table_cut plan functions keys s = cut_history (table_part plan functions keys s) (first_table plan) s.table_history

-- The call ran as its module says with what it was told. On regions that is what it was told in this part of the session, and on the
-- table what its call in the cut of the table's history was told there, numbered anew.
pub record CallOfPart (plan : Plan) (functions keys : Names) (s : Session) (call : ℕ) (r : CallRecord) : Type 0 where
  pub function : NamedFunction
  pub function_so : slice_get plan.functions r.function ≡ Some function
  pub host : ℕ
  pub bench : ℕ
  pub order : ℕ
  pub outcome : Outcome
  pub used : ℕ
  pub output : List ℕ
  pub told_so : Told
  pub finished : r.state ≡ Finished host bench order outcome used output (counts function.function.grants told_so)
  pub runs : ∥ Runs function.function r.input told_so outcome output used ∥₁
  pub on_locals : (key : ℕ) → told_so (Local key) ≡ told plan (only_part plan functions keys s) r (Local key)
  pub on_globals : (key : ℕ) → told_so (Global key) ≡ told plan (only_part plan functions keys s) r (Global key)
  pub on_table : map (cut_told (table_part plan functions keys s)) (told_so OnTable) ≡ told_in (rank (table_part plan functions keys s).calls call) (asked_in (first_table (cut_plan (table_part plan functions keys s) plan)) (table_cut plan functions keys s))

-- ---- The whole. Behind what was seen of a global value stands the session's last read alone. The cut of the table's history is one of
-- the cut plan's.

pub record RanPart (plan : Plan) (functions keys : Names) (s : Session) : Type 0 where
  pub locals : (host key : ℕ) → is_key_of plan keys key ≡ true → EntriesOfPart plan functions s (Local key) (local_history s host key)
  pub globals : (key : ℕ) → is_key_of plan keys key ≡ true → EntriesOfPart plan functions s (Global key) (unwrap_or (slice_get s.globals key) [])
  pub calls : (call : ℕ) (r : CallRecord) → slice_get s.records call ≡ Some r → calls_in plan functions s call ≡ true → CallOfPart plan functions keys s call r
  pub table : HistoryOfCut plan (table_part plan functions keys s) s.table_history
