-- What is so of a session that has ended: each object has one legal history, each entry is of one call that was granted the
-- object or of the session itself, and each call ran as its module says. This project's own.
use Rattle.std.specs.Prelude.{◌≡◌, ℕ, suc, ◌<◌, Bool, true, false, not, List, [], ◌∷◌, ◌++◌, Some, None, length, map, IsTrue, slice_get, nat_lt, ◌==◌, ◌&&◌, ◌||◌, if◌then◌else◌}
use Rattle.std.specs.List.{list_any, list_all}
use Rattle.faaslet_meaning.specs.declared.call.CallRecord.{CallRecord}
use Rattle.faaslet_meaning.specs.declared.call.CallState.TheVariants.{Finished}
use Rattle.faaslet_meaning.specs.declared.grant.Channel.{Channel}
use Rattle.faaslet_meaning.specs.declared.grant.Channel.TheVariants.{Local, Global, Table as OnTable}
use Rattle.faaslet_meaning.specs.declared.grant.Grant.{Grant}
use Rattle.faaslet_meaning.specs.declared.grant.Mode.TheVariants.{Write}
use Rattle.faaslet_meaning.specs.declared.outcome.Outcome.{Outcome}
use Rattle.faaslet_meaning.specs.Lists.{is_empty}
use Rattle.faaslet_meaning.specs.MemoryRules.{includes}
use Rattle.faaslet_meaning.specs.Channels.{RegionOperation, Operation, on_region, Reply, counts}
use Rattle.faaslet_meaning.specs.Region.{Region, writes, holders, replica, global_value, reply}
use Rattle.faaslet_meaning.specs.Table.{Table, TableOperation, empty_table, submit_request, submit, look}
use Rattle.faaslet_meaning.specs.History.{History, Legal, left, Leads, region_rules, table_rules}
use Rattle.faaslet_meaning.specs.Runs.{Runs}
use Rattle.session_meaning.specs.Plan.{Key, NamedFunction, Plan, callables}
use Rattle.session_meaning.specs.Answered.{Answered}
use Rattle.session_meaning.specs.Own.{Session, benches, host_of_bench, with_last_read, own, told, used_up}

-- ---- Regions.

-- the history is legal, and leaves no lock held
pub record RegionRan (start : Region) (history : History RegionOperation) : Type 0 where
  pub legal : Legal region_rules start history
  pub free : IsTrue (is_empty (holders (left region_rules start history) writes))

-- every entry of a replica is of a bench of its host
abbrev pub of_host : Plan → ℕ → History RegionOperation → Bool
of_host plan host history = list_all (λ e. nat_lt e.0 (benches plan) && (host_of_bench plan e.0 == host)) history

pub record ReplicaRan (plan : Plan) (host : ℕ) (k : Key) (history : History RegionOperation) : Type 0 where
  pub ran : RegionRan (replica k.size) history
  pub by_its_host : IsTrue (of_host plan host history)

-- every entry of a global value is of a bench, but the last: there the session reads the whole value, which is told at the end
pub record GlobalRan (plan : Plan) (k : Key) (seen : History RegionOperation) (final : List ℕ) : Type 0 where
  pub ran : RegionRan (global_value k.size k.init) (with_last_read plan k seen)
  pub by_benches : IsTrue (list_all (λ e. nat_lt e.0 (benches plan)) seen)
  pub final_so : Reply.bytes final ≡ reply (left region_rules (global_value k.size k.init) seen) (benches plan) (RegionOperation.read 0 k.size)

-- one history for each key
abbrev pub ReplicasRan : Plan → ℕ → List Key → List (History RegionOperation) → Type 0
ReplicasRan plan host [] [] = Unit {0}
ReplicasRan plan host (k ∷ ks) (h ∷ hs) = ReplicaRan plan host k h × ReplicasRan plan host ks hs
ReplicasRan plan host _ _ = ⊥

-- the replicas of each host from this one on
abbrev pub HostsRan : Plan → ℕ → List (List (History RegionOperation)) → Type 0
HostsRan plan host [] = Unit {0}
HostsRan plan host (hs ∷ rest) = ReplicasRan plan host plan.keys hs × HostsRan plan (suc host) rest

abbrev pub GlobalsRan : Plan → List Key → List (History RegionOperation) → List (List ℕ) → Type 0
GlobalsRan plan [] [] [] = Unit {0}
GlobalsRan plan (k ∷ ks) (h ∷ hs) (f ∷ fs) = GlobalRan plan k h f × GlobalsRan plan ks hs fs
GlobalsRan plan _ _ _ = ⊥

-- ---- The table.

-- a bench submits and looks; whoever else makes an entry does neither
abbrev pub is_question : TableOperation → Bool
is_question (submit parent function input) = true
is_question (look parent child) = true
is_question _ = false

abbrev pub is_request : TableOperation → Bool
is_request (submit_request function host input) = true
is_request _ = false

abbrev pub by_its_maker : Plan → ℕ × TableOperation → Bool
by_its_maker plan e = if is_question e.1 then nat_lt e.0 (benches plan) else not (nat_lt e.0 (benches plan))

-- The requests of the plan come first, each once and in order. The records are those that the history leaves.
pub record TableRan (plan : Plan) (s : Session) : Type 0 where
  pub requested : History TableOperation
  pub rest : History TableOperation
  pub split : s.table_history ≡ requested ++ rest
  pub requests : map (λ e. e.1) requested ≡ map (λ r. submit_request r.function r.host r.input) plan.requests
  pub no_more : IsTrue (list_all (λ e. not (is_request e.1)) rest)
  pub makers : IsTrue (list_all (by_its_maker plan) s.table_history)
  pub end : Table
  pub leads : Leads table_rules (empty_table plan.hosts (callables plan)) s.table_history end
  pub records : s.records ≡ end.records

-- ---- Calls.

-- A grant to read allows all but these; a Fill is allowed by it, since it changes nothing that anybody could have read.
abbrev pub needs_write : Operation → Bool
needs_write (on_region (RegionOperation.write off bytes)) = true
needs_write (on_region (RegionOperation.take off bytes)) = true
needs_write (on_region (RegionOperation.put off bytes)) = true
needs_write (on_region (RegionOperation.append bytes)) = true
needs_write (on_region RegionOperation.lock_write) = true
needs_write _ = false

abbrev pub allows : ℕ → Operation → Grant → Bool
allows key op g = (g.key == key) && (not (needs_write op) || includes g.mode Write)

-- an entry of this call on a channel is of a key that it is granted; on the table the call is its parent
abbrev pub is_granted : ℕ → List Grant → Channel → Answered → Bool
is_granted call grants (Local key) e = list_any (allows key e.operation) grants
is_granted call grants (Global key) e = list_any (allows key e.operation) grants
is_granted call grants OnTable e = elim e.parent [ None ↦ false | Some parent ↦ parent == call ]

-- A call was finished on a bench of its host, with an outcome, a number of used fuel and an output that its module comes to from
-- what it was told, which its counts count; each of its entries was granted. That there is such a run is said, not which.
pub record CallRan (plan : Plan) (s : Session) (call : ℕ) (r : CallRecord) : Type 0 where
  pub function : NamedFunction
  pub function_so : slice_get plan.functions r.function ≡ Some function
  pub host : ℕ
  pub bench : ℕ
  pub order : ℕ
  pub outcome : Outcome
  pub used : ℕ
  pub output : List ℕ
  pub finished : r.state ≡ Finished host bench order outcome used output (counts function.function.grants (told plan s r))
  pub on_bench : bench < benches plan
  pub at_host : host ≡ host_of_bench plan bench
  pub runs : ∥ Runs function.function r.input (told plan s r) outcome output used ∥₁
  pub granted : (ch : Channel) → IsTrue (list_all (is_granted call function.function.grants ch) (own plan s r ch))

-- each of the records from this call on
abbrev pub CallsRan : Plan → Session → ℕ → List CallRecord → Type 0
CallsRan plan s call [] = Unit {0}
CallsRan plan s call (r ∷ rs) = CallRan plan s call r × CallsRan plan s (suc call) rs

-- ---- The whole; `finals` are the global values at the end.

pub record Ran (plan : Plan) (s : Session) (finals : List (List ℕ)) : Type 0 where
  pub hosts : length s.locals ≡ plan.hosts
  pub replicas : HostsRan plan 0 s.locals
  pub globals : GlobalsRan plan plan.keys s.globals finals
  pub table : TableRan plan s
  pub calls : CallsRan plan s 0 s.records
  pub all_used : (bench : ℕ) (ch : Channel) → bench < benches plan → IsTrue (used_up plan s bench ch)
