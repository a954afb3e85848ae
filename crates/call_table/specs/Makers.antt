-- Who makes which entry of a call table, and what an entry makes of it. This project's own.
use Rattle.std.specs.Prelude.{ℕ, ◌≡◌, ◌+◌, ◌*◌, ◌/◌, ◌<◌, Bool, false, List, IsTrue, ◌==◌}
use Rattle.faaslet_meaning.specs.declared.call.CallState.{CallState}
use Rattle.faaslet_meaning.specs.declared.call.CallState.TheVariants.{Queued, Taken, Finished}
use Rattle.faaslet_meaning.specs.History.{table_rules}
use Rattle.faaslet_meaning.specs.Lists.{passes_at}
use Rattle.faaslet_meaning.specs.Spelling.{spelled_on_table, Makes, OperationFits}
use Rattle.faaslet_meaning.specs.Table.{Table, TableOperation}
use Rattle.faaslet_meaning.specs.Table.TableOperation.{submit_request, submit, take_next, take_this, finish, look}
use Rattle.call_table.specs.Session.{SessionTable, came}

-- Each worker has 8 benches, on which calls run. The makers are first the benches, then the workers, then the session.
abbrev pub benches : SessionTable → ℕ
benches s = 8 * (s.table.hosts * s.workers)

-- the maker that is the worker of a bench
abbrev pub keeper : SessionTable → ℕ → ℕ
keeper s bench = benches s + bench / 8

-- the maker that is the session
abbrev pub session : SessionTable → ℕ
session s = benches s + s.table.hosts * s.workers

-- the call is taken by the bench, and not finished
abbrev pub is_on : ℕ → CallState → Bool
is_on bench Queued = false
is_on bench (Taken host b order) = b == bench
is_on bench (Finished host b order outcome used output counts) = false

abbrev pub RunsOn : Table → ℕ → ℕ → Type 0
RunsOn t call bench = IsTrue (passes_at (λ r. is_on bench r.state) t.records call)

-- the maker is the worker of the bench, and one of the workers of the host
pub record Keeps (s : SessionTable) (maker host bench : ℕ) : Type 0 where
  pub bench_so : bench < benches s
  pub maker_so : maker ≡ keeper s bench
  pub worker : ℕ
  pub worker_fits : worker < s.workers
  pub host_so : bench / 8 ≡ host * s.workers + worker

-- A request comes from the session, while there are some to come. A call is taken and finished by the worker of its bench,
-- and it is the bench that submits children of the call which runs on it, and looks at them.
abbrev pub MayMake : SessionTable → ℕ → TableOperation → Type 0
MayMake s maker (submit_request function host input) = (maker ≡ session s) × (came s.table.records < s.requests)
MayMake s maker (submit parent function input) = RunsOn s.table parent maker
MayMake s maker (take_next host bench) = Keeps s maker host bench
MayMake s maker (take_this call host bench) = Keeps s maker host bench
MayMake s maker (finish call o used output counts) = (bench : ℕ) × RunsOn s.table call bench × (maker ≡ keeper s bench)
MayMake s maker (look parent child) = RunsOn s.table parent maker

-- A maker's entry makes one table of another, where it spells an operation that may stand and that the maker makes. What is
-- known of the session stays as it is.
pub record MakesTable (maker : ℕ) (entry : List ℕ) (before after : SessionTable) : Type 0 where
  pub table : Makes table_rules spelled_on_table maker entry before.table after.table
  pub fits : OperationFits table.operation
  pub maker_so : MayMake before maker table.operation
  pub workers_so : after.workers ≡ before.workers
  pub requests_so : after.requests ≡ before.requests
