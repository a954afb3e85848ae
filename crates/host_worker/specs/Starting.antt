-- What a call begins with on a bench. This project's own.
use Rattle.std.specs.Prelude.{◌≡◌, ℕ, ◌≤◌, List, [], take}
use Rattle.call_table.specs.declared.jobs.Job.{Job}
use Rattle.faaslet_meaning.specs.declared.grant.Grant.{Grant}
use Rattle.proto_faaslet.specs.Snapshots.{IsSnapshotOf, Snapshot}
use Rattle.turn_cell.specs.Cell.{pass_list, start_of}
use Rattle.told_asks.specs.Knows.{KnowsBy}
use Rattle.host_worker.specs.Busy.{Errand, IsErrand, function_of}
use Rattle.host_worker.specs.Seats.{Heards, IsTableOf, Seats}
use Rattle.host_worker.specs.declared.bench.Bench.{Bench}
use Rattle.host_worker.specs.declared.bench.Tiers.{Tiers}

-- what is handed out, the snapshot, the grants and the callable functions are those of the function, and the input is at the
-- front of these bytes
pub record IsHanded (e : Errand) (proto : Snapshot) (grants : List Grant) (callees : List ℕ) (job : Job) (bytes : List ℕ) : Type 0 where
  pub snapshot : IsSnapshotOf (function_of e).code (function_of e).quota (function_of e).fuel proto
  pub grants_so : (function_of e).grants ≡ grants
  pub callees_so : (function_of e).callees ≡ callees
  pub fuel : job.fuel ≡ (function_of e).fuel
  pub room : job.room ≡ (function_of e).room
  pub short : job.len ≤ 65536
  pub input : take job.len bytes ≡ e.input

-- A bench that is told of a call: its passes were told what is said, and by its list of the table the call is there.
pub record IsSeated (tiers : Tiers) (b : Bench) (call : ℕ) (e : Errand) : Type 0 where
  pub errand : IsErrand e
  pub seats : Seats e.plan tiers b
  pub table : IsTableOf e.plan (start_of tiers.table.now)
  pub heards : Heards tiers b e.before
  pub knows : KnowsBy (start_of tiers.table.now) (pass_list b.passes.table) call []
