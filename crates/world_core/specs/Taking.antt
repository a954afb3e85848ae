-- What is left where a call is taken from the table, and where one more call is open. This project's own.
use Rattle.std.specs.Prelude.{◌≡◌, ◌<◌, ◌≤◌, ℕ, Some, length, slice_get, take}
use Rattle.call_table.specs.declared.jobs.Job.{Job}
use Rattle.faaslet_meaning.specs.declared.call.CallRecord.{CallRecord}
use Rattle.faaslet_meaning.specs.Table.{taken}
use Rattle.faaslet_run.specs.declared.faaslet.Faaslet.{Faaslet}
use Rattle.world_core.specs.Seating.{KeepsQueued}
use Rattle.world_core.specs.declared.running.Running.{Running}

-- The call stands on the table as taken, its bench its own number, and all else is as it was. The job is the call's, and its input
-- is at the front of the Faaslet's, whose machine is as it was.
pub record HandsOut (c : Running) (call host : ℕ) (f : Faaslet) (job : Job) (new : Running) (after : Faaslet) : Type 0 where
  pub r : CallRecord
  pub there : slice_get c.table.table.records call ≡ Some r
  pub function : job.function ≡ r.function
  pub known : r.function < length c.table.table.functions
  pub fuel : job.fuel ≡ r.fuel
  pub room : job.room ≡ r.room
  pub few : job.len ≤ 65536
  pub input : take job.len after.input ≡ r.input
  pub machine : after.machine ≡ f.machine
  pub table : new.table.table ≡ taken c.table.table call host call
  pub rest : new ≡ record c { table = new.table }

-- all but the open calls is as it was, and there is as much room for events
pub record SeatsOnly (c new : Running) : Type 0 where
  pub protos : new.protos ≡ c.protos
  pub table : new.table ≡ c.table
  pub objects : new.objects ≡ c.objects
  pub queued : KeepsQueued c.floor new.floor
  pub events : new.events ≡ c.events
