-- What holds of every record in a table. This project's own.
use Rattle.std.specs.Prelude.{ℕ, ◌<◌, ◌≤◌, length}
use Rattle.faaslet_meaning.specs.declared.call.CallRecord.{CallRecord}
use Rattle.faaslet_meaning.specs.declared.call.CallState.{CallState}
use Rattle.faaslet_meaning.specs.declared.call.CallState.TheVariants.{Queued, Taken, Finished}

-- the longest input and output
abbrev pub piece_limit : ℕ
piece_limit = 65536

pub record IsSmall (r : CallRecord) : Type 0 where
  pub input : length r.input ≤ piece_limit
  pub room : r.room ≤ piece_limit

abbrev pub IsHost : ℕ → CallState → Type 0
IsHost hosts Queued = Unit {0}
IsHost hosts (Taken host bench order) = host < hosts
IsHost hosts (Finished host bench order outcome used output counts) = host < hosts

abbrev pub IsWithin : ℕ → CallState → Type 0
IsWithin room (Finished host bench order outcome used output counts) = length output ≤ room
IsWithin room _ = Unit {0}

-- in a table of so many hosts, functions and records
pub record IsHeld (hosts functions records : ℕ) (r : CallRecord) : Type 0 where
  pub small : IsSmall r
  pub host : IsHost hosts r.state
  pub output : IsWithin r.room r.state
  pub function : r.function < functions
  pub children : r.children ≤ records
  pub depth : 0 < r.depth
