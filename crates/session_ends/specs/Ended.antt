-- Objects that have ended: each stands by its whole list of entries. This project's own.
use Rattle.std.specs.Prelude.{◌≡◌, ℕ, List, All, Some, length, slice_get, slice_range}
use Rattle.session_meaning.specs.Plan.{Key, Plan}
use Rattle.session_meaning.specs.Own.{benches, host_of_bench}
use Rattle.shared_region.specs.Entries.{MakesShared}
use Rattle.shared_region.specs.Shared.{Shared}
use Rattle.turn_cell.specs.declared.view.Entry.{Entry}
use Rattle.turn_cell.specs.History.{Stands, Extends, MakersBelow}
use Rattle.call_table.specs.Makers.{MakesTable, session}
use Rattle.call_table.specs.Session.{SessionTable, unfinished}
use Rattle.session_ends.specs.Opened.{first_session, first_replica, first_value, request_entries}

-- a region to which the list leads from its start, with entries of so many makers
pub record EndedRegion (start : Shared) (numbers : ℕ) (list : List Entry) (end : Shared) : Type 0 where
  pub stands : Stands MakesShared start list end
  pub makers : MakersBelow numbers list

-- the replica of a key at a host: all entries are of benches of this host
pub record EndedReplica (plan : Plan) (host : ℕ) (k : Key) (list : List Entry) : Type 0 where
  pub end : Shared
  pub ended : EndedRegion (first_replica plan k) (benches plan) list end
  pub by_its_host : All (λ e. host_of_bench plan e.maker ≡ host) list

-- the global value of a key, with its bytes at the end
pub record EndedValue (plan : Plan) (k : Key) (list : List Entry) (final : List ℕ) : Type 0 where
  pub end : Shared
  pub ended : EndedRegion (first_value plan k) (benches plan) list end
  pub final_so : final ≡ slice_range end.region.bytes 0 k.size

-- the replicas of a host, one for each key
pub record EndedHost (plan : Plan) (host : ℕ) (lists : List (List Entry)) : Type 0 where
  pub keys : length lists ≡ length plan.keys
  pub each : (key : ℕ) (k : Key) (list : List Entry) → slice_get plan.keys key ≡ Some k → slice_get lists key ≡ Some list → EndedReplica plan host k list

-- the global values, one for each key
pub record EndedValues (plan : Plan) (lists : List (List Entry)) (finals : List (List ℕ)) : Type 0 where
  pub keys : length lists ≡ length plan.keys
  pub finals_so : length finals ≡ length plan.keys
  pub each : (key : ℕ) (k : Key) (list : List Entry) (final : List ℕ) → slice_get plan.keys key ≡ Some k → slice_get lists key ≡ Some list → slice_get finals key ≡ Some final → EndedValue plan k list final

-- The table: no call is unfinished. The requests come first, and the session made no other entry.
pub record EndedTable (plan : Plan) (list : List Entry) (end : SessionTable) : Type 0 where
  pub stands : Stands MakesTable (first_session plan) list end
  pub none_left : unfinished end ≡ 0
  pub requests_first : Extends (session (first_session plan)) (request_entries plan) list
