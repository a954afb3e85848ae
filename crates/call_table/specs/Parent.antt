-- What a new child takes of its parent. This project's own.
use Rattle.std.specs.Prelude.{ℕ, ◌≡◌, ◌<◌, ◌≤◌, ◌+◌, ◌++◌, ◌∷◌, List, [], Some, length, unwrap_or, slice_get}
use Rattle.faaslet_meaning.specs.declared.call.CallRecord.{CallRecord}
use Rattle.faaslet_meaning.specs.Records.{host_of}
use Rattle.faaslet_meaning.specs.Lists.{changed}
use Rattle.faaslet_meaning.specs.Table.{Table, one_more_child, queued_record}
use Rattle.call_table.specs.declared.store.Parent.{Parent}

pub record IsParent (t : Table) (p : Parent) : Type 0 where
  pub of : CallRecord
  pub there : slice_get t.records p.call ≡ Some of
  pub request_so : p.request ≡ of.request
  pub depth_so : p.depth ≡ of.depth
  pub child_so : p.child ≡ of.children
  pub host_so : p.host ≡ unwrap_or (host_of of.state) 0
  pub host_fits : p.host < t.hosts
  pub child_fits : p.child ≤ length t.records
  pub deep : 0 < p.depth

-- the parent has one child more, which stands behind all records
abbrev pub IsChildOf : Table → Parent → ℕ → List ℕ → Table → Type 0
IsChildOf before p function input after =
    after ≡ record before {
      records =
          changed before.records p.call one_more_child
          ++ record (queued_record before function p.host input) { request = p.request; parent = Some p.call; child = p.child; depth = p.depth + 1 } ∷ [];
    }
