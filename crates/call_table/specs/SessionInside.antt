-- The model of `CallTable`. This project's own.
use Rattle.std.specs.Prelude.{◌≡◌, ◌<◌, ◌^◌, List, length}
use Rattle.faaslet_meaning.specs.declared.call.CallRecord.{CallRecord}
use Rattle.call_table.specs.Chains.{ChainsFit}
use Rattle.call_table.specs.Children.{ChildrenFit}
use Rattle.call_table.specs.Heads.{HeadsFit}
use Rattle.call_table.specs.Loads.{LoadsFit}
use Rattle.call_table.specs.Progress.{ProgressFits}
use Rattle.call_table.specs.Session.{SessionTable}
use Rattle.call_table.specs.declared.heads.Heads.{Heads}
use Rattle.call_table.specs.declared.progress.Progress.{Progress}
use Rattle.call_table.specs.declared.table.CallTable.TheInside.{Inside}

abbrev pub session_in : Inside → SessionTable
session_in t = record { table = t.store; workers = t.workers; requests = t.requests }

-- what is kept beside the records is theirs: the counts, and the places before which none is queued
pub record Indexed (records : List CallRecord) (progress : Progress) (heads : Heads) : Type 0 where
  pub few : length records < 2 ^ 31
  pub progress_fits : ProgressFits records progress
  pub heads_fit : HeadsFit records heads

-- numbers of requests and of records are a `u32` together
pub record IsSession (t : Inside) : Type 0 where
  pub requests : t.requests < 2 ^ 31
  pub indexed : Indexed t.store.records t.progress t.heads
  pub loads : LoadsFit t.store.hosts t.store.records t.loads
  pub chains : ChainsFit t.store.records t.chains
  pub children : ChildrenFit t.store.records t.children
  pub hosts : length t.heads.at.items ≡ t.store.hosts
