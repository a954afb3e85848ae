-- The counts of the records. This project's own.
use Rattle.std.specs.Prelude.{◌≡◌, List}
use Rattle.faaslet_meaning.specs.declared.call.CallRecord.{CallRecord}
use Rattle.faaslet_meaning.specs.Records.{takes}
use Rattle.call_table.specs.Session.{came, open_or_queued}
use Rattle.call_table.specs.declared.progress.Progress.{Progress}

pub record ProgressFits (records : List CallRecord) (p : Progress) : Type 0 where
  pub came_so : p.came ≡ came records
  pub taken_so : p.taken ≡ takes records
  pub open_so : p.unfinished ≡ open_or_queued records
