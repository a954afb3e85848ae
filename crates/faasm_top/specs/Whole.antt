-- A session of which all is there. This project's own.
use Rattle.protos.specs.Keeps.{HasModules}
use Rattle.session_meaning.specs.Draft.{Draft}
use Rattle.session_meaning.specs.WellFormed.{WellFormedDraft}

pub record IsWhole (d : Draft) : Type 0 where
  pub formed : WellFormedDraft d
  pub modules : HasModules d
