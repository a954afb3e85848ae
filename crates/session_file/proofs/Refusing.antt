-- A call that takes no memory refuses as the others do.
use Rattle.session_meaning.specs.declared.fault.RegFault.{RegFault}
use Rattle.session_meaning.specs.declared.fault.RegFault.TheVariants as fault
use Rattle.session_meaning.specs.Registry.{Answer}
use Rattle.grant_registry.specs.Refuses.{Refuses, RefusesSo}

pub refuses : (e : RegFault) (a : Answer) → RefusesSo e a → Refuses e a
refuses fault.Limit a h = h
refuses fault.Name a h = h
refuses fault.Duplicate a h = h
refuses fault.Range a h = h
refuses fault.TooLong a h = h
refuses fault.UnknownName a h = h
refuses fault.StateBudget a h = h
refuses fault.PageBudget a h = h
refuses fault.NoMain a h = h
refuses fault.BadInit a h = h
refuses (fault.BadImport k) a h = h
refuses fault.Want a h = absurd h
