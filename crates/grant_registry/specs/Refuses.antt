-- Why a call changed nothing. This project's own.
use Rattle.std.specs.Prelude.{◌≡◌, Err, IsOk}
use Rattle.faaslet_meaning.specs.declared.module.Module.{Module}
use Rattle.faaslet_meaning.specs.Runnable.{IsUnfit, bad_import, no_main, bad_init}
use Rattle.session_meaning.specs.declared.fault.RegFault.{RegFault}
use Rattle.session_meaning.specs.declared.fault.RegFault.TheVariants as fault
use Rattle.session_meaning.specs.Registry.{Answer, too_many, bad_name, taken, out_of_range, too_long, unknown_name, over_state_budget, over_page_budget}

-- this is the refusal, or there was no memory where nothing is refused
abbrev pub Refuses : RegFault → Answer → Type 0
Refuses fault.Limit answer = answer ≡ Err too_many
Refuses fault.Name answer = answer ≡ Err bad_name
Refuses fault.Duplicate answer = answer ≡ Err taken
Refuses fault.Range answer = answer ≡ Err out_of_range
Refuses fault.TooLong answer = answer ≡ Err too_long
Refuses fault.UnknownName answer = answer ≡ Err unknown_name
Refuses fault.StateBudget answer = answer ≡ Err over_state_budget
Refuses fault.PageBudget answer = answer ≡ Err over_page_budget
Refuses fault.Want answer = IsOk answer
Refuses _ answer = ⊥

-- the same of a call that takes no memory
abbrev pub RefusesSo : RegFault → Answer → Type 0
RefusesSo fault.Want answer = ⊥
RefusesSo e answer = Refuses e answer

-- this is the first rule of a function's module that does not hold
abbrev pub IsUnfitFor : RegFault → Module → Type 0
IsUnfitFor (fault.BadImport k) m = IsUnfit (bad_import k) m
IsUnfitFor fault.NoMain m = IsUnfit no_main m
IsUnfitFor fault.BadInit m = IsUnfit bad_init m
IsUnfitFor _ m = ⊥
