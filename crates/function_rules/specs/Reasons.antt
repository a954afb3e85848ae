-- Why a function may not have a module, as the code names it. This project's own.
use Rattle.faaslet_meaning.specs.Runnable as runnable
use Rattle.function_rules.specs.declared.judge.Unfit.{Unfit}
use Rattle.function_rules.specs.declared.judge.Unfit.TheVariants.{BadImport, NoMain, BadInit}

abbrev pub reason_of : Unfit → runnable.Unfit
reason_of (BadImport k) = runnable.bad_import k
reason_of NoMain = runnable.no_main
reason_of BadInit = runnable.bad_init
