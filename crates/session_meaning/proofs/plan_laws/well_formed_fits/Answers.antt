use Rattle.session_meaning.proofs.WellFits.{calls_fit, names_apart, labels_apart, labels_plain, modules_fit, invocations_fit}
use Rattle.session_meaning.proofs.plan_laws.well_formed_fits.Goals as goal

pub returns-clause-calls : goal.returns-clause-calls
returns-clause-calls c = calls_fit

pub returns-clause-names : goal.returns-clause-names
returns-clause-names c = names_apart

pub returns-clause-labels : goal.returns-clause-labels
returns-clause-labels c = λ plan fine. (labels_apart plan fine, labels_plain plan fine)

pub returns-clause-modules : goal.returns-clause-modules
returns-clause-modules c = modules_fit

pub returns-clause-invocations : goal.returns-clause-invocations
returns-clause-invocations c = invocations_fit
