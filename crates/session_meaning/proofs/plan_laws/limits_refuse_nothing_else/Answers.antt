use Rattle.session_meaning.proofs.Taken.{new_taken, budget_taken, key_taken, function_taken, grant_taken, callee_taken, request_taken}
use Rattle.session_meaning.proofs.plan_laws.limits_refuse_nothing_else.Goals as goal

pub returns-clause-sessions : goal.returns-clause-sessions
returns-clause-sessions c = new_taken

pub returns-clause-keys : goal.returns-clause-keys
returns-clause-keys c = key_taken

pub returns-clause-functions : goal.returns-clause-functions
returns-clause-functions c = function_taken

pub returns-clause-grants : goal.returns-clause-grants
returns-clause-grants c = grant_taken

pub returns-clause-callees : goal.returns-clause-callees
returns-clause-callees c = callee_taken

pub returns-clause-requests : goal.returns-clause-requests
returns-clause-requests c = request_taken

pub returns-clause-budgets : goal.returns-clause-budgets
returns-clause-budgets c = budget_taken
