-- By the lemmas that say it.
use Rattle.held_calls.proofs.Walks.{known, known_benches, known_keeper, known_session}
use Rattle.held_calls.proofs.ends.what_is_known_stays.Goals as goal

pub returns-clause-hosts : goal.returns-clause-hosts
returns-clause-hosts c = λ s t list st. (known s t list st).hosts

pub returns-clause-functions : goal.returns-clause-functions
returns-clause-functions c = λ s t list st. (known s t list st).functions

pub returns-clause-workers : goal.returns-clause-workers
returns-clause-workers c = λ s t list st. (known s t list st).workers

pub returns-clause-requests : goal.returns-clause-requests
returns-clause-requests c = λ s t list st. (known s t list st).requests

pub returns-clause-benches : goal.returns-clause-benches
returns-clause-benches c = λ s t list st. known_benches s t (known s t list st)

pub returns-clause-keepers : goal.returns-clause-keepers
returns-clause-keepers c = λ s t list st. known_keeper s t (known s t list st)

pub returns-clause-session : goal.returns-clause-session
returns-clause-session c = λ s t list st. known_session s t (known s t list st)
