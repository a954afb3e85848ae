-- By the lemmas that say it.
use Rattle.held_calls.proofs.Turned.{made_finish, made_finish_others}
use Rattle.held_calls.proofs.changes.a_finish_is_at_its_place.Goals as goal

pub returns-clause-ends : goal.returns-clause-ends
returns-clause-ends c = λ t after call bench o used output counts reply on m. made_finish t after call bench o used output counts reply on m

pub returns-clause-others : goal.returns-clause-others
returns-clause-others c = λ t after call bench o used output counts reply on m. made_finish_others t after call bench o used output counts reply on m
