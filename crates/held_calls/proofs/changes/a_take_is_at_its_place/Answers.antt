-- By the lemmas that say it.
use Rattle.held_calls.proofs.Turned.{made_next, made_next_others, made_this, made_this_others}
use Rattle.held_calls.proofs.changes.a_take_is_at_its_place.Goals as goal

pub returns-clause-next : goal.returns-clause-next
returns-clause-next c = made_next

pub returns-clause-next_others : goal.returns-clause-next_others
returns-clause-next_others c = made_next_others

pub returns-clause-this : goal.returns-clause-this
returns-clause-this c = made_this

pub returns-clause-this_others : goal.returns-clause-this_others
returns-clause-this_others c = made_this_others
