-- By the lemma that says it.
use Rattle.call_service.proofs.Led.{led}
use Rattle.call_service.proofs.laws.lists_spell_a_history.Goals as goal

pub returns : goal.returns
returns c = led
