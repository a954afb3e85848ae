-- By the lemma that says it.
use Rattle.call_service.proofs.Led.{one_table}
use Rattle.call_service.proofs.laws.lists_lead_to_one_table.Goals as goal

pub returns : goal.returns
returns c = one_table
