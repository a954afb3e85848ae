use Rattle.faaslet_meaning.proofs.Spellings.{one_spelling, one_spelling_on_table}
use Rattle.faaslet_meaning.proofs.history_laws.one_spelling.Goals as goal

pub returns-clause-region : goal.returns-clause-region
returns-clause-region c = one_spelling

pub returns-clause-table : goal.returns-clause-table
returns-clause-table c = one_spelling_on_table
