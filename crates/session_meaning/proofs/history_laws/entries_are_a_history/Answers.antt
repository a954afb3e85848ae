use Rattle.faaslet_meaning.specs.History.{region_rules, table_rules}
use Rattle.faaslet_meaning.specs.Spelling.{spelled, spelled_on_table}
use Rattle.faaslet_meaning.proofs.Chains.{spells_a_history}
use Rattle.session_meaning.proofs.history_laws.entries_are_a_history.Goals as goal

pub returns-clause-region : goal.returns-clause-region
returns-clause-region c = λ s t entries made. spells_a_history region_rules spelled s t entries made

pub returns-clause-table : goal.returns-clause-table
returns-clause-table c = λ s t entries made. spells_a_history table_rules spelled_on_table s t entries made
