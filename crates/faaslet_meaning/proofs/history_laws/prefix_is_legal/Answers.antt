use Rattle.faaslet_meaning.specs.History.{region_rules, table_rules}
use Rattle.faaslet_meaning.proofs.Histories.{legal_prefix}
use Rattle.faaslet_meaning.proofs.history_laws.prefix_is_legal.Goals as goal

pub returns-clause-region : goal.returns-clause-region
returns-clause-region c = legal_prefix region_rules

pub returns-clause-table : goal.returns-clause-table
returns-clause-table c = legal_prefix table_rules
