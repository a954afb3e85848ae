use Rattle.faaslet_meaning.specs.History.{region_rules, table_rules}
use Rattle.faaslet_meaning.proofs.Histories.{replies_both}
use Rattle.faaslet_meaning.proofs.history_laws.prefix_has_its_replies.Goals as goal

pub returns-clause-region : goal.returns-clause-region
returns-clause-region c = replies_both region_rules

pub returns-clause-table : goal.returns-clause-table
returns-clause-table c = replies_both table_rules
