use Rattle.faaslet_meaning.specs.History.{region_rules, table_rules}
use Rattle.faaslet_meaning.proofs.Histories.{told_both}
use Rattle.faaslet_meaning.proofs.history_laws.others_leave_what_was_told.Goals as goal

pub returns-clause-region : goal.returns-clause-region
returns-clause-region c = told_both region_rules

pub returns-clause-table : goal.returns-clause-table
returns-clause-table c = told_both table_rules
