-- The lists of children that are kept are those of the records.
use Rattle.std.proofs.Common.{ap, ◌∙◌}
use Rattle.faaslet_meaning.specs.Records.{child_of}
use Rattle.call_table.specs.Session.{SessionTable}
use Rattle.call_table.proofs.table.CallTable.child_of.Goals as goal

pub returns : goal.returns
returns c = c.find.ensures ∙ c.self.invariant.children.each c.args.call c.args.child ∙ ap (λ (s : SessionTable). child_of s.table.records c.args.call c.args.child) c.self.view_is
