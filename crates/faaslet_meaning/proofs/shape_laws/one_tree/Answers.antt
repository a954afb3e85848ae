use Rattle.std.proofs.Common.{sym, ◌∙◌}
use Rattle.faaslet_meaning.proofs.Written.{tree_written}
use Rattle.faaslet_meaning.proofs.shape_laws.one_tree.Goals as goal

pub returns-clause-read : goal.returns-clause-read
returns-clause-read c = tree_written

pub returns-clause-one : goal.returns-clause-one
returns-clause-one c = λ code a b h k. sym (tree_written code a h) ∙ tree_written code b k
