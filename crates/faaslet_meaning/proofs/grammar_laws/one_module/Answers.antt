use Rattle.faaslet_meaning.proofs.OneModule.{one_module}
use Rattle.faaslet_meaning.proofs.grammar_laws.one_module.Goals as goal

pub returns : goal.returns
returns c = one_module
