use Rattle.faaslet_meaning.specs.Instructions.{IsExpression}
use Rattle.faaslet_meaning.specs.ModuleReading.{expression_at}
use Rattle.faaslet_meaning.proofs.Readers.{once}
use Rattle.faaslet_meaning.proofs.BodyReaders.{expression_reads}
use Rattle.faaslet_meaning.proofs.grammar_laws.one_expression.Goals as goal

pub returns : goal.returns
returns c = once IsExpression expression_at expression_reads
