use Rattle.faaslet_meaning.specs.Numbers.{IsUnsigned, IsSigned}
use Rattle.faaslet_meaning.specs.Reading.{unsigned_at, signed_at}
use Rattle.faaslet_meaning.proofs.Readers.{once}
use Rattle.faaslet_meaning.proofs.NumberReaders.{unsigned_reads, signed_reads}
use Rattle.faaslet_meaning.proofs.grammar_laws.one_number.Goals as goal

pub returns : goal.returns
returns c = record { unsigned = λ bits. once (IsUnsigned bits) (unsigned_at bits) (unsigned_reads bits); signed = λ bits. once (IsSigned bits) (signed_at bits) (signed_reads bits) }
