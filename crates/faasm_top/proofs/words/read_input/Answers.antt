use Rattle.std.proofs.Common.{arith}
use Rattle.faasm_top.proofs.Inputs.{input_found, input_long, input_none, refused}
use Rattle.faasm_top.proofs.words.read_input.Goals as goal

pub returns-then-word-clause-usage : goal.returns-then-word-clause-usage
returns-then-word-clause-usage c = λ _. input_long _ c.if-word.true

pub returns-in_err-decode-clause-usage : goal.returns-in_err-decode-clause-usage
returns-in_err-decode-clause-usage c = λ is. input_none _ c.in_err-decode.field-0.0 (refused c.from_residual.result c.in_err-decode.field-0.0 c.from_residual.ensures.1 is) c.in_err-decode.ensures.err

pub returns-clause-found : goal.returns-clause-found
returns-clause-found c = rw c.of.ensures (input_found _ _ c.in_ok-decode.ensures.ok (omega arith))
