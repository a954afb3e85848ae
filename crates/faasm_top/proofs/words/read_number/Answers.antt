use Rattle.std.proofs.Common.{◌≡◌, ◌∙◌, arith}
use Rattle.std.proofs.lemmas.Slice.Eq.{bytes_eq-Decides}
use Rattle.faasm_top.proofs.Decimals.{unparsed, out, other}
use Rattle.faasm_top.proofs.words.read_number.Goals as goal
use Rattle.faasm_top.proofs.words.read_number.Goals.{then-number-least-via-then-number-least, then-number-least-via-else-number-least+then-number-most}

pub returns-in_default-clause-usage : goal.returns-in_default-clause-usage
returns-in_default-clause-usage c = λ _. unparsed c.args.least c.args.most c.args.word.now c.parse.result c.in_default.field-0 (omega arith) c.in_default.is c.parse.ensures.value.0

pub returns-then-number-least-clause-usage : goal.returns-then-number-least-clause-usage
returns-then-number-least-clause-usage c =
    λ _. out c.args.least c.args.most c.args.word.now c.parse.result c.in-Ok.number (omega arith) c.in-Ok.is c.parse.ensures.value.0
    (λ some. elim c.then-number-least.branch [ then-number-least-via-then-number-least w ↦ omega arith | then-number-least-via-else-number-least+then-number-most w ↦ omega arith ])

pub returns-else-eq-clause-usage : goal.returns-else-eq-clause-usage
returns-else-eq-clause-usage c =
    λ _. other c.args.least c.args.most c.args.word.now c.parse.result c.in-Ok.number (omega arith) c.in-Ok.is c.parse.ensures.value.0
    (λ same.
    let text : c.as_str.result.now ≡ c.args.word.now = c.as_str.ensures.value ∙ c.in_ok-to_string.ensures.ok ∙ same in
    let equal = (bytes_eq-Decides c.as_str.result.now c.args.word.now).1 text in
    let unequal = c.if-eq.ensures in cc)
