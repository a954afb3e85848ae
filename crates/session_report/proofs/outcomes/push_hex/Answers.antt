-- The digits of the library crate are those of the definition.
use Rattle.std.proofs.Common.{◌≡◌, ◌∙◌, arith}
use Rattle.std.specs.String.{string_bytes}
use Rattle.hex.specs.Hex.{IsBytes}
use Rattle.faaslet_meaning.specs.Report.{hex}
use Rattle.session_report.proofs.Hexes.{pushed, same_hex}
use Rattle.session_report.proofs.outcomes.push_hex.Goals as goal

pub returns : goal.returns
returns c =
    let bytes : IsBytes c.args.bytes.now = λ i. let f = c.type_inv.bytes i in omega arith in
    let digits : c.as_str.result.now ≡ hex c.args.bytes.now = c.as_str.ensures.value ∙ (c.in_ok-digits.ensures ∙ same_hex c.args.bytes.now bytes) in
    pushed c.push_str.result (string_bytes c.args.out.now) (string_bytes c.push_str.new.self) c.as_str.result.now (hex c.args.bytes.now) c.push_str.ensures.bytes digits
