use Rattle.std.proofs.Common.{arith}
use Rattle.std.specs.String.{string_bytes}
use Rattle.faasm_top.specs.Sessions.{unusable}
use Rattle.faasm_top.proofs.Sessions.{same_line}
use Rattle.faasm_top.proofs.session_modules.take_bytes.Goals as goal

pub returns-in_ok-line-in-Err-clause-refused : goal.returns-in_ok-line-in-Err-clause-refused
returns-in_ok-line-in-Err-clause-refused c =
    unusable (λ o. (let many = o.many in omega (arith, many, c.if-before-bytes.false, c.requires.few))) (string_bytes c.in-Err.report.line) (rw c.in-Err.is at c.in_ok-give_module.ensures.refused)
    (same_line _ _ c.args.f _ _ _ c.give_module.ensures.names c.as_str.ensures.value c.in_ok-line-in-Err.ensures)
