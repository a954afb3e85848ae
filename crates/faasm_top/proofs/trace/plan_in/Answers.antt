use Rattle.std.proofs.Common.{refl}
use Rattle.session_meaning.specs.SessionFile.{refused}
use Rattle.faasm_top.proofs.trace.plan_in.Goals as goal

pub returns-in_ok-refused_line-in-Err-Refused-clause-refused : goal.returns-in_ok-refused_line-in-Err-Refused-clause-refused
returns-in_ok-refused_line-in-Err-Refused-clause-refused c =
    let holds = rw c.in-Err-Refused.field-0-is at c.in-Err-Refused.ensures.refused in
    let why = refused c.in-Err-Refused.kind c.in-Err-Refused.list c.in-Err-Refused.place in
    (why, holds why refl, c.in_ok-refused_line-in-Err-Refused.ensures)
