use Rattle.std.specs.String.{string_bytes}
use Rattle.faasm_top.proofs.Sessions.{is_long, long_calm, long_session}
use Rattle.faasm_top.proofs.trace.read_plan.Goals as goal

pub returns-in-Err-TooLong-clause-stopped : goal.returns-in-Err-TooLong-clause-stopped
returns-in-Err-TooLong-clause-stopped g c =
    let (read, many, holds) = c.read_file.ensures.too_long (is_long c.read_file.result c.in-Err-TooLong.field-0 c.in-Err-TooLong.is c.in-Err-TooLong.field-0-is) in
    (c.read_file.ensures.left_open (long_calm c.read_file.result c.in-Err-TooLong.field-0 c.in-Err-TooLong.is c.in-Err-TooLong.field-0-is), long_session _ c.args.file.now read _ (string_bytes c.in_ok-line-in-Err-TooLong.line) many holds c.in_ok-line-in-Err-TooLong.ensures)
