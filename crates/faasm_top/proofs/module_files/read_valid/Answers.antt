use Rattle.std.specs.String.{string_bytes}
use Rattle.faasm_top.proofs.Dues.{undecoded_is, invalid_is}
use Rattle.faasm_top.proofs.module_files.read_valid.Goals as goal

pub returns-in-Err-clause-refused : goal.returns-in-Err-clause-refused
returns-in-Err-clause-refused c = undecoded_is c.in-Err.fault c.args.bytes.now (string_bytes c.in_ok-undecoded-in-Err.field-0.line) c.in-Err.ensures c.in_ok-undecoded-in-Err.ensures.line

pub returns-in_ok-invalid-in-Err-validate-clause-refused : goal.returns-in_ok-invalid-in-Err-validate-clause-refused
returns-in_ok-invalid-in-Err-validate-clause-refused c =
    invalid_is c.in-Err-validate.refused.fault c.in-Ok.module c.args.bytes.now (string_bytes c.in_ok-invalid-in-Err-validate.field-0.line) c.in-Ok.ensures c.in-Err-validate.ensures.refuses.1 c.in_ok-invalid-in-Err-validate.ensures.line
