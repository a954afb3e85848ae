use Rattle.std.proofs.Common.{subst}
use Rattle.std.specs.String.{string_bytes}
use Rattle.session_meaning.specs.WellFormed.{function_names}
use Rattle.faasm_top.specs.Sessions.{RefusesBytes}
use Rattle.faasm_top.proofs.Sessions.{is_long, long_calm, ok_calm, long_file}
use Rattle.faasm_top.proofs.session_modules.take_module.Goals as goal

pub returns-in-Err-TooLong-clause-stopped : goal.returns-in-Err-TooLong-clause-stopped
returns-in-Err-TooLong-clause-stopped g c =
    let (read, many, holds) = c.read_file.ensures.too_long (is_long c.read_file.result c.in-Err-TooLong.field-0 c.in-Err-TooLong.is c.in-Err-TooLong.field-0-is) in
    (c.read_file.ensures.left_open (long_calm c.read_file.result c.in-Err-TooLong.field-0 c.in-Err-TooLong.is c.in-Err-TooLong.field-0-is), long_file _ (function_names c.args.registry.now) c.args.f c.args.before c.args.path.now read _ (string_bytes c.in_ok-line-in-Err-TooLong.line) many holds c.in_ok-line-in-Err-TooLong.ensures)

pub returns-clause-stopped : goal.returns-clause-stopped
returns-clause-stopped g c = (
  c.read_file.ensures.left_open (ok_calm c.read_file.result c.in-Ok.bytes c.in-Ok.is),
  record {
    bytes = c.in-Ok.bytes.items;
    is_file = c.in-Ok.ensures.whole;
    refuses = subst (λ b. RefusesBytes (function_names c.args.registry.now) c.args.f c.args.before b (string_bytes c.in-Err.line)) c.deref.ensures.value (rw c.in-Err.is at c.in_ok-take_bytes.ensures.refused);
  },
)
