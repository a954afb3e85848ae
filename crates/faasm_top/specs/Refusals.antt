-- The lines of the refusals of `decode` and `validate`, where want of memory has none, and of modules that a function may
-- not have. This project's own.
use Rattle.std.specs.Prelude.{ℕ, List, Option, Some, None}
use Rattle.faaslet_meaning.specs.Report as report
use Rattle.faaslet_meaning.specs.Runnable.{Unfit, bad_import, no_main, bad_init}
use Rattle.wasm_decode.specs.Decoded.{limit_of}
use Rattle.wasm_decode.specs.declared.fault.DecodeFault.{DecodeFault}
use Rattle.wasm_decode.specs.declared.fault.DecodeFault.TheVariants as fault
use Rattle.wasm_validate.specs.declared.invalid.Invalid.{Invalid}
use Rattle.wasm_validate.specs.declared.invalid.Invalid.TheVariants as invalid

abbrev pub undecoded_line : DecodeFault → Option (List ℕ)
undecoded_line fault.TooLong = Some report.too_long
undecoded_line fault.Malformed = Some report.malformed
undecoded_line fault.Float = Some report.float
undecoded_line (fault.Limit which) = Some (report.limit (limit_of which))
undecoded_line fault.Want = None

abbrev pub invalid_line : Invalid → Option (List ℕ)
invalid_line invalid.Module = Some report.invalid_module
invalid_line (invalid.Function k) = Some (report.invalid_function k)
invalid_line invalid.Want = None

abbrev pub unfit_line : Unfit → List ℕ
unfit_line (bad_import k) = report.bad_import k
unfit_line no_main = report.no_main
unfit_line bad_init = report.bad_init
