-- What is said of the bytes of a file of a module. This project's own.
use Rattle.std.specs.Prelude.{◌≡◌, ℕ, List}
use Rattle.faaslet_meaning.specs.declared.module.Module.{Module}
use Rattle.faaslet_meaning.specs.Decoding.{Limit, DecodesTo}
use Rattle.faaslet_meaning.specs.Decoding as decoding
use Rattle.faaslet_meaning.specs.Report as report
use Rattle.faaslet_meaning.specs.Runnable.{Runnable, Unfit, IsUnfit}
use Rattle.faaslet_meaning.specs.Valid.{RulesHold, FirstUntyped, Valid}
use Rattle.faasm_top.specs.Refusals.{unfit_line}

-- they hold this module, which keeps all rules
pub record IsAccepted (code : Module) (bytes : List ℕ) : Type 0 where
  pub decodes : DecodesTo (decoding.accepted code) bytes
  pub valid : Valid code

-- They hold no such module, and this is the line of the first reason: their length, the grammar, floats, a limit, a rule
-- of modules, the typing of a body.
pub data IsRefusal (bytes line : List ℕ) : Type 0 where
  too_long : DecodesTo decoding.too_long bytes → line ≡ report.too_long → IsRefusal bytes line
  malformed : DecodesTo decoding.malformed bytes → line ≡ report.malformed → IsRefusal bytes line
  float : DecodesTo decoding.float bytes → line ≡ report.float → IsRefusal bytes line
  limit : (passed : Limit) → DecodesTo (decoding.limit passed) bytes → line ≡ report.limit passed → IsRefusal bytes line
  invalid : (code : Module) → DecodesTo (decoding.accepted code) bytes → (RulesHold code → ⊥) → line ≡ report.invalid_module → IsRefusal bytes line
  untyped : (code : Module) (k : ℕ) → DecodesTo (decoding.accepted code) bytes → FirstUntyped code k → line ≡ report.invalid_function k → IsRefusal bytes line

-- they hold a valid module that a function may have
pub record IsUsable (bytes : List ℕ) : Type 0 where
  pub code : Module
  pub accepted : IsAccepted code bytes
  pub runnable : Runnable code

-- they hold none, and this is the line of the first reason
pub data IsUnusable (bytes line : List ℕ) : Type 0 where
  refused : IsRefusal bytes line → IsUnusable bytes line
  unfit : (code : Module) → IsAccepted code bytes → (why : Unfit) → IsUnfit why code → line ≡ unfit_line why → IsUnusable bytes line
