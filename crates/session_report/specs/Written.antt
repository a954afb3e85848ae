-- What is written of a text, and what the count of faults tells of it. This project's own.
use Rattle.std.specs.Prelude.{◌≡◌, ℕ, List, Option, Result, Ok, Err}
use Rattle.fa_outside.specs.Appended.{Appends, AppendsPart}
use Rattle.fa_outside.specs.Faults.{Rose}
use Rattle.session_report.specs.declared.fault.WriteFault.{WriteFault}
use Rattle.session_report.specs.declared.fault.WriteFault.TheVariants as fault

-- the text was written, or a front of it and not all
abbrev pub Writes : {T E : Type 0} → Result T E → Option (List ℕ) → Option (List ℕ) → List ℕ → Type 0
Writes (Ok x) old new text = Appends old new text
Writes (Err e) old new text = AppendsPart old new text

-- the sink's count rose exactly where it failed
abbrev pub Tells : {T : Type 0} → Result T WriteFault → ℕ → ℕ → Type 0
Tells (Err fault.Failed) before after = Rose before after
Tells _ before after = after ≡ before
