-- What is due once the files that the words name are read. This project's own.
use Rattle.std.specs.Prelude.{◌≡◌, ℕ, ◌≤◌, List, Option}
use Rattle.std.specs.String.{string_bytes}
use Rattle.fa_outside.specs.Appended.{Appends, AppendsPart}
use Rattle.fa_outside.specs.Files.{Files}
use Rattle.faasm_top.specs.declared.due.Due.{Due}
use Rattle.faasm_top.specs.declared.due.Due.TheVariants as due
use Rattle.faasm_top.specs.Answers.{code_of, IsDue, NamesTrace}
use Rattle.faasm_top.specs.Traced.{WritesTrace, WritesTracePart}

-- a line with its status, or a session that is to be traced
abbrev pub DueSo : List (List ℕ) → Option Files → ℕ → ℕ → Due → Type 0
DueSo words told before after (due.Line r) = IsDue words told before after (code_of r.status) (string_bytes r.line)
DueSo words told before after (due.Trace session seed) = NamesTrace words told session seed

-- the status that goes with it; that of a trace, 0 or 1, is not known yet
abbrev pub status_now : Due → ℕ
status_now (due.Line r) = code_of r.status
status_now (due.Trace session seed) = 0

-- ---- What is written of it.

-- all, and the status is its own
abbrev pub WritesDue : Due → ℕ → Option (List ℕ) → Option (List ℕ) → Type 0
WritesDue (due.Line r) status old new = (status ≡ code_of r.status) × Appends old new (string_bytes r.line)
WritesDue (due.Trace session seed) status old new = (status ≤ 1) × WritesTrace session seed status old new

-- a front, and not all
abbrev pub WritesDuePart : Due → Option (List ℕ) → Option (List ℕ) → Type 0
WritesDuePart (due.Line r) old new = AppendsPart old new (string_bytes r.line)
WritesDuePart (due.Trace session seed) old new = WritesTracePart session seed old new

-- it is a trace, of which a front was written, and not all
abbrev pub TracesInPart : Due → Option (List ℕ) → Option (List ℕ) → Type 0
TracesInPart (due.Line r) old new = ⊥
TracesInPart (due.Trace session seed) old new = WritesTracePart session seed old new
