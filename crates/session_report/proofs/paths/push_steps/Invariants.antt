use Rattle.std.proofs.Common.{◌≡◌, ◌++◌, length}
use Rattle.std.specs.String.{string_bytes}
use Rattle.session_report.specs.Told.{steps_text}
use Rattle.session_report.proofs.paths.push_steps.Given as goal

abbrev pub invariant-down : goal.invariant-down
invariant-down l = string_bytes l.out ++ steps_text l.steps.items ≡ string_bytes l.fn.out ++ steps_text l.fn.steps.items

abbrev pub decreases-down : goal.decreases-down
decreases-down l = length l.steps.items
