use Rattle.faaslet_run_tests.specs.Standing.{IsAt}
use Rattle.faaslet_run_tests.proofs.serving.go_through.Given as goal

abbrev pub invariant-rows : goal.invariant-rows
invariant-rows l = IsAt l.faaslet l.children.items
