use Rattle.world_objects_tests.specs.Ready.{Ready}
use Rattle.world_objects_tests.proofs.steps.go.Given as goal

abbrev pub invariant-loop-step : goal.invariant-loop-step
invariant-loop-step l = Ready l.objects
