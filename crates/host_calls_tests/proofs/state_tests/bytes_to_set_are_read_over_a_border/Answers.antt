use Rattle.std.proofs.Common.{[], ◌∷◌, arith}
use Rattle.faaslet_meaning.specs.HostCalls.{set_state}
use Rattle.host_calls_tests.proofs.Asking.{four_small}
use Rattle.host_calls_tests.proofs.StateAsking.{set_asked}
use Rattle.host_calls_tests.proofs.state_tests.bytes_to_set_are_read_over_a_border.Goals as goal

pub begun-requires-clause-small : goal.begun-requires-clause-small
begun-requires-clause-small g c = four_small 0 4 65535 2 (omega arith) (omega arith) (omega arith) (omega arith)

pub begun-requires-clause-asked : goal.begun-requires-clause-asked
begun-requires-clause-asked g c = (set_state 0 4 65535 2, set_asked, omega arith)

pub step_at_border-requires-clause-other : goal.step_at_border-requires-clause-other
step_at_border-requires-clause-other g c = c.in-Ok.ensures.other set_asked
