use Rattle.std.proofs.Common.{arith}
use Rattle.faaslet_meaning.specs.HostCalls.{write_output}
use Rattle.host_calls_tests.proofs.Asking.{four_small, write_asked}
use Rattle.host_calls_tests.proofs.tests.output_over_a_border.Goals as goal

pub begun-requires-clause-small : goal.begun-requires-clause-small
begun-requires-clause-small g c = four_small 65535 2 0 0 (omega arith) (omega arith) (omega arith) (omega arith)

pub begun-requires-clause-asked : goal.begun-requires-clause-asked
begun-requires-clause-asked g c = (write_output 65535 2, write_asked, omega arith)
