use Rattle.std.proofs.Common.{arith}
use Rattle.faaslet_meaning.specs.HostCalls.{read_input}
use Rattle.host_calls_tests.proofs.Asking.{four_small, read_asked}
use Rattle.host_calls_tests.proofs.tests.input_into_a_page_that_may_not_be_written.Goals as goal

pub begun-requires-clause-small : goal.begun-requires-clause-small
begun-requires-clause-small g c = four_small 0 65535 2 0 (omega arith) (omega arith) (omega arith) (omega arith)

pub begun-requires-clause-asked : goal.begun-requires-clause-asked
begun-requires-clause-asked g c = (read_input 0 65535 2, read_asked, omega arith)
