use Rattle.std.proofs.Common.{arith}
use Rattle.faaslet_meaning.specs.HostCalls.{input_size}
use Rattle.host_calls_tests.proofs.Asking.{four_small, size_asked}
use Rattle.host_calls_tests.proofs.tests.the_size_of_an_input.Goals as goal

pub begun-requires-clause-small : goal.begun-requires-clause-small
begun-requires-clause-small g c = four_small 0 0 0 0 (omega arith) (omega arith) (omega arith) (omega arith)

pub begun-requires-clause-asked : goal.begun-requires-clause-asked
begun-requires-clause-asked g c = (input_size, size_asked, tt)
