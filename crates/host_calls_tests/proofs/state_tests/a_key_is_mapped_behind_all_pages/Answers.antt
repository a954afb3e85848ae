use Rattle.std.proofs.Common.{[], ◌∷◌, sym, subst, arith}
use Rattle.faaslet_meaning.specs.HostCalls.{get_state}
use Rattle.host_calls.specs.Known.{Keeps}
use Rattle.host_calls.proofs.Keeping.{keeps_seen}
use Rattle.host_calls_tests.proofs.Asking.{four_small}
use Rattle.host_calls_tests.proofs.StateAsking.{map_asked}
use Rattle.host_calls_tests.proofs.state_tests.a_key_is_mapped_behind_all_pages.Goals as goal

pub begun-requires-clause-small : goal.begun-requires-clause-small
begun-requires-clause-small g c = four_small 1 0 0 0 (omega arith) (omega arith) (omega arith) (omega arith)

pub begun-requires-clause-asked : goal.begun-requires-clause-asked
begun-requires-clause-asked g c = (get_state 1, map_asked, tt)

pub begun-requires-clause-nothing : goal.begun-requires-clause-nothing
begun-requires-clause-nothing g c =
    (1 ∷ [], subst (λ k. Keeps k (1 ∷ []) [] []) (sym c.saw.ensures) (keeps_seen c.new-known.result [] [] [] 1 (omega arith) c.new-known.ensures.keeps))
