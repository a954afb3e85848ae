use Rattle.std.proofs.Common.{refl}
use Rattle.host_calls_tests.proofs.StateAsking.{some_call, some_state, set_maps_not, ok_map}
use Rattle.host_calls_tests.proofs.state_tests.begun.Goals as goal

pub returns-clause-other : goal.returns-clause-other
returns-clause-other c =
    let (seen, keeps) = c.requires.nothing in
    let j = some_call c.args.grants.now in
    let s = some_state seen in
    ok_map c.begin.result _ _ c.begin.ensures.begun (λ call b asked. set_maps_not call.stage j s (b j s _ asked refl keeps))
