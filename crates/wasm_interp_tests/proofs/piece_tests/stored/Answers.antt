use Rattle.faaslet_meaning.specs.Configuration.{goes}
use Rattle.wasm_interp_tests.proofs.piece_tests.stored.Goals as goal

pub machine_at-requires : goal.machine_at-requires
machine_at-requires c = (c.args.code.items, c.in_ok-code.ensures)

pub run-event-requires : goal.run-event-requires
run-event-requires c =
    let (grants, agrees) = c.requires in
    let s = c.in_ok-machine.ensures grants agrees in
    (c.in_ok-code.code, grants, 10, goes s.0, s.1)
