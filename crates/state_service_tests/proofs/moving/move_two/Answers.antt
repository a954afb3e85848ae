-- What was served is what is told of it.
use Rattle.state_service_tests.proofs.moving.move_two.Goals as goal

pub serve_state-requires : goal.serve_state-requires
serve_state-requires g c = c.requires

pub returns : goal.returns
returns g c = (c.serve_state.result, _, c.serve_state.ensures)
