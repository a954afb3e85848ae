-- The slot of the key is empty once its turn is taken.
use Rattle.state_service.proofs.Turns.{out_at}
use Rattle.state_service.proofs.moving.take_local.Goals as goal

pub returns-clause-out : goal.returns-clause-out
returns-clause-out g c = out_at _ _ _ _ _ c.take.ensures
