-- The lock and the Unlock find what they need, and the passes are there again.
use Rattle.state_service_tests.proofs.Held.{may_lock, may_unlock}
use Rattle.state_service_tests.proofs.Plain.{served_here, served_there}
use Rattle.state_service_tests.proofs.locking.lock_one.Goals as goal

pub serve_state-locked-requires : goal.serve_state-locked-requires
serve_state-locked-requires g c = may_lock _ _ _ _ c.args.channel c.args.op c.requires.locals c.requires.globals c.requires.fresh c.requires.lock

pub serve_state-left-requires : goal.serve_state-left-requires
serve_state-left-requires g c = may_unlock _ _ _ _ _ _ c.args.channel c.args.op _ _ c.requires.locals c.requires.globals c.requires.fresh c.requires.lock c.serve_state-locked.ensures

pub returns-clause-local : goal.returns-clause-local
returns-clause-local g c = served_here _ _ _ _ _ _ _ _ _ _ _ (served_here _ _ _ _ _ _ _ _ _ _ _ c.requires.local c.serve_state-locked.ensures) c.serve_state-left.ensures

pub returns-clause-global : goal.returns-clause-global
returns-clause-global g c = served_there _ _ _ _ _ _ _ _ _ _ _ (served_there _ _ _ _ _ _ _ _ _ _ _ c.requires.global c.serve_state-locked.ensures) c.serve_state-left.ensures
