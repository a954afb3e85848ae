-- The ask finds what it needs, and the passes are there again.
use Rattle.state_service_tests.proofs.Plain.{may_plain, served_here, served_there}
use Rattle.state_service_tests.proofs.each.serve_one.Goals as goal

pub serve_state-reply-requires : goal.serve_state-reply-requires
serve_state-reply-requires g c = may_plain _ _ _ _ _ _ c.args.asked.now c.requires.locals c.requires.globals c.requires.local.1 c.requires.global.1 c.requires.plain

pub returns-clause-local : goal.returns-clause-local
returns-clause-local g c = served_here _ _ _ _ _ _ _ _ _ _ _ c.requires.local c.serve_state-reply.ensures

pub returns-clause-global : goal.returns-clause-global
returns-clause-global g c = served_there _ _ _ _ _ _ _ _ _ _ _ c.requires.global c.serve_state-reply.ensures
