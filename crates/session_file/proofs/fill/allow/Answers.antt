use Rattle.session_meaning.specs.Registry as registry
use Rattle.session_file.proofs.Leaves.{callee_grows}
use Rattle.session_file.proofs.fill.allow.Goals as goal

pub returns-in-Ok-clause-sizes : goal.returns-in-Ok-clause-sizes
returns-in-Ok-clause-sizes c = callee_grows _ _ c.args.f c.args.callee.now c.in-Ok.ensures.ok

pub returns-in-Err-clause-refused : goal.returns-in-Err-clause-refused
returns-in-Err-clause-refused c = c.at_entry.ensures (registry.allow c.args.registry.now c.args.f c.args.callee.now) c.in-Err.ensures.refused
