use Rattle.session_meaning.specs.Registry as registry
use Rattle.session_file.proofs.Leaves.{grant_grows}
use Rattle.session_file.proofs.fill.grant.Goals as goal

pub returns-in-Ok-clause-sizes : goal.returns-in-Ok-clause-sizes
returns-in-Ok-clause-sizes c = grant_grows _ _ c.args.f c.args.grant.now.key.now c.args.grant.now.mode c.in-Ok.ensures.ok

pub returns-in-Err-clause-refused : goal.returns-in-Err-clause-refused
returns-in-Err-clause-refused c = c.at_entry.ensures (registry.grant c.args.registry.now c.args.f c.args.grant.now.key.now c.args.grant.now.mode) c.in-Err.ensures.refused
