use Rattle.session_file.proofs.Leaves.{key_grows}
use Rattle.session_file.proofs.fill.add_key.Goals as goal

pub returns-in-Ok-clause-sizes : goal.returns-in-Ok-clause-sizes
returns-in-Ok-clause-sizes c = key_grows _ _ c.args.key.now.name.now c.capped.result c.deref.result.now c.in-Ok.ensures.ok
