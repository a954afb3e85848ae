use Rattle.session_file.proofs.Leaves.{function_grows}
use Rattle.session_file.proofs.fill.add_function.Goals as goal

pub returns-in-Ok-clause-sizes : goal.returns-in-Ok-clause-sizes
returns-in-Ok-clause-sizes c = function_grows _ _ c.args.function.now.head.name.now c.capped.result c.args.function.now.head.fuel c.capped-2.result c.in-Ok.ensures.ok
