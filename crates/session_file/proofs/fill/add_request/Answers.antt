use Rattle.session_file.proofs.Leaves.{request_grows}
use Rattle.session_file.proofs.fill.add_request.Goals as goal

pub returns-in-Ok-clause-sizes : goal.returns-in-Ok-clause-sizes
returns-in-Ok-clause-sizes c = request_grows _ _ c.args.request.now.label.now c.args.request.now.function.now c.capped.result c.deref.result.now c.in-Ok.ensures.ok
