-- One function after another.
use Rattle.std.proofs.Common.{◌∙◌, arith}
use Rattle.session_objects.specs.Shape.{callable_in}
use Rattle.session_objects.proofs.Growing.{one_here}
use Rattle.session_objects.proofs.lists.callables.Goals as goal

pub loop-f-preserved : goal.loop-f-preserved
loop-f-preserved c =
    let l = c.loop-f-test.true in
    let end = c.functions-f-end.ensures.value in
    c.in_ok-push.ensures.items ∙ one_here callable_in c.args.registry.now.functions c.loop-f.f c.loop-f.all.items c.callable.result (omega (arith, l, end)) c.callable.ensures c.loop-f.invariant
