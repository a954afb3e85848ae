-- One key after another.
use Rattle.std.proofs.Common.{◌∙◌, arith}
use Rattle.session_objects.proofs.Growing.{one_here}
use Rattle.session_objects.proofs.lists.key_values.Goals as goal

pub loop-k-preserved : goal.loop-k-preserved
loop-k-preserved c =
    let l = c.loop-k-test.true in
    let end = c.keys-k-end.ensures.value in
    c.in_ok-push.ensures.items ∙ one_here (λ y. (y.size, y.init)) c.args.registry.now.keys c.loop-k.k c.loop-k.all.items c.in_ok-key_value.field-0 (omega (arith, l, end)) c.in_ok-key_value.ensures c.loop-k.invariant
