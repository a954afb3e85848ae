-- One key after another.
use Rattle.std.proofs.Common.{◌≡◌, ◌∙◌, arith}
use Rattle.grant_registry.specs.Shows.{ShowsKey}
use Rattle.session_objects.proofs.Growing.{one_here, some_so}
use Rattle.session_objects.proofs.lists.key_sizes.Goals as goal

pub loop-k-preserved : goal.loop-k-preserved
loop-k-preserved c =
    let l = c.loop-k-test.true in
    let end = c.keys-k-end.ensures.value in
    c.in_ok-push.ensures.items ∙ one_here (λ y. y.size) c.args.registry.now.keys c.loop-k.k c.loop-k.all.items c.key_plan.result.size (omega (arith, l, end))
    (some_so _ (λ y. ShowsKey y c.key_plan.result) (λ y. c.key_plan.result.size ≡ y.size) c.key_plan.ensures (λ y s. s.size)) c.loop-k.invariant
