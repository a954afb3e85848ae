-- One key after another.
use Rattle.std.proofs.Common.{map, ap, ◌∙◌, arith}
use Rattle.world_core.proofs.Requests.{one_seen}
use Rattle.world_objects.specs.Served.{told_of, start_of}
use Rattle.world_core.proofs.starting.key_starts.Goals as goal

pub loop-k-preserved : goal.loop-k-preserved
loop-k-preserved c =
    let l = c.loop-k-test.true in
    let end = c.keys-k-end.ensures.value in
    ap (map told_of) c.in_ok-push.ensures.items ∙ one_seen start_of told_of c.args.registry.now.keys c.loop-k.k c.loop-k.all.items c.key_start.result (omega (arith, l, end)) c.key_start.ensures c.loop-k.invariant
