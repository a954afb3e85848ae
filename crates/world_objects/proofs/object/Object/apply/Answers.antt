-- At most as many locks are held as are counted.
use Rattle.std.proofs.Common.{ap, arith}
use Rattle.shared_region.specs.Shared.{Shared, held_in}
use Rattle.world_objects.proofs.LockCounts.{held_after}
use Rattle.world_objects.proofs.object.Object.apply.Goals as goal

pub invariant_of-self-2 : goal.invariant_of-self-2
invariant_of-self-2 c =
    let same = ap (λ (s : Shared). held_in s) c.perform.ensures.after in
    omega (arith, same, c.in_ok-self-inside.ensures.count, ap (λ r. held_in (record { region = r; room = 0 })) c.make_room.ensures.same, held_after c.make_room.new.region.region c.args.maker c.args.op c.args.scratch.now)
