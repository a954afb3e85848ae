-- No place has a page at first.
use Rattle.std.proofs.Common.{◌≡◌, arith, length}
use Rattle.private_pages.proofs.Entries.{at_first, seen_first}
use Rattle.private_pages.proofs.own.OwnPages.new.Goals as goal

pub invariant_of-result : goal.invariant_of-result
invariant_of-result c =
    let n : length c.args.pool.contents ≡ c.places._place = omega (arith, c.requires, c.free-room.ensures.count) in
    record {
      are = rw (c.places.invariant.none, c.in_ok-dirty.ensures.items) (at_first c.args.pool c.places._place c.free-room.ensures.sound n (omega (arith, c.requires, n)));
      few = omega (arith, c.requires, c.free-room.ensures.count, c.free-room.type_inv);
      room = omega (arith, c.requires, c.free-room.ensures.count, c.in_ok-dirty.ensures.capacity);
    }

pub returns : goal.returns
returns c =
    let n : c.places._place ≡ length c.args.pool.contents = omega (arith, c.requires, c.free-room.ensures.count) in
    rw c.places.invariant.none (seen_first c.args.pool c.places._place (length c.args.pool.contents) n)
