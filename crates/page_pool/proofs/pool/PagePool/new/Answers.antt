-- A new pool has all its pages free and none made.
use Rattle.std.proofs.Common.{◌≡◌, ◌-◌, ◌+◌, refl, ◌∙◌, length, arith, ap}
use Rattle.page_pool.proofs.Changes.{none_made, pages_are, free_many}
use Rattle.page_pool.proofs.pool.PagePool.new.Goals as goal

pub invariant_of-result : goal.invariant_of-result
invariant_of-result c = none_made _ refl c.in_ok-bytes.ensures.items c.in_ok-given_back.ensures.items c.in_ok-bytes.ensures.capacity c.in_ok-given_back.ensures.capacity

pub returns : goal.returns
returns c =
    let s = invariant_of-result c in
    let z : c.args.pages - 0 + length c.in_ok-given_back.given_back.items ≡ c.args.pages = omega (arith, ap length c.in_ok-given_back.ensures.items) in
    record {
      many = pages_are _ s;
      all = free_many (record { bytes = c.in_ok-bytes.bytes; pages = c.args.pages; made = 0; given_back = c.in_ok-given_back.given_back; work = 0 }) ∙ z;
      none_made = refl;
      none = refl;
      sound = s.are;
    }
