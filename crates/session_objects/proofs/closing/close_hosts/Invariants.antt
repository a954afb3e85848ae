-- The hosts behind those that are left have ended.
use Rattle.std.proofs.Common.{◌≡◌, ◌+◌, ◌*◌, length, map}
use Rattle.std.specs.Vec.{vec_capacity}
use mathlib.Core.List.{IsPrefix}
use Rattle.session_objects.proofs.Ends.{EndedFrom}
use Rattle.session_objects.proofs.closing.close_hosts.Given as goal

abbrev pub invariant-loop-tier : goal.invariant-loop-tier
invariant-loop-tier l = record {
  tiers : IsPrefix l.tiers.items l.fn.tiers.items;
  rests : IsPrefix l.rests.items l.fn.rests.items;
  locals : IsPrefix l.locals.items l.fn.locals.items;
  same : length l.rests.items ≡ length l.tiers.items;
  count : length l.locals.items ≡ length l.tiers.items * l.many;
  ends : length l.ends.items + length l.tiers.items ≡ length l.fn.tiers.items;
  room : vec_capacity l.ends ≡ vec_capacity l.fn.ends;
  ended : EndedFrom l.fn.tiers.items l.many l.fn.locals.items (map (λ v. v.items) l.ends.items) (length l.tiers.items);
}

abbrev pub decreases-loop-tier : goal.decreases-loop-tier
decreases-loop-tier l = length l.tiers.items
