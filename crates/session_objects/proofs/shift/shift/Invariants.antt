-- So many have gone over.
use Rattle.std.proofs.Common.{◌≡◌, ◌+◌, ◌≤◌, length}
use Rattle.std.specs.Vec.{vec_capacity}
use Rattle.session_objects.proofs.Moving.{Moved}
use Rattle.session_objects.proofs.shift.shift.Given as goal

abbrev pub invariant-loop-from : goal.invariant-loop-from
invariant-loop-from g l = record {
  moved : Moved l.fn.from.items l.from.items l.fn.to.items l.to.items;
  low : l.keep ≤ length l.from.items;
  count : length l.to.items + length l.from.items ≡ length l.fn.to.items + length l.fn.from.items;
  from_room : vec_capacity l.from ≡ vec_capacity l.fn.from;
  to_room : vec_capacity l.to ≡ vec_capacity l.fn.to;
}

abbrev pub decreases-loop-from : goal.decreases-loop-from
decreases-loop-from g l = goal.left-loop-from g l
