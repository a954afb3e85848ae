-- The bytes so far are zeros.
use Rattle.std.proofs.Common.{◌≡◌, take, replicate}
use Rattle.private_pages.proofs.image.is_zero.Given as goal

abbrev pub invariant-loop-byte : goal.invariant-loop-byte
invariant-loop-byte l = take l.byte-index l.content ≡ replicate l.byte-index 0
