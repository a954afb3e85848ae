-- The front of the bytes was put, and each page but the last is done.
use Rattle.std.proofs.Common.{◌≡◌, ◌+◌, ◌-◌, ◌%◌, ◌≤◌, ◌⊎◌, length, take}
use Rattle.private_pages.specs.Pages.{IsWritten, ArePages, pages_touched}
use Rattle.private_pages.proofs.pages.PrivatePages.write.Given as goal

abbrev pub invariant-loop-done : goal.invariant-loop-done
invariant-loop-done l = record {
  within : l.done ≤ length l.bytes;
  written : IsWritten l.fn.self l.self l.fn.at (take l.done l.bytes) (pages_touched l.fn.at l.done);
  sound : ArePages l.self;
  border : (l.done ≡ length l.bytes) ⊎ ((l.done ≡ 0) ⊎ ((l.fn.at + l.done) % 65536 ≡ 0));
}

abbrev pub decreases-loop-done : goal.decreases-loop-done
decreases-loop-done l = length l.bytes - l.done
