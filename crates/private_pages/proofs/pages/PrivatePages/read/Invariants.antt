-- What was read so far is the front of the range.
use Rattle.std.proofs.Common.{◌≡◌, ◌-◌, ◌≤◌, length, take}
use Rattle.faaslet_meaning.specs.Memory.{read_bytes}
use Rattle.private_pages.proofs.pages.PrivatePages.read.Given as goal

abbrev pub invariant-loop-done : goal.invariant-loop-done
invariant-loop-done l = record {
  within : l.done ≤ length l.buf;
  read : take l.done l.buf ≡ read_bytes l.fn.at l.done l.self.content.bytes;
  long : length l.buf ≡ length l.initial.buf;
}

abbrev pub decreases-loop-done : goal.decreases-loop-done
decreases-loop-done l = length l.buf - l.done
