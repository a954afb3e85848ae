use Rattle.std.proofs.Common.{◌-◌, ◌≡◌, ◌+◌}
use Rattle.faaslet_meaning.specs.Memory.{shared_pieces}
use Rattle.faaslet_meaning.specs.MemoryRules.{all_granted}
use Rattle.host_calls.specs.Buffers.{IsWithin}
use Rattle.host_calls.proofs.modes.all_granted.Given as goal

abbrev pub invariant-pieces : goal.invariant-pieces
invariant-pieces g l =
    let m = g.M.Linear.memory l.initial.machine.memory in
    record {
      same : l.machine ≡ l.initial.machine;
      within : IsWithin m l.span;
      left : all_granted l.grants l.needs (shared_pieces m (l.span.ptr + l.span.done) (l.span.len - l.span.done)) ≡ all_granted l.grants l.needs (shared_pieces m (l.fn.from.ptr + l.fn.from.done) (l.fn.from.len - l.fn.from.done));
    }

abbrev pub decreases-pieces : goal.decreases-pieces
decreases-pieces g l = l.span.len - l.span.done
