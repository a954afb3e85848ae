use Rattle.std.proofs.Common.{◌-◌, ◌≡◌, length}
use Rattle.host_calls.specs.Buffers.{IsWithin, reading_on}
use Rattle.host_calls.proofs.buffer.fetch.Given as goal

abbrev pub invariant-pieces : goal.invariant-pieces
invariant-pieces g l =
    let m = g.M.Linear.memory l.initial.machine.memory in
    record {
      only : l.machine ≡ record l.initial.machine { aside = l.machine.aside };
      at : (l.span.ptr ≡ l.fn.from.ptr) × (l.span.len ≡ l.fn.from.len);
      within : IsWithin m l.span;
      same : reading_on m l.span l.machine.aside ≡ reading_on m l.fn.from l.initial.machine.aside;
      long : length l.machine.aside ≡ 65536;
    }

abbrev pub decreases-pieces : goal.decreases-pieces
decreases-pieces g l = l.span.len - l.span.done
