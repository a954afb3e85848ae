use Rattle.std.proofs.Common.{◌-◌, ◌≡◌}
use Rattle.host_calls.specs.Buffers.{IsWithin, written_on}
use Rattle.host_calls.proofs.buffer.store_on.Given as goal

abbrev pub invariant-pieces : goal.invariant-pieces
invariant-pieces g l =
    let old = g.M.Linear.memory l.initial.machine.memory in
    let new = g.M.Linear.memory l.machine.memory in
    record {
      only : l.machine ≡ record l.initial.machine { memory = l.machine.memory };
      backing : g.M.Linear.backing l.machine.memory ≡ g.M.Linear.backing l.initial.machine.memory;
      at : (l.span.ptr ≡ l.fn.from.ptr) × (l.span.len ≡ l.fn.from.len);
      within : IsWithin new l.span;
      same : written_on new l.span l.initial.machine.aside ≡ written_on old l.fn.from l.initial.machine.aside;
    }

abbrev pub decreases-pieces : goal.decreases-pieces
decreases-pieces g l = l.span.len - l.span.done
