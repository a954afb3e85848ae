-- So far the bytes of the private pieces passed are written.
use Rattle.std.proofs.Common.{◌-◌, ◌≤◌, ◌≡◌, ◌+◌}
use Rattle.faaslet_meaning.specs.Memory.{pieces, write_on}
use Rattle.wasm_interp.specs.Parts.{left_to_write}
use Rattle.wasm_interp.proofs.pieces.write_on.Given as goal

abbrev pub invariant-parts : goal.invariant-parts
invariant-parts g l =
    let old = g.M.Linear.memory l.initial.memory in
    let new = g.M.Linear.memory l.memory in
    record {
      on : l.from ≤ l.done;
      most : l.done ≤ l.size;
      segments : new.segments ≡ old.segments;
      kept : g.M.Linear.backing l.memory ≡ g.M.Linear.backing l.initial.memory;
      is : write_on (pieces old (l.addr + l.from) (l.size - l.from)) old (left_to_write l.size l.from l.value) ≡ write_on (pieces new (l.addr + l.done) (l.size - l.done)) new (left_to_write l.size l.done l.value);
    }

abbrev pub decreases-parts : goal.decreases-parts
decreases-parts g l = l.size - l.done
