-- So far the bytes of the private pieces passed are read.
use Rattle.std.proofs.Common.{◌-◌}
use Rattle.wasm_interp.specs.Parts.{ReadOn}
use Rattle.wasm_interp.proofs.pieces.read_on.Given as goal

abbrev pub invariant-parts : goal.invariant-parts
invariant-parts g l = ReadOn (g.M.Linear.memory l.memory) l.addr l.size l.from l.so_far l.done l.value

abbrev pub decreases-parts : goal.decreases-parts
decreases-parts g l = l.size - l.done
