-- So far each shared piece may be written.
use Rattle.std.proofs.Common.{◌-◌, ◌≡◌, ◌+◌, ◌≤◌, List}
use Rattle.faaslet_meaning.specs.declared.grant.Grant.{Grant}
use Rattle.faaslet_meaning.specs.declared.grant.Mode.TheVariants.{Write as write_mode}
use Rattle.faaslet_meaning.specs.Memory.{shared_pieces}
use Rattle.faaslet_meaning.specs.MemoryRules.{all_granted}
use Rattle.wasm_interp.specs.StandsFor.{Agrees}
use Rattle.wasm_interp.proofs.pieces.may_write.Given as goal

abbrev pub invariant-parts : goal.invariant-parts
invariant-parts g l = record {
  most : l.done ≤ l.size;
  same : (grants : List Grant) → Agrees l.writable grants → all_granted grants write_mode (shared_pieces (g.M.Linear.memory l.memory) (l.addr + l.done) (l.size - l.done)) ≡ all_granted grants write_mode (shared_pieces (g.M.Linear.memory l.memory) l.addr l.size);
}

abbrev pub decreases-parts : goal.decreases-parts
decreases-parts g l = l.size - l.done
