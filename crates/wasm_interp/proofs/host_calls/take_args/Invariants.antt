-- So far the arguments from the last on are taken off.
use Rattle.std.proofs.Common.{◌≡◌, ◌-◌, ◌≤◌, ◌++◌, drop, length, map, take}
use Rattle.std.specs.Prelude.{reverse}
use Rattle.std.specs.Int.{w32}
use Rattle.faaslet_meaning.specs.Integers.{low}
use Rattle.wasm_interp.proofs.host_calls.take_args.Given as goal

abbrev pub invariant-pops : goal.invariant-pops
invariant-pops l = record {
  near : l.left ≤ l.params;
  four : length l.args ≡ 4;
  values : l.values ≡ drop (l.params - l.left) l.initial.values;
  there : l.left ≤ length l.values;
  taken : reverse (map (low w32) (take l.left l.values)) ++ drop l.left (take l.params l.args) ≡ reverse (map (low w32) (take l.params l.initial.values));
}

abbrev pub decreases-pops : goal.decreases-pops
decreases-pops l = l.left
