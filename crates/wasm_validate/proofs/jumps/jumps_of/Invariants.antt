use Rattle.std.proofs.Common.{◌≡◌, ◌≤◌, length, drop}
use Rattle.faaslet_meaning.specs.Parse.{parts}
use Rattle.wasm_validate.specs.Jumps.{OpensStand, JumpsFrom}
use Rattle.wasm_validate.proofs.jumps.jumps_of.Given as goal

abbrev pub invariant-places : goal.invariant-places
invariant-places l = record {
  long : length l.jumps.items ≡ length l.code;
  within : l.place ≤ length l.code;
  opens : OpensStand l.code l.opens (parts (drop l.place l.code));
  fit : JumpsFrom l.code l.place l.jumps.items;
}

abbrev pub decreases-places : goal.decreases-places
decreases-places l = l.place
