use Rattle.std.proofs.Common.{◌≡◌, Some, length}
use Rattle.faaslet_meaning.specs.Productions.{Front}
use Rattle.faaslet_meaning.specs.Nesting.{run}
use Rattle.faaslet_meaning.proofs.Flats.{AreFlats}
use Rattle.faaslet_meaning.proofs.Expressions.{start}
use Rattle.wasm_code.proofs.body.flats.Given as goal

abbrev pub invariant-instrs : goal.invariant-instrs
invariant-instrs l = record {
  read : Front AreFlats l.fn.bytes l.code.items l.rest;
  nested : run start l.code.items ≡ Some l.open;
}

abbrev pub decreases-instrs : goal.decreases-instrs
decreases-instrs l = length l.rest
