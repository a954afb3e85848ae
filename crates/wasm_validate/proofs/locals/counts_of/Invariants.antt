use Rattle.std.proofs.Common.{◌≡◌, map, take}
use Rattle.faaslet_meaning.specs.IndexSpaces.{local_count}
use Rattle.wasm_validate.proofs.locals.counts_of.Given as goal

abbrev pub invariant-loop-body : goal.invariant-loop-body
invariant-loop-body l = l.counts.items ≡ map local_count (take l.body-index l.bodies)
