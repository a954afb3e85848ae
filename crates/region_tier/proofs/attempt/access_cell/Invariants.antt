-- The entry that an access makes.
use Rattle.faaslet_meaning.specs.Spelling.{spelled}
use Rattle.shared_region.specs.Operations.{operation_of}
use Rattle.region_tier.proofs.attempt.access_cell.Given as goal

abbrev pub ghosts-access_named : goal.ghosts-access_named
ghosts-access_named g a = record { entry = spelled (operation_of a.op.now) }
