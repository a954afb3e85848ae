use Rattle.region_map.proofs.Changes.{sound}
use Rattle.region_map.proofs.segmented.SegmentedMemoryLinear.check.Goals as goal

pub returns-then-saturating_add-from-clause-sound : goal.returns-then-saturating_add-from-clause-sound
returns-then-saturating_add-from-clause-sound c = sound _ _ c.self.view_is c.self.invariant

pub returns-else-saturating_add-from-clause-sound : goal.returns-else-saturating_add-from-clause-sound
returns-else-saturating_add-from-clause-sound c = sound _ _ c.self.view_is c.self.invariant
