use Rattle.region_map.proofs.Changes.{sound}
use Rattle.region_map.proofs.segmented.SegmentedMemoryLinear.pages.Goals as goal

pub returns-clause-sound : goal.returns-clause-sound
returns-clause-sound c = sound _ _ c.self.view_is c.self.invariant
