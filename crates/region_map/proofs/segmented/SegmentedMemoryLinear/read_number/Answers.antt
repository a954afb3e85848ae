use Rattle.region_map.proofs.Changes.{sound}
use Rattle.region_map.proofs.segmented.SegmentedMemoryLinear.read_number.Goals as goal

pub returns-in-Some-clause-sound : goal.returns-in-Some-clause-sound
returns-in-Some-clause-sound c = sound _ _ c.self.view_is c.self.invariant

pub returns-in-None-clause-sound : goal.returns-in-None-clause-sound
returns-in-None-clause-sound c = sound _ _ c.self.view_is c.self.invariant
