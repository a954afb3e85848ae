use Rattle.region_map.proofs.Changes.{unmapped_is}
use Rattle.region_map.proofs.segmented.SegmentedMemoryLinear.unmap_all.Goals as goal

pub returns-clause-unmapped : goal.returns-clause-unmapped
returns-clause-unmapped c =
    rw (c.alone-self-inside.ensures.none, c.alone-self-inside.ensures.count, ← c.self.view_is) (unmapped_is _ _ _ _ c.self.invariant.are)
