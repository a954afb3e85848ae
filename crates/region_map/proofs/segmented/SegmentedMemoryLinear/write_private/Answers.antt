use Rattle.std.proofs.Common.{ap, length, refl}
use Rattle.faaslet_meaning.specs.Memory.{Content}
use Rattle.region_map.proofs.Spread.{is_memory}
use Rattle.region_map.proofs.Changes.{sound, written_are, written_now}
use Rattle.region_map.proofs.segmented.SegmentedMemoryLinear.write_private.Goals as goal

pub returns-then-is_empty-clause-sound : goal.returns-then-is_empty-clause-sound
returns-then-is_empty-clause-sound c = sound _ _ c.self.view_is c.self.invariant

pub returns-clause-put : goal.returns-clause-put
returns-clause-put c =
    let p = rw c.deref.ensures.value at c.in-Some.ensures.place in
    (written_now c.self.inside c.args.self.now c.args.addr (length c.args.bytes.now) c.in-Some.at c.args.bytes.now c.write.new.self c.self.view_is c.self.invariant p refl _ c.write.ensures.written).2

pub returns-clause-sound : goal.returns-clause-sound
returns-clause-sound c =
    let e = ap (λ (x : Content). x.pages) c.write.ensures.written.content in
    is_memory _ _ _ _ (written_are _ _ _ _ c.write.new.self c.self.invariant.are e c.write.ensures.sound)
