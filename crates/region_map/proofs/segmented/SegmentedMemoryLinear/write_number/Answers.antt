use Rattle.std.proofs.Common.{ap}
use Rattle.faaslet_meaning.specs.LoadStore.{bytes_of}
use Rattle.faaslet_meaning.specs.Memory.{Content}
use Rattle.faaslet_meaning.proofs.WordBytes.{bytes_many}
use Rattle.region_map.proofs.Spread.{is_memory}
use Rattle.region_map.proofs.Changes.{sound, written_are, written_now}
use Rattle.region_map.proofs.segmented.SegmentedMemoryLinear.write_number.Goals as goal

pub returns-in-Some-clause-written : goal.returns-in-Some-clause-written
returns-in-Some-clause-written c =
    let p = rw c.deref.ensures.value at c.in-Some.ensures.place in
    λ t. written_now c.self.inside c.args.self.now c.args.addr c.args.size c.in-Some.at (bytes_of c.args.size c.args.value) c.put_number.new.self c.self.view_is c.self.invariant p (bytes_many c.args.size c.args.value) _ c.put_number.ensures.written

pub returns-in-Some-clause-sound : goal.returns-in-Some-clause-sound
returns-in-Some-clause-sound c =
    let e = ap (λ (x : Content). x.pages) c.put_number.ensures.written.content in
    is_memory _ _ _ _ (written_are _ _ _ _ c.put_number.new.self c.self.invariant.are e c.put_number.ensures.sound)

pub returns-in-None-clause-sound : goal.returns-in-None-clause-sound
returns-in-None-clause-sound c = sound _ _ c.self.view_is c.self.invariant
