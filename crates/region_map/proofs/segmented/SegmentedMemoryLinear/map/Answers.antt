use Rattle.std.proofs.Common.{◌+◌, ◌≤◌, arith}
use Rattle.faaslet_meaning.specs.Memory.{page_limit}
use Rattle.region_map.proofs.Spread.{is_memory}
use Rattle.region_map.proofs.Changes.{sound, room_to_map, mapped_are, mapped_now}
use Rattle.region_map.proofs.segmented.SegmentedMemoryLinear.map.Goals as goal

pub returns-then-pages-old-clause-sound : goal.returns-then-pages-old-clause-sound
returns-then-pages-old-clause-sound c = sound _ _ c.self.view_is c.self.invariant

pub unreachable-requires : goal.unreachable-requires
unreachable-requires c =
    omega (arith, room_to_map c.self.inside c.args.self.now c.self.view_is c.requires.few, c.in-Err.ensures.full, c.self.invariant.capacity, c.self.inside.mappings.ok.0)

pub invariant_of-self : goal.invariant_of-self
invariant_of-self c =
    let room = room_to_map c.self.inside c.args.self.now c.self.view_is c.requires.few in
    let few : c.self.inside.pages + c.args.pages ≤ page_limit = omega (arith, c.self.invariant.are.few) in
    record {
      are = rw c.in-Ok.ensures.items (mapped_are c.self.inside.first c.self.inside.mappings.items c.self.inside.pages c.args.place c.args.pages c.self.inside.bytes c.self.invariant.are few c.requires.some c.requires.place room);
      capacity = omega (arith, c.self.invariant.capacity, c.in-Ok.ensures.capacity);
    }

pub returns-clause-mapped : goal.returns-clause-mapped
returns-clause-mapped c =
    let few : c.self.inside.pages + c.args.pages ≤ page_limit = omega (arith, c.self.invariant.are.few) in
    rw c.in-Ok.ensures.items (mapped_now c.self.inside c.args.self.now c.args.place c.args.pages c.self.view_is c.self.invariant few)

pub returns-clause-sound : goal.returns-clause-sound
returns-clause-sound c = is_memory _ _ _ _ (invariant_of-self c).are
