use Rattle.std.proofs.Common.{◌+◌, ◌≤◌, ap, arith}
use Rattle.faaslet_meaning.specs.Memory.{page_limit}
use Rattle.private_pages.specs.Pages.{Pages}
use Rattle.region_map.proofs.Spread.{is_memory}
use Rattle.region_map.proofs.Changes.{sound, grown_are, grown_now}
use Rattle.region_map.proofs.segmented.SegmentedMemoryLinear.grow.Goals as goal

pub returns-then-old-most-clause-sound : goal.returns-then-old-most-clause-sound
returns-then-old-most-clause-sound c = sound _ _ c.self.view_is c.self.invariant

pub returns-in-Err-clause-sound : goal.returns-in-Err-clause-sound
returns-in-Err-clause-sound c = rw (c.in-Err.ensures.full.1) (is_memory _ _ _ _ c.self.invariant.are)

pub invariant_of-self-2 : goal.invariant_of-self-2
invariant_of-self-2 c =
    let l = c.lengthen-self-inside.ensures in
    let few : c.self.inside.pages + c.args.n ≤ page_limit = omega (arith, c.min-most.ensures) in
    let p = ap (λ (p : Pages). p.content.pages) c.in-Ok.ensures.grown.1 in
    record {
      are = grown_are c.self.inside.first c.lengthen-self-inside.result c.self.inside.mappings.items c.lengthen-self-inside.new.mappings.items c.self.inside.pages c.args.n c.self.inside.bytes c.grow.new.self c.self.invariant.are l.segments l.each l.count few p c.in-Ok.ensures.sound;
      capacity = omega (arith, c.self.invariant.capacity, l.capacity);
    }

pub returns-clause-grown : goal.returns-clause-grown
returns-clause-grown c =
    let g = c.in-Ok.ensures.grown in
    grown_now c.self.inside c.args.self.now c.lengthen-self-inside.result c.lengthen-self-inside.new.mappings.items c.args.n c.args.max c.grow.new.self c.self.view_is c.self.invariant c.lengthen-self-inside.ensures.segments (omega (arith, c.min-most.ensures)) g.0 g.1

pub returns-clause-sound : goal.returns-clause-sound
returns-clause-sound c = is_memory _ _ _ _ (invariant_of-self-2 c).are
