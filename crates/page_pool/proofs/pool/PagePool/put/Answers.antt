-- A part of one page is replaced, and no other content.
use Rattle.std.proofs.Common.{◌≡◌, ◌+◌, ◌-◌, ◌*◌, refl, arith}
use Rattle.page_pool.specs.Pool.{over, content_of}
use Rattle.page_pool.proofs.Changes.{among, wrote, written_is, written_sound, part_is, part_long, still_taken}
use Rattle.page_pool.proofs.pool.PagePool.put.Goals as goal

pub slice_bounds-content-end : goal.slice_bounds-content-end
slice_bounds-content-end c =
    let l = among c.self.inside c.args.self.now c.args.page.now c.self.view_is c.self.invariant c.requires.taken in
    omega (arith, c.self.invariant.whole, c.deref_mut.ensures.len)

pub invariant_of-self : goal.invariant_of-self
invariant_of-self c =
    let l = among c.self.inside c.args.self.now c.args.page.now c.self.view_is c.self.invariant c.requires.taken in
    let a : c.page.inside.number * 65536 ≡ c.args.page.now * 65536 = omega arith in
    let k : c.page.inside.number * 65536 + 65536 - c.page.inside.number * 65536 ≡ 65536 = omega arith in
    let w = part_long c.self.inside c.args.self.now c.args.page.now c.args.from c.args.source.now c.self.view_is c.self.invariant c.requires.taken c.requires.inside in
    let p = part_is c.self.inside c.args.self.now c.args.page.now _ _ c.args.from _ _ _ c.args.source.now c.self.view_is c.self.invariant c.requires.taken a k refl c.deref_mut.ensures.value c.copy_from_slice.ensures.after in
    let i = wrote c.self.inside c.args.page.now _ _ _ _ (over (content_of c.args.self.now c.args.page.now) c.args.from c.args.source.now) c.self.invariant l w a k c.deref_mut.ensures.value p in
    written_sound c.self.inside _ c.args.page.now (over (content_of c.args.self.now c.args.page.now) c.args.from c.args.source.now) c.self.invariant l w i refl refl refl refl

pub returns-clause-put : goal.returns-clause-put
returns-clause-put c =
    let l = among c.self.inside c.args.self.now c.args.page.now c.self.view_is c.self.invariant c.requires.taken in
    let a : c.page.inside.number * 65536 ≡ c.args.page.now * 65536 = omega arith in
    let k : c.page.inside.number * 65536 + 65536 - c.page.inside.number * 65536 ≡ 65536 = omega arith in
    let w = part_long c.self.inside c.args.self.now c.args.page.now c.args.from c.args.source.now c.self.view_is c.self.invariant c.requires.taken c.requires.inside in
    let p = part_is c.self.inside c.args.self.now c.args.page.now _ _ c.args.from _ _ _ c.args.source.now c.self.view_is c.self.invariant c.requires.taken a k refl c.deref_mut.ensures.value c.copy_from_slice.ensures.after in
    let i = wrote c.self.inside c.args.page.now _ _ _ _ (over (content_of c.args.self.now c.args.page.now) c.args.from c.args.source.now) c.self.invariant l w a k c.deref_mut.ensures.value p in
    written_is c.self.inside c.args.self.now c.args.page.now (over (content_of c.args.self.now c.args.page.now) c.args.from c.args.source.now) _ _ c.self.view_is c.self.invariant l w i c.saturating_add-self-inside.ensures

pub returns-clause-still_taken : goal.returns-clause-still_taken
returns-clause-still_taken c = still_taken c.args.self.now _ c.args.page.now _ c.requires.taken (returns-clause-put c)

pub returns-clause-sound : goal.returns-clause-sound
returns-clause-sound c = (invariant_of-self c).are
