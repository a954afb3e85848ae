-- The bytes of one page are replaced, and no other content.
use Rattle.std.proofs.Common.{refl, arith}
use Rattle.page_pool.proofs.Changes.{among, wrote, written_is, written_sound, still_taken}
use Rattle.page_pool.proofs.pool.PagePool.fill.Goals as goal

pub slice_bounds-copy_from_slice-end : goal.slice_bounds-copy_from_slice-end
slice_bounds-copy_from_slice-end c =
    let l = among c.self.inside c.args.self.now c.args.page.now c.self.view_is c.self.invariant c.requires.taken in
    omega (arith, c.self.invariant.whole, c.deref_mut.ensures.len)

pub invariant_of-self : goal.invariant_of-self
invariant_of-self c =
    let l = among c.self.inside c.args.self.now c.args.page.now c.self.view_is c.self.invariant c.requires.taken in
    let i = wrote c.self.inside c.args.page.now _ _ _ _ c.args.source.now c.self.invariant l c.requires.whole (omega arith) (omega arith) c.deref_mut.ensures.value c.copy_from_slice.ensures.after in
    written_sound c.self.inside _ c.args.page.now c.args.source.now c.self.invariant l c.requires.whole i refl refl refl refl

pub returns-clause-filled : goal.returns-clause-filled
returns-clause-filled c =
    let l = among c.self.inside c.args.self.now c.args.page.now c.self.view_is c.self.invariant c.requires.taken in
    let i = wrote c.self.inside c.args.page.now _ _ _ _ c.args.source.now c.self.invariant l c.requires.whole (omega arith) (omega arith) c.deref_mut.ensures.value c.copy_from_slice.ensures.after in
    written_is c.self.inside c.args.self.now c.args.page.now c.args.source.now _ _ c.self.view_is c.self.invariant l c.requires.whole i c.saturating_add-self-inside.ensures

pub returns-clause-still_taken : goal.returns-clause-still_taken
returns-clause-still_taken c = still_taken c.args.self.now _ c.args.page.now _ c.requires.taken (returns-clause-filled c)

pub returns-clause-sound : goal.returns-clause-sound
returns-clause-sound c = (invariant_of-self c).are
