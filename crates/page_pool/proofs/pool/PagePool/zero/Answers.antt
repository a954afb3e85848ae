-- The bytes of one page become zeros, and no other content.
use Rattle.std.proofs.Common.{◌≡◌, ℕ, ◌+◌, ◌-◌, ◌*◌, ap, ◌∙◌, sym, length, refl, arith, replicate}
use Rattle.std.proofs.lemmas.List.{length-replicate, length-take-le, length-drop}
use Rattle.page_pool.proofs.Changes.{among, wrote, written_is, written_sound, still_taken}
use Rattle.page_pool.proofs.pool.PagePool.zero.Goals as goal

pub slice_bounds-fill-end : goal.slice_bounds-fill-end
slice_bounds-fill-end c =
    let l = among c.self.inside c.args.self.now c.args.page.now c.self.view_is c.self.invariant c.requires in
    omega (arith, c.self.invariant.whole, c.deref_mut.ensures.len)

zeros : (c : goal.After-self-2-1) → c.fill.new.self ≡ replicate 65536 0
zeros c =
    let l = among c.self.inside c.args.self.now c.args.page.now c.self.view_is c.self.invariant c.requires in
    let m : length c.fill.new.self ≡ 65536 = c.fill.ensures.len ∙ length-take-le _ _ (omega (arith, c.self.invariant.whole, c.deref_mut.ensures.len, length-drop (c.page.inside.number * 65536) c.deref_mut.result.now)) ∙ omega arith in
    c.fill.ensures.after (λ y e. e) ∙ ap (λ (n : ℕ). replicate n 0) (sym c.fill.ensures.len ∙ m)

pub invariant_of-self : goal.invariant_of-self
invariant_of-self c =
    let l = among c.self.inside c.args.self.now c.args.page.now c.self.view_is c.self.invariant c.requires in
    let a : c.page.inside.number * 65536 ≡ c.args.page.now * 65536 = omega arith in
    let k : c.page.inside.number * 65536 + 65536 - c.page.inside.number * 65536 ≡ 65536 = omega arith in
    let i = wrote c.self.inside c.args.page.now _ _ _ _ (replicate 65536 0) c.self.invariant l (length-replicate {A = ℕ} 65536 0) a k c.deref_mut.ensures.value (zeros c) in
    written_sound c.self.inside _ c.args.page.now (replicate 65536 0) c.self.invariant l (length-replicate {A = ℕ} 65536 0) i refl refl refl refl

pub returns-clause-zeroed : goal.returns-clause-zeroed
returns-clause-zeroed c =
    let l = among c.self.inside c.args.self.now c.args.page.now c.self.view_is c.self.invariant c.requires in
    let a : c.page.inside.number * 65536 ≡ c.args.page.now * 65536 = omega arith in
    let k : c.page.inside.number * 65536 + 65536 - c.page.inside.number * 65536 ≡ 65536 = omega arith in
    let i = wrote c.self.inside c.args.page.now _ _ _ _ (replicate 65536 0) c.self.invariant l (length-replicate {A = ℕ} 65536 0) a k c.deref_mut.ensures.value (zeros c) in
    written_is c.self.inside c.args.self.now c.args.page.now (replicate 65536 0) _ _ c.self.view_is c.self.invariant l (length-replicate {A = ℕ} 65536 0) i c.saturating_add-self-inside.ensures

pub returns-clause-still_taken : goal.returns-clause-still_taken
returns-clause-still_taken c = still_taken c.args.self.now _ c.args.page.now _ c.requires (returns-clause-zeroed c)

pub returns-clause-sound : goal.returns-clause-sound
returns-clause-sound c = (invariant_of-self c).are
