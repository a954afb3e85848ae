-- The page was free and now is taken; one more page is made as zeros behind the others.
use Rattle.std.proofs.Common.{◌≡◌, ◌∙◌, ◌+◌, ◌-◌, ◌*◌, ◌++◌, ◌<◌, [], replicate, refl, ap, arith, sym}
use Rattle.std.proofs.lemmas.List.{nil_from_length, append-nil}
use Rattle.page_pool.specs.Pool.{Pool, page_size}
use Rattle.page_pool.specs.PagePool.{pool_in}
use Rattle.page_pool.specs.declared.pool.PagePool.TheInside.{Inside}
use Rattle.page_pool.proofs.Changes.{took, given_one, given_sound, given_below, made_one, made_sound, lengthened}
use Rattle.page_pool.proofs.pool.PagePool.take.Goals as goal

pub invariant_of-self : goal.invariant_of-self
invariant_of-self c = given_sound c.self.inside _ c.in-Some.number c.self.invariant c.in-Some.ensures.items refl refl refl (omega (arith, c.in-Some.ensures.capacity))

pub returns-in-Some-clause-taken : goal.returns-in-Some-clause-taken
returns-in-Some-clause-taken c =
    let o = given_one c.self.inside (record { bytes = c.self.inside.bytes; pages = c.self.inside.pages; made = c.self.inside.made; given_back = c.pop.new.self; work = c.saturating_add-self-inside.result }) c.in-Some.number c.in-Some.ensures.items refl refl refl in
    (ap (λ (p : Pool). p.free) (sym c.self.view_is) ∙ o.1, (took (pool_in c.self.inside) _ c.in-Some.number c.self.invariant.are o.0 o.1).taken)

pub returns-in-Some-clause-made : goal.returns-in-Some-clause-made
returns-in-Some-clause-made c =
    let l = given_below c.self.inside _ c.in-Some.number c.self.invariant c.in-Some.ensures.items in
    let m : c.self.inside.made ≡ c.args.self.now.made = ap (λ (p : Pool). p.made) c.self.view_is in
    (omega arith, omega arith)

pub returns-in-Some-clause-sound : goal.returns-in-Some-clause-sound
returns-in-Some-clause-sound c = (invariant_of-self c).are

pub returns-then-self-clause-none : goal.returns-then-self-clause-none
returns-then-self-clause-none c =
    let back : c.self.inside.given_back.items ≡ [] = nil_from_length c.self.inside.given_back.items (omega (arith, c.in_default.ensures.cases, c.self.inside.given_back.ok.0)) in
    let z : c.self.inside.pages - c.self.inside.made ≡ 0 = omega (arith, c.if-self.true) in
    let new : c.pop.new.self.items ≡ [] = sym (append-nil c.pop.new.self.items) ∙ sym c.in_default.ensures.items ∙ back in
    (ap (λ (p : Pool). p.free) (sym c.self.view_is) ∙ rw (z, back) refl, rw (z, new) refl)

abbrev old : (c : goal.After-self-2-1) → Inside
old c = c.self.inside

abbrev new : (c : goal.After-self-2-1) → Inside
new c = record { bytes = c.resize.new.self; pages = c.self.inside.pages; made = c.self.inside.made + 1; given_back = c.pop.new.self; work = c.saturating_add-self-inside.result }

none_back : (c : goal.After-self-2-1) → (old c).given_back.items ≡ []
none_back c = nil_from_length (old c).given_back.items (omega (arith, c.in_default.ensures.cases, c.self.inside.given_back.ok.0))

none_left : (c : goal.After-self-2-1) → c.pop.new.self.items ≡ []
none_left c = sym (append-nil c.pop.new.self.items) ∙ sym c.in_default.ensures.items ∙ none_back c

not_all : (c : goal.After-self-2-1) → c.self.inside.made < c.self.inside.pages
not_all c = omega (arith, c.if-self.false, c.self.invariant.within)

longer : (c : goal.After-self-2-1) → c.resize.new.self.items ≡ c.self.inside.bytes.items ++ replicate page_size 0
longer c = lengthened c.self.inside.bytes.items c.resize.new.self.items c.self.inside.made ((c.self.inside.made + 1) * 65536) ((c.self.inside.made + 1) * 65536 - c.self.inside.bytes.len) c.in-Ok.ensures.items c.self.invariant.whole (omega (arith, c.self.inside.bytes.ok.0)) refl

pub invariant_of-self-2 : goal.invariant_of-self-2
invariant_of-self-2 c = made_sound (old c) (new c) c.self.invariant (not_all c) (none_back c) (longer c) refl refl (none_left c) (omega (arith, c.in-Ok.ensures.capacity)) (omega (arith, c.in_default.ensures.capacity))

pub returns-clause-taken : goal.returns-clause-taken
returns-clause-taken c =
    let o = made_one (old c) (new c) c.self.invariant (not_all c) (none_back c) (longer c) refl refl (none_left c) in
    (ap (λ (p : Pool). p.free) (sym c.self.view_is) ∙ o.1, (took (pool_in (old c)) (pool_in (new c)) c.self.inside.made c.self.invariant.are o.0 o.1).taken)

pub returns-clause-kept : goal.returns-clause-kept
returns-clause-kept c =
    (made_one (old c) (new c) c.self.invariant (not_all c) (none_back c) (longer c) refl refl (none_left c)).0 ∙ ap (λ (p : Pool). p.contents) c.self.view_is

pub returns-clause-sound : goal.returns-clause-sound
returns-clause-sound c = (invariant_of-self-2 c).are
