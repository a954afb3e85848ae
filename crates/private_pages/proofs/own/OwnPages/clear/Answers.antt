-- Every listed place has a page, and in the end none has.
use Rattle.std.proofs.Common.{◌≡◌, ℕ, Some, None, replicate, get_or, length, arith, sym, ◌∙◌, ap}
use Rattle.std.proofs.lemmas.List.{get_or_read, length-set, length_push, length-map}
use Rattle.std.specs.Prelude.{option_map}
use Rattle.page_pool.specs.Pool.{Pool, content_of}
use Rattle.private_pages.specs.Own.{Own, own_count}
use Rattle.private_pages.proofs.Entries.{last_listed, some_below, given_back, seen_none, count_seen}
use Rattle.private_pages.proofs.own.OwnPages.clear.Goals as goal

pub index_mut-requires : goal.index_mut-requires
index_mut-requires c =
    let a = rw c.in-Some.ensures.items at c.places.invariant.are in
    let o = last_listed c.places.self-inside.pool c.places.self-inside.entries.items c.pop.new.self.items c.in-Some.place a in
    omega (arith, some_below c.places.self-inside.entries.items c.in-Some.place o.0 o.1, c.places.self-inside.entries.ok.0)

pub give-requires : goal.give-requires
give-requires c =
    let a = rw c.in-Some.ensures.items at c.places.invariant.are in
    let o = last_listed c.places.self-inside.pool c.places.self-inside.entries.items c.pop.new.self.items c.in-Some.place a in
    let l = some_below c.places.self-inside.entries.items c.in-Some.place o.0 o.1 in
    c.places.invariant.are.taken c.in-Some.place c.in-Some-take.page (sym (get_or_read c.places.self-inside.entries.items c.in-Some.place c.index_mut.result.now l c.index_mut.ensures.value None) ∙ sym c.take.ensures.value ∙ c.in-Some-take.is)

pub places-preserved : goal.places-preserved
places-preserved c =
    let a = rw c.in-Some.ensures.items at c.places.invariant.are in
    let o = last_listed c.places.self-inside.pool c.places.self-inside.entries.items c.pop.new.self.items c.in-Some.place a in
    let l = some_below c.places.self-inside.entries.items c.in-Some.place o.0 o.1 in
    let e : get_or c.places.self-inside.entries.items c.in-Some.place None ≡ Some c.in-Some-take.page = sym (get_or_read c.places.self-inside.entries.items c.in-Some.place c.index_mut.result.now l c.index_mut.ensures.value None) ∙ sym c.take.ensures.value ∙ c.in-Some-take.is in
    let given = c.give.ensures.given in
    record {
      are = rw c.take.ensures.after (given_back c.places.self-inside.pool c.give.new.self c.places.self-inside.entries.items c.pop.new.self.items c.in-Some.place c.in-Some-take.page a e (ap (λ (x : Pool). x.contents) given) (ap (λ (x : Pool). x.free) given) c.give.ensures.sound);
      few = omega (arith, ap (λ (x : Pool). length x.contents) given, c.places.invariant.few);
      room = omega (arith, ap (λ (x : Pool). length x.contents) given, c.places.invariant.room, c.in-Some.ensures.capacity);
      many = length-set c.places.self-inside.entries.items c.in-Some.place c.take.new.self ∙ c.places.invariant.many;
      work = omega (arith, ap (λ (x : Pool). x.work) given, c.places.invariant.work, ap length c.in-Some.ensures.items, length_push c.pop.new.self.items c.in-Some.place);
    }

pub returns-clause-none : goal.returns-clause-none
returns-clause-none c =
    let z : own_count c.places.self-inside.entries.items ≡ 0 = omega (arith, c.in_default.ensures.cases, c.places.self-inside.dirty.ok.0, c.places.invariant.are.count) in
    seen_none (content_of c.places.self-inside.pool) c.places.self-inside.entries.items z
    ∙ ap (λ (n : ℕ). replicate n None) (c.places.invariant.many ∙ sym (length-map c.self.inside.entries.items (option_map (content_of c.self.inside.pool))) ∙ ap (λ (v : Own). length v.pages) c.self.view_is)

pub returns-clause-work : goal.returns-clause-work
returns-clause-work c =
    rw (← c.self.view_is) (omega (arith, c.places.invariant.work, c.self.invariant.are.count, count_seen (content_of c.self.inside.pool) c.self.inside.entries.items))
