-- A page that is taken finds room among those given back.
use Rattle.std.proofs.Common.{◌≡◌, ℕ, ◌++◌, ◌∷◌, [], arith, ap, ◌∙◌, refl}
use Rattle.page_pool.proofs.Changes.{fewer, free_many, pages_are, gave, gave_sound}
use Rattle.page_pool.specs.PagePool.{pool_in}
use Rattle.page_pool.proofs.pool.PagePool.give.Goals as goal

pub unreachable-requires : goal.unreachable-requires
unreachable-requires c =
    let t = rw (← c.self.view_is) at c.requires in
    omega (arith, fewer (pool_in c.self.inside) c.args.page c.self.invariant.are t, free_many c.self.inside, pages_are c.self.inside c.self.invariant, c.in-Err.ensures.full, c.self.invariant.room, c.self.inside.given_back.ok.0)

pub invariant_of-self : goal.invariant_of-self
invariant_of-self c =
    let t = rw (← c.self.view_is) at c.requires in
    let e : c.push.new.self.items ≡ c.self.inside.given_back.items ++ c.args.page ∷ [] = c.in-Ok.ensures.items ∙ ap (λ (n : ℕ). c.self.inside.given_back.items ++ n ∷ []) c.page.view_is in
    let o = gave c.self.inside (pool_in c.self.inside) c.args.page c.push.new.self.items refl c.self.invariant t e in
    record {
      are = gave_sound (pool_in c.self.inside) _ c.args.page c.self.invariant.are t refl o.0;
      within = c.self.invariant.within;
      whole = c.self.invariant.whole;
      given = o.1;
      reserved = c.self.invariant.reserved;
      room = omega (arith, c.self.invariant.room, c.in-Ok.ensures.capacity);
    }

pub returns-clause-sound : goal.returns-clause-sound
returns-clause-sound c = (invariant_of-self c).are
