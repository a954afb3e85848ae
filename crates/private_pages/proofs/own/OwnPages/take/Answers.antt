-- The pool has a page for a place that has none, and that place alone changes.
use Rattle.std.proofs.Common.{arith, ap}
use Rattle.page_pool.specs.Pool.{Pool}
use Rattle.private_pages.specs.Own.{Own}
use Rattle.private_pages.proofs.Entries.{within, none_at, some_free, took, whole_seen}
use Rattle.private_pages.proofs.own.OwnPages.take.Goals as goal

pub unreachable-requires-in-None : goal.unreachable-requires-in-None
unreachable-requires-in-None c =
    let l = within c.self.inside.pool c.self.inside.entries.items c.self.inside.pool.work c.args.place c.args.self.now c.self.view_is c.requires.inside in
    let e = none_at c.self.inside.pool c.self.inside.entries.items c.self.inside.pool.work c.args.place c.args.self.now c.self.view_is c.requires.none in
    some_free c.self.inside.pool c.self.inside.entries.items c.self.inside.dirty.items c.args.place c.self.invariant.are l e c.in-None.ensures.none.0

pub invariant_of-self : goal.invariant_of-self
invariant_of-self c =
    let l = within c.self.inside.pool c.self.inside.entries.items c.self.inside.pool.work c.args.place c.args.self.now c.self.view_is c.requires.inside in
    let e = none_at c.self.inside.pool c.self.inside.entries.items c.self.inside.pool.work c.args.place c.args.self.now c.self.view_is c.requires.none in
    let t = took c.self.inside.pool c.take.new.self c.set_content.new.pool c.self.inside.entries.items c.self.inside.dirty.items c.args.place c.in-Some.page _ c.self.invariant.are l e c.in-Some.ensures.kept c.in-Some.ensures.taken c.set_content.ensures.set c.set_content.ensures.sound in
    record {
      are = rw c.in-Ok.ensures.items t.are;
      few = omega (arith, t.many, c.self.invariant.few);
      room = omega (arith, t.many, c.self.invariant.room, c.in-Ok.ensures.capacity);
    }

pub returns-clause-taken : goal.returns-clause-taken
returns-clause-taken c =
    let l = within c.self.inside.pool c.self.inside.entries.items c.self.inside.pool.work c.args.place c.args.self.now c.self.view_is c.requires.inside in
    let e = none_at c.self.inside.pool c.self.inside.entries.items c.self.inside.pool.work c.args.place c.args.self.now c.self.view_is c.requires.none in
    let t = took c.self.inside.pool c.take.new.self c.set_content.new.pool c.self.inside.entries.items c.self.inside.dirty.items c.args.place c.in-Some.page _ c.self.invariant.are l e c.in-Some.ensures.kept c.in-Some.ensures.taken c.set_content.ensures.set c.set_content.ensures.sound in
    rw (← c.self.view_is) t.seen

pub returns-clause-work : goal.returns-clause-work
returns-clause-work c =
    let w = ap (λ (p : Pool). p.work) c.set_content.ensures.set in
    let v = ap (λ (o : Own). o.work) c.self.view_is in
    omega (arith, c.take.ensures.work)

pub returns-clause-sound : goal.returns-clause-sound
returns-clause-sound c = whole_seen _ _ _ _ (invariant_of-self c).are
