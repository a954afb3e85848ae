-- The page of one place changes, and what the others have stands.
use Rattle.std.proofs.Common.{◌≡◌, arith, get_or, Some, None, ap, sym, ◌∙◌}
use Rattle.std.specs.Prelude.{option_map}
use Rattle.std.proofs.lemmas.List.{get_or_read}
use Rattle.page_pool.specs.Pool.{Pool, content_of}
use Rattle.private_pages.proofs.Entries.{within, whole_seen, seen_over, are_over, seen_at}
use Rattle.private_pages.proofs.own.OwnPages.put.Goals as goal

pub put-requires-clause-taken : goal.put-requires-clause-taken
put-requires-clause-taken c =
    let l = within c.self.inside.pool c.self.inside.entries.items c.self.inside.pool.work c.args.place c.args.self.now c.self.view_is c.requires.inside in
    c.self.invariant.are.taken c.args.place c.in-Some.page (sym (get_or_read c.self.inside.entries.items c.args.place c.index.result.now l c.index.ensures None) ∙ c.in-Some.is)

pub returns-in-Some-clause-put : goal.returns-in-Some-clause-put
returns-in-Some-clause-put c =
    let l = within c.self.inside.pool c.self.inside.entries.items c.self.inside.pool.work c.args.place c.args.self.now c.self.view_is c.requires.inside in
    let e : get_or c.self.inside.entries.items c.args.place None ≡ Some c.in-Some.page = sym (get_or_read c.self.inside.entries.items c.args.place c.index.result.now l c.index.ensures None) ∙ c.in-Some.is in
    λ t. rw (← c.self.view_is) (record {
      own = content_of c.self.inside.pool c.in-Some.page;
      was = seen_at (content_of c.self.inside.pool) c.self.inside.entries.items c.args.place ∙ ap (option_map (content_of c.self.inside.pool)) e;
      now = seen_over _ _ _ _ _ _ _ c.self.invariant.are e c.put.ensures.put;
      work = omega (arith, ap (λ (p : Pool). p.work) c.put.ensures.put);
    })

pub returns-in-Some-clause-sound : goal.returns-in-Some-clause-sound
returns-in-Some-clause-sound c = whole_seen _ _ _ _ (are_over _ _ _ _ _ _ c.self.invariant.are c.put.ensures.put c.put.ensures.sound)

pub returns-in-None-clause-sound : goal.returns-in-None-clause-sound
returns-in-None-clause-sound c = rw (← c.self.view_is) (whole_seen _ _ _ _ c.self.invariant.are)
