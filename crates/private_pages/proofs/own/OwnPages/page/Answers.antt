-- The page of a place is taken from the pool.
use Rattle.std.proofs.Common.{None, sym, ◌∙◌}
use Rattle.std.proofs.lemmas.List.{get_or_read}
use Rattle.private_pages.proofs.Entries.{within}
use Rattle.private_pages.proofs.own.OwnPages.page.Goals as goal

pub bytes-requires : goal.bytes-requires
bytes-requires c =
    let l = within c.self.inside.pool c.self.inside.entries.items c.self.inside.pool.work c.args.place c.args.self.now c.self.view_is c.requires in
    c.self.invariant.are.taken c.args.place c.in-Some.page (sym (get_or_read c.self.inside.entries.items c.args.place c.index.result.now l c.index.ensures None) ∙ c.in-Some.is)
