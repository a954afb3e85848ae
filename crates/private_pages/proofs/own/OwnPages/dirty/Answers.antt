-- As many places are listed as have a page.
use Rattle.std.proofs.Common.{arith}
use Rattle.page_pool.specs.Pool.{content_of}
use Rattle.private_pages.proofs.Entries.{count_seen}
use Rattle.private_pages.proofs.own.OwnPages.dirty.Goals as goal

pub returns : goal.returns
returns c = rw (← c.self.view_is) (omega (arith, count_seen (content_of c.self.inside.pool) c.self.inside.entries.items, c.self.invariant.are.count, c.self.inside.dirty.ok.0, c.len.ensures))
