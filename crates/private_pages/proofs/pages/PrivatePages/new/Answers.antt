-- No page, and nothing is written.
use Rattle.std.proofs.Common.{length}
use Rattle.private_pages.proofs.Contents.{fresh_is}
use Rattle.private_pages.proofs.pages.PrivatePages.new.Goals as goal

pub returns : goal.returns
returns c = fresh_is c.in_ok-own.own (length c.args.pool.contents) c.args.pool.work _ c.in_ok-own.ensures (c.room-room.ensures)
