-- Bytes of one page are bytes of the content.
use Rattle.std.proofs.Common.{length, refl, ◌∙◌}
use Rattle.private_pages.proofs.Contents.{part_read, zero_read}
use Rattle.private_pages.proofs.pages.PrivatePages.read_part.Goals as goal

pub returns-in-Some : goal.returns-in-Some
returns-in-Some c = c.copy_from_slice.ensures.after ∙ part_read c.args.self.now.content.bytes c.in-Some.content.now c.args.place c.args.from _ (length c.args.buf.now) c.in-Some.ensures.some refl c.requires.fits

pub returns-in-None : goal.returns-in-None
returns-in-None c = c.fill.ensures.after (λ y e. e) ∙ zero_read c.args.self.now.content.bytes c.args.place c.args.from (length c.args.buf.now) c.in-None.ensures.zero c.requires.fits
