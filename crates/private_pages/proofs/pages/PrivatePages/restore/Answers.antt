-- Without own pages the content is the image's.
use Rattle.std.proofs.Common.{Some, length, arith, ap}
use Rattle.private_pages.specs.Pages.{Pages}
use Rattle.private_pages.proofs.Contents.{restored_content, restored_are, sound_pages, count_nothing}
use Rattle.private_pages.proofs.pages.PrivatePages.restore.Goals as goal

pub invariant_of-self : goal.invariant_of-self
invariant_of-self c =
    restored_are _ (length c.self.inside.own.pages) c.clear.ensures.none c.pages-self-inside.ensures.count (c.pages-self-inside.ensures.sound, c.requires.within) (omega (arith, c.requires.roomy, ap (λ (p : Pages). p.room) c.self.view_is)) c.self.invariant.few

pub returns-clause-content : goal.returns-clause-content
returns-clause-content c =
    restored_content c.clear.new.self.pages (length c.self.inside.own.pages) (Some c.args.image.now) _ c.args.quota c.clear.ensures.none c.pages-self-inside.ensures.count (c.pages-self-inside.ensures.sound, c.requires.within)

pub returns-clause-dirty : goal.returns-clause-dirty
returns-clause-dirty c = rw c.clear.ensures.none (count_nothing (length c.self.inside.own.pages))

pub returns-clause-sound : goal.returns-clause-sound
returns-clause-sound c = sound_pages _ (invariant_of-self c)
