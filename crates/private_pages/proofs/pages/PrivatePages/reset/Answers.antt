-- Without own pages the content is that of the last image.
use Rattle.std.proofs.Common.{length, ap, ◌∙◌}
use Rattle.std.specs.Prelude.{option_map}
use Rattle.private_pages.specs.Pages.{Pages, last_content}
use Rattle.private_pages.proofs.Contents.{restored_content, restored_are, sound_pages, count_nothing}
use Rattle.private_pages.proofs.pages.PrivatePages.reset.Goals as goal

pub invariant_of-self : goal.invariant_of-self
invariant_of-self c =
    restored_are _ (length c.self.inside.own.pages) c.clear.ensures.none c.image_pages-self-inside.ensures c.self.invariant.kept c.self.invariant.roomy c.self.invariant.few

pub returns-clause-content : goal.returns-clause-content
returns-clause-content c =
    restored_content c.clear.new.self.pages (length c.self.inside.own.pages) (option_map (λ image. image.now) c.self.inside.image) _ c.self.inside.quota c.clear.ensures.none c.image_pages-self-inside.ensures c.self.invariant.kept ∙ ap (λ (p : Pages). last_content p.last) c.self.view_is

pub returns-clause-dirty : goal.returns-clause-dirty
returns-clause-dirty c = rw c.clear.ensures.none (count_nothing (length c.self.inside.own.pages))

pub returns-clause-sound : goal.returns-clause-sound
returns-clause-sound c = sound_pages _ (invariant_of-self c)
