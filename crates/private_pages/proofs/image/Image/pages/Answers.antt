-- An image has whole pages.
use Rattle.private_pages.proofs.Kept.{image_sound}
use Rattle.private_pages.proofs.image.Image.pages.Goals as goal

pub returns-clause-sound : goal.returns-clause-sound
returns-clause-sound c = rw (← c.self.view_is) (image_sound c.self.inside c.self.invariant)
