-- The pages are whole, within the quota and the room.
use Rattle.private_pages.proofs.Contents.{sound_pages}
use Rattle.private_pages.proofs.pages.PrivatePages.pages.Goals as goal

pub returns-clause-sound : goal.returns-clause-sound
returns-clause-sound c = rw (← c.self.view_is) (sound_pages c.self.inside c.self.invariant)
