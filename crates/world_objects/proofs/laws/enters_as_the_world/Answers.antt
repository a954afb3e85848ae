-- Each entry by itself.
use Rattle.world_objects.proofs.Worlds.{enters}
use Rattle.world_objects.proofs.laws.enters_as_the_world.Goals as goal

pub returns : goal.returns
returns c = enters
