-- Before any event.
use Rattle.world_objects.proofs.Worlds.{starts}
use Rattle.world_objects.proofs.laws.starts_as_the_world.Goals as goal

pub returns : goal.returns
returns c = starts
