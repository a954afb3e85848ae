-- The objects that are there are the world's.
use Rattle.world_objects.proofs.Worlds.{locks, answers}
use Rattle.world_objects.proofs.laws.meets_as_the_world.Goals as goal

pub returns-clause-locks : goal.returns-clause-locks
returns-clause-locks c = locks

pub returns-clause-answer : goal.returns-clause-answer
returns-clause-answer c = answers
