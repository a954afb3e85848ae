-- Whether what was told on a channel leaves a lock. This project's own.
use Rattle.std.specs.Prelude.{Bool, true, false, List, [], ◌∷◌}
use Rattle.faaslet_meaning.specs.Channels.{RegionOperation, Operation, on_region, Reply}

abbrev pub leaves_one : Operation → Bool → Bool
leaves_one (on_region RegionOperation.lock_read) before = true
leaves_one (on_region RegionOperation.lock_write) before = true
leaves_one (on_region RegionOperation.unlock) before = false
leaves_one o before = before

-- where there was a lock before, or none
abbrev pub leaves_lock : Bool → List (Operation × Reply) → Bool
leaves_lock before [] = before
leaves_lock before (x ∷ xs) = leaves_lock (leaves_one x.0 before) xs
