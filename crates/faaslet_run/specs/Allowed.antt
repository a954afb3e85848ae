-- What a call may be granted, and what a machine is told of it. This project's own.
use Rattle.std.specs.Prelude.{ℕ, ◌+◌, ◌*◌, ◌≤◌, All, List, [], ◌∷◌, length, ◌==◌}
use Rattle.faaslet_meaning.specs.declared.grant.Grant.{Grant}
use Rattle.faaslet_meaning.specs.declared.grant.Mode.{Mode}
use Rattle.faaslet_meaning.specs.declared.grant.Mode.TheVariants.{Read, Write}
use Rattle.faaslet_meaning.specs.Formed.{AllDiffer}
use Rattle.faaslet_meaning.specs.Memory.{grant_limit}

abbrev pub size_limit : ℕ
size_limit = 16777216

-- a key is not empty, and not too large
abbrev pub HasSize : Grant → Type 0
HasSize g = (1 ≤ g.size) × (g.size ≤ size_limit)

-- few enough grants, of different keys
pub record AreGrants (grants : List Grant) : Type 0 where
  pub few : length grants ≤ grant_limit
  pub differ : AllDiffer (λ a b. a.key == b.key) grants
  pub sizes : All HasSize grants

-- bit k is set where the grant at place k allows writing
abbrev pub write_bit : Mode → ℕ
write_bit Read = 0
write_bit Write = 1

abbrev pub writable_of : List Grant → ℕ
writable_of [] = 0
writable_of (g ∷ gs) = write_bit g.mode + 2 * writable_of gs
