-- What contracts see of a region of the code. This project's own.
use Rattle.std.specs.Prelude.{ℕ, length}
use Rattle.faaslet_meaning.specs.Region.{Region, holders, writes}

-- the region, and beside it for how many lock holders there is room
pub record Shared : Type 0 where
  pub region : Region
  pub room : ℕ

-- how many locks are held
abbrev pub held_in : Shared → ℕ
held_in s = length (holders s.region writes)
