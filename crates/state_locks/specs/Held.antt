-- What contracts see of the locks. This project's own.
use Rattle.std.specs.Prelude.{ℕ, Option, List}

-- who holds the write lock; who holds read locks, in the order in which they locked; and for how many holders there is room
pub record Locks : Type 0 where
  pub writer : Option ℕ
  pub readers : List ℕ
  pub room : ℕ
