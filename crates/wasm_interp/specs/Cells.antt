-- A list with a room that it keeps to. This project's own.
use Rattle.std.specs.Prelude.{ℕ, List}

pub record Held (A : Type 0) : Type 0 where
  pub room : ℕ
  pub items : List A
