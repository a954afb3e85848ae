-- A sink in memory. This project's own.
use Rattle.std.specs.Prelude.{ℕ, ◌+◌, ◌-◌, ◌^◌, min, List}

-- what it holds, how many bytes more it takes, and how often it has failed
pub record Held : Type 0 where
  pub bytes : List ℕ
  pub room : ℕ
  pub faults : ℕ

-- after a fault
abbrev pub refused : Held → Held
refused s = record s { faults = min (s.faults + 1) (2 ^ 64 - 1) }
