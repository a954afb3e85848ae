-- What an entry makes of a tally. This project's own.
use Rattle.std.specs.Prelude.{◌≡◌, ℕ, ◌+◌, ◌%◌, ◌^◌, List, sum}
use Rattle.turn_counter.specs.declared.tally.Tally.{Tally}

-- the entry adds its one number
abbrev pub Adds : ℕ → List ℕ → Tally → Tally → Type 0
Adds maker numbers a b = b.count ≡ (a.count + sum numbers) % 2 ^ 64
