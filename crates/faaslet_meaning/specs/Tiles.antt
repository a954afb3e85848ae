-- The pieces of a range, laid one behind the other. This project's own.
use Rattle.std.specs.Prelude.{◌≡◌, ℕ, ◌+◌, ◌-◌, ◌<◌, ◌≤◌, List, [], ◌∷◌}
use Rattle.faaslet_meaning.specs.Memory.{Piece}

-- The first piece begins where the range does, none is empty, each begins where the one before it ends, and the last ends where
-- the range does.
abbrev pub Tiles : ℕ → ℕ → List Piece → Type 0
Tiles at n [] = n ≡ 0
Tiles at n (p ∷ ps) = (p.at ≡ at) × (0 < p.size) × (p.size ≤ n) × Tiles (at + p.size) (n - p.size) ps
