-- The children of a call, as the definition keeps them. This project's own.
use Rattle.std.specs.Prelude.{ℕ, List, Option, Some, None, slice_get}

-- how long the output of a child is, where it was awaited
abbrev pub noted_at : List (Option ℕ) → ℕ → Option ℕ
noted_at children c = elim (slice_get children c) [ None ↦ None | Some n ↦ n ]
