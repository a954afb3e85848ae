-- Which of two hosts comes first. This project's own.
use Rattle.std.specs.Prelude.{ℕ, Bool, true, List, Option, Some, None, nat_lt, ◌==◌, ◌&&◌, ◌||◌}
use Rattle.faaslet_meaning.specs.Placement.{queued}

-- the one with fewer calls queued, on ties the one with the lower number
abbrev pub is_before : List ℕ → ℕ → ℕ → Bool
is_before lengths host other =
    nat_lt (queued lengths host) (queued lengths other)
    || ((queued lengths host == queued lengths other) && nat_lt host other)

abbrev pub leads : List ℕ → ℕ → Option ℕ → Bool
leads lengths host None = true
leads lengths host (Some other) = is_before lengths host other
