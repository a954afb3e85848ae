-- A shelf and a sink in memory of which some calls fail, by their numbers. This project's own.
use Rattle.std.specs.Prelude.{ℕ, ◌+◌, ◌-◌, ◌^◌, min, Bool, List, ◌==◌, if◌then◌else◌}
use Rattle.std.specs.List.{list_any}
use Rattle.fa_outside.specs.MemShelf.{Shelved, failed, opened}
use Rattle.fa_outside.specs.MemSink.{Held}

-- call number `calls` is one that fails
abbrev pub fails_at : List ℕ → ℕ → Bool
fails_at fails calls = list_any (λ n. n == calls) fails

-- the count of calls stays at the end of its type
abbrev pub next : ℕ → ℕ
next calls = min (calls + 1) (2 ^ 64 - 1)

-- the shelf, the numbers of the calls that fail, and how many there were
pub record FailingShelf : Type 0 where
  pub shelf : Shelved
  pub fails : List ℕ
  pub calls : ℕ

abbrev pub shelf_fails : FailingShelf → Bool
shelf_fails s = fails_at s.fails s.calls

-- after a call of `open`
abbrev pub opened_or_failed : FailingShelf → List ℕ → FailingShelf
opened_or_failed s name = record s { shelf = if shelf_fails s then failed s.shelf else opened s.shelf name; calls = next s.calls }

-- the same of a sink
pub record FailingSink : Type 0 where
  pub sink : Held
  pub fails : List ℕ
  pub calls : ℕ

abbrev pub sink_fails : FailingSink → Bool
sink_fails s = fails_at s.fails s.calls
