-- A call with two children, on a table that one pass asks. This project's own.
use Rattle.std.specs.Prelude.{◌≡◌, ℕ, ◌<◌, ◌≤◌, List, Some, length}
use Rattle.faaslet_meaning.specs.declared.ask.Ask.{Ask}
use Rattle.faaslet_meaning.specs.declared.ask.Ask.TheVariants as an_ask
use Rattle.faaslet_meaning.specs.Records.{child_of}
use Rattle.turn_cell.specs.declared.view.Entry.{Entry}
use Rattle.call_table.specs.Held.{piece_limit}
use Rattle.call_table.specs.Session.{SessionTable}
use Rattle.call_service.specs.May.{IsChild}

-- the table knows a function, and call 0 has two children
pub record IsParent (t : SessionTable) : Type 0 where
  pub known : 0 < length t.table.functions
  pub children : (child : ℕ) → child < 2 → (n : ℕ) × (child_of t.table.records 0 child ≡ Some n)

-- by a list the two children are still there
abbrev pub HasTwo : SessionTable → List Entry → Type 0
HasTwo start list = (child : ℕ) → child < 2 → IsChild start list 0 child

-- a Submit of the first callable function, with an input that fits, or a Look at one of the two children
abbrev pub IsPlain : Ask → Type 0
IsPlain (an_ask.Submit f len) = (f ≡ 0) × (len ≤ piece_limit)
IsPlain (an_ask.Look child) = child < 2
IsPlain _ = ⊥
