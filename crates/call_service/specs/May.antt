-- What an ask has to find. All of it is known to whoever knows the start of the table and its own entries. This project's own.
use Rattle.std.specs.Prelude.{◌≡◌, ℕ, ◌<◌, ◌≤◌, List, Some, length, slice_get}
use Rattle.faaslet_meaning.specs.declared.ask.Ask.{Ask}
use Rattle.faaslet_meaning.specs.declared.ask.Ask.TheVariants as an_ask
use Rattle.faaslet_meaning.specs.Records.{child_of}
use Rattle.turn_cell.specs.declared.view.Entry.{Entry}
use Rattle.turn_cell.specs.History.{Stands}
use Rattle.call_table.specs.Held.{piece_limit}
use Rattle.call_table.specs.Makers.{MakesTable}
use Rattle.call_table.specs.Session.{SessionTable}

-- in the table to which a list leads from the start, the call has this child
abbrev pub IsChild : SessionTable → List Entry → ℕ → ℕ → Type 0
IsChild start list call child = (t : SessionTable) → Stands MakesTable start list t → (n : ℕ) × (child_of t.table.records call child ≡ Some n)

-- the call may call a function at this place, which the table knows, and the scratch holds the input
pub record MaySubmit (callees : List ℕ) (start : SessionTable) (f len scratch : ℕ) : Type 0 where
  pub function : ℕ
  pub is_callee : slice_get callees f ≡ Some function
  pub known : function < length start.table.functions
  pub there : len ≤ scratch
  pub short : len ≤ piece_limit

-- a Submit, or a Look at a child that there is, with room for its output
abbrev pub MayCall : List ℕ → SessionTable → ℕ → Ask → List Entry → List ℕ → Type 0
MayCall callees start call (an_ask.Submit f len) list scratch = MaySubmit callees start f len (length scratch)
MayCall callees start call (an_ask.Look child) list scratch = IsChild start list call child × (piece_limit ≤ length scratch)
MayCall callees start call _ list scratch = ⊥
