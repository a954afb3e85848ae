-- How records go on: none is lost, and what is finished stays. This project's own.
use Rattle.std.specs.Prelude.{◌≡◌, ◌≤◌, true, List, [], ◌∷◌}
use Rattle.faaslet_meaning.specs.declared.call.CallRecord.{CallRecord}
use Rattle.faaslet_meaning.specs.Records.{is_finished}
use Rattle.call_table.specs.Session.{SessionTable}

-- the same call later
pub record Later (before after : CallRecord) : Type 0 where
  pub request : after.request ≡ before.request
  pub parent : after.parent ≡ before.parent
  pub child : after.child ≡ before.child
  pub function : after.function ≡ before.function
  pub input : after.input ≡ before.input
  pub children : before.children ≤ after.children
  pub finished : is_finished before.state ≡ true → after.state ≡ before.state

-- each record stands at its place later, and more may stand behind them
abbrev pub Grown : List CallRecord → List CallRecord → Type 0
Grown [] after = Unit {0}
Grown (r ∷ rs) [] = ⊥
Grown (r ∷ rs) (x ∷ xs) = Later r x × Grown rs xs

-- what is known of the session stays, and its records go on
pub record Went (before after : SessionTable) : Type 0 where
  pub hosts : after.table.hosts ≡ before.table.hosts
  pub functions : after.table.functions ≡ before.table.functions
  pub workers : after.workers ≡ before.workers
  pub requests : after.requests ≡ before.requests
  pub records : Grown before.table.records after.table.records
