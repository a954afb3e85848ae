-- How the lists that threads leave, in which each entry is a list of numbers, spell a session. This project's own.
use Rattle.std.specs.Prelude.{◌≡◌, ℕ, List, [], ◌∷◌}
use Rattle.std.specs.List.{AllByRecursion}
use Rattle.faaslet_meaning.specs.declared.call.CallRecord.{CallRecord}
use Rattle.faaslet_meaning.specs.Channels.{RegionOperation}
use Rattle.faaslet_meaning.specs.History.{History}
use Rattle.faaslet_meaning.specs.Table.{TableOperation}
use Rattle.faaslet_meaning.specs.Spelling.{spelled, spelled_on_table, OperationFits, Spells}
use Rattle.session_meaning.specs.Own.{Session}

-- the makers and the spelled entries of an object
abbrev pub Entries : Type 0
Entries = List (ℕ × List ℕ)

-- what is left of each object, the replicas by host and key
pub record Seen : Type 0 where
  pub records : List CallRecord
  pub locals : List (List Entries)
  pub globals : List Entries
  pub table : Entries

abbrev pub SpellRegions : List Entries → List (History RegionOperation) → Type 0
SpellRegions [] [] = Unit {0}
SpellRegions (es ∷ rest) (h ∷ hs) = Spells spelled es h × SpellRegions rest hs
SpellRegions _ _ = ⊥

abbrev pub SpellHosts : List (List Entries) → List (List (History RegionOperation)) → Type 0
SpellHosts [] [] = Unit {0}
SpellHosts (es ∷ rest) (hs ∷ more) = SpellRegions es hs × SpellHosts rest more
SpellHosts _ _ = ⊥

pub record SpellsSession (seen : Seen) (s : Session) : Type 0 where
  pub records : seen.records ≡ s.records
  pub locals : SpellHosts seen.locals s.locals
  pub globals : SpellRegions seen.globals s.globals
  pub table : Spells spelled_on_table seen.table s.table_history

-- the result of each call that is finished is an i32, as each `main` gives it
abbrev pub ResultsFit : History TableOperation → Type 0
ResultsFit history = AllByRecursion (λ e. OperationFits e.1) history
