-- Legal histories. This project's own.
use Rattle.std.specs.Prelude.{◌≡◌, ℕ, Bool, List, [], ◌∷◌, IsTrue, ◌==◌, if◌then◌else◌}
use Rattle.faaslet_meaning.specs.Channels.{RegionOperation, Reply}
use Rattle.faaslet_meaning.specs.Region as region
use Rattle.faaslet_meaning.specs.Region.{Region}
use Rattle.faaslet_meaning.specs.Table as table
use Rattle.faaslet_meaning.specs.Table.{Table, TableOperation}

-- the rules of an object that makers share, in states S and with operations O: whether an operation may stand, what it leaves, and
-- what it is answered
pub record Rules (S O : Type 0) : Type 0 where
  pub may : S → ℕ → O → Bool
  pub after : S → ℕ → O → S
  pub reply : S → ℕ → O → Reply

-- A history is a list of makers and operations. It holds no replies.
abbrev pub History : Type 0 → Type 0
History O = List (ℕ × O)

-- what a history leaves of a start
abbrev pub left : {S O : Type 0} → Rules S O → S → History O → S
left rules s [] = s
left rules s (e ∷ es) = left rules (rules.after s e.0 e.1) es

-- Each operation may stand in the state that those before it leave.
abbrev pub Legal : {S O : Type 0} → Rules S O → S → History O → Type 0
Legal rules s [] = Unit {0}
Legal rules s (e ∷ es) = IsTrue (rules.may s e.0 e.1) × Legal rules (rules.after s e.0 e.1) es

-- its replies, one for each entry
abbrev pub replies : {S O : Type 0} → Rules S O → S → History O → List Reply
replies rules s [] = []
replies rules s (e ∷ es) = rules.reply s e.0 e.1 ∷ replies rules (rules.after s e.0 e.1) es

-- what a maker was told: each of its operations with its reply, in order
abbrev pub told_to : {S O : Type 0} → Rules S O → ℕ → S → History O → List (O × Reply)
told_to rules maker s [] = []
told_to rules maker s (e ∷ es) =
    let rest = told_to rules maker (rules.after s e.0 e.1) es in
    if e.0 == maker then (e.1, rules.reply s e.0 e.1) ∷ rest else rest

-- a history is legal from a start and leaves this
pub record Leads {S O : Type 0} (rules : Rules S O) (start : S) (history : History O) (end : S) : Type 0 where
  pub legal : Legal rules start history
  pub end_so : end ≡ left rules start history

-- the rules of a region
abbrev pub region_rules : Rules Region RegionOperation
region_rules = record { may = region.may; after = region.after; reply = region.reply }

-- the rules of the call table
abbrev pub table_rules : Rules Table TableOperation
table_rules = record { may = table.may; after = table.after; reply = table.reply }
