-- What the passes of a bench were told, and what a call adds to that. This project's own.
use Rattle.std.specs.Prelude.{◌≡◌, ℕ, false, List, ◌++◌}
use Rattle.faaslet_meaning.specs.declared.grant.Channel.TheVariants.{Local, Global, Table}
use Rattle.faaslet_meaning.specs.Channels.{Operation, Reply, Transcript, told_by}
use Rattle.faaslet_meaning.specs.Table.{TableOperation}
use Rattle.call_service.specs.Asked.{told_as}
use Rattle.told_asks.specs.Leaves.{leaves_lock}

-- of each key at its replica and at its global value, and of the call table
pub record Hearing : Type 0 where
  pub local : ℕ → List (Operation × Reply)
  pub global : ℕ → List (Operation × Reply)
  pub table : List (TableOperation × Reply)

-- and then what this call was told
abbrev pub with_call : Hearing → ℕ → Transcript → Hearing
with_call h call t = record {
  local = λ key. h.local key ++ told_by t (Local key);
  global = λ key. h.global key ++ told_by t (Global key);
  table = h.table ++ told_as call (told_by t Table);
}

-- it leaves no lock
pub record LeavesNone (h : Hearing) : Type 0 where
  pub local : (key : ℕ) → leaves_lock false (h.local key) ≡ false
  pub global : (key : ℕ) → leaves_lock false (h.global key) ≡ false
