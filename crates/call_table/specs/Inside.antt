-- The model of `Store`. This project's own.
use Rattle.std.specs.Prelude.{ℕ, ◌≡◌, ◌<◌, ◌≤◌, ◌^◌, true, List, [], ◌∷◌, Option, Some, None, All, length, unwrap_or, slice_get}
use Rattle.faaslet_meaning.specs.declared.call.Callable.{Callable}
use Rattle.faaslet_meaning.specs.declared.call.CallRecord.{CallRecord}
use Rattle.faaslet_meaning.specs.Records.{is_finished}
use Rattle.faaslet_meaning.specs.Table.{Table}
use Rattle.call_table.specs.Held.{IsHeld, piece_limit}
use Rattle.call_table.specs.Spare.{HasRoom}
use Rattle.call_table.specs.declared.spare.Spare.{Spare}
use Rattle.call_table.specs.declared.store.Store.TheInside.{Inside}

abbrev pub table_in : Inside → Table
table_in t = record { hosts = t.hosts; functions = t.functions.items; records = t.records.items }

-- how many channels a function has
abbrev pub channels_of : List Callable → ℕ → ℕ
channels_of functions f = (unwrap_or (slice_get functions f) (record { fuel = 0; room = 0; channels = 0 })).channels

-- a record that is not finished has room for its output and its counts
abbrev pub HasSpare : List Callable → CallRecord → Option Spare → Type 0
HasSpare functions r None = is_finished r.state ≡ true
HasSpare functions r (Some s) = HasRoom r.room (channels_of functions r.function) s

abbrev pub HaveSpares : List Callable → List CallRecord → List (Option Spare) → Type 0
HaveSpares functions [] [] = Unit {0}
HaveSpares functions (r ∷ rs) (s ∷ ss) = HasSpare functions r s × HaveSpares functions rs ss
HaveSpares functions [] (s ∷ ss) = ⊥
HaveSpares functions (r ∷ rs) [] = ⊥

pub record IsTable (hosts : ℕ) (functions : List Callable) (records : List CallRecord) (spares : List (Option Spare)) : Type 0 where
  pub rooms : All (λ f. f.room ≤ piece_limit) functions
  pub few : length records < 2 ^ 31
  pub each : All (IsHeld hosts (length functions) (length records)) records
  pub spare : HaveSpares functions records spares

abbrev pub IsInside : Inside → Type 0
IsInside t = IsTable t.hosts t.functions.items t.records.items t.spares.items
