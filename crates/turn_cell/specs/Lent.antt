-- A held value, after a write through `value_mut`. This project's own.
use Rattle.turn_cell.specs.declared.cell.Held.{Held}

abbrev pub held_with : {S : Type 0} {K : _} → Held S K → S → Held S K
held_with h w = record h { value = w }
