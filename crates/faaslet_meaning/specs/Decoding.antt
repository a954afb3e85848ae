-- What is answered of a file that should hold a module: the limits of decoding, and the refusals in their order. This
-- project's own.
use Rattle.std.specs.Prelude.{◌≡◌, ℕ, ◌+◌, ◌<◌, ◌≤◌, Bool, false, List, ◌∷◌, Option, Some, None, length, nat_lt, ◌||◌, if◌then◌else◌}
use Rattle.std.specs.List.{list_any}
use Rattle.faaslet_meaning.specs.declared.module.Limits.{Limits}
use Rattle.faaslet_meaning.specs.declared.module.Body.{Body}
use Rattle.faaslet_meaning.specs.declared.module.Module.{Module}
use Rattle.faaslet_meaning.specs.Productions.{NoSpelling}
use Rattle.faaslet_meaning.specs.Grammar.{IsModule}
use Rattle.faaslet_meaning.specs.IndexSpaces.{type_at, tables, local_count}
use Rattle.faaslet_meaning.specs.Floats.{has_float, IsFloat}

-- the bytes of a module
abbrev pub module_limit : ℕ
module_limit = 4194304

-- the parameters of a function type
abbrev pub param_limit : ℕ
param_limit = 1024

-- the locals of a function, its parameters included
abbrev pub local_limit : ℕ
local_limit = 50000

-- the elements that a table has at first
abbrev pub table_limit : ℕ
table_limit = 65536

-- the globals that a module defines
abbrev pub global_limit : ℕ
global_limit = 65536

-- Some function has more locals than it may, its parameters included. One whose type does not exist counts without
-- parameters. The second list has the types' numbers as `functions` has them, in the order of the bodies.
abbrev pub some_locals : Module → List ℕ → List Body → Bool
some_locals m (t ∷ ts) (b ∷ bs) = nat_lt local_limit (length (type_at m t).params + local_count b) || some_locals m ts bs
some_locals m _ _ = false

-- a table has more elements at first than it may
abbrev pub large : Limits → Bool
large l = nat_lt table_limit l.min

-- the limits in their order
pub data Limit : Type 0 where
  params locals table globals : Limit

-- this limit is passed somewhere in the module; a table that is imported counts too
abbrev pub passes : Module → Limit → Bool
passes m params = list_any (λ t. nat_lt param_limit (length t.params)) m.types
passes m locals = some_locals m m.functions m.bodies
passes m table = list_any large (tables m)
passes m globals = nat_lt global_limit (length m.globals)

-- the first limit that is passed
abbrev pub first_passed : Module → Option Limit
first_passed m =
    if passes m params then Some params
    else if passes m locals then Some locals
    else if passes m table then Some table
    else if passes m globals then Some globals
    else None

-- ---- What is answered of a file.

pub data Decoded : Type 0 where
  too_long malformed float : Decoded
  limit : (passed : Limit) → Decoded
  accepted : (code : Module) → Decoded

-- the bytes are few, and they spell this module
abbrev pub IsRead : List ℕ → Module → Type 0
IsRead bytes m = (length bytes ≤ module_limit) × IsModule m bytes

-- its length comes first, then the grammar, then floats, and then the limits in their order
abbrev pub DecodesTo : Decoded → List ℕ → Type 0
DecodesTo too_long bytes = module_limit < length bytes
DecodesTo malformed bytes = (length bytes ≤ module_limit) × NoSpelling IsModule bytes
DecodesTo float bytes = (m : Module) × IsRead bytes m × IsFloat m
DecodesTo (limit l) bytes = (m : Module) × IsRead bytes m × (has_float m ≡ false) × (first_passed m ≡ Some l)
DecodesTo (accepted m) bytes = IsRead bytes m × (has_float m ≡ false) × (first_passed m ≡ None)
