-- What is printed of a module and of a call. This project's own.
use Rattle.std.specs.Prelude.{ℕ, ◌+◌, ◌/◌, ◌%◌, List, [], ◌∷◌, ◌++◌, codes, nat_lt, if◌then◌else◌}
use Rattle.std.specs.Fmt.{decimal, signed_decimal}
use Rattle.std.specs.List.{flat_map}
use Rattle.faaslet_meaning.specs.declared.outcome.Trap.{Trap}
use Rattle.faaslet_meaning.specs.declared.outcome.Trap.TheVariants as trap
use Rattle.faaslet_meaning.specs.declared.outcome.Broken.{Broken}
use Rattle.faaslet_meaning.specs.declared.outcome.Broken.TheVariants as broken
use Rattle.faaslet_meaning.specs.declared.outcome.Outcome.{Outcome}
use Rattle.faaslet_meaning.specs.declared.outcome.Outcome.TheVariants as outcome
use Rattle.faaslet_meaning.specs.Decoding.{Limit}
use Rattle.faaslet_meaning.specs.Decoding as decoding

-- a hexadecimal digit in lower case
abbrev pub hex_digit : ℕ → ℕ
hex_digit n = if nat_lt n 10 then 48 + n else 87 + n

-- two digits a byte
abbrev pub hex : List ℕ → List ℕ
hex bytes = flat_map (λ b. hex_digit (b / 16) ∷ hex_digit (b % 16) ∷ []) bytes

abbrev pub trap_text : Trap → List ℕ
trap_text trap.Unreachable = codes "unreachable"
trap_text trap.OutOfBounds = codes "out of bounds memory access"
trap_text trap.DivideByZero = codes "integer divide by zero"
trap_text trap.IntegerOverflow = codes "integer overflow"
trap_text trap.UndefinedElement = codes "undefined element"
trap_text trap.UninitializedElement = codes "uninitialized element"
trap_text trap.TypeMismatch = codes "indirect call type mismatch"
trap_text trap.StackExhausted = codes "stack exhausted"
trap_text trap.Denied = codes "denied"
trap_text trap.BadKey = codes "bad key"
trap_text trap.BadFunction = codes "bad function"
trap_text trap.BadChild = codes "bad child"
trap_text trap.BufferTooLong = codes "buffer too long"
trap_text trap.StateRange = codes "state range"
trap_text trap.AppendFull = codes "append full"
trap_text trap.LockMisuse = codes "lock misuse"
trap_text trap.TooManyLocks = codes "too many locks"
trap_text trap.TooManyMappings = codes "too many mappings"
trap_text trap.MapFull = codes "map full"
trap_text trap.CallRange = codes "call range"
trap_text trap.OutputFull = codes "output full"
trap_text trap.ChainFull = codes "chain full"

abbrev pub broken_text : Broken → List ℕ
broken_text broken.Segment = codes "segment"
broken_text broken.Quota = codes "quota"
broken_text (broken.Trap kind) = codes "trap " ++ trap_text kind
broken_text broken.Fuel = codes "fuel"
broken_text broken.HostCall = codes "host call"

-- an outcome, with the output and the used fuel where they are told
abbrev pub outcome_text : Outcome → List ℕ → ℕ → List ℕ
outcome_text (outcome.Done code) output used = codes "done " ++ signed_decimal code ++ codes " used " ++ decimal used ++ codes " output " ++ hex output
outcome_text (outcome.Trap kind) output used = codes "trap " ++ trap_text kind ++ codes " used " ++ decimal used
outcome_text outcome.FuelOut output used = codes "fuel"
outcome_text (outcome.Broken kind) output used = codes "broken " ++ broken_text kind
outcome_text outcome.Want output used = codes "want"

-- a text and its line feed
abbrev pub line : List ℕ → List ℕ
line text = text ++ 10 ∷ []

-- the line of `call`
abbrev pub call_line : Outcome → List ℕ → ℕ → List ℕ
call_line o output used = line (codes "call " ++ outcome_text o output used)

abbrev pub usage : List ℕ
usage = line (codes "usage: faasm check FILE | call FILE INPUTHEX FUEL | trace SESSION SEED | run SESSION | load N")

-- what `check` says of a module that is not refused
abbrev pub valid : List ℕ
valid = line (codes "valid")

-- the refusals of a module
abbrev pub too_long : List ℕ
too_long = line (codes "too long")

abbrev pub malformed : List ℕ
malformed = line (codes "malformed")

abbrev pub float : List ℕ
float = line (codes "float")

abbrev pub limit_text : Limit → List ℕ
limit_text decoding.params = codes "params"
limit_text decoding.locals = codes "locals"
limit_text decoding.table = codes "table"
limit_text decoding.globals = codes "globals"

abbrev pub limit : Limit → List ℕ
limit l = line (codes "limit " ++ limit_text l)

abbrev pub invalid_module : List ℕ
invalid_module = line (codes "invalid module")

abbrev pub invalid_function : ℕ → List ℕ
invalid_function k = line (codes "invalid function " ++ decimal k)

-- the refusals of a valid module that a function may not have
abbrev pub bad_import : ℕ → List ℕ
bad_import k = line (codes "bad import " ++ decimal k)

abbrev pub no_main : List ℕ
no_main = line (codes "no main")

abbrev pub bad_init : List ℕ
bad_init = line (codes "bad init")

-- what isn't built yet
abbrev pub not_built : List ℕ
not_built = line (codes "not built")

abbrev pub read_fault : List ℕ
read_fault = line (codes "read fault")
