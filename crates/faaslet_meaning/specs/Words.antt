-- The words of the program, without its own name. This project's own.
use Rattle.std.specs.Prelude.{◌≡◌, ℕ, ◌+◌, ◌*◌, ◌<◌, ◌≤◌, ◌⊎◌, List, [], ◌∷◌, length, codes}
use Rattle.std.specs.Fmt.{decimal}
use Rattle.faaslet_meaning.specs.declared.module.Module.{Module}
use Rattle.faaslet_meaning.specs.Fresh.{Function}

-- a command with its values
pub data Command : Type 0 where
  check : (file : List ℕ) → Command
  call : (file input : List ℕ) (fuel : ℕ) → Command
  trace : (file : List ℕ) (seed : ℕ) → Command
  run : (file : List ℕ) → Command
  load : (count : ℕ) → Command

-- the digits `0` to `9`, `A` to `F` and `a` to `f`
pub record IsHexDigit (value character : ℕ) : Type 0 where
  pub spells : ((value < 10) × (character ≡ 48 + value)) ⊎ ((10 ≤ value) × (value < 16) × ((character ≡ 55 + value) ⊎ (character ≡ 87 + value)))

-- two digits for each byte
abbrev pub IsHex : List ℕ → List ℕ → Type 0
IsHex [] [] = Unit {0}
IsHex (b ∷ bytes) (h ∷ l ∷ word) = ((high : ℕ) × (low : ℕ) × IsHexDigit high h × IsHexDigit low l × (b ≡ 16 * high + low)) × IsHex bytes word
IsHex _ _ = ⊥

-- the bytes of an input
abbrev pub input_limit : ℕ
input_limit = 65536

-- an input in hexadecimal digits
pub record IsInput (input word : List ℕ) : Type 0 where
  pub spells : IsHex input word
  pub few : length input ≤ input_limit

-- a number from the least to the most, in decimal digits without a sign or a leading zero
pub record IsNumber (least most number : ℕ) (word : List ℕ) : Type 0 where
  pub spells : word ≡ decimal number
  pub at_least : least ≤ number
  pub at_most : number ≤ most

-- from 1 to 2^40
abbrev pub IsFuel : ℕ → List ℕ → Type 0
IsFuel = IsNumber 1 1099511627776

-- of 64 bits
abbrev pub IsSeed : ℕ → List ℕ → Type 0
IsSeed = IsNumber 0 18446744073709551615

-- of requests
abbrev pub IsCount : ℕ → List ℕ → Type 0
IsCount = IsNumber 1 1024

-- `call FILE INPUTHEX FUEL`
pub record IsCall (file input : List ℕ) (fuel : ℕ) (words : List (List ℕ)) : Type 0 where
  pub input_word : List ℕ
  pub fuel_word : List ℕ
  pub words_are : words ≡ codes "call" ∷ file ∷ input_word ∷ fuel_word ∷ []
  pub is_input : IsInput input input_word
  pub is_fuel : IsFuel fuel fuel_word

-- `trace SESSION SEED`
pub record IsTrace (file : List ℕ) (seed : ℕ) (words : List (List ℕ)) : Type 0 where
  pub seed_word : List ℕ
  pub words_are : words ≡ codes "trace" ∷ file ∷ seed_word ∷ []
  pub is_seed : IsSeed seed seed_word

-- `load N`
pub record IsLoad (count : ℕ) (words : List (List ℕ)) : Type 0 where
  pub count_word : List ℕ
  pub words_are : words ≡ codes "load" ∷ count_word ∷ []
  pub is_count : IsCount count count_word

-- the words are this command
abbrev pub CommandOf : Command → List (List ℕ) → Type 0
CommandOf (check file) words = words ≡ codes "check" ∷ file ∷ []
CommandOf (call file input fuel) words = IsCall file input fuel words
CommandOf (trace file seed) words = IsTrace file seed words
CommandOf (run file) words = words ≡ codes "run" ∷ file ∷ []
CommandOf (load count) words = IsLoad count words

-- what `call` runs: a module with this fuel, 64 pages of its own at most and room for 65,536 bytes of output, without
-- grants and without functions that it may call
abbrev pub call_function : Module → ℕ → Function
call_function m fuel = record { code = m; quota = 64; fuel = fuel; room = 65536; grants = []; callees = [] }
