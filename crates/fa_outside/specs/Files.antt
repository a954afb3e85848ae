-- Files by name. This project's own.
use Rattle.std.specs.Prelude.{◌≡◌, ℕ, List, Option, Some, None, IfSome, IsSomeAnd, bytes_eq, find, option_map}

-- A finite map from names to contents, as its pairs. Of two pairs with one name the first counts.
abbrev pub Files : Type 0
Files = List (List ℕ × List ℕ)

-- what the file of this name holds, where there is one
abbrev pub file_named : Files → List ℕ → Option (List ℕ)
file_named files name = option_map (λ f. f.1) (find (λ f. bytes_eq f.0 name) files)

-- where the files are told, the one of this name holds these bytes
abbrev pub IsFile : Option Files → List ℕ → List ℕ → Type 0
IsFile told name bytes = IfSome told (λ files. file_named files name ≡ Some bytes)

-- the files are told, and none has this name
abbrev pub IsAbsent : Option Files → List ℕ → Type 0
IsAbsent told name = IsSomeAnd told (λ files. file_named files name ≡ None)
