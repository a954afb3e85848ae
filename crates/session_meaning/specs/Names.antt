-- Names of keys and functions, and labels of requests. This project's own.
use Rattle.std.specs.Prelude.{ℕ, ◌==◌, ◌&&◌, ◌||◌, Bool, List, Option, length, nat_le, position, is_some}
use Rattle.std.specs.List.{list_all}
use Rattle.std.specs.Str.{bytes_eq}
use Rattle.session_meaning.specs.SessionLimits.{name_limit}

abbrev pub is_within : ℕ → ℕ → ℕ → Bool
is_within low high n = nat_le low n && nat_le n high

-- 0 to 9, A to Z, a to z, _ and - of ASCII
abbrev pub is_name_byte : ℕ → Bool
is_name_byte c = is_within 48 57 c || is_within 65 90 c || is_within 97 122 c || c == 95 || c == 45

abbrev pub is_name : List ℕ → Bool
is_name name = is_within 1 name_limit (length name) && list_all is_name_byte name

-- the number of a name in a list
abbrev pub number_of : List ℕ → List (List ℕ) → Option ℕ
number_of name names = position (bytes_eq name) names

abbrev pub is_taken : List ℕ → List (List ℕ) → Bool
is_taken name names = is_some (number_of name names)
