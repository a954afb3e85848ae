-- The keys of an object's members.
use Rattle.std.proofs.Common.{◌≡◌, ℕ, List, [], ◌∷◌, ◌&&◌, String, Global, string_bytes, refl, ap}
use Rattle.std.specs.List.{list_all, list_any}
use Rattle.std.specs.Map.{keys_of}
use Rattle.std.specs.Str.{bytes_eq}
use Rattle.serde_json.specs.View.{members_view}
use Rattle.serde_json.specs.declared.value.Value.{Value}
use Rattle.session_meaning.specs.SessionText.{no_others}

pub no_others_keys : (names : List (List ℕ)) (es : List (String Global × Value))
    → no_others names (members_view es) ≡ list_all (λ k. list_any (bytes_eq (string_bytes k)) names) (keys_of es)
no_others_keys names [] = refl
no_others_keys names (e ∷ es) = ap (λ b. list_any (bytes_eq (string_bytes e.0)) names && b) (no_others_keys names es)
