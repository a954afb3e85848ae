-- Names in a map's entries, and entries put at the end.
use Rattle.std.proofs.Common.{◌≡◌, ℕ, ◌+◌, suc, Bool, false, List, [], ◌∷◌, ◌++◌, length, map, cond, not, position, Option, Some, None, is_some, String, Global, string_bytes, refl, sym, ap, ◌∙◌, true≢false}
use Rattle.std.specs.List.{prefix_len}
use Rattle.std.specs.String.{string_eq}
use Rattle.std.specs.Str.{bytes_eq}
use Rattle.indexmap.specs.IndexMap.{insert_entry}
use Rattle.indexmap.proofs.MapLemmas.{some_index, absent_from_lookup, insert_entry-absent}
use Rattle.session_meaning.specs.Names.{number_of, is_taken}

prefix_len-map : {A B : Type 0} (p : B → Bool) (f : A → B) (xs : List A) → prefix_len p (map f xs) ≡ prefix_len (λ x. p (f x)) xs
prefix_len-map p f [] = refl
prefix_len-map p f (x ∷ xs) = ap (λ n. cond (p (f x)) (1 + n) 0) (prefix_len-map p f xs)

length-map : {A B : Type 0} (f : A → B) (xs : List A) → length (map f xs) ≡ length xs
length-map f [] = refl
length-map f (x ∷ xs) = ap suc (length-map f xs)

position-map : {A B : Type 0} (p : B → Bool) (f : A → B) (xs : List A) → position p (map f xs) ≡ position (λ x. p (f x)) xs
position-map p f xs = rw (prefix_len-map (λ x. not (p x)) f xs, length-map f xs) refl

-- an entry's name in the plan is its key
abbrev pub IsNamed : {X Y : Type 0} → (String Global × X → Y) → (Y → List ℕ) → Type 0
IsNamed {X} part name_of = (e : String Global × X) → name_of (part e) ≡ string_bytes e.0

names-map : {X Y : Type 0} (part : String Global × X → Y) (name_of : Y → List ℕ) → IsNamed part name_of → (es : List (String Global × X))
    → map name_of (map part es) ≡ map string_bytes (map (λ e. e.0) es)
names-map part name_of named [] = refl
names-map part name_of named (e ∷ es) = rw (named e, names-map part name_of named es) refl

-- the number of a name in the plan is that of the key
pub number_of-entries : {X Y : Type 0} (part : String Global × X → Y) (name_of : Y → List ℕ) → IsNamed part name_of → (name : List ℕ) (es : List (String Global × X))
    → number_of name (map name_of (map part es)) ≡ position (λ k. bytes_eq name (string_bytes k)) (map (λ e. e.0) es)
number_of-entries part name_of named name es =
    ap (number_of name) (names-map part name_of named es) ∙ position-map (bytes_eq name) string_bytes (map (λ e. e.0) es)

map-push : {A B : Type 0} (f : A → B) (xs : List A) (x : A) → map f (xs ++ x ∷ []) ≡ map f xs ++ f x ∷ []
map-push f [] x = refl
map-push f (y ∷ ys) x = ap (λ l. f y ∷ l) (map-push f ys x)

nothing : {A : Type 0} (o : Option A) → is_some o ≡ false → o ≡ None
nothing None e = refl
nothing (Some a) e = absurd (true≢false e)

-- an entry under a name that is not taken goes last
pub pushed : {X Y : Type 0} (part : String Global × X → Y) (name_of : Y → List ℕ) → IsNamed part name_of
    → (es new : List (String Global × X)) (k : String Global) (x : X) (name : List ℕ) (y : Y)
    → is_taken name (map name_of (map part es)) ≡ false → string_bytes k ≡ name → part (k, x) ≡ y
    → new ≡ insert_entry string_eq es k x → map part new ≡ map part es ++ y ∷ []
pushed part name_of named es new k x name y free own so e =
    let none = nothing _ (sym (some_index (string_eq k) es) ∙ ap is_some (sym (number_of-entries part name_of named (string_bytes k) es)) ∙ ap (λ n. is_taken n (map name_of (map part es))) own ∙ free) in
    ap (map part) (e ∙ insert_entry-absent string_eq k x es (absent_from_lookup (string_eq k) es none)) ∙ map-push part es (k, x)
    ∙ ap (λ z. map part es ++ z ∷ []) so
