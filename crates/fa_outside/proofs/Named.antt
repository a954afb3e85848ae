-- The first file of a name, by its place and by its name.
use Rattle.std.proofs.Common.{◌≡◌, ℕ, suc, ◌+◌, ◌<◌, ◌≤◌, Bool, true, false, cond, ltb, List, [], ◌∷◌, ◌++◌, Option, Some, None, map, take, drop, length, option_map, ◌⊎◌, inl, inr, refl, sym, arith}
use Rattle.std.specs.Prelude.{String, Vec, find, position, bytes_eq}
use Rattle.std.specs.String.{string_bytes}
use Rattle.std.specs.declared.alloc.Global.{Global}
use Rattle.std.specs.List.{position_or_len}
use Rattle.std.proofs.lemmas.Bool.{ltb-true, ltb-false}
use Rattle.std.proofs.lemmas.List.{take-append-drop, drop-drop}
use Rattle.fa_outside.specs.declared.mem_shelf.Place.{Place}
use Rattle.fa_outside.specs.Files.{Files, file_named}
use Rattle.fa_outside.specs.MemShelf.{files_of, content_at, rest_at}

either : (b : Bool) → (b ≡ true) ⊎ (b ≡ false)
either true = inl refl
either false = inr refl

named_at : {A : Type 0} (file_of : A → List ℕ × List ℕ) (test : List ℕ × List ℕ → Bool) (xs : List A) → position_or_len (λ x. test (file_of x)) xs < length xs
    → option_map (λ f. f.1) (find test (map file_of xs)) ≡ Some (content_at (map file_of xs) (position_or_len (λ x. test (file_of x)) xs))
named_at file_of test [] lt = absurd (omega arith)
named_at file_of test (x ∷ xs) lt =
    elim (either (test (file_of x))) [
      | inl yes_ ↦ rw yes_ refl
      | inr no_ ↦
          (let step = rw no_ at lt in
          let next : 1 + position_or_len (λ y. test (file_of y)) xs ≡ suc (position_or_len (λ y. test (file_of y)) xs) = omega arith in
          rw (no_, next) (named_at file_of test xs (omega arith)))
    ]

found_at : (n m i : ℕ) → (let o : Option ℕ = cond (ltb n m) (Some n) None in o ≡ Some i) → (n < m) × (n ≡ i)
found_at n m i e =
    elim (either (ltb n m)) [ inl lt ↦ (let h = rw lt at e in (ltb-true _ _ lt, cc)) | inr ge ↦ (let h = rw ge at e in absurd cc) ]

-- what stands at the first place of a name is the file of that name
pub named : (files : List (String Global × Vec ℕ Global)) (name : List ℕ) (i : ℕ) → Some i ≡ position (λ file. bytes_eq (string_bytes file.0) name) files
    → file_named (files_of files) name ≡ Some (content_at (files_of files) i)
named files name i e =
    let at = found_at _ _ i (sym e) in
    rw (← at.1) (named_at (λ (file : String Global × Vec ℕ Global). (string_bytes file.0, file.1.items)) (λ file. bytes_eq file.0 name) files at.0)

unnamed_at : {A : Type 0} (file_of : A → List ℕ × List ℕ) (test : List ℕ × List ℕ → Bool) (xs : List A) → length xs ≤ position_or_len (λ x. test (file_of x)) xs
    → option_map (λ f. f.1) (find test (map file_of xs)) ≡ None
unnamed_at file_of test [] le = refl
unnamed_at file_of test (x ∷ xs) le =
    elim (either (test (file_of x))) [
      | inl yes_ ↦ (let step = rw yes_ at le in absurd (omega arith))
      | inr no_ ↦ (let step = rw no_ at le in rw no_ (unnamed_at file_of test xs (omega arith)))
    ]

-- where no place has a name, there is no file of that name
pub unnamed : (files : List (String Global × Vec ℕ Global)) (name : List ℕ) → None ≡ position (λ file. bytes_eq (string_bytes file.0) name) files
    → file_named (files_of files) name ≡ None
unnamed files name e = unnamed_at (λ (file : String Global × Vec ℕ Global). (string_bytes file.0, file.1.items)) (λ file. bytes_eq file.0 name) files (past _ _ (sym e))
  where
    past : (n m : ℕ) → (let o : Option ℕ = cond (ltb n m) (Some n) None in o ≡ None) → m ≤ n
    past n m e = elim (either (ltb n m)) [ inl lt ↦ (let h = rw lt at e in absurd cc) | inr ge ↦ ltb-false _ _ ge ]

-- the next n bytes of what is not yet read, and then the rest
pub moved : (files : Files) (place : Place) (rest front : List ℕ) (n : ℕ) → rest ≡ rest_at files place → take n front ≡ take n rest
    → rest_at files place ≡ take n front ++ drop (place.offset + n) (content_at files place.file)
moved files place rest front n is e =
    let read = rw is at e in
    let whole = content_at files place.file in
    rw (read, ← drop-drop n place.offset whole) (sym (take-append-drop n (drop place.offset whole)))
