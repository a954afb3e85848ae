-- The least of the holders, as one more of them is looked at.
use Rattle.std.proofs.Common.{◌≡◌, ℕ, ◌+◌, ◌<◌, List, [], ◌∷◌, ◌++◌, Option, Some, None, true, false, not, eqb, min, take, length, get_or, append-nil, ◌≢◌, refl, sym, ap, arith, append_assoc}
use Rattle.std.specs.Option.{option_map_or}
use Rattle.std.proofs.lemmas.List.{take_more}
use Rattle.std.proofs.lemmas.Bool.{eq-eqb, ne_eqb}
use Rattle.std.proofs.lemmas.List.Elements.{filter-append}
use Rattle.faaslet_meaning.specs.Lists.{least}
use Rattle.state_locks.specs.Locks.{apart_from}

abbrev pub joined : Option ℕ → ℕ → Option ℕ
joined o x = Some (option_map_or (λ other. min other x) o x)

-- the least, with one more at the end
pub least_push : (xs : List ℕ) (x : ℕ) → least (xs ++ x ∷ []) ≡ joined (least xs) x
least_push [] x = refl
least_push (y ∷ ys) x =
    let e = least_push ys x in
    elim (least ys) as (λ (o : Option ℕ). least (ys ++ x ∷ []) ≡ joined o x → elim (least (ys ++ x ∷ [])) [ None ↦ Some y | Some z ↦ Some (min y z) ] ≡ joined (elim o [ None ↦ Some y | Some z ↦ Some (min y z) ]) x) [
      | None ↦ λ (h : least (ys ++ x ∷ []) ≡ Some x). rw h refl
      | Some z ↦ λ (h : least (ys ++ x ∷ []) ≡ Some (min z x)). rw h (ap (λ (n : ℕ). Some n) (omega arith))
    ] e

-- a reader is looked at that is another maker
pub more_other : (maker : ℕ) (w rs : List ℕ) (i h : ℕ) (o : Option ℕ) → i < length rs → h ≡ get_or rs i 0 → (h ≢ maker) → o ≡ least (apart_from maker (w ++ take i rs)) → joined o h ≡ least (apart_from maker (w ++ take (i + 1) rs))
more_other maker w rs i h o l e d s =
    let t : eqb h maker ≡ false = ne_eqb h maker d in
    let p : w ++ take (i + 1) rs ≡ (w ++ take i rs) ++ h ∷ [] = rw (take_more rs i 0 l, ← e) (sym (append_assoc w (take i rs) (h ∷ []))) in
    rw (p, filter-append (λ holder. not (eqb holder maker)) (w ++ take i rs) (h ∷ []), t, least_push, ← s) refl

-- a reader is looked at that is the maker itself
pub more_own : (maker : ℕ) (w rs : List ℕ) (i h : ℕ) (o : Option ℕ) → i < length rs → h ≡ get_or rs i 0 → h ≡ maker → o ≡ least (apart_from maker (w ++ take i rs)) → o ≡ least (apart_from maker (w ++ take (i + 1) rs))
more_own maker w rs i h o l e d s =
    let t : eqb h maker ≡ true = eq-eqb h maker d in
    let p : w ++ take (i + 1) rs ≡ (w ++ take i rs) ++ h ∷ [] = rw (take_more rs i 0 l, ← e) (sym (append_assoc w (take i rs) (h ∷ []))) in
    rw (p, filter-append (λ holder. not (eqb holder maker)) (w ++ take i rs) (h ∷ []), t, append-nil) s
