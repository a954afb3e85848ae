-- Lists of two makers' entries.
use Rattle.std.proofs.Common.{◌≡◌, ◌≢◌, ℕ, zero, suc, ◌+◌, ◌<◌, Bool, true, false, cond, eqb, eq-eqb, ne_eqb, List, [], ◌∷◌, ◌++◌, refl, sym, ap, ◌∙◌, subst, arith}
use Rattle.std.proofs.lemmas.List.{append-nil}
use Rattle.std.proofs.lemmas.List.Elements.{filter-append}
use Rattle.std.specs.List.{All}
use mathlib.Core.List.{IsPrefix}
use Rattle.turn_cell.specs.declared.view.Entry.{Entry}
use Rattle.turn_cell.specs.History.{own, entry, Extends, MakersBelow}
use Rattle.turn_cell.proofs.Own.{own_extends}

-- a list in front of another that is one entry is empty or that entry
pub none_or_one : (a b : List Entry) (w : Entry) → a ++ b ≡ w ∷ [] → (a ≡ [] → ⊥) → a ≡ w ∷ []
none_or_one [] b w e some = absurd (some refl)
none_or_one (x ∷ []) b w e some = cc
none_or_one (x ∷ y ∷ ys) b w e some = cc

-- The first maker made the entry w, and the second then r, in front of which stand entries of the first alone, at least one.
-- Then w and r stand at the front of each list that has both lists in front.
pub both_seen : (w r : Entry) (before mine theirs all : List Entry) → w.maker ≡ 0 → own 0 mine ≡ w ∷ [] → Extends 0 mine all → theirs ≡ before ++ r ∷ [] → own 0 before ≡ before → (before ≡ [] → ⊥) → IsPrefix theirs all → IsPrefix (w ∷ r ∷ []) all
both_seen w r before mine theirs all first own_mine x parts own_before some pre =
    let more = r ∷ pre.0 in
    let whole : before ++ more ≡ all = sym (append_one before r pre.0) ∙ (ap (λ l. l ++ pre.0) (sym parts) ∙ pre.1) in
    let owns : before ++ own 0 more ≡ w ∷ [] = ap (λ l. l ++ own 0 more) (sym own_before) ∙ (sym (filter-append (λ (e : Entry). eqb e.maker 0) before more) ∙ (ap (own 0) whole ∙ (own_extends 0 mine all x ∙ own_mine))) in
    let one = none_or_one before (own 0 more) w owns some in
    (pre.0, ap (λ l. l ++ more) (sym one) ∙ whole)
  where
    append_one : (a : List Entry) (e : Entry) (b : List Entry) → (a ++ e ∷ []) ++ b ≡ a ++ (e ∷ b)
    append_one [] e b = refl
    append_one (x ∷ xs) e b = ap (λ l. x ∷ l) (append_one xs e b)
