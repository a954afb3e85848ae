-- Arguments of a host call, taken off the values.
use Rattle.std.proofs.Common.{◌≡◌, ℕ, zero, suc, ◌+◌, ◌-◌, ◌<◌, ◌≤◌, List, [], ◌∷◌, ◌++◌, length, drop, take, map, refl, sym, ap, ◌∙◌, arith, append_assoc}
use Rattle.std.specs.Prelude.{reverse, slice_set}
use Rattle.std.specs.Int.{w32}
use Rattle.std.proofs.lemmas.List.{reverse-append}
use Rattle.faaslet_meaning.specs.Integers.{low}

drop_set : (xs : List ℕ) (k n v : ℕ) → k < n → k < length xs → drop k (take n (slice_set xs k v)) ≡ v ∷ drop (suc k) (take n xs)
drop_set [] k n v lt h = absurd (omega arith)
drop_set (x ∷ xs) k zero v lt h = absurd (omega arith)
drop_set (x ∷ xs) zero (suc n) v lt h = refl
drop_set (x ∷ xs) (suc k) (suc n) v lt h = drop_set xs k n v (omega arith) (omega arith)

-- one more is taken
pub taken_more : (vs new args : List ℕ) (v left n : ℕ) (all : List ℕ) → vs ≡ v ∷ new → 0 < left → left ≤ n → left ≤ length args
    → reverse (map (low w32) (take left vs)) ++ drop left (take n args) ≡ all
    → reverse (map (low w32) (take (left - 1) new)) ++ drop (left - 1) (take n (slice_set args (left - 1) (low w32 v))) ≡ all
taken_more vs new args v zero n all e h le fits is = absurd (omega arith)
taken_more vs new args v (suc k) n all e h le fits is =
    let back : suc k - 1 ≡ k = omega arith in
    let done = drop (suc k) (take n args) in
    let rest = reverse (map (low w32) (take k new)) in
    ap (λ j. reverse (map (low w32) (take j new)) ++ drop j (take n (slice_set args j (low w32 v)))) back
    ∙ ap (λ l. rest ++ l) (drop_set args k n (low w32 v) (omega arith) (omega arith))
    ∙ sym (append_assoc rest (low w32 v ∷ []) done)
    ∙ ap (λ l. l ++ done) (sym (reverse-append {A = ℕ} (low w32 v ∷ []) (map (low w32) (take k new))))
    ∙ ap (λ l. reverse (map (low w32) (take (suc k) l)) ++ done) (sym e) ∙ is

pub dropped_more : (xs new : List ℕ) (v n m : ℕ) → m ≡ n + 1 → drop n xs ≡ v ∷ new → drop m xs ≡ new
dropped_more xs new v n zero s e = absurd (omega arith)
dropped_more [] new v zero (suc m) s e = absurd (cc)
dropped_more [] new v (suc n) (suc m) s e = absurd (cc)
dropped_more (x ∷ xs) new v zero (suc m) s e = let z : m ≡ 0 = omega arith in ap (λ j. drop j xs) z ∙ (let f : xs ≡ new = cc in f)
dropped_more (x ∷ xs) new v (suc n) (suc m) s e = dropped_more xs new v n m (omega arith) e
