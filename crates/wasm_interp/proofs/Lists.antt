-- Lists that the stacks need.
use Rattle.std.proofs.Common.{◌≡◌, ℕ, zero, suc, ◌+◌, ◌-◌, ◌≤◌, ◌<◌, Some, List, [], ◌∷◌, ◌++◌, length, take, drop, refl, sym, ap, ◌∙◌, arith}
use Rattle.std.specs.Prelude.{reverse, slice_get}
use Rattle.std.proofs.lemmas.List.{reverse-append, length-reverse, length-drop, length-take-le, take-append-drop}
use Rattle.std.proofs.Math.Seq.{drop-append_seam, take-append_seam}
use Rattle.faaslet_meaning.specs.LoadStore.{bytes_of}
use Rattle.faaslet_meaning.proofs.WordBytes.{bytes_many}

-- what is cut off above is dropped from the reversed list
pub reverse_take : {A : Type 0} (xs : List A) (h n : ℕ) → n ≡ length xs - h → h ≤ length xs → reverse (take h xs) ≡ drop n (reverse xs)
reverse_take xs h n e le =
    let parts : reverse xs ≡ reverse (drop h xs) ++ reverse (take h xs) = ap reverse (sym (take-append-drop h xs)) ∙ reverse-append (take h xs) (drop h xs) in
    let count : n ≡ length (reverse (drop h xs)) = omega (arith, length-reverse (drop h xs), length-drop h xs) in
    sym (ap (λ k. drop k (reverse xs)) count ∙ ap (drop (length (reverse (drop h xs)))) parts ∙ drop-append_seam (reverse (drop h xs)) (reverse (take h xs)))

drop_less : {A : Type 0} (xs : List A) (n k : ℕ) → n ≡ k + 1 → drop 1 (drop k xs) ≡ drop n xs
drop_less xs n zero e = ap (λ j. drop j xs) (sym e)
drop_less [] n (suc k) e = let f : n ≡ suc (k + 1) = omega arith in ap (λ j. drop j []) (sym f)
drop_less (x ∷ xs) n (suc k) e =
    let f : n ≡ suc (k + 1) = omega arith in
    drop_less xs (k + 1) k refl ∙ ap (λ j. drop j (x ∷ xs)) (sym f)

pub unwound : {A : Type 0} (xs : List A) (x : A) (k n : ℕ) → slice_get xs 0 ≡ Some x → k ≡ 1 → 0 < n → x ∷ drop 1 (drop (n - 1) xs) ≡ take k xs ++ drop n xs
unwound [] x k n e f h = cc
unwound (y ∷ ys) x k n e f h =
    let same : y ≡ x = cc in
    ap (λ l. x ∷ l) (drop_less (y ∷ ys) n (n - 1) (omega arith)) ∙ ap (λ z. z ∷ drop n (y ∷ ys)) (sym same) ∙ ap (λ j. take j (y ∷ ys) ++ drop n (y ∷ ys)) (sym f)

pub take_twice : {A : Type 0} (k n : ℕ) (xs : List A) → k ≤ n → take k (take n xs) ≡ take k xs
take_twice zero n xs le = refl
take_twice (suc k) zero xs le = absurd (omega arith)
take_twice (suc k) (suc n) [] le = refl
take_twice (suc k) (suc n) (x ∷ xs) le = ap (λ l. x ∷ l) (take_twice k n xs (omega arith))

-- the front of a list after it was written over
pub front_is : (new old : List ℕ) (k all : ℕ) (value : ℕ) → new ≡ bytes_of (length (take k old)) value → k ≤ all → k ≤ length old → take k (take all (new ++ drop (length new) old)) ≡ bytes_of k value
front_is new old k all value e le long =
    let n : length new ≡ k = ap length e ∙ bytes_many (length (take k old)) value ∙ length-take-le k old long in
    take_twice k all (new ++ drop (length new) old) le ∙ ap (λ j. take j (new ++ drop (length new) old)) (sym n) ∙ take-append_seam new (drop (length new) old) ∙ e ∙ ap (λ j. bytes_of j value) (length-take-le k old long)
