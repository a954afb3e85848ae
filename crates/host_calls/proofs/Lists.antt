-- Bytes laid over others, and parts of lists.
use Rattle.std.proofs.Common.{◌≡◌, ℕ, ◌+◌, ◌≤◌, List, ◌++◌, length, take, drop, ap, arith, ◌∙◌, sym, append_assoc}
use Rattle.std.proofs.lemmas.List.{length-append, length-drop, length-take-le, take-append-drop, drop-drop, take_at, drop_at}
use Rattle.faaslet_meaning.specs.Memory.{over}

-- the front of bytes laid over others
pub over_front : (xs : List ℕ) (at k : ℕ) (new : List ℕ) → at ≤ length xs → k ≡ length new → take (at + k) (over xs at new) ≡ take at xs ++ new
over_front xs at k new h e =
    let front = take at xs in
    let rest = drop (at + length new) xs in
    let n : length (front ++ new) ≡ at + k = omega (arith, length-append front new, length-take-le at xs h) in
    ap (take (at + k)) (sym (append_assoc front new rest)) ∙ take_at (front ++ new) rest (at + k) n

pub length_over : (xs : List ℕ) (at : ℕ) (new : List ℕ) → at + length new ≤ length xs → length (over xs at new) ≡ length xs
length_over xs at new h =
    let rest = drop (at + length new) xs in
    omega (arith, length-append (take at xs) (new ++ rest), length-append new rest, length-take-le at xs (omega arith), length-drop (at + length new) xs)

-- more bytes that are those already there
pub over_longer : (xs : List ℕ) (at : ℕ) (a b : List ℕ) → b ≡ take (length b) (drop (at + length a) xs) → over xs at (a ++ b) ≡ over xs at a
over_longer xs at a b e =
    let d = drop (at + length a) xs in
    let k = length b in
    let n : at + length (a ++ b) ≡ at + length a + k = omega (arith, length-append a b) in
    let f : drop (at + length (a ++ b)) xs ≡ drop k d = ap (λ i. drop i xs) n ∙ sym (drop-drop k (at + length a) xs) in
    let g : b ++ drop k d ≡ d = ap (λ ys. ys ++ drop k d) e ∙ take-append-drop k d in
    let t : (a ++ b) ++ drop (at + length (a ++ b)) xs ≡ a ++ d =
    append_assoc a b (drop (at + length (a ++ b)) xs) ∙ ap (λ ys. a ++ (b ++ ys)) f ∙ ap (λ ys. a ++ ys) g in
    ap (λ ys. take at xs ++ ys) t

-- bytes laid behind others
pub over_append : (xs : List ℕ) (at k : ℕ) (a b : List ℕ) → at ≤ length xs → k ≡ at + length a → over (over xs at a) k b ≡ over xs at (a ++ b)
over_append xs at k a b h e =
    let front = take at xs in
    let rest = drop (at + length a) xs in
    let both : take at xs ++ (a ++ rest) ≡ (front ++ a) ++ rest = sym (append_assoc front a rest) in
    let n : length (front ++ a) ≡ k = omega (arith, length-append front a, length-take-le at xs h) in
    let t : take k (over xs at a) ≡ front ++ a = ap (take k) both ∙ take_at (front ++ a) rest k n in
    let d : drop k (over xs at a) ≡ rest = ap (drop k) both ∙ drop_at (front ++ a) rest k n in
    let e2 : at + length a + length b ≡ at + length (a ++ b) = omega (arith, length-append a b) in
    let d2 : drop (k + length b) (over xs at a) ≡ drop (at + length (a ++ b)) xs =
    sym (drop-drop (length b) k (over xs at a)) ∙ ap (drop (length b)) d ∙ drop-drop (length b) (at + length a) xs ∙ ap (λ i. drop i xs) e2 in
    let r = drop (at + length (a ++ b)) xs in
    ap (λ ys. ys ++ (b ++ drop (k + length b) (over xs at a))) t ∙ ap (λ ys. (front ++ a) ++ (b ++ ys)) d2
    ∙ append_assoc front a (b ++ r) ∙ ap (λ ys. front ++ ys) (sym (append_assoc a b r))

-- bytes read where they were laid
pub over_read : (xs : List ℕ) (at n : ℕ) (a : List ℕ) → at ≤ length xs → length a ≡ n → take n (drop at (over xs at a)) ≡ a
over_read xs at n a h e =
    let front = take at xs in
    let rest = drop (at + length a) xs in
    ap (take n) (drop_at front (a ++ rest) at (length-take-le at xs h)) ∙ take_at a rest n e
