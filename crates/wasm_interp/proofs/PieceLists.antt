-- The pieces of a range, one after the other.
use Rattle.std.proofs.Common.{◌≡◌, ℕ, suc, ◌+◌, ◌-◌, ◌*◌, ◌<◌, ◌≤◌, Bool, true, false, not, List, [], ◌∷◌, ◌++◌, All, length, take, drop, refl, ap, arith, ◌∙◌, sym, subst, append_assoc, ⊎_elim}
use Rattle.std.specs.Prelude.{filter, min, nat_lt, IsTrue}
use Rattle.std.proofs.lemmas.Bool.{ltb-true, ltb-false, leb-true, le-leb, cases_lt}
use Rattle.std.proofs.lemmas.List.{length-append, length-drop, length-take-le, take-append-drop, drop-drop, take_at, drop_at, take_all, nil_from_length}
use Rattle.faaslet_meaning.specs.declared.linear.Piece as linear_piece
use Rattle.faaslet_meaning.specs.Memory.{IsFirstPiece, Home, private, mapped, Segment, Piece, Memory, cut, over, put, is_private, page_size, pages_of, size_of, lies_in, HasPlace, Written, writes, write_on}

abbrev pub shared : List Piece → List Piece
shared ps = filter (λ p. not (is_private p.home)) ps

-- ---- the first piece

pub record First (at n : ℕ) (p : Piece) : Type 0 where
  pub at_is : p.at ≡ at
  pub some : 0 < p.size
  pub few : p.size ≤ n

pub cut_none : (ss : List Segment) (base at : ℕ) → cut ss base at 0 ≡ []
cut_none [] base at = refl
cut_none (s ∷ ss) base at =
    let z : min 0 (base + s.pages * page_size - at) ≡ 0 = omega arith in
    rw z (cut_none ss (base + s.pages * page_size) at)

pub first_of : (ss : List Segment) (base at n : ℕ) (p : Piece) (ps : List Piece) → cut ss base at n ≡ p ∷ ps → First at n p
first_of [] base at n p ps e = cc
first_of (s ∷ ss) base at n p ps e = by (nat_lt 0 here) refl (first_of ss next at n p ps)
  where
    next : ℕ
    next = base + s.pages * page_size

    here : ℕ
    here = min n (next - at)

    by : (b : Bool) → nat_lt 0 here ≡ b → (cut ss next at n ≡ p ∷ ps → First at n p) → First at n p
    by true t ih =
        let q : Piece = record { home = s.home; off = at - base; at = at; size = here } in
        let i : q ∷ cut ss next (at + here) (n - here) ≡ p ∷ ps = rw t at e in
        let f : q ≡ p = cc in
        let some = ltb-true 0 here t in
        let g : First at n q = record { at_is = refl; some = some; few = omega arith } in
        subst (First at n) f g
    by false t ih = ih (rw t at e)

-- behind the first piece come the others
pub cut_next : (ss : List Segment) (base at n : ℕ) (p : Piece) (ps : List Piece) → cut ss base at n ≡ p ∷ ps → cut ss base (at + p.size) (n - p.size) ≡ ps
cut_next [] base at n p ps e = cc
cut_next (s ∷ ss) base at n p ps e = by (nat_lt 0 here) refl (cut_next ss next at n p ps)
  where
    next : ℕ
    next = base + s.pages * page_size

    here : ℕ
    here = min n (next - at)

    by : (b : Bool) → nat_lt 0 here ≡ b → (cut ss next at n ≡ p ∷ ps → cut ss next (at + p.size) (n - p.size) ≡ ps) → cut (s ∷ ss) base (at + p.size) (n - p.size) ≡ ps
    by true t ih =
        let q : Piece = record { home = s.home; off = at - base; at = at; size = here } in
        let i : q ∷ cut ss next (at + here) (n - here) ≡ p ∷ ps = rw t at e in
        let f : q ≡ p = cc in
        let g : cut ss next (at + here) (n - here) ≡ ps = cc in
        let size : here ≡ p.size = ap (λ (x : Piece). x.size) f in
        let z : min (n - here) (next - (at + here)) ≡ 0 = omega arith in
        let r : cut (s ∷ ss) base (at + here) (n - here) ≡ ps = rw z g in
        subst (λ k. cut (s ∷ ss) base (at + k) (n - k) ≡ ps) size r
    by false t ih =
        let none = ltb-false 0 here t in
        let z : min (n - p.size) (next - (at + p.size)) ≡ 0 = omega arith in
        rw z (ih (rw t at e))

-- the first piece alone
pub cut_first : (ss : List Segment) (base at n : ℕ) (p : Piece) (ps : List Piece) → cut ss base at n ≡ p ∷ ps → cut ss base at p.size ≡ p ∷ []
cut_first [] base at n p ps e = cc
cut_first (s ∷ ss) base at n p ps e = by (nat_lt 0 here) refl (cut_first ss next at n p ps) (first_of ss next at n p ps)
  where
    next : ℕ
    next = base + s.pages * page_size

    here : ℕ
    here = min n (next - at)

    by : (b : Bool) → nat_lt 0 here ≡ b → (cut ss next at n ≡ p ∷ ps → cut ss next at p.size ≡ p ∷ []) → (cut ss next at n ≡ p ∷ ps → First at n p) → cut (s ∷ ss) base at p.size ≡ p ∷ []
    by true t ih first =
        let q : Piece = record { home = s.home; off = at - base; at = at; size = here } in
        let i : q ∷ cut ss next (at + here) (n - here) ≡ p ∷ ps = rw t at e in
        let f : q ≡ p = cc in
        let z : min here (next - at) ≡ here = omega arith in
        let w : here - here ≡ 0 = omega arith in
        let r : cut (s ∷ ss) base at here ≡ q ∷ [] = rw (z, t) (ap (λ k. q ∷ cut ss next (at + here) k) w ∙ ap (λ ks. q ∷ ks) (cut_none ss next (at + here))) in
        subst (λ (x : Piece). cut (s ∷ ss) base at x.size ≡ x ∷ []) f r
    by false t ih first =
        let none = ltb-false 0 here t in
        let i : cut ss next at n ≡ p ∷ ps = rw t at e in
        let k = first i in
        let z : min p.size (next - at) ≡ 0 = omega (arith, k.some, k.few) in
        rw z (ih i)

pub place_of : (ss : List Segment) (base at n : ℕ) (p : Piece) (ps : List Piece) → All (λ (s : Segment). HasPlace s.home) ss → cut ss base at n ≡ p ∷ ps → HasPlace p.home
place_of [] base at n p ps h e = cc
place_of (s ∷ ss) base at n p ps h e = by (nat_lt 0 here) refl (place_of ss next at n p ps (λ k d l. h (suc k) d (omega arith)))
  where
    next : ℕ
    next = base + s.pages * page_size

    here : ℕ
    here = min n (next - at)

    by : (b : Bool) → nat_lt 0 here ≡ b → (cut ss next at n ≡ p ∷ ps → HasPlace p.home) → HasPlace p.home
    by true t ih =
        let q : Piece = record { home = s.home; off = at - base; at = at; size = here } in
        let i : q ∷ cut ss next (at + here) (n - here) ≡ p ∷ ps = rw t at e in
        let f : q ≡ p = cc in
        subst (λ (x : Piece). HasPlace x.home) f (h 0 s (omega arith))
    by false t ih = ih (rw t at e)

-- ---- which are shared

pub shared_private : (p : Piece) (ps : List Piece) → p.home ≡ private → shared (p ∷ ps) ≡ shared ps
shared_private p ps e = rw e refl

pub shared_mapped : (p : Piece) (ps : List Piece) (k : ℕ) → p.home ≡ mapped k → shared (p ∷ ps) ≡ p ∷ shared ps
shared_mapped p ps k e = rw e refl

-- ---- what is written

pub write_private : (p : Piece) (ps : List Piece) (m : Memory) (bs : List ℕ) → p.home ≡ private → write_on (p ∷ ps) m bs ≡ write_on ps (put m p.at (take p.size bs)) (drop p.size bs)
write_private p ps m bs e = rw e refl

pub write_mapped : (p : Piece) (ps : List Piece) (m : Memory) (bs : List ℕ) (k : ℕ) → p.home ≡ mapped k → write_on (p ∷ ps) m bs ≡ record { memory = m; access = writes (p ∷ ps) bs }
write_mapped p ps m bs k e = ap (λ (h : Home). elim h as (λ _. Written) [ private ↦ write_on ps (put m p.at (take p.size bs)) (drop p.size bs) | mapped j ↦ record { memory = m; access = writes (p ∷ ps) bs } ]) e

-- bytes put over others in two parts
over_over : (xs : List ℕ) (at k : ℕ) (bs : List ℕ) → at ≤ length xs → k ≤ length bs → over (over xs at (take k bs)) (at + k) (drop k bs) ≡ over xs at bs
over_over xs at k bs h le =
    let front = take at xs in
    let one = take k bs in
    let two = drop k bs in
    let n1 : length front ≡ at = length-take-le at xs (omega arith) in
    let n2 : length one ≡ k = length-take-le k bs le in
    let n3 : length two ≡ length bs - k = length-drop k bs in
    let rest = drop (at + length one) xs in
    let both : take at xs ++ (one ++ rest) ≡ (front ++ one) ++ rest = sym (append_assoc front one rest) in
    let n4 : length (front ++ one) ≡ at + k = omega (arith, length-append front one) in
    let t : take (at + k) (take at xs ++ (one ++ rest)) ≡ front ++ one = ap (take (at + k)) both ∙ take_at (front ++ one) rest (at + k) n4 in
    let e1 : at + k + length two ≡ (at + k) + length two = omega arith in
    let d1 : drop (at + k) (take at xs ++ (one ++ rest)) ≡ rest = ap (drop (at + k)) both ∙ drop_at (front ++ one) rest (at + k) n4 in
    let d2 : drop (at + k + length two) (take at xs ++ (one ++ rest)) ≡ drop (length two) rest = sym (drop-drop (length two) (at + k) (take at xs ++ (one ++ rest))) ∙ ap (drop (length two)) d1 in
    let e2 : at + length one + length two ≡ at + length bs = omega arith in
    let d3 : drop (length two) rest ≡ drop (at + length bs) xs = drop-drop (length two) (at + length one) xs ∙ ap (λ n. drop n xs) e2 in
    let joined : (front ++ one) ++ (two ++ drop (at + length bs) xs) ≡ front ++ (bs ++ drop (at + length bs) xs) =
    append_assoc front one (two ++ drop (at + length bs) xs) ∙ ap (λ ys. front ++ ys) (sym (append_assoc one two (drop (at + length bs) xs)) ∙ ap (λ ys. ys ++ drop (at + length bs) xs) (take-append-drop k bs)) in
    ap (λ ys. ys ++ (two ++ drop (at + k + length two) (take at xs ++ (one ++ rest)))) t ∙ ap (λ ys. (front ++ one) ++ (two ++ ys)) (d2 ∙ d3) ∙ joined

put_nothing : (m : Memory) (at : ℕ) (bs : List ℕ) → length bs ≡ 0 → put m at bs ≡ m
put_nothing m at bs e =
    let f : bs ≡ [] = nil_from_length bs e in
    let g : at + 0 ≡ at = omega arith in
    let over_is : over m.bytes at bs ≡ m.bytes = ap (over m.bytes at) f ∙ ap (λ n. take at m.bytes ++ drop n m.bytes) g ∙ take-append-drop at m.bytes in
    ap (λ (ys : List ℕ). record m { bytes = ys }) over_is

pub length_over : (xs : List ℕ) (at : ℕ) (new : List ℕ) → at ≤ length xs → length (over xs at new) ≡ at + length new + (length xs - (at + length new))
length_over xs at new h =
    let rest = drop (at + length new) xs in
    omega (arith, length-append (take at xs) (new ++ rest), length-append new rest, length-take-le at xs h, length-drop (at + length new) xs)

shared_first : (p : Piece) (ps : List Piece) (k : ℕ) → p.home ≡ mapped k → shared (p ∷ ps) ≡ [] → ⊥
shared_first p ps k e h = let i : p ∷ shared ps ≡ [] = sym (shared_mapped p ps k e) ∙ h in cc

-- what is private alone is written at once
pub write_all : (ss : List Segment) (base at n : ℕ) (m : Memory) (bs : List ℕ) → n ≡ length bs → base ≤ at → at + n ≤ base + pages_of ss * page_size → at ≤ length m.bytes → shared (cut ss base at n) ≡ [] → write_on (cut ss base at n) m bs ≡ record { memory = put m at bs; access = writes [] [] }
write_all [] base at n m bs len low high long e =
    let z : length bs ≡ 0 = omega arith in
    ap (λ (x : Memory). record { memory = x; access = writes [] [] }) (sym (put_nothing m at bs z))
write_all (s ∷ ss) base at n m bs len low high long e = by (nat_lt 0 here) refl s.home refl (write_all ss next)
  where
    next : ℕ
    next = base + s.pages * page_size

    here : ℕ
    here = min n (next - at)

    q : Piece
    q = record { home = s.home; off = at - base; at = at; size = here }

    rest : List Piece
    rest = cut ss next (at + here) (n - here)

    Goal : List Piece → Type 0
    Goal ps = write_on ps m bs ≡ record { memory = put m at bs; access = writes [] [] }

    last : s.home ≡ private → n ≤ next - at → Goal (q ∷ rest)
    last h le =
        let none : n - here ≡ 0 = omega arith in
        let all : length bs ≤ here = omega arith in
        let r : rest ≡ [] = ap (cut ss next (at + here)) none ∙ cut_none ss next (at + here) in
        write_private q rest m bs h ∙ ap (λ ps. write_on ps (put m at (take here bs)) (drop here bs)) r
        ∙ ap (λ (ys : List ℕ). record { memory = put m at ys; access = writes [] [] }) (take_all here bs all)

    more : s.home ≡ private → next - at < n → ((at n : ℕ) (m : Memory) (bs : List ℕ) → n ≡ length bs → next ≤ at → at + n ≤ next + pages_of ss * page_size → at ≤ length m.bytes → shared (cut ss next at n) ≡ [] → write_on (cut ss next at n) m bs ≡ record { memory = put m at bs; access = writes [] [] }) → shared (q ∷ rest) ≡ [] → Goal (q ∷ rest)
    more h lt ih f =
        let le : here ≤ length bs = omega arith in
        let one = length-take-le here bs le in
        let long_one = length_over m.bytes at (take here bs) long in
        let two : n - here ≡ length (drop here bs) = omega (arith, length-drop here bs) in
        let g : shared rest ≡ [] = sym (shared_private q rest h) ∙ f in
        let r = ih (at + here) (n - here) (put m at (take here bs)) (drop here bs) two (omega arith) (omega arith) (omega arith) g in
        write_private q rest m bs h ∙ r
        ∙ ap (λ (ys : List ℕ). record { memory = record m { bytes = ys }; access = writes [] [] }) (over_over m.bytes at here bs long le)

    by : (b : Bool) → nat_lt 0 here ≡ b → (h : Home) → s.home ≡ h → ((at n : ℕ) (m : Memory) (bs : List ℕ) → n ≡ length bs → next ≤ at → at + n ≤ next + pages_of ss * page_size → at ≤ length m.bytes → shared (cut ss next at n) ≡ [] → write_on (cut ss next at n) m bs ≡ record { memory = put m at bs; access = writes [] [] }) → Goal (cut (s ∷ ss) base at n)
    by true t private h ih =
        let f : shared (q ∷ rest) ≡ [] = rw t at e in
        let r : Goal (q ∷ rest) = ⊎_elim (λ lt. more h lt ih f) (λ le. last h le) (cases_lt (next - at) n) in
        rw t r
    by true t (mapped k) h ih = let f : shared (q ∷ rest) ≡ [] = rw t at e in absurd (shared_first q rest k h f)
    by false t h' h ih =
        let none = ltb-false 0 here t in
        let f : shared (cut ss next at n) ≡ [] = rw t at e in
        let r : Goal (cut ss next at n) = ⊎_elim (λ lt. ih at n m bs len (omega arith) (omega arith) long f) (λ le. nothing (omega arith)) (cases_lt 0 n) in
        rw t r
      where
        nothing : n ≡ 0 → Goal (cut ss next at n)
        nothing z =
            let y : length bs ≡ 0 = omega arith in
            ap (λ ps. write_on ps m bs) (ap (cut ss next at) z ∙ cut_none ss next at) ∙ ap (λ (x : Memory). record { memory = x; access = writes [] [] }) (sym (put_nothing m at bs y))

-- ---- ranges

pub inside_is : (m : Memory) (at n : ℕ) → IsTrue (lies_in m at n) → at + n ≤ size_of m
inside_is m at n h = leb-true _ _ h

pub is_inside : (m : Memory) (at n : ℕ) → at + n ≤ size_of m → IsTrue (lies_in m at n)
is_inside m at n h = le-leb _ _ h

pub piece_some : (m : Memory) (at n : ℕ) (found : linear_piece.Piece) → IsFirstPiece m at n found → 0 < found.len
piece_some m at n found f = let k = first_of m.segments 0 at n f.first f.others f.cut in omega (arith, f.is_long, k.some)

pub piece_few : (m : Memory) (at n : ℕ) (found : linear_piece.Piece) → IsFirstPiece m at n found → found.len ≤ n
piece_few m at n found f = let k = first_of m.segments 0 at n f.first f.others f.cut in omega (arith, f.is_long, k.few)
