-- The pieces of a range in memory tile it.
use Rattle.std.proofs.Common.{◌≡◌, ℕ, ◌+◌, ◌-◌, ◌*◌, ◌≤◌, List, [], ◌∷◌, refl, sym, subst, arith, Bool, true, false}
use Rattle.std.specs.Prelude.{IsTrue, min, nat_lt, nat_le}
use Rattle.std.proofs.lemmas.Bool.{leb-true, leb-false, ltb-true, ltb-false}
use Rattle.faaslet_meaning.specs.Memory.{Segment, Memory, page_size, pages_of, size_of, lies_in, cut, pieces}
use Rattle.faaslet_meaning.specs.Tiles.{Tiles}
use Rattle.faaslet_meaning.proofs.Pieces.{when}

-- no byte, no piece
none_cut : (ss : List Segment) (base at n : ℕ) → n ≡ 0 → cut ss base at n ≡ []
none_cut [] base at n e = refl
none_cut (s ∷ ss) base at n e =
    let next = base + s.pages * page_size in
    let here = min n (next - at) in
    when (λ ps. ps ≡ []) (nat_lt 0 here) (record { home = s.home; off = at - base; at = at; size = here } ∷ cut ss next (at + here) (n - here)) (cut ss next at n)
    (λ t. let some = ltb-true 0 here t in absurd (omega (arith, some, e)))
    (λ t. none_cut ss next at n e)

none_tiles : (ss : List Segment) (base at n : ℕ) → n ≡ 0 → Tiles at n (cut ss base at n)
none_tiles ss base at n e = subst (Tiles at n) (sym (none_cut ss base at n e)) e

decide : {P : Type 0} (b : Bool) → (b ≡ true → P) → (b ≡ false → P) → P
decide true h k = h refl
decide false h k = k refl

cut_tiles : (ss : List Segment) (base at n : ℕ) → base ≤ at → at + n ≤ base + pages_of ss * page_size → Tiles at n (cut ss base at n)
cut_tiles [] base at n b h = omega (arith, b, h)
cut_tiles (s ∷ ss) base at n b h =
    let next = base + s.pages * page_size in
    let here = min n (next - at) in
    when (Tiles at n) (nat_lt 0 here) (record { home = s.home; off = at - base; at = at; size = here } ∷ cut ss next (at + here) (n - here)) (cut ss next at n)
    (λ t.
    let some = ltb-true 0 here t in (
      refl,
      some,
      omega arith,
      decide (nat_le next (at + here))
          (λ u. let l = leb-true next (at + here) u in cut_tiles ss next (at + here) (n - here) l (omega (arith, h)))
          (λ u. let l = leb-false next (at + here) u in none_tiles ss next (at + here) (n - here) (omega (arith, l))),
    ))
    (λ t.
    let none = ltb-false 0 here t in
    decide (nat_le next at)
    (λ u. let l = leb-true next at u in cut_tiles ss next at n l (omega (arith, h)))
    (λ u. let l = leb-false next at u in none_tiles ss next at n (omega (arith, none, l))))

pub pieces_tile : (m : Memory) (at n : ℕ) → IsTrue (lies_in m at n) → Tiles at n (pieces m at n)
pieces_tile m at n e = let l = leb-true (at + n) (size_of m) e in cut_tiles m.segments 0 at n (omega arith) (omega (arith, l))
