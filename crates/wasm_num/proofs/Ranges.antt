-- The opcodes of a class, by their ranges.
use Rattle.std.proofs.Common.{◌≡◌, ℕ, ◌+◌, ◌-◌, ◌<◌, ◌≤◌, List, length, refl, sym, ap, ap₂, subst, ◌∙◌, ◌⊎◌, inl, inr, arith, Option, Some, None}
use Rattle.std.specs.Prelude.{Bool, IsSome, nat_le, option_map, slice_get, if◌then◌else◌, true, false}
use Rattle.std.specs.Int.{Width, w32, w64, from_bool}
use Rattle.std.proofs.lemmas.Option.{slice_get_past}
use Rattle.std.proofs.lemmas.Bool.{false≢true, cases_lt, lt-leb}
use Rattle.faaslet_meaning.specs.Integers.{compare, binary, Compare, Binary, low, truth, either, from, compares, binaries, compare_of, compare_row, relop, binary_of, binary_row, binop}

below : {A : Type 0} (first : ℕ) (ops : List A) (op : ℕ) → op < first → from first ops op ≡ None
below first ops op h = rw (lt-leb first op h)

past : {A : Type 0} (first : ℕ) (ops : List A) (op : ℕ) → first + length ops ≤ op → from first ops op ≡ None
past first ops op h = elim (nat_le first op) as (λ b. (if b then slice_get ops (op - first) else None) ≡ None) [ true ↦ slice_get_past ops (op - first) (omega arith) | false ↦ refl ]

twice : (x : ℕ) → low w32 (low w32 x) ≡ low w32 x
twice x = omega arith

pub byte_of : (b : Bool) → from_bool b ≡ truth b
byte_of true = refl
byte_of false = refl

-- below the opcodes of 64 bits an operation is of 32, which takes the lower halves
compare_width : (f : Compare) (w : Width) (o s : Option Compare) → s ≡ None → either (option_map (λ g. compare g w32) o) (option_map (λ g. compare g w64) s) ≡ Some (compare f w) → w ≡ w32
compare_width f w None None e h = cc
compare_width f w None (Some g) e h = cc
compare_width f w (Some g) s e h = cc

pub compare_lower : (op a b x y : ℕ) (f : Compare) (w : Width) → compare_of op ≡ Some (compare f w) → op < 0x51 → x ≡ low w32 a → y ≡ low w32 b → compare_row f w x y ≡ compare_row f w a b
compare_lower op a b x y f w h l p q =
    let e = compare_width f w (from 0x46 compares op) (from 0x51 compares op) (below 0x51 compares op l) h in
    ap (λ v. compare_row f v x y) e ∙ ap₂ (relop f w32) (ap (low w32) p ∙ twice a) (ap (low w32) q ∙ twice b) ∙ ap (λ v. compare_row f v a b) (sym e)

binary_width : (f : Binary) (w : Width) (o s : Option Binary) → s ≡ None → either (option_map (λ g. binary g w32) o) (option_map (λ g. binary g w64) s) ≡ Some (binary f w) → w ≡ w32
binary_width f w None None e h = cc
binary_width f w None (Some g) e h = cc
binary_width f w (Some g) s e h = cc

pub binary_lower : (op a b x y : ℕ) (f : Binary) (w : Width) → binary_of op ≡ Some (binary f w) → op < 0x7C → x ≡ low w32 a → y ≡ low w32 b → binary_row f w x y ≡ binary_row f w a b
binary_lower op a b x y f w h l p q =
    let e = binary_width f w (from 0x6A binaries op) (from 0x7C binaries op) (below 0x7C binaries op l) h in
    ap (λ v. binary_row f v x y) e ∙ ap₂ (binop f w32) (ap (low w32) p ∙ twice a) (ap (low w32) q ∙ twice b) ∙ ap (λ v. binary_row f v a b) (sym e)

pub binary_last : (op : ℕ) → IsSome (binary_of op) → op ≤ 0x8A
binary_last op h = by (cases_lt 0x8A op)
  where
    by : (0x8A < op) ⊎ (op ≤ 0x8A) → op ≤ 0x8A
    by (inl l) =
        let e : binary_of op ≡ None = ap₂ (λ o s. either (option_map (λ f. binary f w32) o) (option_map (λ f. binary f w64) s)) (past 0x6A binaries op (omega arith)) (past 0x7C binaries op (omega arith)) in
        absurd (false≢true (subst (λ o. IsSome o) e h))
    by (inr r) = r
