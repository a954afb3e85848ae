-- Which operations stand at which opcodes.
use Rattle.std.proofs.Common.{◌≡◌, ℕ, ◌+◌, ◌-◌, ◌<◌, ◌≤◌, List, length, refl, sym, ap, ◌∙◌, arith, None, Some, Option, Bool, true, false, inl, inr, ◌⊎◌, ⊎_elim}
use Rattle.std.specs.Prelude.{slice_get, nat_le, if◌then◌else◌, ◌==◌, option_map}
use Rattle.std.specs.Int.{Width, w32, w64}
use Rattle.std.proofs.lemmas.Option.{slice_get_within}
use Rattle.std.proofs.lemmas.Bool.{cases_lt, le-leb, lt-leb, eqb-true}
use Rattle.faaslet_meaning.specs.Integers.{Numeric, test, compare, unary, binary, convert, Compare, Unary, Binary, Convert, compares, unaries, binaries, either, from, numeric_of, wrap, extend_s, extend_u}
use Rattle.wasm_num.proofs.Classes.{of_test, of_compare, of_unary, of_binary, of_convert}

within : {A : Type 0} (first : ℕ) (ops : List A) (op : ℕ) (a : A) → from first ops op ≡ Some a → (first ≤ op) × (op < first + length ops)
within first ops op a e =
    ⊎_elim
    (λ lt. let b : nat_le first op ≡ false = lt-leb _ _ lt in let f : None ≡ Some a = sym (ap (λ q. if q then slice_get ops (op - first) else None) b) ∙ e in cc)
    (λ le. let b : nat_le first op ≡ true = le-leb _ _ le in let f : slice_get ops (op - first) ≡ Some a = sym (ap (λ q. if q then slice_get ops (op - first) else None) b) ∙ e in (le, omega (arith, le, slice_get_within ops (op - first) a f)))
    (cases_lt op first)

unmapped : {A B : Type 0} (f : A → B) (o : Option A) (b : B) → option_map f o ≡ Some b → (a : A) × (o ≡ Some a)
unmapped f (Some a) b e = (a, refl)
unmapped f None b e = cc

both : {A : Type 0} (make : A → Width → Numeric) (first second : ℕ) (ops : List A) (op : ℕ) (n : Numeric) → either (option_map (λ a. make a w32) (from first ops op)) (option_map (λ a. make a w64) (from second ops op)) ≡ Some n → ((first ≤ op) × (op < first + length ops)) ⊎ ((second ≤ op) × (op < second + length ops))
both make first second ops op n e = by (from first ops op) refl e
  where
    by : (o : Option _) → from first ops op ≡ o → either (option_map (λ a. make a w32) o) (option_map (λ a. make a w64) (from second ops op)) ≡ Some n → ((first ≤ op) × (op < first + length ops)) ⊎ ((second ≤ op) × (op < second + length ops))
    by (Some a) f e = inl (within first ops op a f)
    by None f e = let u = unmapped (λ a. make a w64) (from second ops op) n e in inr (within second ops op u.0 u.1)

pub compare_range : (op : ℕ) (f : Compare) (w : Width) → numeric_of op ≡ Some (compare f w) → ((0x46 ≤ op) × (op < 0x50)) ⊎ ((0x51 ≤ op) × (op < 0x5B))
compare_range op f w e = both compare 0x46 0x51 compares op (compare f w) (of_compare op f w e)

pub unary_range : (op : ℕ) (f : Unary) (w : Width) → numeric_of op ≡ Some (unary f w) → ((0x67 ≤ op) × (op < 0x6A)) ⊎ ((0x79 ≤ op) × (op < 0x7C))
unary_range op f w e = both unary 0x67 0x79 unaries op (unary f w) (of_unary op f w e)

pub binary_range : (op : ℕ) (f : Binary) (w : Width) → numeric_of op ≡ Some (binary f w) → ((0x6A ≤ op) × (op < 0x79)) ⊎ ((0x7C ≤ op) × (op < 0x8B))
binary_range op f w e = both binary 0x6A 0x7C binaries op (binary f w) (of_binary op f w e)

tests : (op : ℕ) (w : Width) (a b : Bool) → (op == 0x45) ≡ a → (op == 0x50) ≡ b → (if a then Some w32 else if b then Some w64 else None) ≡ Some w → (op ≡ 0x45) ⊎ (op ≡ 0x50)
tests op w true b p q e = inl (eqb-true op 0x45 p)
tests op w false true p q e = inr (eqb-true op 0x50 q)
tests op w false false p q e = cc

pub test_range : (op : ℕ) (w : Width) → numeric_of op ≡ Some (test w) → (op ≡ 0x45) ⊎ (op ≡ 0x50)
test_range op w e = tests op w (op == 0x45) (op == 0x50) refl refl (of_test op w e)

converts : (op : ℕ) (n : Numeric) (a b c : Bool) → (op == 0xA7) ≡ a → (op == 0xAC) ≡ b → (op == 0xAD) ≡ c → (if a then Some (convert wrap) else if b then Some (convert extend_s) else if c then Some (convert extend_u) else None) ≡ Some n → 0xA7 ≤ op
converts op n true b c p q r e = omega (arith, eqb-true op 0xA7 p)
converts op n false true c p q r e = omega (arith, eqb-true op 0xAC q)
converts op n false false true p q r e = omega (arith, eqb-true op 0xAD r)
converts op n false false false p q r e = cc

pub convert_range : (op : ℕ) (f : Convert) → numeric_of op ≡ Some (convert f) → 0xA7 ≤ op
convert_range op f e = converts op (convert f) (op == 0xA7) (op == 0xAC) (op == 0xAD) refl refl refl (of_convert op f e)

-- an operation whose opcode isn't that of another class
out : {P Q R : Type 0} → P ⊎ Q → (P → R) → (Q → R) → R
out (inl p) f g = f p
out (inr q) f g = g q

pub is_test : (op : ℕ) (n : Numeric) → numeric_of op ≡ Some n → (op ≡ 0x45) ⊎ (op ≡ 0x50) → (w : Width) × (n ≡ test w)
is_test op (test w) e h = (w, refl)
is_test op (compare f w) e h = absurd (out h (λ p. out (compare_range op f w e) (λ r. omega arith) (λ r. omega arith)) (λ p. out (compare_range op f w e) (λ r. omega arith) (λ r. omega arith)))
is_test op (unary f w) e h = absurd (out h (λ p. out (unary_range op f w e) (λ r. omega arith) (λ r. omega arith)) (λ p. out (unary_range op f w e) (λ r. omega arith) (λ r. omega arith)))
is_test op (binary f w) e h = absurd (out h (λ p. out (binary_range op f w e) (λ r. omega arith) (λ r. omega arith)) (λ p. out (binary_range op f w e) (λ r. omega arith) (λ r. omega arith)))
is_test op (convert f) e h = absurd (out h (λ p. omega (arith, convert_range op f e)) (λ p. omega (arith, convert_range op f e)))

pub is_compare : (op : ℕ) (n : Numeric) → numeric_of op ≡ Some n → op < 0x67 → (op ≡ 0x45 → ⊥) → (op ≡ 0x50 → ⊥) → (f : Compare) × (w : Width) × (n ≡ compare f w)
is_compare op (test w) e lt a b = absurd (out (test_range op w e) a b)
is_compare op (compare f w) e lt a b = (f, w, refl)
is_compare op (unary f w) e lt a b = absurd (out (unary_range op f w e) (λ r. omega arith) (λ r. omega arith))
is_compare op (binary f w) e lt a b = absurd (out (binary_range op f w e) (λ r. omega arith) (λ r. omega arith))
is_compare op (convert f) e lt a b = absurd (omega (arith, convert_range op f e))

pub is_unary : (op : ℕ) (n : Numeric) → numeric_of op ≡ Some n → 0x67 ≤ op → (op < 0x6A) ⊎ ((0x79 ≤ op) × (op < 0x7C)) → (f : Unary) × (w : Width) × (n ≡ unary f w)
is_unary op (test w) e le h = absurd (out (test_range op w e) (λ r. omega arith) (λ r. omega arith))
is_unary op (compare f w) e le h = absurd (out (compare_range op f w e) (λ r. omega arith) (λ r. omega arith))
is_unary op (unary f w) e le h = (f, w, refl)
is_unary op (binary f w) e le h = absurd (out h (λ p. out (binary_range op f w e) (λ r. omega arith) (λ r. omega arith)) (λ p. out (binary_range op f w e) (λ r. omega arith) (λ r. omega arith)))
is_unary op (convert f) e le h = absurd (out h (λ p. omega (arith, convert_range op f e)) (λ p. omega (arith, p.1, convert_range op f e)))

pub is_binary : (op : ℕ) (n : Numeric) → numeric_of op ≡ Some n → 0x6A ≤ op → op < 0xA7 → (op < 0x79) ⊎ (0x7C ≤ op) → (f : Binary) × (w : Width) × (n ≡ binary f w)
is_binary op (test w) e le lt h = absurd (out (test_range op w e) (λ r. omega arith) (λ r. omega arith))
is_binary op (compare f w) e le lt h = absurd (out (compare_range op f w e) (λ r. omega arith) (λ r. omega arith))
is_binary op (unary f w) e le lt h = absurd (out h (λ p. out (unary_range op f w e) (λ r. omega arith) (λ r. omega arith)) (λ p. out (unary_range op f w e) (λ r. omega arith) (λ r. omega arith)))
is_binary op (binary f w) e le lt h = (f, w, refl)
is_binary op (convert f) e le lt h = absurd (omega (arith, convert_range op f e))

pub is_convert : (op : ℕ) (n : Numeric) → numeric_of op ≡ Some n → 0xA7 ≤ op → (f : Convert) × (n ≡ convert f)
is_convert op (test w) e le = absurd (out (test_range op w e) (λ r. omega arith) (λ r. omega arith))
is_convert op (compare f w) e le = absurd (out (compare_range op f w e) (λ r. omega arith) (λ r. omega arith))
is_convert op (unary f w) e le = absurd (out (unary_range op f w e) (λ r. omega arith) (λ r. omega arith))
is_convert op (binary f w) e le = absurd (out (binary_range op f w e) (λ r. omega arith) (λ r. omega arith))
is_convert op (convert f) e le = (f, refl)
