-- For a caller that knows which operation an opcode names: its class names the same one.
use Rattle.std.proofs.Common.{◌≡◌, ℕ, refl, sym, ap, ◌∙◌, ◌⊎◌, inl, inr, arith, Option, Some, None, Bool, true, false}
use Rattle.std.specs.Prelude.{option_map, if◌then◌else◌, ◌==◌}
use Rattle.std.specs.Int.{Width, w32, w64}
use Rattle.faaslet_meaning.specs.Integers.{Numeric, test, compare, unary, binary, convert, Compare, Unary, Binary, Convert, wrap, extend_s, extend_u, either, from, compares, unaries, binaries, test_of, compare_of, unary_of, binary_of, convert_of, numeric_of}

abbrev class : Numeric → ℕ
class (test w) = 0
class (compare f w) = 1
class (unary f w) = 2
class (binary f w) = 3
class (convert f) = 4

-- a choice gave what its first part gives, or what its second does
chosen : {A : Type 0} (x y : Option A) (z : A) → either x y ≡ Some z → (x ≡ Some z) ⊎ (y ≡ Some z)
chosen (Some a) y z e = inl e
chosen None y z e = inr e

injective : {A : Type 0} {x y : A} → Some x ≡ Some y → x ≡ y
injective e = cc

mapped : {A : Type 0} (make : A → Numeric) (k : ℕ) → ((a : A) → class (make a) ≡ k) → (o : Option A) (n : Numeric) → option_map make o ≡ Some n → class n ≡ k
mapped make k same (Some a) n e = sym (ap class (injective e)) ∙ same a
mapped make k same None n e = cc

-- what a class names is of it
both : {A : Type 0} (make : A → Width → Numeric) (k : ℕ) → ((a : A) (w : Width) → class (make a w) ≡ k) → (o s : Option A) (n : Numeric)
    → either (option_map (λ a. make a w32) o) (option_map (λ a. make a w64) s) ≡ Some n → class n ≡ k
both make k same o s n e = by (chosen (option_map (λ a. make a w32) o) (option_map (λ a. make a w64) s) n e)
  where
    by : (option_map (λ a. make a w32) o ≡ Some n) ⊎ (option_map (λ a. make a w64) s ≡ Some n) → class n ≡ k
    by (inl p) = mapped (λ a. make a w32) k (λ a. same a w32) o n p
    by (inr p) = mapped (λ a. make a w64) k (λ a. same a w64) s n p

test_named : (op : ℕ) (n : Numeric) → option_map test (test_of op) ≡ Some n → class n ≡ 0
test_named op n e = mapped test 0 (λ w. refl) (test_of op) n e

compare_named : (op : ℕ) (n : Numeric) → compare_of op ≡ Some n → class n ≡ 1
compare_named op n e = both compare 1 (λ f w. refl) (from 0x46 compares op) (from 0x51 compares op) n e

unary_named : (op : ℕ) (n : Numeric) → unary_of op ≡ Some n → class n ≡ 2
unary_named op n e = both unary 2 (λ f w. refl) (from 0x67 unaries op) (from 0x79 unaries op) n e

binary_named : (op : ℕ) (n : Numeric) → binary_of op ≡ Some n → class n ≡ 3
binary_named op n e = both binary 3 (λ f w. refl) (from 0x6A binaries op) (from 0x7C binaries op) n e

convert_named : (op : ℕ) (n : Numeric) → convert_of op ≡ Some n → class n ≡ 4
convert_named op n e = by (op == 0xA7) (op == 0xAC) (op == 0xAD) e
  where
    by : (a b c : Bool) → (if a then Some (convert wrap) else if b then Some (convert extend_s) else if c then Some (convert extend_u) else None) ≡ Some n → class n ≡ 4
    by true b c e = sym (ap class (injective e))
    by false true c e = sym (ap class (injective e))
    by false false true e = sym (ap class (injective e))
    by false false false e = cc

-- the class that named an operation
data Named (op : ℕ) (n : Numeric) : Type 0 where
  as_test : option_map test (test_of op) ≡ Some n → Named op n
  as_compare : compare_of op ≡ Some n → Named op n
  as_unary : unary_of op ≡ Some n → Named op n
  as_binary : binary_of op ≡ Some n → Named op n
  as_convert : convert_of op ≡ Some n → Named op n

or_else : {P : Type 0} (x y : Option Numeric) (n : Numeric) → (x ≡ Some n → P) → (y ≡ Some n → P) → either x y ≡ Some n → P
or_else {P = P} x y n f g e = by (chosen x y n e)
  where
    by : (x ≡ Some n) ⊎ (y ≡ Some n) → P
    by (inl p) = f p
    by (inr p) = g p

named : (op : ℕ) (n : Numeric) → numeric_of op ≡ Some n → Named op n
named op n e =
    or_else (option_map test (test_of op)) _ n as_test
    (or_else (compare_of op) _ n as_compare (or_else (unary_of op) _ n as_unary (or_else (binary_of op) _ n as_binary (λ p. as_convert p)))) e

pub of_compare : (op : ℕ) (f : Compare) (w : Width) → numeric_of op ≡ Some (compare f w) → compare_of op ≡ Some (compare f w)
of_compare op f w e = by (named op (compare f w) e)
  where
    by : Named op (compare f w) → compare_of op ≡ Some (compare f w)
    by (as_test p) = let k : class (compare f w) ≡ 0 = test_named op (compare f w) p in absurd (omega arith)
    by (as_compare p) = p
    by (as_unary p) = let k : class (compare f w) ≡ 2 = unary_named op (compare f w) p in absurd (omega arith)
    by (as_binary p) = let k : class (compare f w) ≡ 3 = binary_named op (compare f w) p in absurd (omega arith)
    by (as_convert p) = let k : class (compare f w) ≡ 4 = convert_named op (compare f w) p in absurd (omega arith)

pub of_unary : (op : ℕ) (f : Unary) (w : Width) → numeric_of op ≡ Some (unary f w) → unary_of op ≡ Some (unary f w)
of_unary op f w e = by (named op (unary f w) e)
  where
    by : Named op (unary f w) → unary_of op ≡ Some (unary f w)
    by (as_test p) = let k : class (unary f w) ≡ 0 = test_named op (unary f w) p in absurd (omega arith)
    by (as_compare p) = let k : class (unary f w) ≡ 1 = compare_named op (unary f w) p in absurd (omega arith)
    by (as_unary p) = p
    by (as_binary p) = let k : class (unary f w) ≡ 3 = binary_named op (unary f w) p in absurd (omega arith)
    by (as_convert p) = let k : class (unary f w) ≡ 4 = convert_named op (unary f w) p in absurd (omega arith)

pub of_binary : (op : ℕ) (f : Binary) (w : Width) → numeric_of op ≡ Some (binary f w) → binary_of op ≡ Some (binary f w)
of_binary op f w e = by (named op (binary f w) e)
  where
    by : Named op (binary f w) → binary_of op ≡ Some (binary f w)
    by (as_test p) = let k : class (binary f w) ≡ 0 = test_named op (binary f w) p in absurd (omega arith)
    by (as_compare p) = let k : class (binary f w) ≡ 1 = compare_named op (binary f w) p in absurd (omega arith)
    by (as_unary p) = let k : class (binary f w) ≡ 2 = unary_named op (binary f w) p in absurd (omega arith)
    by (as_binary p) = p
    by (as_convert p) = let k : class (binary f w) ≡ 4 = convert_named op (binary f w) p in absurd (omega arith)

pub of_convert : (op : ℕ) (f : Convert) → numeric_of op ≡ Some (convert f) → convert_of op ≡ Some (convert f)
of_convert op f e = by (named op (convert f) e)
  where
    by : Named op (convert f) → convert_of op ≡ Some (convert f)
    by (as_test p) = let k : class (convert f) ≡ 0 = test_named op (convert f) p in absurd (omega arith)
    by (as_compare p) = let k : class (convert f) ≡ 1 = compare_named op (convert f) p in absurd (omega arith)
    by (as_unary p) = let k : class (convert f) ≡ 2 = unary_named op (convert f) p in absurd (omega arith)
    by (as_binary p) = let k : class (convert f) ≡ 3 = binary_named op (convert f) p in absurd (omega arith)
    by (as_convert p) = p

unmapped : (o : Option Width) (w : Width) → option_map test o ≡ Some (test w) → o ≡ Some w
unmapped (Some v) w e = cc
unmapped None w e = cc

pub of_test : (op : ℕ) (w : Width) → numeric_of op ≡ Some (test w) → test_of op ≡ Some w
of_test op w e = by (named op (test w) e)
  where
    by : Named op (test w) → test_of op ≡ Some w
    by (as_test p) = unmapped (test_of op) w p
    by (as_compare p) = let k : class (test w) ≡ 1 = compare_named op (test w) p in absurd (omega arith)
    by (as_unary p) = let k : class (test w) ≡ 2 = unary_named op (test w) p in absurd (omega arith)
    by (as_binary p) = let k : class (test w) ≡ 3 = binary_named op (test w) p in absurd (omega arith)
    by (as_convert p) = let k : class (test w) ≡ 4 = convert_named op (test w) p in absurd (omega arith)
