-- The validator's look-ups by opcode are the rows of the integer tables.
use Rattle.std.proofs.Common.{◌≡◌, ℕ, zero, suc, ◌+◌, ◌-◌, ◌^◌, ◌<◌, ◌≤◌, Bool, true, false, ◌&&◌, cond, Option, Some, None, List, [], ◌∷◌, length, refl, sym, ap, subst, ◌∙◌, arith, slice_get, option_map}
use Rattle.std.specs.Prelude.{nat_le, ◌==◌}
use Rattle.std.specs.Int.{Width, w8, w16, w32, w64, w128}
use Rattle.std.proofs.lemmas.Bool.{le-leb, leb-true}
use Rattle.std.proofs.lemmas.Nat.{pow_below}
use Rattle.std.proofs.lemmas.Option.{slice_get_past}
use Rattle.std.proofs.Math.Nat.{pow-le-pow_right}
use Rattle.faaslet_meaning.specs.declared.instr.ValType.TheVariants.{I32, I64}
use Rattle.faaslet_meaning.specs.Integers.{Numeric, test, compare, unary, binary, convert, wrap, extend_s, extend_u, compares, unaries, binaries, from, either, test_of, compare_of, unary_of, binary_of, convert_of, numeric_of}
use Rattle.faaslet_meaning.specs.LoadStore as bytes
use Rattle.faaslet_meaning.specs.LoadStore.{load_of, load_size, store_of, store_value}
use Rattle.faaslet_meaning.specs.Typing.{value_of, operands_of, result_of}
use Rattle.wasm_validate.specs.declared.opcodes.Access.{Access}
use Rattle.wasm_validate.specs.declared.opcodes.Signature.{Signature}
use Rattle.wasm_validate.specs.Opcodes.{within, signature, signature_at, operands, exponent, load_access, load_at, store_access, store_at}

-- ---- numeric opcodes

abbrev pub signature_of : Numeric → Signature
signature_of (test w) = record { operand = value_of w; two = false; leaves = I32 }
signature_of (compare f w) = record { operand = value_of w; two = true; leaves = I32 }
signature_of (unary f w) = record { operand = value_of w; two = false; leaves = value_of w }
signature_of (binary f w) = record { operand = value_of w; two = true; leaves = value_of w }
signature_of (convert wrap) = record { operand = I64; two = false; leaves = I32 }
signature_of (convert extend_s) = record { operand = I32; two = false; leaves = I64 }
signature_of (convert extend_u) = record { operand = I32; two = false; leaves = I64 }

pub operands_are : (n : Numeric) → operands_of n ≡ operands (signature_of n).operand (signature_of n).two
operands_are (test w) = refl
operands_are (compare f w) = refl
operands_are (unary f w) = refl
operands_are (binary f w) = refl
operands_are (convert wrap) = refl
operands_are (convert extend_s) = refl
operands_are (convert extend_u) = refl

pub result_is : (n : Numeric) → result_of n ≡ (signature_of n).leaves
result_is (test w) = refl
result_is (compare f w) = refl
result_is (unary f w) = refl
result_is (binary f w) = refl
result_is (convert wrap) = refl
result_is (convert extend_s) = refl
result_is (convert extend_u) = refl

abbrev signed : Option Numeric → Option Signature
signed o = option_map signature_of o

found : {A : Type 0} (xs : List A) (k : ℕ) → k < length xs → (x : A) × (slice_get xs k ≡ Some x)
found [] k h = absurd (omega arith)
found (x ∷ xs) zero h = (x, refl)
found (x ∷ xs) (suc k) h = found xs k (omega arith)

-- the operations of one list have one signature
row : {A : Type 0} (op_of : A → Numeric) (s : Signature) (first last : ℕ) (ops : List A) (op : ℕ) → ((f : A) → signature_of (op_of f) ≡ s) → first + length ops ≡ suc last → first ≤ last → signed (option_map op_of (from first ops op)) ≡ cond (within first last op) (Some s) None
row {A} op_of s first last ops op all e le = go (nat_le first op) (nat_le op last) refl refl
  where
    some : (x : A) → slice_get ops (op - first) ≡ Some x → signed (option_map op_of (slice_get ops (op - first))) ≡ Some s
    some x f = ap (λ (o : Option A). signed (option_map op_of o)) f ∙ ap (λ (t : Signature). Some t) (all x)

    past : length ops ≤ op - first → signed (option_map op_of (slice_get ops (op - first))) ≡ None
    past h = ap (λ (o : Option A). signed (option_map op_of o)) (slice_get_past ops (op - first) h)

    go : (a b : Bool) → nat_le first op ≡ a → nat_le op last ≡ b → signed (option_map op_of (cond a (slice_get ops (op - first)) None)) ≡ cond (a && b) (Some s) None
    go false b p q = refl
    go true true p q =
        let low : first ≤ op = leb-true first op p in
        let high : op ≤ last = leb-true op last q in
        let f = found ops (op - first) (omega arith) in
        some f.0 f.1
    go true false p q =
        let low : first ≤ op = leb-true first op p in
        past (omega (arith, above))
      where
        above : op ≤ last → ⊥
        above h = let t : nat_le op last ≡ true = le-leb op last h in let never : ⊥ = cc in never

both : (a b : Option Numeric) (x y : Option Signature) → signed a ≡ x → signed b ≡ y → signed (either a b) ≡ either x y
both (Some n) b x y p q = ap (λ (o : Option Signature). either o y) p
both None b x y p q = q ∙ ap (λ (o : Option Signature). either o y) p

tests : (a b : Bool) → signed (option_map test (cond a (Some w32) (cond b (Some w64) None))) ≡ cond a (signature I32 false I32) (cond b (signature I64 false I32) None)
tests true b = refl
tests false true = refl
tests false false = refl

converts : (a b c : Bool) → signed (cond a (Some (convert wrap)) (cond b (Some (convert extend_s)) (cond c (Some (convert extend_u)) None))) ≡ cond a (signature I64 false I32) (cond b (signature I32 false I64) (cond c (signature I32 false I64) None))
converts true b c = refl
converts false true c = refl
converts false false true = refl
converts false false false = refl

-- one choice after another
joined : (a b c d e f g h : Bool) (ra rb rc rd re rf rg rh : Signature) (last : Option Signature) → either (cond a (Some ra) (cond b (Some rb) None)) (either (either (cond c (Some rc) None) (cond d (Some rd) None)) (either (either (cond e (Some re) None) (cond f (Some rf) None)) (either (either (cond g (Some rg) None) (cond h (Some rh) None)) last)))
    ≡ cond a (Some ra) (cond b (Some rb) (cond c (Some rc) (cond d (Some rd) (cond e (Some re) (cond f (Some rf) (cond g (Some rg) (cond h (Some rh) last)))))))
joined true b c d e f g h ra rb rc rd re rf rg rh last = refl
joined false true c d e f g h ra rb rc rd re rf rg rh last = refl
joined false false true d e f g h ra rb rc rd re rf rg rh last = refl
joined false false false true e f g h ra rb rc rd re rf rg rh last = refl
joined false false false false true f g h ra rb rc rd re rf rg rh last = refl
joined false false false false false true g h ra rb rc rd re rf rg rh last = refl
joined false false false false false false true h ra rb rc rd re rf rg rh last = refl
joined false false false false false false false true ra rb rc rd re rf rg rh last = refl
joined false false false false false false false false ra rb rc rd re rf rg rh last = refl

rows : (op : ℕ) → signed (numeric_of op) ≡ signature_at op
rows op =
    both (option_map test (test_of op)) (either (compare_of op) (either (unary_of op) (either (binary_of op) (convert_of op)))) _ _ (tests (op == 0x45) (op == 0x50))
    (both (compare_of op) (either (unary_of op) (either (binary_of op) (convert_of op))) _ _
    (both _ _ _ _ (row (λ f. compare f w32) _ 0x46 0x4F compares op (λ f. refl) refl (omega arith)) (row (λ f. compare f w64) _ 0x51 0x5A compares op (λ f. refl) refl (omega arith)))
    (both (unary_of op) (either (binary_of op) (convert_of op)) _ _
    (both _ _ _ _ (row (λ f. unary f w32) _ 0x67 0x69 unaries op (λ f. refl) refl (omega arith)) (row (λ f. unary f w64) _ 0x79 0x7B unaries op (λ f. refl) refl (omega arith)))
    (both (binary_of op) (convert_of op) _ _
    (both _ _ _ _ (row (λ f. binary f w32) _ 0x6A 0x78 binaries op (λ f. refl) refl (omega arith)) (row (λ f. binary f w64) _ 0x7C 0x8A binaries op (λ f. refl) refl (omega arith)))
    (converts (op == 0xA7) (op == 0xAC) (op == 0xAD)))))
    ∙ joined (op == 0x45) (op == 0x50) (within 0x46 0x4F op) (within 0x51 0x5A op) (within 0x67 0x69 op) (within 0x79 0x7B op) (within 0x6A 0x78 op) (within 0x7C 0x8A op) _ _ _ _ _ _ _ _ _

pub found_numeric : (op : ℕ) (n : Numeric) → numeric_of op ≡ Some n → signature_at op ≡ Some (signature_of n)
found_numeric op n e = sym (rows op) ∙ ap signed e

pub numeric_found : (op : ℕ) (g : Signature) → signature_at op ≡ Some g → (n : Numeric) × (numeric_of op ≡ Some n) × (signature_of n ≡ g)
numeric_found op g e = go (numeric_of op) refl (rows op ∙ e)
  where
    go : (o : Option Numeric) → numeric_of op ≡ o → signed o ≡ Some g → (n : Numeric) × (numeric_of op ≡ Some n) × (signature_of n ≡ g)
    go None p q = absurd cc
    go (Some n) p q = let same : signature_of n ≡ g = cc in (n, p, same)

-- ---- alignments

within_power : (a k : ℕ) → 2 ^ a ≤ 2 ^ k → a ≤ k
within_power a k h = grind (arith, pow_below k a)

power_within : (a k : ℕ) → a ≤ k → 2 ^ a ≤ 2 ^ k
power_within a k h = pow-le-pow_right (omega arith) h

-- a number of bytes that is a power of 2 up to 8
fits_size : (align n : ℕ) → n ≡ 2 ^ exponent n → 2 ^ align ≤ n → align ≤ exponent n
fits_size align n e h = within_power align (exponent n) (let at_most : 2 ^ align ≤ 2 ^ exponent n = omega (arith, e, h) in at_most)

size_fits : (align n : ℕ) → n ≡ 2 ^ exponent n → align ≤ exponent n → 2 ^ align ≤ n
size_fits align n e h = let p : 2 ^ align ≤ 2 ^ exponent n = power_within align (exponent n) h in omega (arith, e, p)

-- each row of a table of sizes is one
stores_sized : (a b c d e f g : Bool) (n : ℕ) → cond a (Some 4) (cond b (Some 8) (cond c (Some 1) (cond d (Some 2) (cond e (Some 1) (cond f (Some 2) (cond g (Some 4) None)))))) ≡ Some n → n ≡ 2 ^ exponent n
stores_sized true b c d e f g n p = let q : 4 ≡ n = cc in subst (λ m. m ≡ 2 ^ exponent m) q refl
stores_sized false true c d e f g n p = let q : 8 ≡ n = cc in subst (λ m. m ≡ 2 ^ exponent m) q refl
stores_sized false false true d e f g n p = let q : 1 ≡ n = cc in subst (λ m. m ≡ 2 ^ exponent m) q refl
stores_sized false false false true e f g n p = let q : 2 ≡ n = cc in subst (λ m. m ≡ 2 ^ exponent m) q refl
stores_sized false false false false true f g n p = let q : 1 ≡ n = cc in subst (λ m. m ≡ 2 ^ exponent m) q refl
stores_sized false false false false false true g n p = let q : 2 ≡ n = cc in subst (λ m. m ≡ 2 ^ exponent m) q refl
stores_sized false false false false false false true n p = let q : 4 ≡ n = cc in subst (λ m. m ≡ 2 ^ exponent m) q refl
stores_sized false false false false false false false n p = absurd cc

store_sized : (op n : ℕ) → store_of op ≡ Some n → n ≡ 2 ^ exponent n
store_sized op n e = stores_sized (0x36 == op) (0x37 == op) (0x3A == op) (0x3B == op) (0x3C == op) (0x3D == op) (0x3E == op) n e

-- a load of any width
load_sized : (l : bytes.Load) → load_size l ≤ 8 → load_size l ≡ 2 ^ exponent (load_size l)
load_sized l h = go l.stored h
  where
    go : (w : Width) → load_size (record l { stored = w }) ≤ 8 → load_size (record l { stored = w }) ≡ 2 ^ exponent (load_size (record l { stored = w }))
    go w8 h = refl
    go w16 h = refl
    go w32 h = refl
    go w64 h = refl
    go w128 h = absurd (omega arith)

-- no load is of more than 8 bytes
abbrev Small : Option bytes.Load → Type 0
Small None = Unit {0}
Small (Some l) = load_size l ≤ 8

small_choice : (b : Bool) (l : bytes.Load) (o : Option bytes.Load) → load_size l ≤ 8 → Small o → Small (cond b (Some l) o)
small_choice true l o h s = h
small_choice false l o h s = s

load_small : (op : ℕ) → Small (load_of op)
load_small op =
    small_choice (0x28 == op) _ _ (omega arith) (small_choice (0x29 == op) _ _ (omega arith)
    (small_choice (0x2C == op) _ _ (omega arith) (small_choice (0x2D == op) _ _ (omega arith)
    (small_choice (0x2E == op) _ _ (omega arith) (small_choice (0x2F == op) _ _ (omega arith)
    (small_choice (0x30 == op) _ _ (omega arith) (small_choice (0x31 == op) _ _ (omega arith)
    (small_choice (0x32 == op) _ _ (omega arith) (small_choice (0x33 == op) _ _ (omega arith)
    (small_choice (0x34 == op) _ _ (omega arith) (small_choice (0x35 == op) _ _ (omega arith) tt)))))))))))

is_sized : (op : ℕ) (l : bytes.Load) → load_of op ≡ Some l → load_size l ≡ 2 ^ exponent (load_size l)
is_sized op l e = load_sized l (subst Small e (load_small op))

pub found_load : (op align : ℕ) (l : bytes.Load) → load_of op ≡ Some l → 2 ^ align ≤ load_size l → (load_at op ≡ Some (load_access l)) × (align ≤ exponent (load_size l))
found_load op align l e h = (ap (option_map load_access) e, fits_size align (load_size l) (is_sized op l e) h)

pub load_found : (op align : ℕ) (a : Access) → load_at op ≡ Some a → align ≤ a.align → (l : bytes.Load) × (load_of op ≡ Some l) × (2 ^ align ≤ load_size l) × (value_of l.value ≡ a.value)
load_found op align a e h = go (load_of op) refl e
  where
    go : (o : Option bytes.Load) → load_of op ≡ o → option_map load_access o ≡ Some a → (l : bytes.Load) × (load_of op ≡ Some l) × (2 ^ align ≤ load_size l) × (value_of l.value ≡ a.value)
    go None p q = absurd cc
    go (Some l) p q =
        let same : load_access l ≡ a = cc in
        let within : align ≤ exponent (load_size l) = subst (λ (x : Access). align ≤ x.align) (sym same) h in
        (l, p, size_fits align (load_size l) (is_sized op l p) within, ap (λ (x : Access). x.value) same)

pub found_store : (op align n : ℕ) → store_of op ≡ Some n → 2 ^ align ≤ n → (store_at op ≡ Some (store_access op n)) × (align ≤ exponent n)
found_store op align n e h = (ap (option_map (store_access op)) e, fits_size align n (store_sized op n e) h)

pub store_found : (op align : ℕ) (a : Access) → store_at op ≡ Some a → align ≤ a.align → (n : ℕ) × (store_of op ≡ Some n) × (2 ^ align ≤ n) × (value_of (store_value op) ≡ a.value)
store_found op align a e h = go (store_of op) refl e
  where
    go : (o : Option ℕ) → store_of op ≡ o → option_map (store_access op) o ≡ Some a → (n : ℕ) × (store_of op ≡ Some n) × (2 ^ align ≤ n) × (value_of (store_value op) ≡ a.value)
    go None p q = absurd cc
    go (Some n) p q =
        let same : store_access op n ≡ a = cc in
        let within : align ≤ exponent n = subst (λ (x : Access). align ≤ x.align) (sym same) h in
        (n, p, size_fits align n (store_sized op n p) within, ap (λ (x : Access). x.value) same)
