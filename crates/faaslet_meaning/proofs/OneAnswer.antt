-- A file has one answer at most.
use Rattle.std.proofs.Common.{◌≡◌, ℕ, List, refl, sym, ap, ◌∙◌, arith, Some, None, false}
use Rattle.std.specs.Prelude.{IsTrue}
use Rattle.faaslet_meaning.specs.declared.module.Module.{Module}
use Rattle.faaslet_meaning.specs.Floats.{has_float}
use Rattle.faaslet_meaning.specs.Decoding.{Decoded, too_long, malformed, float, limit, accepted, Limit, IsRead, DecodesTo, first_passed}
use Rattle.faaslet_meaning.proofs.OneModule.{one_module}

same_read : (bytes : List ℕ) (m n : Module) → IsRead bytes m → IsRead bytes n → m ≡ n
same_read bytes m n p q = one_module m n bytes p.1 q.1

float_or_none : (m : Module) → IsTrue (has_float m) → has_float m ≡ false → ⊥
float_or_none m p e = cc

same_limit : (m n : Module) (k l : Limit) → m ≡ n → first_passed m ≡ Some k → first_passed n ≡ Some l → k ≡ l
same_limit m n k l same p q = let e : Some k ≡ Some l = sym p ∙ ap first_passed same ∙ q in cc

pub one_answer : (a b : Decoded) (bytes : List ℕ) → DecodesTo a bytes → DecodesTo b bytes → a ≡ b
one_answer too_long too_long bytes p q = refl
one_answer too_long malformed bytes p q = let no : ⊥ = omega (arith, p, q.0) in absurd no
one_answer too_long float bytes p (n, q, f) = let no : ⊥ = omega (arith, p, q.0) in absurd no
one_answer too_long (limit l) bytes p (n, q, f, g) = let no : ⊥ = omega (arith, p, q.0) in absurd no
one_answer too_long (accepted n) bytes p (q, f, g) = let no : ⊥ = omega (arith, p, q.0) in absurd no
one_answer malformed too_long bytes p q = let no : ⊥ = omega (arith, q, p.0) in absurd no
one_answer malformed malformed bytes p q = refl
one_answer malformed float bytes p (n, q, f) = absurd (p.1.none n q.1)
one_answer malformed (limit l) bytes p (n, q, f, g) = absurd (p.1.none n q.1)
one_answer malformed (accepted n) bytes p (q, f, g) = absurd (p.1.none n q.1)
one_answer float too_long bytes (m, p, f) q = let no : ⊥ = omega (arith, q, p.0) in absurd no
one_answer float malformed bytes (m, p, f) q = absurd (q.1.none m p.1)
one_answer float float bytes p q = refl
one_answer float (limit l) bytes (m, p, f) (n, q, g, h) = absurd (float_or_none m f (ap has_float (same_read bytes m n p q) ∙ g))
one_answer float (accepted n) bytes (m, p, f) (q, g, h) = absurd (float_or_none m f (ap has_float (same_read bytes m n p q) ∙ g))
one_answer (limit k) too_long bytes (m, p, f, g) q = let no : ⊥ = omega (arith, q, p.0) in absurd no
one_answer (limit k) malformed bytes (m, p, f, g) q = absurd (q.1.none m p.1)
one_answer (limit k) float bytes (m, p, f, g) (n, q, h) = absurd (float_or_none n h (ap has_float (same_read bytes n m q p) ∙ f))
one_answer (limit k) (limit l) bytes (m, p, f, g) (n, q, h, i) = ap (λ x. limit x) (same_limit m n k l (same_read bytes m n p q) g i)
one_answer (limit k) (accepted n) bytes (m, p, f, g) (q, h, i) = let no : Some k ≡ None = sym g ∙ ap first_passed (same_read bytes m n p q) ∙ i in absurd (cc)
one_answer (accepted m) too_long bytes (p, f, g) q = let no : ⊥ = omega (arith, q, p.0) in absurd no
one_answer (accepted m) malformed bytes (p, f, g) q = absurd (q.1.none m p.1)
one_answer (accepted m) float bytes (p, f, g) (n, q, h) = absurd (float_or_none n h (ap has_float (same_read bytes n m q p) ∙ f))
one_answer (accepted m) (limit l) bytes (p, f, g) (n, q, h, i) = let no : Some l ≡ None = sym i ∙ ap first_passed (same_read bytes n m q p) ∙ g in absurd (cc)
one_answer (accepted m) (accepted n) bytes (p, f, g) (q, h, i) = ap (λ x. accepted x) (same_read bytes m n p q)
