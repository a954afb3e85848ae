-- Operands are replaced by what an operation gives.
use Rattle.std.proofs.Common.{◌≡◌, ℕ, List, [], ◌∷◌, ◌++◌, length, drop, refl, sym, ap, ◌∙◌, subst, arith, length-append, None, Some, Option, Result, Ok, Err, ◌≤◌}
use Rattle.std.specs.Prelude.{◌≢◌, slice_get, reverse}
use Rattle.faaslet_meaning.specs.declared.outcome.Trap.{Trap}
use Rattle.faaslet_meaning.specs.declared.outcome.Outcome.TheVariants as outcome
use Rattle.faaslet_meaning.specs.Integers.{Numeric, test, compare, unary, binary, convert, numeric_of}
use Rattle.faaslet_meaning.specs.Memory.{Memory}
use Rattle.faaslet_meaning.specs.Configuration.{Configuration, stuck}
use Rattle.faaslet_meaning.specs.Step.{gives, numeric}
use Rattle.wasm_interp.specs.declared.thread.Thread.{Thread}
use Rattle.faaslet_meaning.specs.declared.instr.Instr.TheVariants.{Num}
use Rattle.wasm_interp.specs.Stands.{below, all_values, Stands, Follows, Can}
use Rattle.wasm_interp.proofs.Values.{under_own, values_stand}

-- as many values stand on the stack as in the frame
pub values_there : (memory : Memory) (t : Thread) (d : Configuration) (n : ℕ) → Stands memory t d → n ≤ length d.frame.values → n ≤ length t.values
values_there memory t d n s le = omega (arith, le, ap length s.values, length-append d.frame.values (below d.frame.labels (reverse d.frame.locals ++ all_values d.callers)))

-- two operands on top, the second one topmost
record Two (d : Configuration) (y x : ℕ) (one : List ℕ) : Type 0 where
  rest : List ℕ
  values_are : d.frame.values ≡ y ∷ (x ∷ rest)
  under : drop 1 one ≡ rest ++ under_own d

two_of : (d : Configuration) (y x : ℕ) (one vs : List ℕ) → vs ≡ d.frame.values → y ∷ one ≡ vs ++ under_own d → slice_get one 0 ≡ Some x → 2 ≤ length vs → Two d y x one
two_of d y x one [] e h f lt = absurd (omega arith)
two_of d y x one (b ∷ []) e h f lt = absurd (omega arith)
two_of d y x [] (b ∷ (a ∷ vs)) e h f lt = let g : ⊥ = cc in absurd g
two_of d y x (z ∷ one) (b ∷ (a ∷ vs)) e h f lt =
    let top : y ≡ b = cc in
    let next : z ≡ a = cc in
    let same : z ≡ x = cc in
    let low : one ≡ vs ++ under_own d = cc in
    record { rest = vs; values_are = sym e ∙ ap (λ v. v ∷ (a ∷ vs)) (sym top) ∙ ap (λ v. y ∷ (v ∷ vs)) (sym next ∙ same); under = low }

record One (d : Configuration) (x : ℕ) (all : List ℕ) : Type 0 where
  rest : List ℕ
  values_are : d.frame.values ≡ x ∷ rest
  under : drop 1 all ≡ rest ++ under_own d

one_of : (d : Configuration) (x : ℕ) (all vs : List ℕ) → vs ≡ d.frame.values → all ≡ vs ++ under_own d → slice_get all 0 ≡ Some x → 1 ≤ length vs → One d x all
one_of d x all [] e h f lt = absurd (omega arith)
one_of d x [] (a ∷ vs) e h f lt = let g : ⊥ = cc in absurd g
one_of d x (z ∷ all) (a ∷ vs) e h f lt =
    let next : z ≡ a = cc in
    let same : z ≡ x = cc in
    let low : all ≡ vs ++ under_own d = cc in
    record { rest = vs; values_are = sym e ∙ ap (λ v. v ∷ vs) (sym next ∙ same); under = low }

-- how many operands an operation takes
abbrev pub operands : Numeric → ℕ
operands (test w) = 1
operands (compare f w) = 2
operands (unary f w) = 1
operands (binary f w) = 2
operands (convert f) = 1

pub needs : (d : Configuration) (n : Numeric) (vs : List ℕ) → numeric d (Some n) vs ≢ stuck → operands n ≤ length vs
needs d (test w) [] ok = absurd (ok refl)
needs d (test w) (x ∷ vs) ok = omega arith
needs d (compare f w) [] ok = absurd (ok refl)
needs d (compare f w) (y ∷ []) ok = absurd (ok refl)
needs d (compare f w) (y ∷ (x ∷ vs)) ok = omega arith
needs d (unary f w) [] ok = absurd (ok refl)
needs d (unary f w) (x ∷ vs) ok = omega arith
needs d (binary f w) [] ok = absurd (ok refl)
needs d (binary f w) (y ∷ []) ok = absurd (ok refl)
needs d (binary f w) (y ∷ (x ∷ vs)) ok = omega arith
needs d (convert f) [] ok = absurd (ok refl)
needs d (convert f) (x ∷ vs) ok = omega arith

pub some_numeric : (d : Configuration) (o : Option Numeric) (vs : List ℕ) → numeric d o vs ≢ stuck → (n : Numeric) × (o ≡ Some n)
some_numeric d None vs ok = absurd (ok refl)
some_numeric d (Some n) vs ok = (n, refl)

pub needed : (d : Configuration) (o : Option Numeric) (n : Numeric) (vs : List ℕ) → o ≡ Some n → numeric d o vs ≢ stuck → operands n ≤ length vs
needed d o n vs e ok = needs d n vs (λ h. ok (ap (λ q. numeric d q vs) e ∙ h))

given : (memory : Memory) (t : Thread) (d : Configuration) (v : ℕ) (new rest : List ℕ) → new ≡ v ∷ (rest ++ under_own d) → Stands memory t d → Follows memory (record t { values = new }) (gives d rest (Ok v)) None
given memory t d v new rest h s = values_stand memory t d new (v ∷ rest) h s

-- what an operation on two operands gives, or its trap
abbrev pub does_two : Configuration → Result ℕ Trap → ℕ → ℕ → Numeric → Type 0
does_two d r y x n = (rest : List ℕ) → numeric d (Some n) (y ∷ (x ∷ rest)) ≡ gives d rest r

pub two_done : (memory : Memory) (t : Thread) (d : Configuration) (o : Option Numeric) (n : Numeric) (r : Result ℕ Trap) (y x v : ℕ) (one new : List ℕ) → o ≡ Some n → 2 ≤ operands n → does_two d r y x n → r ≡ Ok v → t.values ≡ y ∷ one → slice_get one 0 ≡ Some x → new ≡ v ∷ drop 1 one → Stands memory t d → numeric d o d.frame.values ≢ stuck → Follows memory (record t { values = new }) (numeric d o d.frame.values) None
two_done memory t d o n r y x v one new e takes row ok top next h s live =
    let k = two_of d y x one d.frame.values refl (sym top ∙ s.values) next (omega (arith, takes, needed d o n d.frame.values e live)) in
    let is : numeric d o d.frame.values ≡ gives d k.rest (Ok v) = ap (λ q. numeric d q d.frame.values) e ∙ ap (numeric d (Some n)) k.values_are ∙ row k.rest ∙ ap (gives d k.rest) ok in
    subst (λ q. Follows memory (record t { values = new }) q None) (sym is) (given memory t d v new k.rest (h ∙ ap (λ l. v ∷ l) k.under) s)

pub two_traps : (memory : Memory) (t new : Thread) (d : Configuration) (o : Option Numeric) (n : Numeric) (r : Result ℕ Trap) (y x : ℕ) (k : Trap) (one : List ℕ) → o ≡ Some n → 2 ≤ operands n → does_two d r y x n → r ≡ Err k → t.values ≡ y ∷ one → slice_get one 0 ≡ Some x → new.globals ≡ t.globals → new.table ≡ t.table → new.fuel ≡ t.fuel → Stands memory t d → numeric d o d.frame.values ≢ stuck → Follows memory new (numeric d o d.frame.values) (Some (outcome.Trap k))
two_traps memory t new d o n r y x k one e takes row bad top next g b f s live =
    let q = two_of d y x one d.frame.values refl (sym top ∙ s.values) next (omega (arith, takes, needed d o n d.frame.values e live)) in
    let is : numeric d o d.frame.values ≡ gives d q.rest (Err k) = ap (λ q. numeric d q d.frame.values) e ∙ ap (numeric d (Some n)) q.values_are ∙ row q.rest ∙ ap (gives d q.rest) bad in
    subst (λ q. Follows memory new q (Some (outcome.Trap k))) (sym is) (refl, record { globals_are = ap (λ h. h.items) g ∙ s.kept.globals_are; table_is = ap (λ h. h.items) b ∙ s.kept.table_is; memory_is = s.kept.memory_is; fuel_is = f ∙ s.kept.fuel_is })

-- what an operation on one operand gives
pub one_done : (memory : Memory) (t : Thread) (d : Configuration) (o : Option Numeric) (n : Numeric) (x v w : ℕ) (new : List ℕ) → o ≡ Some n → 1 ≤ operands n → ((rest : List ℕ) → numeric d (Some n) (x ∷ rest) ≡ gives d rest (Ok w)) → v ≡ w → slice_get t.values 0 ≡ Some x → new ≡ v ∷ drop 1 t.values → Stands memory t d → numeric d o d.frame.values ≢ stuck → Follows memory (record t { values = new }) (numeric d o d.frame.values) None
one_done memory t d o n x v w new e takes row same next h s live =
    let k = one_of d x t.values d.frame.values refl s.values next (omega (arith, takes, needed d o n d.frame.values e live)) in
    let is : numeric d o d.frame.values ≡ gives d k.rest (Ok v) = ap (λ q. numeric d q d.frame.values) e ∙ ap (numeric d (Some n)) k.values_are ∙ row k.rest ∙ ap (λ q. gives d k.rest (Ok q)) (sym same) in
    subst (λ q. Follows memory (record t { values = new }) q None) (sym is) (given memory t d v new k.rest (h ∙ ap (λ l. v ∷ l) k.under) s)

-- the operation that isn't stuck, with its operands on the stack
pub record Operated (t : Thread) (op : ℕ) : Type 0 where
  pub numeric : Numeric
  pub is : numeric_of op ≡ Some numeric
  pub there : operands numeric ≤ length t.values

pub operated : (t : Thread) (op : ℕ) → Can t (Num op) → Operated t op
operated t op (p, (memory, d, s, ok)) =
    let n = some_numeric d (numeric_of op) d.frame.values ok in
    record { numeric = n.0; is = n.1; there = values_there memory t d (operands n.0) s (needed d (numeric_of op) n.0 d.frame.values n.1 ok) }
