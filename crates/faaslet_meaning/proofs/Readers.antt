-- A reader and the relation that it reads.
use Rattle.std.proofs.Common.{◌≡◌, ℕ, Bool, true, false, List, [], ◌∷◌, ◌++◌, Option, Some, None, ◌⊎◌, inl, inr, refl, sym, ap, subst, ◌∙◌}
use Rattle.std.proofs.lemmas.List.{append_cancel_right}
use Rattle.faaslet_meaning.specs.Productions.{Byte, ◌⨾◌, Front, NoFront, IsDetermined}
use Rattle.faaslet_meaning.specs.Reading.{Read, ◌>>=◌, mapped}

-- what is read is spelled so, and what is spelled so is read, whatever follows
pub record Reads {A : Type 0} (P : A → List ℕ → Type 0) (at : List ℕ → Read A) : Type 0 where
  pub takes : (bytes : List ℕ) (x : A) (rest : List ℕ) → at bytes ≡ Some (x, rest) → Front P bytes x rest
  pub again : (x : A) (a rest : List ℕ) → P x a → at (a ++ rest) ≡ Some (x, rest)

-- so it tells the malformed apart
pub none_is_none : {A : Type 0} (P : A → List ℕ → Type 0) (at : List ℕ → Read A) (bytes : List ℕ) → Reads P at → at bytes ≡ None → NoFront P bytes
none_is_none P at bytes reads e = record { none = λ x a rest parts p. let h = reads.again x a rest p in let same : at bytes ≡ at (a ++ rest) = ap at parts in cc }

-- and the other way round
pub read_again : {A : Type 0} (P : A → List ℕ → Type 0) (at : List ℕ → Read A) (bytes : List ℕ) (x : A) (rest : List ℕ) → Reads P at → Front P bytes x rest → at bytes ≡ Some (x, rest)
read_again P at bytes x rest reads f = ap at f.parts ∙ reads.again x f.text rest f.spells

pub not_read : {A : Type 0} (P : A → List ℕ → Type 0) (at : List ℕ → Read A) (bytes : List ℕ) → Reads P at → NoFront P bytes → (r : Read A) → at bytes ≡ r → r ≡ None
not_read P at bytes reads none None e = refl
not_read P at bytes reads none (Some (x, rest)) e = let f = reads.takes bytes x rest e in absurd (none.none x f.text rest f.parts f.spells)

pub some_is : {A : Type 0} (p q : A × List ℕ) → (let f : Read A = Some p in let g : Read A = Some q in f ≡ g) → p ≡ q
some_is p q e = cc

-- and the spellings are apart
pub once : {A : Type 0} (P : A → List ℕ → Type 0) (at : List ℕ → Read A) → Reads P at → IsDetermined P
once {A = A} P at reads = record { same = go }
  where
    go : (x y : A) (a b r s : List ℕ) → P x a → P y b → a ++ r ≡ b ++ s → (x ≡ y) × (a ≡ b) × (r ≡ s)
    go x y a b r s p q e =
        let h : (x, r) ≡ (y, s) = some_is (x, r) (y, s) (sym (reads.again x a r p) ∙ ap at e ∙ reads.again y b s q) in
        let rest : r ≡ s = ap (λ (t : A × List ℕ). t.1) h in
        let whole : a ++ r ≡ b ++ r = e ∙ ap (λ (t : List ℕ). b ++ t) (sym rest) in
        (ap (λ (t : A × List ℕ). t.0) h, append_cancel_right a b r whole, rest)

pub either : (b : Bool) → (b ≡ true) ⊎ (b ≡ false)
either true = inl refl
either false = inr refl

pub mapped_some : {A B : Type 0} (f : A → B) (r : Read A) (y : B) (rest : List ℕ) → mapped f r ≡ Some (y, rest) → (x : A) × (r ≡ Some (x, rest)) × (f x ≡ y)
mapped_some f (Some x) y rest e = (x.0, ap (λ (t : List ℕ). let o : Read _ = Some (x.0, t) in o) (ap (λ p. p.1) (some_is (f x.0, x.1) (y, rest) e)), ap (λ p. p.0) (some_is (f x.0, x.1) (y, rest) e))
mapped_some f None y rest e = absurd cc

pub bind_some : {A B : Type 0} (r : Option A) (f : A → Option B) (y : B) → (r >>= f) ≡ Some y → (x : A) × (r ≡ Some x) × (f x ≡ Some y)
bind_some (Some x) f y e = (x, refl, e)
bind_some None f y e = absurd cc

pub at_value : {A : Type 0} (v w : A) (rest : List ℕ) → v ≡ w → (let f : Read A = Some (v, rest) in f ≡ Some (w, rest))
at_value v w rest e = ap (λ x. Some (x, rest)) e

-- a byte, and what it announces
pub tagged : {Q : List ℕ → Type 0} (k : ℕ) (a : List ℕ) → Q a → (Byte k ⨾ Q) (k ∷ a)
tagged k a q = record { front = k ∷ []; back = a; parts = refl; first = refl; second = q }

pub tag_parts : (Q : List ℕ → Type 0) (k : ℕ) (a rest : List ℕ) (p : (Byte k ⨾ Q) a) → a ++ rest ≡ k ∷ (p.back ++ rest)
tag_parts Q k a rest p = ap (λ (t : List ℕ). t ++ rest) (p.parts ∙ ap (λ (t : List ℕ). t ++ p.back) p.first)

-- what is read is r, and r is (x, rest)
pub front_is : {A : Type 0} (P : A → List ℕ → Type 0) (bytes : List ℕ) (p q : A × List ℕ) → p ≡ q → Front P bytes p.0 p.1 → Front P bytes q.0 q.1
front_is P bytes p q e f = subst (λ t. Front P bytes t.0 t.1) e f

-- a byte k, and an operand behind it
pub operand_takes : {A B : Type 0} (P : B → List ℕ → Type 0) (Q : A → List ℕ → Type 0) (at : List ℕ → Read A) (k b : ℕ) (f : A → B) (bytes : List ℕ) (x : B) (rest : List ℕ)
    → Reads Q at → b ≡ k → ((n : A) (a : List ℕ) → Q n a → P (f n) (k ∷ a)) → mapped f (at bytes) ≡ Some (x, rest) → Front P (b ∷ bytes) x rest
operand_takes P Q at k b f bytes x rest reads same on e =
    let n = mapped_some f (at bytes) x rest e in
    let t = reads.takes bytes n.0 rest n.1 in
    record { text = k ∷ t.text; parts = ap (λ (h : ℕ). h ∷ bytes) same ∙ ap (λ (s : List ℕ). k ∷ s) t.parts; spells = subst (λ y. P y (k ∷ t.text)) n.2 (on n.0 t.text t.spells) }

-- a byte alone
pub byte_takes : {B : Type 0} (P : B → List ℕ → Type 0) (k b : ℕ) (y : B) (bytes : List ℕ) (x : B) (rest : List ℕ)
    → b ≡ k → P y (k ∷ []) → (let f : Read B = Some (y, bytes) in f ≡ Some (x, rest)) → Front P (b ∷ bytes) x rest
byte_takes P k b y bytes x rest same spells e =
    front_is P (b ∷ bytes) (y, bytes) (x, rest) (some_is _ _ e) (record { text = k ∷ []; parts = ap (λ (h : ℕ). h ∷ bytes) same; spells = spells })
