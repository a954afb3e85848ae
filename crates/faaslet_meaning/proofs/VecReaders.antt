-- One after the other, and a count with that many.
use Rattle.std.proofs.Common.{◌≡◌, ℕ, zero, suc, List, [], ◌∷◌, ◌++◌, length, Some, refl, sym, ap, subst, ◌∙◌, append_assoc}
use Rattle.faaslet_meaning.specs.Productions.{◌⨾◌, IsMany, Front, Fronts}
use Rattle.faaslet_meaning.specs.Numbers.{IsU32, IsVec}
use Rattle.faaslet_meaning.specs.Reading.{Read, ◌>>=◌, mapped, unsigned_at, many_at, vec_at}
use Rattle.faaslet_meaning.proofs.Readers.{Reads, mapped_some, bind_some, some_is}
use Rattle.faaslet_meaning.proofs.NumberReaders.{unsigned_reads}

-- ---- one thing after another

pub fronts : {A : Type 0} {P : A → List ℕ → Type 0} {bytes : List ℕ} {x : A} {rest : List ℕ} → Front P bytes x rest → Fronts (P x) bytes rest
fronts f = record { text = f.text; parts = f.parts; spells = f.spells }

pub fronts_then : {L M : List ℕ → Type 0} {a b c : List ℕ} → Fronts L a b → Fronts M b c → Fronts (L ⨾ M) a c
fronts_then {a = a} {c = c} f g = record { text = f.text ++ g.text; parts = f.parts ∙ ap (λ (t : List ℕ). f.text ++ t) g.parts ∙ sym (append_assoc f.text g.text c); spells = record { front = f.text; back = g.text; parts = refl; first = f.spells; second = g.spells } }

pub regroup : {L M : List ℕ → Type 0} {a : List ℕ} (p : (L ⨾ M) a) (rest : List ℕ) → a ++ rest ≡ p.front ++ (p.back ++ rest)
regroup p rest = ap (λ (t : List ℕ). t ++ rest) p.parts ∙ append_assoc p.front p.back rest

-- what is made of two things, and of three
pub two_takes : {A B C : Type 0} (P : A → List ℕ → Type 0) (Q : B → List ℕ → Type 0) (R : C → List ℕ → Type 0) (at : List ℕ → Read A) (bt : List ℕ → Read B) (f : A → B → C) (bytes : List ℕ) (x : C) (rest : List ℕ)
    → Reads P at → Reads Q bt → ((a : A) (b : B) (t : List ℕ) → (P a ⨾ Q b) t → R (f a b) t) → (at bytes >>= λ a. mapped (f a.0) (bt a.1)) ≡ Some (x, rest) → Front R bytes x rest
two_takes P Q R at bt f bytes x rest first second on e =
    let a = bind_some (at bytes) (λ a. mapped (f a.0) (bt a.1)) (x, rest) e in
    let b = mapped_some (f a.0.0) (bt a.0.1) x rest a.2 in
    let all = fronts_then (fronts (first.takes bytes a.0.0 a.0.1 a.1)) (fronts (second.takes a.0.1 b.0 rest b.1)) in
    record { text = all.text; parts = all.parts; spells = subst (λ y. R y all.text) b.2 (on a.0.0 b.0 all.text all.spells) }

pub three_takes : {A B C D : Type 0} (P : A → List ℕ → Type 0) (Q : B → List ℕ → Type 0) (S : C → List ℕ → Type 0) (R : D → List ℕ → Type 0) (at : List ℕ → Read A) (bt : List ℕ → Read B) (ct : List ℕ → Read C) (f : A → B → C → D) (bytes : List ℕ) (x : D) (rest : List ℕ)
    → Reads P at → Reads Q bt → Reads S ct → ((a : A) (b : B) (c : C) (t : List ℕ) → (P a ⨾ Q b ⨾ S c) t → R (f a b c) t) → (at bytes >>= λ a. bt a.1 >>= λ b. mapped (f a.0 b.0) (ct b.1)) ≡ Some (x, rest) → Front R bytes x rest
three_takes P Q S R at bt ct f bytes x rest first second third on e =
    let a = bind_some (at bytes) (λ a. bt a.1 >>= λ b. mapped (f a.0 b.0) (ct b.1)) (x, rest) e in
    let b = bind_some (bt a.0.1) (λ b. mapped (f a.0.0 b.0) (ct b.1)) (x, rest) a.2 in
    let c = mapped_some (f a.0.0 b.0.0) (ct b.0.1) x rest b.2 in
    let all = fronts_then (fronts (first.takes bytes a.0.0 a.0.1 a.1)) (fronts_then (fronts (second.takes a.0.1 b.0.0 b.0.1 b.1)) (fronts (third.takes b.0.1 c.0 rest c.1))) in
    record { text = all.text; parts = all.parts; spells = subst (λ y. R y all.text) c.2 (on a.0.0 b.0.0 c.0 all.text all.spells) }

-- ---- many

many_takes : {A : Type 0} (P : A → List ℕ → Type 0) (at : List ℕ → Read A) → Reads P at → (n : ℕ) (bytes : List ℕ) (xs : List A) (rest : List ℕ) → many_at at n bytes ≡ Some (xs, rest) → Fronts (IsMany P xs) bytes rest × (length xs ≡ n)
unfolding many_at
many_takes {A = A} P at reads zero bytes xs rest e =
    let h = some_is ([], bytes) (xs, rest) e in
    subst (λ (p : List A × List ℕ). Fronts (IsMany P p.0) bytes p.1 × (length p.0 ≡ 0)) h (record { text = []; parts = refl; spells = refl }, refl)
many_takes {A = A} P at reads (suc n) bytes xs rest e =
    let x = bind_some (at bytes) (λ x. mapped (λ xs. x.0 ∷ xs) (many_at at n x.1)) (xs, rest) e in
    let ys = mapped_some (λ xs. x.0.0 ∷ xs) (many_at at n x.0.1) xs rest x.2 in
    let first = fronts (reads.takes bytes x.0.0 x.0.1 x.1) in
    let others = many_takes P at reads n x.0.1 ys.0 rest ys.1 in
    let both : Fronts (IsMany P (x.0.0 ∷ ys.0)) bytes rest = fronts_then first others.0 in
    subst (λ (zs : List A). Fronts (IsMany P zs) bytes rest × (length zs ≡ suc n)) ys.2 (both, ap suc others.1)

many_again : {A : Type 0} (P : A → List ℕ → Type 0) (at : List ℕ → Read A) → Reads P at → (xs : List A) (a rest : List ℕ) → IsMany P xs a → many_at at (length xs) (a ++ rest) ≡ Some (xs, rest)
unfolding many_at
many_again P at reads [] a rest p = rw p refl
many_again P at reads (x ∷ xs) a rest p = ap (many_at at (suc (length xs))) (regroup p rest) ∙ rw (reads.again x p.front (p.back ++ rest) p.first, many_again P at reads xs p.back rest p.second) refl

vec_takes : {A : Type 0} (P : A → List ℕ → Type 0) (at : List ℕ → Read A) → Reads P at → (bytes : List ℕ) (xs : List A) (rest : List ℕ) → vec_at at bytes ≡ Some (xs, rest) → Front (IsVec P) bytes xs rest
unfolding vec_at
vec_takes P at reads bytes xs rest e =
    let n = bind_some (unsigned_at 32 bytes) (λ n. many_at at n.0 n.1) (xs, rest) e in
    let first = (unsigned_reads 32).takes bytes n.0.0 n.0.1 n.1 in
    let others = many_takes P at reads n.0.0 n.0.1 xs rest n.2 in
    let count : Fronts (IsU32 (length xs)) bytes n.0.1 = subst (λ k. Fronts (IsU32 k) bytes n.0.1) (sym others.1) (fronts first) in
    let both = fronts_then count others.0 in
    record { text = both.text; parts = both.parts; spells = both.spells }

vec_again : {A : Type 0} (P : A → List ℕ → Type 0) (at : List ℕ → Read A) → Reads P at → (xs : List A) (a rest : List ℕ) → IsVec P xs a → vec_at at (a ++ rest) ≡ Some (xs, rest)
unfolding vec_at
vec_again P at reads xs a rest p = ap (vec_at at) (regroup p rest) ∙ rw ((unsigned_reads 32).again (length xs) p.front (p.back ++ rest) p.first) (many_again P at reads xs p.back rest p.second)

pub vec_reads : {A : Type 0} (P : A → List ℕ → Type 0) (at : List ℕ → Read A) → Reads P at → Reads (IsVec P) (vec_at at)
vec_reads P at reads = record { takes = vec_takes P at reads; again = vec_again P at reads }
