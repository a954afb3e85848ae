-- Tables of jumps: one place more of a body, and one body more.
use Rattle.std.proofs.Common.{◌≡◌, ℕ, zero, suc, ◌+◌, ◌<◌, List, [], ◌∷◌, ◌++◌, Some, length, drop, get_or, slice_get, slice_set, refl, sym, ap, ◌∙◌, subst, arith, ⊎_elim, ◌⊎◌, inl, inr}
use Rattle.std.proofs.lemmas.Bool.{cases_lt}
use Rattle.std.proofs.lemmas.Option.{slice_get_read}
use Rattle.faaslet_meaning.specs.declared.instr.Instr.{Instr}
use Rattle.faaslet_meaning.specs.declared.module.Body.{Body}
use Rattle.faaslet_meaning.specs.declared.module.Module.{Module}
use Rattle.wasm_validate.specs.declared.jumps.Jump.{Jump}
use Rattle.wasm_validate.specs.Jumps.{JumpFits, JumpsFit, JumpsFrom, ValidWith}

-- the list from a place on is the item there and the list from the next place on
pub drop_one : {A : Type 0} (xs : List A) (k : ℕ) (x : A) → slice_get xs k ≡ Some x → drop k xs ≡ x ∷ drop (k + 1) xs
drop_one [] k x e = cc
drop_one (y ∷ xs) zero x e = let same : y ≡ x = cc in ap (λ z. z ∷ xs) same
drop_one (y ∷ xs) (suc k) x e =
    let n : suc k + 1 ≡ suc (k + 1) = omega arith in
    drop_one xs k x e ∙ ap (λ j. x ∷ drop j (y ∷ xs)) (sym n)

set_above : {A : Type 0} (xs : List A) (k n : ℕ) (x : A) → k < n → slice_get (slice_set xs k x) n ≡ slice_get xs n
set_above xs k zero x lt = absurd (omega arith)
set_above [] k (suc n) x lt = refl
set_above (y ∷ xs) zero (suc n) x lt = refl
set_above (y ∷ xs) (suc k) (suc n) x lt = set_above xs k n x (omega arith)

set_there : {A : Type 0} (xs : List A) (k : ℕ) (x : A) → k < length xs → slice_get (slice_set xs k x) k ≡ Some x
set_there [] k x lt = absurd (omega arith)
set_there (y ∷ xs) zero x lt = refl
set_there (y ∷ xs) (suc k) x lt = set_there xs k x (omega arith)

-- one jump more is written
pub more_fit : (code : List Instr) (i k : ℕ) (js : List Jump) (j : Jump) → i ≡ k + 1 → k < length js → JumpsFrom code i js → JumpFits code k j → JumpsFrom code k (slice_set js k j)
more_fit code i k js j e lt fit here place x le f =
    ⊎_elim
    (λ more.
    let other : slice_get js place ≡ Some x = sym (set_above js k place j more) ∙ f in
    fit place x (omega arith) other)
    (λ less.
    let same : place ≡ k = omega arith in
    let both : Some j ≡ Some x = sym (set_there js k j lt) ∙ ap (slice_get (slice_set js k j)) (sym same) ∙ f in
    let is : x ≡ j = cc in
    subst (λ n. JumpFits code n x) (sym same) (subst (λ y. JumpFits code k y) (sym is) here))
    (cases_lt k place)

-- the jumps of the bodies for which there are some
pub record TablesSoFar (bodies : List Body) (tables : List (List Jump)) : Type 0 where
  pub each : (k : ℕ) (b : Body) (js : List Jump) → slice_get bodies k ≡ Some b → slice_get tables k ≡ Some js → JumpsFit b.code js

pub no_tables : (bodies : List Body) → TablesSoFar bodies []
no_tables bodies = record { each = λ k b js e f. cc }

-- an item of a list with one item more
one_more : {A : Type 0} (xs : List A) (x : A) (k : ℕ) (y : A) → slice_get (xs ++ x ∷ []) k ≡ Some y → (slice_get xs k ≡ Some y) ⊎ ((k ≡ length xs) × (x ≡ y))
one_more [] x zero y e = let same : x ≡ y = cc in inr (refl, same)
one_more [] x (suc k) y e = cc
one_more (z ∷ xs) x zero y e = inl e
one_more (z ∷ xs) x (suc k) y e = ⊎_elim (λ before. inl before) (λ last. inr (ap suc last.0, last.1)) (one_more xs x k y e)

pub more_tables : (bodies : List Body) (tables new : List (List Jump)) (k : ℕ) (b : Body) (js : List Jump) → new ≡ tables ++ js ∷ [] → length tables ≡ k → k < length bodies → b ≡ get_or bodies k b → JumpsFit b.code js → TablesSoFar bodies tables → TablesSoFar bodies new
more_tables bodies tables new k b js e long within is fit h =
    record {
      each = λ i c x at f.
          ⊎_elim
          (λ before. h.each i c x at before)
          (λ last.
          let both : Some b ≡ Some c = sym (slice_get_read bodies (length bodies) k b refl within is) ∙ ap (slice_get bodies) (sym (last.0 ∙ long)) ∙ at in
          let same : b ≡ c = cc in
          subst (λ y. JumpsFit c.code y) last.1 (subst (λ (d : Body). JumpsFit d.code js) same fit))
          (one_more tables js i x (ap (λ l. slice_get l i) (sym e) ∙ f));
    }

-- the table of a body
pub table_at : (m n : Module) (tables : List (List Jump)) (counts : List ℕ) (k : ℕ) (js : List Jump) → m ≡ n → ValidWith m tables counts → k < length n.bodies → js ≡ get_or tables k js → (b : Body) → slice_get n.bodies k ≡ Some b → JumpsFit b.code js
table_at m n tables counts k js same h within is b at =
    let bodies = ap (λ (x : Module). x.bodies) same in
    h.tables_fit.each k b js (ap (λ l. slice_get l k) bodies ∙ at) (slice_get_read tables (length m.bodies) k js (sym h.tables_fit.as_many) (subst (λ l. k < length l) (sym bodies) within) is)
