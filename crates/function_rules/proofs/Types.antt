-- Function types by their parts.
use Rattle.std.proofs.Common.{◌≡◌, ℕ, All, List, [], ◌∷◌, length, replicate, refl, sym, ap, ◌∙◌, subst}
use Rattle.std.proofs.lemmas.List.Elements.{All-replicate, All-head, All-tail}
use Rattle.faaslet_meaning.specs.declared.instr.ValType.{ValType}
use Rattle.faaslet_meaning.specs.declared.module.FuncType.{FuncType}

pub all_same : (xs : List ValType) (n : ℕ) (x : ValType) → length xs ≡ n → All (λ y. y ≡ x) xs → xs ≡ replicate n x
all_same [] n x e all = ap (λ k. replicate k x) e
all_same (y ∷ xs) n x e all =
    let P : ValType → Type 0 = λ z. z ≡ x in
    ap (λ z. z ∷ xs) (All-head P y xs all) ∙ ap (λ l. x ∷ l) (all_same xs (length xs) x refl (All-tail P y xs all)) ∙ ap (λ k. replicate k x) e

pub same_all : (xs : List ValType) (n : ℕ) (x : ValType) → xs ≡ replicate n x → All (λ y. y ≡ x) xs
same_all xs n x e = subst (λ l. All (λ y. y ≡ x) l) (sym e) (All-replicate (λ (y : ValType). y ≡ x) n x refl)

pub type_is : (t : FuncType) (ps rs : List ValType) → t.params ≡ ps → t.results ≡ rs → t ≡ record { params = ps; results = rs }
type_is t ps rs p r = ap (λ (l : List ValType). record { params = l; results = t.results }) p ∙ ap (λ (l : List ValType). record { params = ps; results = l }) r
