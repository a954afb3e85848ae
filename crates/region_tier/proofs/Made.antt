-- One key more has its cell.
use Rattle.std.proofs.Common.{◌≡◌, ℕ, zero, suc, ◌+◌, ◌<◌, List, [], ◌∷◌, length, get_or, true, false, Result, Ok, Err, IfOk, IfErr, refl, sym, ap, ◌∙◌, subst, arith, length-append}
use mathlib.Core.Option.{some}
use lib.ListN.{get_elem?}
use Rattle.faaslet_meaning.specs.Region.{replica, global_value}
use Rattle.shared_region.specs.Shared.{Shared}
use Rattle.turn_cell.specs.declared.cell.Turns.{Turns}
use Rattle.turn_cell.specs.Cell.{start_of, numbers_of}
use Rattle.turn_cell.proofs.Places.{each_push}
use Rattle.region_tier.specs.Tiers.{Adds, AreReplicas, AreGlobals}

pub at_here : {A : Type 0} (xs : List A) (k : ℕ) (d : A) → k < length xs → get_elem? xs k ≡ some (get_or xs k d)
at_here [] k d h = absurd (omega arith)
at_here (x ∷ xs) zero d h = refl
at_here (x ∷ xs) (suc k) d h = at_here xs k d (omega arith)

-- what was made, where it was
there_is : {E : Type 0} (A B : Shared → Type 0) (made : Result Shared E) → IfOk made A → IfErr made (λ e. false ≡ true) → IfOk made B → (r : Shared) × A r × B r
there_is A B (Ok r) a n b = (r, a, b)
there_is A B (Err e) a n b = cc

pub adds_replica : {E : Type 0} (sizes : List ℕ) (numbers k size : ℕ) (cells more : List (Turns Shared)) (made : Result Shared E) → get_elem? sizes k ≡ some size → length cells ≡ k
    → IfOk made (λ r. r ≡ record { region = replica size; room = numbers }) → IfErr made (λ e. false ≡ true) → IfOk made (λ r. Adds cells more r numbers) → AreReplicas sizes numbers cells
    → (length more ≡ k + 1) × AreReplicas sizes numbers more
adds_replica sizes numbers k size cells more made at long is ok adds old =
    let r = there_is (λ r. r ≡ record { region = replica size; room = numbers }) (λ r. Adds cells more r numbers) made is ok adds in
    let a = r.2 in (
      ap length a.added ∙ (length-append cells (a.cell ∷ []) ∙ ap (λ n. n + 1) long),
      subst (AreReplicas sizes numbers) (sym a.added)
          (each_push cells a.cell (λ k t. (size : ℕ) × (get_elem? sizes k ≡ some size) × (start_of t ≡ record { region = replica size; room = numbers }) × (numbers_of t ≡ numbers)) old
          (size, ap (get_elem? sizes) long ∙ at, a.start ∙ r.1, a.numbered)),
    )

pub adds_global : {E : Type 0} (values : List (ℕ × List ℕ)) (numbers k : ℕ) (v : ℕ × List ℕ) (cells more : List (Turns Shared)) (made : Result Shared E) → get_elem? values k ≡ some v → length cells ≡ k
    → IfOk made (λ r. r ≡ record { region = global_value v.0 v.1; room = numbers }) → IfErr made (λ e. false ≡ true) → IfOk made (λ r. Adds cells more r numbers) → AreGlobals values numbers cells
    → (length more ≡ k + 1) × AreGlobals values numbers more
adds_global values numbers k v cells more made at long is ok adds old =
    let r = there_is (λ r. r ≡ record { region = global_value v.0 v.1; room = numbers }) (λ r. Adds cells more r numbers) made is ok adds in
    let a = r.2 in (
      ap length a.added ∙ (length-append cells (a.cell ∷ []) ∙ ap (λ n. n + 1) long),
      subst (AreGlobals values numbers) (sym a.added)
          (each_push cells a.cell (λ k t. (v : ℕ × List ℕ) × (get_elem? values k ≡ some v) × (start_of t ≡ record { region = global_value v.0 v.1; room = numbers }) × (numbers_of t ≡ numbers)) old
          (v, ap (get_elem? values) long ∙ at, a.start ∙ r.1, a.numbered)),
    )
