-- The labels and names of a sample are those of its plan.
use Rattle.std.proofs.Common.{◌≡◌, ℕ, zero, suc, ◌<◌, List, [], ◌∷◌, length, map, slice_index_or, refl, arith}
use Rattle.session_meaning.specs.SessionReport.{key_name, label_of}
use Rattle.session_report_tests.specs.Samples.{key_of, plan_of, request_of}

pub label_at : {A : Type 0} (now : A → List ℕ) (xs : List A) (names : List (List ℕ)) (n : ℕ) (d : A) → n < length (map request_of (map now xs)) → label_of (plan_of (map now xs) names) n ≡ now (slice_index_or xs n d)
label_at now [] names n d h = absurd (omega (arith, h))
label_at now (x ∷ xs) names zero d h = refl
label_at now (x ∷ xs) names (suc n) d h = label_at now xs names n d (omega (arith, h))

pub name_at : {A : Type 0} (now : A → List ℕ) (xs : List A) (labels : List (List ℕ)) (n : ℕ) (d : A) → n < length (map key_of (map now xs)) → key_name (plan_of labels (map now xs)) n ≡ now (slice_index_or xs n d)
name_at now [] labels n d h = absurd (omega (arith, h))
name_at now (x ∷ xs) labels zero d h = refl
name_at now (x ∷ xs) labels (suc n) d h = name_at now xs labels n d (omega (arith, h))
