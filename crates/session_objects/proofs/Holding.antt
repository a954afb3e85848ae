-- Hosts of which all passes are there.
use Rattle.std.proofs.Common.{◌≡◌, ℕ, zero, suc, ◌<◌, List, [], ◌∷◌, ◌++◌, length, refl, sym, ap, ◌∙◌, subst, arith, length-append}
use mathlib.Core.Option.{some, some-injective}
use lib.ListN.{get_elem?}
use Rattle.turn_cell.proofs.Frames.{there}
use Rattle.turn_cell.proofs.Places.{each_push}
use Rattle.turn_cell.specs.History.{Each}
use Rattle.region_tier.proofs.Dealing.{at_last, at_longer}
use Rattle.region_tier.specs.declared.cells.Tier.{Tier}
use Rattle.region_tier.specs.Tiers.{numbers_in}
use Rattle.session_objects.specs.declared.hosts.HostRest.{HostRest}
use Rattle.session_objects.specs.Rests.{AreWhole, Keeps}

at_front : {A : Type 0} (xs ys : List A) (k : ℕ) (a : A) → k < length xs → get_elem? (xs ++ ys) k ≡ some a → get_elem? xs k ≡ some a
at_front [] ys k a h e = absurd (omega arith)
at_front (x ∷ xs) ys zero a h e = e
at_front (x ∷ xs) ys (suc k) a h e = at_front xs ys k a (omega arith) e

pub whole_last : (tiers : List Tier) (tier : Tier) (rests : List HostRest) (rest : HostRest) → AreWhole (tiers ++ tier ∷ []) (rests ++ rest ∷ []) → Keeps tier (numbers_in tier) (numbers_in tier) rest
whole_last tiers tier rests rest w =
    let long : length rests ≡ length tiers = let a = length-append tiers (tier ∷ []) in let b = length-append rests (rest ∷ []) in let c = w.count in omega (arith, a, b, c) in
    let o = w.each (length tiers) tier (at_last tiers tier (length tiers) refl) in
    subst (Keeps tier (numbers_in tier) (numbers_in tier)) (some-injective o.0 rest (sym o.1 ∙ at_last rests rest (length tiers) (sym long))) o.2

pub whole_front : (tiers : List Tier) (tier : Tier) (rests : List HostRest) (rest : HostRest) → AreWhole (tiers ++ tier ∷ []) (rests ++ rest ∷ []) → AreWhole tiers rests
whole_front tiers tier rests rest w =
    let long : length rests ≡ length tiers = let a = length-append tiers (tier ∷ []) in let b = length-append rests (rest ∷ []) in let c = w.count in omega (arith, a, b, c) in
    record {
      count = long;
      each = λ h t e. let o = w.each h t (at_longer tiers (tier ∷ []) h t e) in
          (o.0, at_front rests (rest ∷ []) h o.0 (let z = there tiers h t e in omega (arith, z, long)) o.1, o.2);
    }

-- one host more
pub whole_more : (tiers more_tiers : List Tier) (tier : Tier) (rests more_rests : List HostRest) (rest : HostRest) (n : ℕ) → more_tiers ≡ tiers ++ tier ∷ [] → more_rests ≡ rests ++ rest ∷ [] → numbers_in tier ≡ n → Keeps tier n n rest → AreWhole tiers rests → AreWhole more_tiers more_rests
whole_more tiers more_tiers tier rests more_rests rest n is so same k w =
    let c = w.count in
    record {
      count = let a = ap length is ∙ length-append tiers (tier ∷ []) in let b = ap length so ∙ length-append rests (rest ∷ []) in omega (arith, a, b, c);
      each = subst (λ l. Each l (λ h t. (r : HostRest) × (get_elem? more_rests h ≡ some r) × Keeps t (numbers_in t) (numbers_in t) r)) (sym is)
          (each_push tiers tier (λ h t. (r : HostRest) × (get_elem? more_rests h ≡ some r) × Keeps t (numbers_in t) (numbers_in t) r)
          (λ h t e. let o = w.each h t e in (o.0, ap (λ l. get_elem? l h) so ∙ at_longer rests (rest ∷ []) h o.0 o.1, o.2))
          (rest, ap (λ l. get_elem? l (length tiers)) so ∙ at_last rests rest (length tiers) (sym c), subst (λ m. Keeps tier m m rest) (sym same) k));
    }
