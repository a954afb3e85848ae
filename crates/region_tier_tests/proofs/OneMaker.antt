-- One maker alone: its passes are ready, come back to their slots, and every entry is its own.
use Rattle.std.proofs.Common.{◌≡◌, ◌≢◌, ℕ, zero, suc, ◌+◌, ◌<◌, ◌≤◌, List, [], ◌∷◌, ◌++◌, length, set, Some, None, refl, sym, ap, ◌∙◌, subst, arith, length-set}
use Rattle.std.proofs.Common as std
use Rattle.std.specs.List.{All}
use Rattle.std.proofs.lemmas.List.{append-nil}
use Rattle.std.proofs.lemmas.List.Elements.{All-head}
use mathlib.Core.Option.{some, some-injective}
use mathlib.Core.Logic.{dite}
use native.Mathlib.Decide.{ℕ_discrete}
use lib.ListN.{get_elem?}
use Rattle.shared_region.specs.Shared.{Shared}
use Rattle.turn_cell.specs.declared.cell.Turns.{Turns}
use Rattle.turn_cell.specs.declared.view.Entry.{Entry}
use Rattle.turn_cell.specs.Cell.{pass_number, numbers_of}
use Rattle.turn_cell.specs.History.{Extends, MakersBelow}
use Rattle.turn_cell.proofs.Frames.{there}
use Rattle.region_tier.specs.declared.cells.Passes.{Passes}
use Rattle.region_tier.specs.Tiers.{RegionPass, AreFreshRows, HasPass, IsRow, AreRows, slots_of}
use Rattle.region_tier.proofs.At.{same_in}
use Rattle.region_tier.proofs.Dealing.{at_put, at_other}

-- where nobody else makes entries, a list that grew by those of others did not grow
pub alone : (l log : List Entry) → Extends 0 l log → MakersBelow 1 log → log ≡ l
alone l log x low = sym x.1 ∙ (ap (λ z. l ++ z) (none x.0 x.2 (rest l x.0 (subst (MakersBelow 1) (sym x.1) low))) ∙ append-nil l)
  where
    rest : (a b : List Entry) → MakersBelow 1 (a ++ b) → MakersBelow 1 b
    rest [] b h = h
    rest (e ∷ es) b h = rest es b (λ k d less. h (suc k) d (omega (arith, less)))

    none : (es : List Entry) → All (λ e. e.maker ≢ 0) es → MakersBelow 1 es → es ≡ []
    none [] a b = refl
    none (e ∷ es) a b = absurd (let p = All-head (λ (d : Entry). d.maker ≢ 0) e es a in let q = All-head (λ (d : Entry). d.maker < 1) e es b in omega (arith, p, q))

-- a fresh pass is ready
pub ready : (cells : List (Turns Shared)) (numbers : ℕ) (rows : List Passes) (i : ℕ) (r : Passes) (key : ℕ) (t : Turns Shared) (P : Turns Shared → RegionPass → Type 0) → AreFreshRows cells numbers rows
    → get_elem? rows i ≡ some r → i < numbers → get_elem? cells key ≡ some t → numbers_of t ≡ numbers → ((p : RegionPass) → P t p) → HasPass cells (slots_of r) key P
ready cells numbers rows i r key t P f at low cell is so =
    let o = (f.1 i r at).1 key t cell in
    let number = o.3 in
    record { cell = t; pass = o.0; at_cell = cell; at_pass = o.1; sits = o.2; low = omega (arith, number, low, is); so = so o.0 }

-- the pass of a key came back with its number
pub row_put : (cells : List (Turns Shared)) (old new : List (std.Option RegionPass)) (n key : ℕ) (t : Turns Shared) (before after : RegionPass) → IsRow cells old n → get_elem? cells key ≡ some t → get_elem? old key ≡ some (Some before)
    → new ≡ set old key (Some after) → (after.seat.table_id ≡ t.table.shared.table_id) × (after.seat.me.0.key ≡ std.Some t.table.shared.key) → pass_number after ≡ pass_number before → IsRow cells new n
row_put cells old new n key t before after row cell at put sits number = subst (λ l. IsRow cells l n) (sym put) (
  length-set old key (Some after) ∙ row.0,
  λ k u e. dite (ℕ_discrete k key)
      (λ here. let same : t ≡ u = some-injective t u (sym cell ∙ (ap (get_elem? cells) (sym here) ∙ e)) in
      let o = row.1 key t cell in
      (after, ap (get_elem? (set old key (Some after))) here ∙ at_put old key (Some after) (there old key (Some before) at), subst (λ (z : Turns Shared). (after.seat.table_id ≡ z.table.shared.table_id) × (after.seat.me.0.key ≡ std.Some z.table.shared.key)) same sits, number ∙ (ap pass_number (same_in old key before o.0 at o.1) ∙ o.3)))
      (λ other. let o = row.1 k u e in (o.0, at_other old key k (Some after) other ∙ o.1, o.2, o.3)),
)

-- one maker alone, whose passes were changed
pub only_row : (cells : List (Turns Shared)) (rows : List Passes) (new : Passes) → length rows ≡ 1 → IsRow cells (slots_of new) 0 → AreRows cells 1 (set rows 0 new)
only_row cells rows new one row =
    let long = length-set rows 0 new in (
      long ∙ one,
      λ i x e.
          let low = there (set rows 0 new) i x e in
          let first : i ≡ 0 = omega (arith, low, long, one) in
          let same : new ≡ x = some-injective new x (sym (at_put rows 0 new (omega (arith, one))) ∙ (ap (get_elem? (set rows 0 new)) (sym first) ∙ e)) in
          subst (λ k. IsRow cells (slots_of x) k) (sym first) (subst (λ (z : Passes). IsRow cells (slots_of z) 0) same row),
    )
