-- Where the value lies, after a step that is no turn, and two facts that several steps need.
use Rattle.std.proofs.Common.{◌≡◌, ℕ, ◌<◌, ◌≤◌, List, [], ◌++◌, length, set, Bool, true, false, sym, ap, ◌∙◌, subst, arith}
use Rattle.std.specs.Prelude as std
use Rattle.std.proofs.lemmas.List.Elements.{All-weaker}
use mathlib.Core.Logic.{dite}
use mathlib.Core.Option.{Option, some, some-injective, some-ne-none}
use native.Mathlib.Decide.{ℕ_discrete}
use lib.ListN.{get_elem?}
use Rattle.atomic_table.proofs.Lists.{set_here, set_else, at_longer}
use Rattle.turn_cell.specs.declared.view.Entry.{Entry}
use Rattle.turn_cell.specs.declared.view.Opening.{Opening}
use Rattle.turn_cell.specs.declared.view.View.{View}
use Rattle.turn_cell.specs.History.{Stands, MakersBelow}
use Rattle.turn_cell.specs.Views.{HasTurn}
use Rattle.turn_cell.specs.Rule.{Past, Lies}
use Rattle.turn_cell.proofs.Frames.{there}

pub nothing : {A : Type 0} {R : Type 0} (i : ℕ) (a : A) → get_elem? [] i ≡ some a → R
nothing i a e = absurd (some-ne-none a (sym e))

-- the values at home
abbrev pub Homes : Type 0 → Type 0
Homes S = List (Option (std.Option S))

module _ {S : Type 0} (makes : ℕ → List ℕ → S → S → Type 0) where
  -- the value lies where it lay, where a seat keeps its turn or has none
  pub lies_on : (start : S) (p p' : Past) (homes : Homes S) (views : List (View S)) (id : ℕ) (v w : View S) → get_elem? views id ≡ some v → ((n : ℕ) → HasTurn n v.role → HasTurn n w.role) → p'.log ≡ p.log → p'.queue ≡ p.queue
      → (b : Bool) → Lies makes start p homes views b → Lies makes start p' homes (set views id w) b
  lies_on start p p' homes views id v w at on log queue false l = (l.0, l.1, subst (λ (x : List Entry). Stands makes start x l.0) (sym log) l.2)
  lies_on start p p' homes views id v w at on log queue true l =
      let first : get_elem? p'.queue 0 ≡ some l.1.0 = ap (λ (q : List ℕ). get_elem? q 0) queue ∙ l.1.5 in
      dite (ℕ_discrete l.1.0 id)
      (λ e. let same : l.1.2 ≡ v = some-injective l.1.2 v (sym l.1.3 ∙ (ap (get_elem? views) e ∙ at)) in
      (l.0, (l.1.0, l.1.1, w, subst (λ (z : ℕ). get_elem? (set views id w) z ≡ some w) (sym e) (set_here views id w (there views id v at)), on l.1.1 (subst (λ (u : View S). HasTurn l.1.1 u.role) same l.1.4), first)))
      (λ ne. (l.0, (l.1.0, l.1.1, l.1.2, set_else views id l.1.0 w ne ∙ l.1.3, l.1.4, first)))

  pub lies_longer : (start : S) (p : Past) (homes : Homes S) (views more : List (View S)) (b : Bool) → Lies makes start p homes views b → Lies makes start p homes (views ++ more) b
  lies_longer start p homes views more false l = l
  lies_longer start p homes views more true l = (l.0, (l.1.0, l.1.1, l.1.2, at_longer views more l.1.0 l.1.2 l.1.3, l.1.4, l.1.5))

  pub below : (key : Opening S) (p : Past) → length p.seats ≤ key.numbers → MakersBelow (length p.seats) p.log → MakersBelow key.numbers p.log
  below key p le all = All-weaker (λ (e : Entry). e.maker < length p.seats) (λ (e : Entry). e.maker < key.numbers) (λ e low. omega (arith, low, le)) p.log all
