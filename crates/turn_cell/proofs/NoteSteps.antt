-- The steps that make a note and take one in keep the rule.
use Rattle.std.proofs.Common.{◌≡◌, ℕ, List, [], ◌∷◌, ◌++◌, set, Some, None, refl, sym, ap, ◌∙◌, subst, ⊎_elim, arith}
use Rattle.std.specs.Prelude as std
use Rattle.std.specs.List.{sum_by}
use Rattle.std.proofs.lemmas.List.Sums.{sum_by-append}
use mathlib.Core.Option.{none, some}
use lib.ListN.{get_elem?}
use lib.Seq.{set-get_or}
use Rattle.atomic_table.specs.Table.{Me, step, keeps, Allows, Splits, Joins}
use Rattle.atomic_table.proofs.Lists.{set_else, at_snoc, set_again}
use Rattle.turn_cell.specs.declared.view.Entry.{Entry}
use Rattle.turn_cell.specs.declared.view.Opening.{Opening}
use Rattle.turn_cell.specs.declared.view.View.{View}
use Rattle.turn_cell.specs.declared.view.Role.TheVariants.{Noted, Idle}
use Rattle.turn_cell.specs.Views.{idle, view_of, view_full}
use Rattle.turn_cell.specs.Rule.{Past, Fits, Ruled}
use Rattle.turn_cell.specs.Steps.{heard}
use Rattle.turn_cell.proofs.Frames.{sum_moves, prefix_self, extends_self, goes_self, all_stay}
use Rattle.turn_cell.proofs.Lying.{lies_on, lies_longer, nothing, below}

module _ {S : Type 0} (makes : ℕ → List ℕ → S → S → Type 0) where
  pub writes : (key : Opening S) (id : ℕ) (v : View S) → Splits (Ruled makes key) id v v (view_of v.key v.seen Noted)
  writes key id v s r at =
      let p : Past = r.past in let o : View S = view_of v.key v.seen Noted in
      let f = r.fits id v at in
      let same : set s.views id v ≡ s.views = set_again s.views id v at in
      let sum' = sum_by-append (λ (u : View S). idle u.role) s.views (o ∷ []) in
      let none_more : sum_by (λ (u : View S). idle u.role) (o ∷ []) ≡ 0 = refl in
      let done : Ruled makes key record { words = s.words; homes = s.homes; views = s.views ++ o ∷ [] } = record {
        past = p;
        words = r.words;
        lies = lies_longer makes key.start.value p s.homes s.views (o ∷ []) p.out r.lies;
        fits = λ j u e. ⊎_elim (r.fits j u)
            (λ (t : o ≡ u). subst (Fits makes key p j) t record { seen = f.seen; heard = (p.log, refl); retired = λ i t z. nothing i t z; plays = tt })
            (at_snoc s.views o u j e);
        makers = r.makers;
        room = omega (arith, sum', none_more, r.room);
        bound = r.bound;
      } in
      subst (λ (l : List (View S)). Ruled makes key record { words = s.words; homes = s.homes; views = l ++ o ∷ [] }) (sym same) done

  abbrev pub spent : View S
  spent = view_of None [] Noted

  pub spent_fits : (key : Opening S) (p : Past) (id : ℕ) → Fits makes key p id spent
  spent_fits key p id = record { seen = (p.log, refl); heard = (p.log, refl); retired = λ i t z. nothing i t z; plays = tt }

  pub reads : (key : Opening S) (id n : ℕ) (seen : List Entry) (other : ℕ) (k : std.Option (Opening S)) (note : List Entry)
      → Joins (Ruled makes key) id (view_of (Some key) seen (Idle n)) other (view_of k note Noted) (view_full (Some key) seen (Idle n) note []) spent
  reads key id n seen other k note s r at apart was =
      let p : Past = r.past in let v : View S = view_of (Some key) seen (Idle n) in let w : View S = view_of k note Noted in
      let b : View S = view_full (Some key) seen (Idle n) note [] in
      let at_other : get_elem? s.views other ≡ some w = sym (set_else s.views id other b apart) ∙ was in
      let f = r.fits id v at in let fo = r.fits other w at_other in
      let views' : List (View S) = set s.views id b in
      let sum = sum_moves (λ (u : View S). idle u.role) s.views id v b at in
      let sum' = sum_moves (λ (u : View S). idle u.role) views' other w spent was in record {
        past = p;
        words = r.words;
        lies = lies_on makes key.start.value p p s.homes views' other w spent was (λ m x. x) refl refl p.out (lies_on makes key.start.value p p s.homes s.views id v b at (λ m x. x) refl refl p.out r.lies);
        fits = all_stay makes key other p p (goes_self key.numbers other p) views' spent
            (all_stay makes key id p p (goes_self key.numbers id p) s.views b r.fits record { seen = f.seen; heard = fo.seen; retired = f.retired; plays = f.plays })
            (spent_fits key p other);
        makers = r.makers;
        room = omega (arith, sum, sum', r.room);
        bound = r.bound;
      }

  pub hears : (key : Opening S) (slots id n : ℕ) (seen note : List Entry)
      → Allows (Ruled makes key) slots id (view_full (Some key) seen (Idle n) note [], []) 0 (λ x. x) (heard (step slots 0 0 0 none) (view_full (Some key) seen (Idle n) note [], []))
  hears key slots id n seen note s r deep at fits =
      let p : Past = r.past in let v : View S = view_full (Some key) seen (Idle n) note [] in
      let w : View S = view_of (Some key) p.log (Idle n) in
      let f = r.fits id v at in
      let sum = sum_moves (λ (u : View S). idle u.role) s.views id v w at in (
        w,
        keeps,
        tt,
        record {
          past = p;
          words = set-get_or s.words 0 0 ∙ r.words;
          lies = lies_on makes key.start.value p p s.homes s.views id v w at (λ m x. x) refl refl p.out r.lies;
          fits = all_stay makes key id p p (goes_self key.numbers id p) s.views w r.fits record { seen = prefix_self p.log; heard = (p.log, refl); retired = f.retired; plays = (f.plays.0, extends_self n p.log) };
          makers = r.makers;
          room = omega (arith, sum, r.room);
          bound = r.bound;
        },
        (refl, f.plays.1, f.heard, below makes key p (let a = r.bound.0 in let b = r.bound.1 in omega (arith, a, b)) r.makers),
      )

  pub hears_as : (key : Opening S) (key' : std.Option (Opening S)) (slots id n : ℕ) (seen note : List Entry) (m : Me (std.Option S) (View S)) → key' ≡ Some key → m ≡ (view_full key' seen (Idle n) note [], [])
      → Allows (Ruled makes key) slots id m 0 (λ x. x) (heard (step slots 0 0 0 none) m)
  hears_as key key' slots id n seen note m same is = subst (λ (z : Me (std.Option S) (View S)). Allows (Ruled makes key) slots id z 0 (λ x. x) (heard (step slots 0 0 0 none) z))
      (sym (is ∙ ap (λ (k : std.Option (Opening S)). (view_full k seen (Idle n) note [], [])) same)) (hears key slots id n seen note)

  pub reads_as : (key : Opening S) (key' : std.Option (Opening S)) (id n : ℕ) (seen : List Entry) (other : ℕ) (k : std.Option (Opening S)) (note : List Entry) (v w : View S)
      → key' ≡ Some key → v ≡ view_of key' seen (Idle n) → w ≡ view_of k note Noted → Joins (Ruled makes key) id v other w (record v { heard = w.seen }) spent
  reads_as key key' id n seen other k note v w same is was = subst (λ (z : View S × View S). Joins (Ruled makes key) id z.0 other z.1 (record z.0 { heard = z.1.seen }) spent)
      (λ i. (let e : view_of (Some key) seen (Idle n) ≡ v = sym (is ∙ ap (λ (q : std.Option (Opening S)). view_of q seen (Idle n)) same) in e i, sym was i)) (reads key id n seen other k note)
