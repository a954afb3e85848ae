-- The steps that take passes back and close a cell keep the rule.
use Rattle.std.proofs.Common.{◌≡◌, ◌≢◌, ℕ, ◌+◌, List, [], ◌∷◌, ◌++◌, length, set, Bool, true, false, Some, refl, sym, ap, ◌∙◌, subst, ⊎_elim, arith, length-set, ◌%◌}
use Rattle.std.specs.Prelude as std
use mathlib.Core.Logic.{dite}
use mathlib.Core.Option.{none, some}
use native.Mathlib.Decide.{ℕ_discrete}
use lib.ListN.{get_elem?}
use lib.Seq.{set-get_or}
use Rattle.atomic_table.specs.Table.{State, Me, step, keeps, Allows, Joins, Final, Seen}
use Rattle.atomic_table.proofs.Lists.{at_set, set_here, set_else, at_snoc}
use Rattle.turn_cell.specs.declared.view.Entry.{Entry}
use Rattle.turn_cell.specs.declared.view.Opening.{Opening}
use Rattle.turn_cell.specs.declared.view.View.{View}
use Rattle.turn_cell.specs.declared.view.Role.{Role}
use Rattle.turn_cell.specs.declared.view.Role.TheVariants.{Begins, Blank, Noted, Idle, Waits, Has, Counted, Sealed}
use Rattle.turn_cell.specs.History.{Stands, Extends, MakersBelow, Covers}
use Rattle.turn_cell.specs.Views.{HasTurn, idle, number_of, view_of, view_full}
use Rattle.turn_cell.specs.Rule.{Past, IsGone, IsSeat, Plays, Fits, Lies, Ruled}
use Rattle.turn_cell.specs.Steps.{sealed}
use Rattle.turn_cell.proofs.Frames.{there, sum_moves, one_seat, not_gone, prefix_self, Goes, goes_self, stays, all_stay}
use Rattle.turn_cell.proofs.Lying.{Homes, lies_on, below}
use Rattle.turn_cell.proofs.NoteSteps.{spent, spent_fits}

module _ {S : Type 0} (makes : ℕ → List ℕ → S → S → Type 0) where
  pub retires : (key : Opening S) (id : ℕ) (seen : List Entry) (ret : List (ℕ × List Entry)) (other n : ℕ) (k : std.Option (Opening S)) (list : List Entry)
      → Joins (Ruled makes key) id (view_full (Some key) seen Noted [] ret) other (view_of k list (Idle n)) (view_full (Some key) seen Noted [] (ret ++ (n, list) ∷ [])) (spent makes)
  retires key id seen ret other n k list s r at apart was =
      let p : Past = r.past in let v : View S = view_full (Some key) seen Noted [] ret in let w : View S = view_of k list (Idle n) in
      let b : View S = view_full (Some key) seen Noted [] (ret ++ (n, list) ∷ []) in
      let at_other : get_elem? s.views other ≡ some w = sym (set_else s.views id other b apart) ∙ was in
      let f = r.fits id v at in let fo = r.fits other w at_other in
      let p' : Past = record { log = p.log; served = p.served; queue = p.queue; seats = set p.seats n none; limit = p.limit; out = p.out } in
      let wide : length (set p.seats n none) ≡ length p.seats = length-set p.seats n none in
      let g : Goes key.numbers other p p' = record {
        grow = λ l x. x;
        ext = λ m l _ x. x;
        seat = λ m j ne x. dite (ℕ_discrete m n) (λ e. absurd (ne (one_seat p n j other (subst (λ (z : ℕ). IsSeat p z j) e x) fo.plays.0))) (λ other'. set_else p.seats n m none other' ∙ x);
        gone = λ m x. dite (ℕ_discrete m n) (λ e. absurd (not_gone p n other fo.plays.0 (subst (λ (z : ℕ). IsGone p z) e x))) (λ other'. set_else p.seats n m none other' ∙ x);
        place = λ j i _ x. (i, refl, x);
        turn = λ j _ x. (refl, x, refl);
        closed = λ _. refl;
        limits = λ l _ x. x;
      } in
      let views' : List (View S) = set s.views id b in
      let sum = sum_moves (λ (u : View S). idle u.role) s.views id v b at in
      let sum' = sum_moves (λ (u : View S). idle u.role) views' other w (spent makes) was in
      let fs = stays makes key other p p' g id (λ e. apart (sym e)) v f in
      let mine : Fits makes key p' id b = record {
        seen = fs.seen;
        heard = fs.heard;
        retired = λ i t e. ⊎_elim (fs.retired i t)
            (λ (c : (n, list) ≡ t). subst (λ (z : ℕ × List Entry). IsGone p' z.0 × Extends z.0 z.1 p'.log) c (set_here p.seats n none (there p.seats n (some other) fo.plays.0), fo.plays.1))
            (at_snoc ret (n, list) t i e);
        plays = tt;
      } in record {
        past = p';
        words = r.words ∙ ap (λ (z : ℕ). (length p.log % 18446744073709551616) ∷ ((p.served + length p.queue) % 18446744073709551616) ∷ (p.served % 18446744073709551616) ∷ z ∷ p.limit ∷ []) (sym wide);
        lies = lies_on makes key.start.value p p' s.homes views' other w (spent makes) was (λ m x. x) refl refl p.out (lies_on makes key.start.value p p s.homes s.views id v b at (λ m x. x) refl refl p.out r.lies);
        fits = λ j u e. ⊎_elim
            (λ (t : (j ≡ other) × ((spent makes) ≡ u)). subst (Fits makes key p' j) t.1 (spent_fits makes key p' j))
            (λ (t : (j ≢ other) × (get_elem? views' j ≡ some u)). ⊎_elim
            (λ (q : (j ≡ id) × (b ≡ u)). subst (λ (x : ℕ × View S). Fits makes key p' x.0 x.1) (λ i. (sym q.0 i, q.1 i)) mine)
            (λ (q : (j ≢ id) × (get_elem? s.views j ≡ some u)). stays makes key other p p' g j t.0 u (r.fits j u q.1))
            (at_set s.views id j b u t.1))
            (at_set views' other j (spent makes) u e);
        makers = subst (λ (z : ℕ). MakersBelow z p.log) (sym wide) r.makers;
        room = omega (arith, sum, sum', wide, r.room);
        bound = (omega (arith, wide, r.bound.0), r.bound.1, r.bound.2);
      }

  pub seals : (key : Opening S) (slots id : ℕ) (seen : List Entry) (ret : List (ℕ × List Entry)) → Covers key.numbers ret
      → Allows (Ruled makes key) slots id (view_full (Some key) seen Noted [] ret, []) 0 (λ x. x) (sealed (step slots 0 0 0 none) (view_full (Some key) seen Noted [] ret, []))
  seals key slots id seen ret covers s r deep at fits =
      let p : Past = r.past in let v : View S = view_full (Some key) seen Noted [] ret in
      let w : View S = view_full (Some key) p.log Sealed [] ret in
      let f = r.fits id v at in
      let sum = sum_moves (λ (u : View S). idle u.role) s.views id v w at in (
        w,
        keeps,
        tt,
        record {
          past = p;
          words = set-get_or s.words 0 0 ∙ r.words;
          lies = lies_on makes key.start.value p p s.homes s.views id v w at (λ m x. x) refl refl p.out r.lies;
          fits = all_stay makes key id p p (goes_self key.numbers id p) s.views w r.fits record {
            seen = prefix_self p.log;
            heard = f.heard;
            retired = f.retired;
            plays = (refl, λ n low. (let c = covers n low in subst (λ (z : ℕ). IsGone p z) c.3 (f.retired c.0 c.1 c.2).0));
          };
          makers = r.makers;
          room = omega (arith, sum, r.room);
          bound = r.bound;
        },
        (refl, (λ i t e. (f.retired i t e).1), below makes key p (let a = r.bound.0 in let b = r.bound.1 in omega (arith, a, b)) r.makers),
      )

  turn_seat : (key : Opening S) (p : Past) (id n : ℕ) (seen : List Entry) (role : Role S) → HasTurn n role → Plays makes key p id seen role → IsSeat p n id
  turn_seat key p id n seen (Has m x) h f = subst (λ (z : ℕ). IsSeat p z id) (sym h) f.0
  turn_seat key p id n seen (Counted m) h f = subst (λ (z : ℕ). IsSeat p z id) (sym h) f.0
  turn_seat key p id n seen (Begins m) h f = absurd h
  turn_seat key p id n seen (Blank m) h f = absurd h
  turn_seat key p id n seen Noted h f = absurd h
  turn_seat key p id n seen (Idle m) h f = absurd h
  turn_seat key p id n seen (Waits m t) h f = absurd h
  turn_seat key p id n seen Sealed h f = absurd h

  -- once all is taken back, the value is at home and stands for the whole list
  pub ends : (key : Opening S) (id : ℕ) (v : View S) (ws : List ℕ) (xs : List (std.Option S)) → v.role ≡ Sealed → Final (Seen (Ruled makes key) id v) ws xs
      → (x : S) × (get_elem? xs 0 ≡ some (Some x)) × Stands makes key.start.value v.seen x
  ends key id v ws xs is fin =
      let s : State (std.Option S) (View S) = fin.0 in let r : Ruled makes key s = fin.1.0 in let p : Past = r.past in
      let f = r.fits id v fin.1.1 in
      let whole = subst (λ (z : Role S). Plays makes key p id v.seen z) is f.plays in
      at_end key p s.homes s.views v.seen xs whole.0 (λ n h w e t. not_gone p n h (turn_seat key p h n w.seen w.role t (r.fits h w e).plays)
      (whole.1 n (let low = there p.seats n (some h) (turn_seat key p h n w.seen w.role t (r.fits h w e).plays) in let le = r.bound.0 in let le' = r.bound.1 in omega (arith, low, le, le')))) fin.4 p.out r.lies
    where
      at_end : (key : Opening S) (p : Past) (homes : Homes S) (views : List (View S)) (seen : List Entry) (xs : List (std.Option S)) → seen ≡ p.log
          → ((n h : ℕ) (w : View S) → get_elem? views h ≡ some w → HasTurn n w.role → ⊥) → ((k : ℕ) (y : std.Option S) → get_elem? homes k ≡ some (some y) → get_elem? xs k ≡ some y)
          → (b : Bool) → Lies makes key.start.value p homes views b → (x : S) × (get_elem? xs 0 ≡ some (Some x)) × Stands makes key.start.value seen x
      at_end key p homes views seen xs all not values false l = (l.0, values 0 (Some l.0) (ap (λ (hs : Homes S). get_elem? hs 0) l.1), subst (λ (z : List Entry). Stands makes key.start.value z l.0) (sym all) l.2)
      at_end key p homes views seen xs all not values true l = absurd (not l.1.1 l.1.0 l.1.2 l.1.3 l.1.4)

  pub retires_as : (key : Opening S) (key' : std.Option (Opening S)) (id : ℕ) (seen : List Entry) (ret : List (ℕ × List Entry)) (other n : ℕ) (k : std.Option (Opening S)) (list : List Entry) (v w : View S)
      → key' ≡ Some key → v ≡ view_full key' seen Noted [] ret → w ≡ view_of k list (Idle n) → Joins (Ruled makes key) id v other w (record v { retired = v.retired ++ (number_of w.role, w.seen) ∷ [] }) (spent makes)
  retires_as key key' id seen ret other n k list v w same is was = subst (λ (z : View S × View S). Joins (Ruled makes key) id z.0 other z.1 (record z.0 { retired = z.0.retired ++ (number_of z.1.role, z.1.seen) ∷ [] }) (spent makes))
      (λ i. (let e : view_full (Some key) seen Noted [] ret ≡ v = sym (is ∙ ap (λ (q : std.Option (Opening S)). view_full q seen Noted [] ret) same) in e i, sym was i)) (retires key id seen ret other n k list)

  pub seals_as : (key : Opening S) (key' : std.Option (Opening S)) (slots id : ℕ) (seen : List Entry) (ret : List (ℕ × List Entry)) (m : Me (std.Option S) (View S)) → key' ≡ Some key → m ≡ (view_full key' seen Noted [] ret, []) → Covers key.numbers ret
      → Allows (Ruled makes key) slots id m 0 (λ x. x) (sealed (step slots 0 0 0 none) m)
  seals_as key key' slots id seen ret m same is covers = subst (λ (z : Me (std.Option S) (View S)). Allows (Ruled makes key) slots id z 0 (λ x. x) (sealed (step slots 0 0 0 none) z))
      (sym (is ∙ ap (λ (k : std.Option (Opening S)). (view_full k seen Noted [] ret, [])) same)) (seals key slots id seen ret covers)
