-- The steps of a turn keep the rule: a ticket is drawn, the turn is had, an entry counted, the turn passed on.
use Rattle.std.proofs.Common.{◌≡◌, ◌≢◌, ℕ, ◌+◌, ◌%◌, ◌^◌, ◌<◌, List, [], ◌∷◌, ◌++◌, length, set, get_or, Bool, true, false, Some, refl, sym, ap, ◌∙◌, subst, arith, length-append}
use Rattle.std.specs.Prelude as std
use Rattle.std.proofs.lemmas.List.{append-nil}
use mathlib.Core.Logic.{dite}
use mathlib.Core.Option.{none, some, some-injective, some-ne-none}
use native.Mathlib.Decide.{ℕ_discrete}
use lib.ListN.{get_elem?}
use lib.Seq.{set-get_or}
use Rattle.std.proofs.lemmas.List.Elements.{All-nil, All-cons, All-push, All-weaker}
use Rattle.atomic_table.specs.Table.{Me, step, keeps, takes, gives, stepped, Allows}
use Rattle.atomic_table.proofs.Lists.{set_here, set_else, at_longer, at_last, one_turn, set_again}
use Rattle.turn_cell.specs.declared.view.Entry.{Entry}
use Rattle.turn_cell.specs.declared.view.Opening.{Opening}
use Rattle.turn_cell.specs.declared.view.View.{View}
use Rattle.turn_cell.specs.declared.view.Role.{Role}
use Rattle.turn_cell.specs.declared.view.Role.TheVariants.{Begins, Blank, Noted, Idle, Waits, Has, Counted, Sealed}
use Rattle.turn_cell.specs.History.{entry, Stands, Extends, MakersBelow}
use Rattle.turn_cell.specs.Views.{HasTurn, idle, number_of, view_of}
use Rattle.turn_cell.specs.Rule.{Past, IsSeat, Plays, Lies, Ruled}
use Rattle.turn_cell.specs.Steps.{MayPassOn, drew, looked, counted, passed}
use Rattle.turn_cell.proofs.Frames.{there, sum_moves, not_gone, prefix_self, prefix_more, extends_self, extends_more, Goes, all_stay}
use Rattle.turn_cell.proofs.Lying.{Homes, below}
use Rattle.turn_cell.proofs.Places.{split_front, behind}

module _ {S : Type 0} (makes : ℕ → List ℕ → S → S → Type 0) where
  -- the value lies where it lay, where a seat that has not the turn changes its view
  lies_stay : (start : S) (p p' : Past) (homes : Homes S) (views : List (View S)) (id : ℕ) (v w : View S) → get_elem? views id ≡ some v → ((n : ℕ) → HasTurn n v.role → ⊥) → p'.log ≡ p.log
      → ((h : ℕ) → get_elem? p.queue 0 ≡ some h → get_elem? p'.queue 0 ≡ some h) → (b : Bool) → Lies makes start p homes views b → Lies makes start p' homes (set views id w) b
  lies_stay start p p' homes views id v w at not log front false l = (l.0, l.1, subst (λ (x : List Entry). Stands makes start x l.0) (sym log) l.2)
  lies_stay start p p' homes views id v w at not log front true l =
      let apart : l.1.0 ≢ id = λ e. not l.1.1 (subst (λ (u : View S). HasTurn l.1.1 u.role) (some-injective l.1.2 v (sym l.1.3 ∙ (ap (get_elem? views) e ∙ at))) l.1.4) in
      (l.0, (l.1.0, l.1.1, l.1.2, set_else views id l.1.0 w apart ∙ l.1.3, l.1.4, front l.1.0 l.1.5))

  pub draws : (key : Opening S) (slots id n : ℕ) (seen : List Entry)
      → Allows (Ruled makes key) slots id (view_of (Some key) seen (Idle n), []) 1 (λ x. (x + 1) % 2 ^ 64) (drew (step slots 1 1 0 none) (view_of (Some key) seen (Idle n), []))
  draws key slots id n seen s r deep at fits =
      let p : Past = r.past in let v : View S = view_of (Some key) seen (Idle n) in
      let t : ℕ = p.served + length p.queue in
      let w : View S = view_of (Some key) seen (Waits n t) in
      let p' : Past = record { log = p.log; served = p.served; queue = p.queue ++ id ∷ []; seats = p.seats; limit = p.limit; out = p.out } in
      let f = r.fits id v at in
      let more : length (p.queue ++ id ∷ []) ≡ length p.queue + 1 = length-append p.queue (id ∷ []) in
      let g : Goes key.numbers id p p' = record {
        grow = λ l x. x;
        ext = λ m l _ x. x;
        seat = λ m j _ x. x;
        gone = λ m x. x;
        place = λ j k _ x. (k, refl, at_longer p.queue (id ∷ []) k j x);
        turn = λ j _ x. (refl, at_longer p.queue (id ∷ []) 0 j x, refl);
        closed = λ _. refl;
        limits = λ l _ x. x;
      } in
      let found : get_or s.words 1 0 ≡ t % 18446744073709551616 = ap (λ (ws : List ℕ). get_or ws 1 0) r.words in
      let sum = sum_moves (λ (u : View S). idle u.role) s.views id v w at in (
        w,
        keeps,
        tt,
        record {
          past = p';
          words = ap (λ (ws : List ℕ). set ws 1 ((get_or ws 1 0 + 1) % 18446744073709551616)) r.words
              ∙ ap (λ (z : ℕ). (length p.log % 18446744073709551616) ∷ z ∷ (p.served % 18446744073709551616) ∷ length p.seats ∷ p.limit ∷ []) (omega (arith, more));
          lies = lies_stay key.start.value p p' s.homes s.views id v w at (λ m b. b) refl (λ h x. at_longer p.queue (id ∷ []) 0 h x) p.out r.lies;
          fits = all_stay makes key id p p' g s.views w r.fits record {
            seen = f.seen;
            heard = f.heard;
            retired = f.retired;
            plays = (f.plays.0, f.plays.1, (length p.queue, refl, at_last p.queue id (length p.queue) refl));
          };
          makers = r.makers;
          room = omega (arith, more, sum, r.room);
          bound = r.bound;
        },
        (t, sym found, refl),
      )

  pub draws_as : (key : Opening S) (key' : std.Option (Opening S)) (slots id n : ℕ) (seen : List Entry) (m : Me (std.Option S) (View S)) → key' ≡ Some key → m ≡ (view_of key' seen (Idle n), [])
      → Allows (Ruled makes key) slots id m 1 (λ x. (x + 1) % 2 ^ 64) (drew (step slots 1 1 0 none) m)
  draws_as key key' slots id n seen m same is = subst (λ (z : Me (std.Option S) (View S)). Allows (Ruled makes key) slots id z 1 (λ x. (x + 1) % 2 ^ 64) (drew (step slots 1 1 0 none) z))
      (sym (is ∙ ap (λ (k : std.Option (Opening S)). (view_of k seen (Idle n), [])) same)) (draws key slots id n seen)

  -- where the first in the queue has not the turn, the value is at home
  at_home : (start : S) (p : Past) (homes : Homes S) (views : List (View S)) (id : ℕ) (v : View S) → get_elem? views id ≡ some v → ((n : ℕ) → HasTurn n v.role → ⊥) → get_elem? p.queue 0 ≡ some id
      → (b : Bool) → Lies makes start p homes views b → (value : S) × (homes ≡ some (Some value) ∷ []) × Stands makes start p.log value
  at_home start p homes views id v at not first false l = l
  at_home start p homes views id v at not first true l =
      let e : l.1.0 ≡ id = some-injective l.1.0 id (sym l.1.5 ∙ first) in
      absurd (not l.1.1 (subst (λ (u : View S). HasTurn l.1.1 u.role) (some-injective l.1.2 v (sym l.1.3 ∙ (ap (get_elem? views) e ∙ at))) l.1.4))

  pub looks : (key : Opening S) (slots id n t : ℕ) (seen : List Entry)
      → Allows (Ruled makes key) slots id (view_of (Some key) seen (Waits n t), []) 2 (λ x. x) (looked makes (step slots 2 0 0 none) (view_of (Some key) seen (Waits n t), []))
  looks key slots id n t seen s r deep at fits =
      let p : Past = r.past in let v : View S = view_of (Some key) seen (Waits n t) in
      let f = r.fits id v at in
      let k : ℕ = f.plays.2.0 in
      let found : get_or s.words 2 0 ≡ p.served % 18446744073709551616 = ap (λ (ws : List ℕ). get_or ws 2 0) r.words in
      dite (ℕ_discrete (get_or s.words 2 0) (t % 18446744073709551616))
      (λ hit.
      let inside = there p.queue k id f.plays.2.2 in
      let now : p.served ≡ t = one_turn p.served t 18446744073709551616 (omega (arith, f.plays.2.1)) (omega (arith, f.plays.2.1, inside, r.room, r.bound.0, r.bound.1, r.bound.2)) (sym found ∙ hit) in
      let none_before : k ≡ 0 = omega (arith, now, f.plays.2.1) in
      let first : get_elem? p.queue 0 ≡ some id = subst (λ (z : ℕ). get_elem? p.queue z ≡ some id) none_before f.plays.2.2 in
      let h = at_home key.start.value p s.homes s.views id v at (λ m b. b) first p.out r.lies in
      let w : View S = view_of (Some key) p.log (Has n h.0) in
      let p' : Past = record { log = p.log; served = p.served; queue = p.queue; seats = p.seats; limit = p.limit; out = true } in
      let g : Goes key.numbers id p p' = record {
        grow = λ l x. x;
        ext = λ m l _ x. x;
        seat = λ m j _ x. x;
        gone = λ m x. x;
        place = λ j i _ x. (i, refl, x);
        turn = λ j ne x. absurd (ne (some-injective j id (sym x ∙ first)));
        closed = λ _. refl;
        limits = λ l _ x. x;
      } in
      let sum = sum_moves (λ (u : View S). idle u.role) s.views id v w at in (
        w,
        takes 0 (Some h.0),
        ap (λ (hs : Homes S). get_elem? hs 0) h.1,
        record {
          past = p';
          words = set-get_or s.words 2 0 ∙ r.words;
          lies = (ap (λ (hs : Homes S). set hs 0 none) h.1, (id, n, w, set_here s.views id w (there s.views id v at), refl, first));
          fits = all_stay makes key id p p' g s.views w r.fits record {
            seen = prefix_self p.log;
            heard = f.heard;
            retired = f.retired;
            plays = (f.plays.0, refl, first, refl, h.2);
          };
          makers = r.makers;
          room = omega (arith, sum, r.room);
          bound = r.bound;
        },
        (
          (λ _. record {
            value = h.0;
            view = refl;
            carries = refl;
            stands = h.2;
            grows = f.plays.1;
            makers = All-weaker (λ e. e.maker < length p.seats) (λ e. e.maker < key.numbers) (λ e low. let a = r.bound.0 in let b = r.bound.1 in omega (arith, low, a, b)) p.log r.makers;
          }),
          λ miss. absurd (miss hit),
        ),
      ))
      (λ miss.
      let same : stepped s 2 (get_or s.words 2 0) id [] v keeps ≡ s = λ i. record { words = set-get_or s.words 2 0 i; homes = s.homes; views = set_again s.views id v at i } in
      (v, keeps, tt, subst (Ruled makes key) (sym same) r, ((λ hit. absurd (miss hit)), λ _. refl)))

  pub looks_as : (key : Opening S) (key' : std.Option (Opening S)) (slots id n t : ℕ) (seen : List Entry) (m : Me (std.Option S) (View S)) → key' ≡ Some key → m ≡ (view_of key' seen (Waits n t), [])
      → Allows (Ruled makes key) slots id m 2 (λ x. x) (looked makes (step slots 2 0 0 none) m)
  looks_as key key' slots id n t seen m same is = subst (λ (z : Me (std.Option S) (View S)). Allows (Ruled makes key) slots id z 2 (λ x. x) (looked makes (step slots 2 0 0 none) z))
      (sym (is ∙ ap (λ (k : std.Option (Opening S)). (view_of k seen (Waits n t), [])) same)) (looks key slots id n t seen)

  pub counts : (key : Opening S) (slots id n : ℕ) (x : S) (numbers : List ℕ) (seen : List Entry) (c : List (ℕ × std.Option S))
      → Allows (Ruled makes key) slots id (view_of (Some key) seen (Has n x), c) 0 (λ x. (x + 1) % 2 ^ 64) (counted makes numbers (step slots 0 1 0 none) (view_of (Some key) seen (Has n x), c))
  counts key slots id n x numbers seen c s r deep at fits =
      let p : Past = r.past in let v : View S = view_of (Some key) seen (Has n x) in
      let f = r.fits id v at in
      let e : Entry = entry n numbers in
      let all : seen ++ e ∷ [] ≡ p.log ++ e ∷ [] = ap (λ (l : List Entry). l ++ e ∷ []) f.plays.1 in
      let w : View S = view_of (Some key) (seen ++ e ∷ []) (Counted n) in
      let p' : Past = record { log = p.log ++ e ∷ []; served = p.served; queue = p.queue; seats = p.seats; limit = p.limit; out = true } in
      let low = there p.seats n (some id) f.plays.0 in
      let g : Goes key.numbers id p p' = record {
        grow = λ l y. prefix_more l p.log (e ∷ []) y;
        ext = λ m l apart y. extends_more m l p.log (e ∷ []) (All-cons (λ (d : Entry). d.maker ≢ m) e [] (λ (q : n ≡ m). apart (subst (λ (z : ℕ). IsSeat p z id) q f.plays.0)) (All-nil (λ (d : Entry). d.maker ≢ m))) y;
        seat = λ m j _ y. y;
        gone = λ m y. y;
        place = λ j i _ y. (i, refl, y);
        turn = λ j ne y. absurd (ne (some-injective j id (sym y ∙ f.plays.2)));
        closed = λ gone. absurd (not_gone p n id f.plays.0 (gone n (let a = r.bound.0 in let b = r.bound.1 in omega (arith, low, a, b))));
        limits = λ l _ x. x;
      } in
      let l = subst (λ (b : Bool). Lies makes key.start.value p s.homes s.views b) f.plays.3 r.lies in
      let more : length (p.log ++ e ∷ []) ≡ length p.log + 1 = length-append p.log (e ∷ []) in
      let sum = sum_moves (λ (u : View S). idle u.role) s.views id v w at in (
        w,
        keeps,
        tt,
        record {
          past = p';
          words = ap (λ (ws : List ℕ). set ws 0 ((get_or ws 0 0 + 1) % 18446744073709551616)) r.words
              ∙ ap (λ (z : ℕ). z ∷ ((p.served + length p.queue) % 18446744073709551616) ∷ (p.served % 18446744073709551616) ∷ length p.seats ∷ p.limit ∷ []) (omega (arith, more));
          lies = (l.0, (id, n, w, set_here s.views id w (there s.views id v at), refl, f.plays.2));
          fits = all_stay makes key id p p' g s.views w r.fits record {
            seen = ([], append-nil (seen ++ e ∷ []) ∙ all);
            heard = g.grow [] f.heard;
            retired = λ m y z. absurd (some-ne-none y (sym z));
            plays = (f.plays.0, all, f.plays.2, refl);
          };
          makers = All-push (λ (d : Entry). d.maker < length p.seats) p.log e r.makers low;
          room = omega (arith, sum, r.room);
          bound = r.bound;
        },
        (refl, subst (λ (z : List Entry). Stands makes key.start.value z x) (sym f.plays.1) f.plays.4),
      )

  pub counts_as : (key : Opening S) (key' : std.Option (Opening S)) (slots id n : ℕ) (x : S) (numbers : List ℕ) (seen : List Entry) (c : List (ℕ × std.Option S)) (m : Me (std.Option S) (View S)) → key' ≡ Some key → m ≡ (view_of key' seen (Has n x), c)
      → Allows (Ruled makes key) slots id m 0 (λ x. (x + 1) % 2 ^ 64) (counted makes numbers (step slots 0 1 0 none) m)
  counts_as key key' slots id n x numbers seen c m same is = subst (λ (z : Me (std.Option S) (View S)). Allows (Ruled makes key) slots id z 0 (λ x. (x + 1) % 2 ^ 64) (counted makes numbers (step slots 0 1 0 none) z))
      (sym (is ∙ ap (λ (k : std.Option (Opening S)). (view_of k seen (Has n x), c)) same)) (counts key slots id n x numbers seen c)

  -- what the rule says of a seat that passes the turn on with x
  abbrev Ready : Opening S → ℕ → ℕ → List Entry → Role S → S → Type 0
  Ready key id n seen role x = (p : Past) → Plays makes key p id seen role → IsSeat p n id × (seen ≡ p.log) × (get_elem? p.queue 0 ≡ some id) × (p.out ≡ true) × Stands makes key.start.value p.log x

  passes : (key : Opening S) (slots id n : ℕ) (x : S) (seen : List Entry) (role : Role S) → Ready key id n seen role x → idle role ≡ 0 → number_of role ≡ n
      → Allows (Ruled makes key) slots id (view_of (Some key) seen role, (0, Some x) ∷ []) 2 (λ x. (x + 1) % 2 ^ 64) (passed (step slots 2 1 0 none) (view_of (Some key) seen role, (0, Some x) ∷ []))
  passes key slots id n x seen role ready busy number s r deep at fits =
      let p : Past = r.past in let v : View S = view_of (Some key) seen role in
      let f = r.fits id v at in
      let y = ready p f.plays in
      let q = split_front p.queue id y.2 in
      let w : View S = view_of (Some key) seen (Idle n) in
      let p' : Past = record { log = p.log; served = p.served + 1; queue = q.0; seats = p.seats; limit = p.limit; out = false } in
      let g : Goes key.numbers id p p' = record {
        grow = λ l z. z;
        ext = λ m l _ z. z;
        seat = λ m j _ z. z;
        gone = λ m z. z;
        place = λ j k ne z. behind p.served id j k q.0 ne (subst (λ (u : List ℕ). get_elem? u k ≡ some j) q.1 z);
        turn = λ j ne z. absurd (ne (some-injective j id (sym z ∙ y.2)));
        closed = λ _. refl;
        limits = λ l _ x. x;
      } in
      let l = subst (λ (b : Bool). Lies makes key.start.value p s.homes s.views b) y.3 r.lies in
      let fewer : length p.queue ≡ length q.0 + 1 = ap length q.1 ∙ omega arith in
      let sum = sum_moves (λ (u : View S). idle u.role) s.views id v w at in (
        w,
        gives,
        tt,
        record {
          past = p';
          words = ap (λ (ws : List ℕ). set ws 2 ((get_or ws 2 0 + 1) % 18446744073709551616)) r.words
              ∙ (λ i. (length p.log % 18446744073709551616) ∷ (let a : (p.served + length p.queue) % 18446744073709551616 ≡ (p.served + 1 + length q.0) % 18446744073709551616 = omega (arith, fewer) in a i) ∷ (let b : (p.served % 18446744073709551616 + 1) % 18446744073709551616 ≡ (p.served + 1) % 18446744073709551616 = omega arith in b i) ∷ length p.seats ∷ p.limit ∷ []);
          lies = (x, ap (λ (hs : Homes S). set hs 0 (some (Some x))) l.0, y.4);
          fits = all_stay makes key id p p' g s.views w r.fits record {
            seen = f.seen;
            heard = f.heard;
            retired = f.retired;
            plays = (y.0, subst (λ (z : List Entry). Extends n seen z) y.1 (extends_self n seen));
          };
          makers = r.makers;
          room = omega (arith, sum, r.room, fewer, busy);
          bound = r.bound;
        },
        (
          ap (λ (z : ℕ). let u : Me (std.Option S) (View S) = (view_of (Some key) seen (Idle z), []) in u) (sym number),
          subst (λ (z : List Entry). MakersBelow key.numbers z) (sym y.1) (below makes key p (let a = r.bound.0 in let b = r.bound.1 in omega (arith, a, b)) r.makers),
        ),
      )

  -- the same, of any role that may pass the turn on
  passes_due : (key : Opening S) (slots id n : ℕ) (x : S) (seen : List Entry) (role : Role S) → MayPassOn makes key.start.value seen n x role
      → Allows (Ruled makes key) slots id (view_of (Some key) seen role, (0, Some x) ∷ []) 2 (λ x. (x + 1) % 2 ^ 64) (passed (step slots 2 1 0 none) (view_of (Some key) seen role, (0, Some x) ∷ []))
  passes_due key slots id n x seen (Has m y) due = passes key slots id m x seen (Has m y)
      (λ p f. (f.0, f.1, f.2, f.3, subst (λ (z : S). Stands makes key.start.value p.log z) due.1 f.4)) refl refl
  passes_due key slots id n x seen (Counted m) due = passes key slots id m x seen (Counted m)
      (λ p f. (f.0, f.1, f.2, f.3, subst (λ (z : List Entry). Stands makes key.start.value z x) f.1 due.1)) refl refl
  passes_due key slots id n x seen (Begins l) due = absurd due
  passes_due key slots id n x seen (Blank l) due = absurd due
  passes_due key slots id n x seen Noted due = absurd due
  passes_due key slots id n x seen (Idle m) due = absurd due
  passes_due key slots id n x seen (Waits m t) due = absurd due
  passes_due key slots id n x seen Sealed due = absurd due

  pub passes_as : (key : Opening S) (key' : std.Option (Opening S)) (slots id n : ℕ) (x : S) (seen : List Entry) (role : Role S) (m : Me (std.Option S) (View S)) → key' ≡ Some key → m ≡ (view_of key' seen role, (0, Some x) ∷ []) → MayPassOn makes key.start.value seen n x role
      → Allows (Ruled makes key) slots id m 2 (λ x. (x + 1) % 2 ^ 64) (passed (step slots 2 1 0 none) m)
  passes_as key key' slots id n x seen role m same is due = subst (λ (z : Me (std.Option S) (View S)). Allows (Ruled makes key) slots id z 2 (λ x. (x + 1) % 2 ^ 64) (passed (step slots 2 1 0 none) z))
      (sym (is ∙ ap (λ (k : std.Option (Opening S)). (view_of k seen role, (0, Some x) ∷ [])) same)) (passes_due key slots id n x seen role due)

  -- the role that may pass the turn on has the number
  pub due_number : (start : S) (seen : List Entry) (n : ℕ) (x : S) (role : Role S) → MayPassOn makes start seen n x role → number_of role ≡ n
  due_number start seen n x (Has m y) due = due.0
  due_number start seen n x (Counted m) due = due.0
  due_number start seen n x (Begins l) due = absurd due
  due_number start seen n x (Blank l) due = absurd due
  due_number start seen n x Noted due = absurd due
  due_number start seen n x (Idle m) due = absurd due
  due_number start seen n x (Waits m t) due = absurd due
  due_number start seen n x Sealed due = absurd due

  pub stands_more : (n : ℕ) (numbers : List ℕ) (log : List Entry) (start a b : S) → Stands makes start log a → makes n numbers a b → Stands makes start (log ++ entry n numbers ∷ []) b
  stands_more n numbers [] start a b e m = (b, subst (λ (z : S). makes n numbers z b) (sym e) m, refl)
  stands_more n numbers (d ∷ log) start a b e m = (e.0, e.1, stands_more n numbers log e.0 a b e.2 m)
