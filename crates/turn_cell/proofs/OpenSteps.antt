-- The steps that make a cell and its passes keep the rule.
use Rattle.std.proofs.Common.{◌≡◌, ◌≢◌, ℕ, zero, suc, ◌+◌, ◌^◌, ◌<◌, List, [], ◌∷◌, ◌++◌, length, set, Bool, false, Some, refl, sym, ap, ◌∙◌, subst, ⊎_elim, arith, length-append, eqb, eq-eqb, ne_eqb, get_or, ◌%◌}
use Rattle.std.specs.Prelude as std
use Rattle.std.specs.List.{sum_by, All}
use Rattle.std.proofs.lemmas.List.Sums.{sum_by-append}
use Rattle.std.proofs.lemmas.List.Elements.{All-nil, All-weaker, All-tail, All-same}
use mathlib.Core.Logic.{dite}
use prog.Atomic.{either}
use Rattle.atomic_table.specs.Table.{stepped, State, Me, step, keeps, Allows, Splits, opening, Final, Seen}
use mathlib.Core.Option.{none, some, some-injective}
use native.Mathlib.Decide.{ℕ_discrete}
use lib.ListN.{get_elem?}
use lib.Seq.{set-get_or}
use Rattle.atomic_table.proofs.Lists.{at_snoc, at_longer, at_last, set_again}
use Rattle.turn_cell.specs.declared.view.Entry.{Entry}
use Rattle.turn_cell.specs.declared.view.Opening.{Opening}
use Rattle.turn_cell.specs.declared.view.View.{View}
use Rattle.turn_cell.specs.declared.view.Role.{Role}
use Rattle.turn_cell.specs.declared.view.Role.TheVariants.{Begins, Blank, Noted, Idle}
use Rattle.turn_cell.specs.History.{Stands}
use Rattle.turn_cell.specs.Views.{idle, view_of, limit_of}
use Rattle.turn_cell.specs.Rule.{Past, Plays, Fits, Lies, Ruled}
use Rattle.turn_cell.specs.Steps.{limited, numbered, begun}
use Rattle.turn_cell.proofs.Frames.{sum_moves, Goes, all_stay}
use Rattle.turn_cell.proofs.Places.{split_front, behind}
use Rattle.turn_cell.proofs.Lying.{Homes, lies_on, lies_longer, nothing}

all_behind : {A : Type 0} (P : A → Type 0) (xs ys : List A) → All P (xs ++ ys) → All P ys
all_behind P [] ys h = h
all_behind P (x ∷ xs) ys h = all_behind P xs ys (All-tail P x (xs ++ ys) h)

module _ {S : Type 0} (makes : ℕ → List ℕ → S → S → Type 0) where
  pub opens : (key : Opening S) (x : S) → key.start.value ≡ x → key.numbers < 2 ^ 32 → Ruled makes key (opening (0 ∷ 1 ∷ 0 ∷ 0 ∷ 0 ∷ []) (Some x ∷ []) (view_of (Some key) [] (Begins 0)))
  opens key x is small = let p : Past = record { log = []; served = 0; queue = 0 ∷ []; seats = []; limit = 0; out = false } in record {
    past = p;
    words = refl;
    lies = (x, refl, is);
    fits = λ id v e. one id v e;
    makers = All-nil (λ e. e.maker < 0);
    room = omega arith;
    bound = (omega arith, omega arith, small);
  }
    where
      one : (id : ℕ) (v : View S) → get_elem? (view_of (Some key) [] (Begins 0) ∷ []) id ≡ some v → Fits makes key (record { log = []; served = 0; queue = 0 ∷ []; seats = []; limit = 0; out = false }) id v
      one zero v e = subst (Fits makes key (record { log = []; served = 0; queue = 0 ∷ []; seats = []; limit = 0; out = false }) 0) (some-injective (view_of (Some key) [] (Begins 0)) v e)
          record { seen = ([], refl); heard = ([], refl); retired = λ i r z. nothing i r z; plays = ((λ z. absurd (z refl)), refl, refl, refl) }
      one (suc id) v e = nothing id v e

  -- a step that changes the word i to x, and the limit to l, and nothing of the lists
  pub limits : (key : Opening S) (slots id : ℕ) (seen : List Entry) → 0 < key.numbers
      → Allows (Ruled makes key) slots id (view_of (Some key) seen (Begins 0), []) 4 (λ n. either (eqb n 0) key.numbers n) (limited (step slots 4 0 key.numbers none) (view_of (Some key) seen (Begins 0), []))
  limits key slots id seen some_numbers s r deep at fits =
      let p : Past = r.past in let v : View S = view_of (Some key) seen (Begins 0) in
      let w : View S = view_of (Some key) seen (Begins key.numbers) in
      let f = r.fits id v at in
      let found : get_or s.words 4 0 ≡ p.limit = ap (λ (ws : List ℕ). get_or ws 4 0) r.words in
      dite (ℕ_discrete (get_or s.words 4 0) 0)
      (λ hit.
      let p' : Past = record { log = p.log; served = p.served; queue = p.queue; seats = p.seats; limit = key.numbers; out = p.out } in
      let none_yet : p.limit ≡ 0 = sym found ∙ hit in
      let g : Goes key.numbers id p p' = record {
        grow = λ l x. x;
        ext = λ m l _ x. x;
        seat = λ m j _ x. x;
        gone = λ m x. x;
        place = λ j i _ x. (i, refl, x);
        turn = λ j _ x. (refl, x, refl);
        closed = λ _. refl;
        limits = λ l z x. absurd (z (sym x ∙ none_yet));
      } in
      let sum = sum_moves (λ (u : View S). idle u.role) s.views id v w at in
      let b0 = r.bound.0 in (
        w,
        keeps,
        tt,
        subst (λ (n : ℕ). Ruled makes key (stepped s 4 n id [] w keeps)) (ap (λ (b : Bool). either b key.numbers (get_or s.words 4 0)) (sym (eq-eqb (get_or s.words 4 0) 0 hit))) record {
          past = p';
          words = ap (λ (ws : List ℕ). set ws 4 key.numbers) r.words;
          lies = lies_on makes key.start.value p p' s.homes s.views id v w at (λ m x. x) refl refl p.out r.lies;
          fits = all_stay makes key id p p' g s.views w r.fits record { seen = f.seen; heard = f.heard; retired = f.retired; plays = ((λ _. refl), f.plays.1, f.plays.2, f.plays.3) };
          makers = r.makers;
          room = omega (arith, sum, r.room);
          bound = (omega (arith, b0, none_yet), omega arith, r.bound.2);
        },
        ((λ _. refl), λ miss. absurd (miss hit)),
      ))
      (λ miss.
      let same : stepped s 4 (get_or s.words 4 0) id [] v keeps ≡ s = λ i. record { words = set-get_or s.words 4 0 i; homes = s.homes; views = set_again s.views id v at i } in (
        v,
        keeps,
        tt,
        subst (λ (n : ℕ). Ruled makes key (stepped s 4 n id [] v keeps)) (ap (λ (b : Bool). either b key.numbers (get_or s.words 4 0)) (sym (ne_eqb (get_or s.words 4 0) 0 miss))) (subst (Ruled makes key) (sym same) r),
        ((λ hit. absurd (miss hit)), λ _. refl),
      ))

  pub blanks : (key : Opening S) (id l : ℕ) (seen : List Entry) → Splits (Ruled makes key) id (view_of (Some key) seen (Begins l)) (view_of (Some key) seen (Begins l)) (view_of (Some key) seen (Blank l))
  blanks key id l seen s r at =
      let p : Past = r.past in let v : View S = view_of (Some key) seen (Begins l) in let o : View S = view_of (Some key) seen (Blank l) in
      let f = r.fits id v at in
      let same : set s.views id v ≡ s.views = set_again s.views id v at in
      let sum' = sum_by-append (λ (u : View S). idle u.role) s.views (o ∷ []) in
      let none_more : sum_by (λ (u : View S). idle u.role) (o ∷ []) ≡ 0 = refl in
      let done : Ruled makes key record { words = s.words; homes = s.homes; views = s.views ++ o ∷ [] } = record {
        past = p;
        words = r.words;
        lies = lies_longer makes key.start.value p s.homes s.views (o ∷ []) p.out r.lies;
        fits = λ j u e. ⊎_elim (r.fits j u)
            (λ (t : o ≡ u). subst (Fits makes key p j) t record { seen = f.seen; heard = (p.log, refl); retired = λ i t z. nothing i t z; plays = f.plays.0 })
            (at_snoc s.views o u j e);
        makers = r.makers;
        room = omega (arith, sum', none_more, r.room);
        bound = r.bound;
      } in
      subst (λ (l : List (View S)). Ruled makes key record { words = s.words; homes = s.homes; views = l ++ o ∷ [] }) (sym same) done

  pub numbers : (key : Opening S) (slots id l n : ℕ) (seen : List Entry) → n < l
      → Allows (Ruled makes key) slots id (view_of (Some key) seen (Blank l), []) 3 (λ x. either (eqb x n) (n + 1) x) (numbered (step slots 3 n (n + 1) none) (view_of (Some key) seen (Blank l), []))
  numbers key slots id l n seen low s r deep at fits =
      let p : Past = r.past in let v : View S = view_of (Some key) seen (Blank l) in
      let w : View S = view_of (Some key) seen (Idle n) in
      let f = r.fits id v at in
      let found : get_or s.words 3 0 ≡ length p.seats = ap (λ (ws : List ℕ). get_or ws 3 0) r.words in
      dite (ℕ_discrete (get_or s.words 3 0) n)
      (λ hit.
      let p' : Past = record { log = p.log; served = p.served; queue = p.queue; seats = p.seats ++ some id ∷ []; limit = p.limit; out = p.out } in
      let more : length (p.seats ++ some id ∷ []) ≡ length p.seats + 1 = length-append p.seats (some id ∷ []) in
      let here : length p.seats ≡ n = sym found ∙ hit in
      let known : p.limit ≡ l = f.plays (λ z. omega (arith, z, low)) in
      let g : Goes key.numbers id p p' = record {
        grow = λ l x. x;
        ext = λ m l _ x. x;
        seat = λ m j _ x. at_longer p.seats (some id ∷ []) m (some j) x;
        gone = λ m x. at_longer p.seats (some id ∷ []) m none x;
        place = λ j i _ x. (i, refl, x);
        turn = λ j _ x. (refl, x, refl);
        closed = λ _. refl;
        limits = λ l _ x. x;
      } in
      let rest : All (λ (e : Entry). e.maker < length p.seats) f.seen.0 = all_behind (λ (e : Entry). e.maker < length p.seats) seen f.seen.0 (All-same (λ (e : Entry). e.maker < length p.seats) (seen ++ f.seen.0) p.log f.seen.1 r.makers) in
      let sum = sum_moves (λ (u : View S). idle u.role) s.views id v w at in
      let word : set s.words 3 (n + 1) ≡ (length p.log % 18446744073709551616) ∷ ((p.served + length p.queue) % 18446744073709551616) ∷ (p.served % 18446744073709551616) ∷ length (p.seats ++ some id ∷ []) ∷ p.limit ∷ [] =
      ap (λ (ws : List ℕ). set ws 3 (n + 1)) r.words ∙ ap (λ (z : ℕ). (length p.log % 18446744073709551616) ∷ ((p.served + length p.queue) % 18446744073709551616) ∷ (p.served % 18446744073709551616) ∷ z ∷ p.limit ∷ []) (omega (arith, more, here)) in (
        w,
        keeps,
        tt,
        subst (λ (z : ℕ). Ruled makes key (stepped s 3 z id [] w keeps)) (ap (λ (b : Bool). either b (n + 1) (get_or s.words 3 0)) (sym (eq-eqb (get_or s.words 3 0) n hit))) record {
          past = p';
          words = word;
          lies = lies_on makes key.start.value p p' s.homes s.views id v w at (λ m x. x) refl refl p.out r.lies;
          fits = all_stay makes key id p p' g s.views w r.fits record {
            seen = f.seen;
            heard = f.heard;
            retired = λ i t z. nothing i t z;
            plays = (at_last p.seats (some id) n here, (f.seen.0, f.seen.1, All-weaker (λ (e : Entry). e.maker < length p.seats) (λ (e : Entry). e.maker ≢ n) (λ e small same. omega (arith, small, same, here)) f.seen.0 rest));
          };
          makers = All-weaker (λ (e : Entry). e.maker < length p.seats) (λ (e : Entry). e.maker < length (p.seats ++ some id ∷ [])) (λ e small. omega (arith, small, more)) p.log r.makers;
          room = omega (arith, sum, more, r.room);
          bound = (omega (arith, more, here, known, low), r.bound.1, r.bound.2);
        },
        ((λ _. refl), λ miss. absurd (miss hit)),
      ))
      (λ miss.
      let same : stepped s 3 (get_or s.words 3 0) id [] v keeps ≡ s = λ i. record { words = set-get_or s.words 3 0 i; homes = s.homes; views = set_again s.views id v at i } in (
        v,
        keeps,
        tt,
        subst (λ (z : ℕ). Ruled makes key (stepped s 3 z id [] v keeps)) (ap (λ (b : Bool). either b (n + 1) (get_or s.words 3 0)) (sym (ne_eqb (get_or s.words 3 0) n miss))) (subst (Ruled makes key) (sym same) r),
        ((λ hit. absurd (miss hit)), λ _. refl),
      ))

  pub ends_begin : (key : Opening S) (slots id l : ℕ) (seen : List Entry)
      → Allows (Ruled makes key) slots id (view_of (Some key) seen (Begins l), []) 2 (λ x. (x + 1) % 2 ^ 64) (begun (step slots 2 1 0 none) (view_of (Some key) seen (Begins l), []))
  ends_begin key slots id l seen s r deep at fits =
      let p : Past = r.past in let v : View S = view_of (Some key) seen (Begins l) in
      let w : View S = view_of (Some key) seen Noted in
      let f = r.fits id v at in
      let q = split_front p.queue id f.plays.1 in
      let p' : Past = record { log = p.log; served = p.served + 1; queue = q.0; seats = p.seats; limit = p.limit; out = false } in
      let g : Goes key.numbers id p p' = record {
        grow = λ l z. z;
        ext = λ m l _ z. z;
        seat = λ m j _ z. z;
        gone = λ m z. z;
        place = λ j k ne z. behind p.served id j k q.0 ne (subst (λ (u : List ℕ). get_elem? u k ≡ some j) q.1 z);
        turn = λ j ne z. absurd (ne (some-injective j id (sym z ∙ f.plays.1)));
        closed = λ _. refl;
        limits = λ l _ x. x;
      } in
      let h = subst (λ (b : Bool). Lies makes key.start.value p s.homes s.views b) f.plays.2 r.lies in
      let fewer : length p.queue ≡ length q.0 + 1 = ap length q.1 ∙ omega arith in
      let sum = sum_moves (λ (u : View S). idle u.role) s.views id v w at in (
        w,
        keeps,
        tt,
        record {
          past = p';
          words = ap (λ (ws : List ℕ). set ws 2 ((get_or ws 2 0 + 1) % 18446744073709551616)) r.words
              ∙ (λ i. (length p.log % 18446744073709551616) ∷ (let a : (p.served + length p.queue) % 18446744073709551616 ≡ (p.served + 1 + length q.0) % 18446744073709551616 = omega (arith, fewer) in a i) ∷ (let b : (p.served % 18446744073709551616 + 1) % 18446744073709551616 ≡ (p.served + 1) % 18446744073709551616 = omega arith in b i) ∷ length p.seats ∷ p.limit ∷ []);
          lies = (h.0, h.1, h.2);
          fits = all_stay makes key id p p' g s.views w r.fits record { seen = f.seen; heard = f.heard; retired = f.retired; plays = tt };
          makers = r.makers;
          room = omega (arith, sum, r.room, fewer);
          bound = r.bound;
        },
        refl,
      )

  -- before the first turn is over, the value is the one at the start
  pub gives_up : (key : Opening S) (id l : ℕ) (v : View S) (ws : List ℕ) (xs : List (std.Option S)) → v.role ≡ Begins l → Final (Seen (Ruled makes key) id v) ws xs → get_elem? xs 0 ≡ some (Some key.start.value)
  gives_up key id l v ws xs is fin =
      let s : State (std.Option S) (View S) = fin.0 in let r : Ruled makes key s = fin.1.0 in let p : Past = r.past in
      let f = r.fits id v fin.1.1 in
      let plays = subst (λ (z : Role S). Plays makes key p id v.seen z) is f.plays in
      let h = subst (λ (b : Bool). Lies makes key.start.value p s.homes s.views b) plays.2 r.lies in
      let same : key.start.value ≡ h.0 = subst (λ (z : List Entry). Stands makes key.start.value z h.0) plays.3 h.2 in
      fin.4 0 (Some key.start.value) (ap (λ (hs : Homes S). get_elem? hs 0) h.1 ∙ ap (λ (x : S). some (some (Some x))) (sym same))

  abbrev M : Type 0
  M = Me (std.Option S) (View S)

  pub limits_as : (key : Opening S) (slots id : ℕ) (m : M) → m ≡ (view_of (Some key) [] (Begins 0), []) → 0 < key.numbers
      → Allows (Ruled makes key) slots id m 4 (λ n. either (eqb n 0) key.numbers n) (limited (step slots 4 0 key.numbers none) m)
  limits_as key slots id m is some_numbers = subst (λ (z : M). Allows (Ruled makes key) slots id z 4 (λ n. either (eqb n 0) key.numbers n) (limited (step slots 4 0 key.numbers none) z)) (sym is) (limits key slots id [] some_numbers)

  pub blanks_as : (key : Opening S) (id l : ℕ) (v : View S) → v ≡ view_of (Some key) [] (Begins l) → Splits (Ruled makes key) id v v (view_of v.key v.seen (Blank (limit_of v.role)))
  blanks_as key id l v is = subst (λ (z : View S). Splits (Ruled makes key) id z z (view_of z.key z.seen (Blank (limit_of z.role)))) (sym is) (blanks key id l [])

  pub numbers_as : (key : Opening S) (slots id l n : ℕ) (m : M) → m ≡ (view_of (Some key) [] (Blank l), []) → n < l
      → Allows (Ruled makes key) slots id m 3 (λ x. either (eqb x n) (n + 1) x) (numbered (step slots 3 n (n + 1) none) m)
  numbers_as key slots id l n m is low = subst (λ (z : M). Allows (Ruled makes key) slots id z 3 (λ x. either (eqb x n) (n + 1) x) (numbered (step slots 3 n (n + 1) none) z)) (sym is) (numbers key slots id l n [] low)

  pub ends_begin_as : (key : Opening S) (slots id l : ℕ) (m : M) → m ≡ (view_of (Some key) [] (Begins l), []) → Allows (Ruled makes key) slots id m 2 (λ x. (x + 1) % 2 ^ 64) (begun (step slots 2 1 0 none) m)
  ends_begin_as key slots id l m is = subst (λ (z : M). Allows (Ruled makes key) slots id z 2 (λ x. (x + 1) % 2 ^ 64) (begun (step slots 2 1 0 none) z)) (sym is) (ends_begin key slots id l [])

  pub limits_at : (key : Opening S) (slots id n : ℕ) (m : M) → m ≡ (view_of (Some key) [] (Begins 0), []) → 0 < key.numbers → key.numbers ≡ n
      → Allows (Ruled makes key) slots id m 4 (λ x. either (eqb x 0) n x) (limited (step slots 4 0 n none) m)
  limits_at key slots id n m is some_numbers e = subst (λ (z : ℕ). Allows (Ruled makes key) slots id m 4 (λ x. either (eqb x 0) z x) (limited (step slots 4 0 z none) m)) e (limits_as key slots id m is some_numbers)
