-- Lists in which one maker's entries are all, or one more.
use Rattle.std.proofs.Common.{◌≡◌, ◌≢◌, ◌⊎◌, inl, inr, ℕ, ◌+◌, ◌<◌, Bool, cond, List, [], ◌∷◌, ◌++◌, refl, sym, ap, ◌∙◌, arith}
use Rattle.std.specs.Prelude.{◌==◌, slice_index_or}
use Rattle.std.specs.List.{All}
use Rattle.std.proofs.lemmas.Bool.{cases_order, eq-eqb, ne_eqb}
use Rattle.std.proofs.lemmas.List.{append-nil}
use Rattle.std.proofs.lemmas.List.Elements.{All-head, All-tail, filter-append}
use Rattle.session_meaning.specs.Plan.{Plan}
use Rattle.turn_cell.specs.declared.view.Entry.{Entry}
use Rattle.turn_cell.specs.History.{Extends, MakersBelow, entry, own}
use Rattle.call_table.specs.Makers.{session}
use Rattle.session_ends.specs.Opened.{first_session, request_entries}

none_own : (n : ℕ) (list : List Entry) → All (λ e. e.maker ≢ n) list → own n list ≡ []
none_own n [] all = refl
none_own n (e ∷ es) all =
    ap (λ b. cond b (e ∷ own n es) (own n es)) (ne_eqb e.maker n (All-head (λ (d : Entry). d.maker ≢ n) e es all)) ∙ none_own n es (All-tail (λ (d : Entry). d.maker ≢ n) e es all)

all_own : (n : ℕ) (list : List Entry) → All (λ e. e.maker ≡ n) list → own n list ≡ list
all_own n [] all = refl
all_own n (e ∷ es) all =
    ap (λ b. cond b (e ∷ own n es) (own n es)) (eq-eqb e.maker n (All-head (λ (d : Entry). d.maker ≡ n) e es all)) ∙ ap (λ l. e ∷ l) (all_own n es (All-tail (λ (d : Entry). d.maker ≡ n) e es all))

pub one_more : (maker : ℕ) (numbers : List ℕ) (old list : List Entry) → Extends maker old list → own maker (list ++ entry maker numbers ∷ []) ≡ own maker old ++ entry maker numbers ∷ []
one_more maker numbers old list x =
    let mine : Entry → Bool = λ e. e.maker == maker in
    let new : List Entry = entry maker numbers ∷ [] in
    let before : own maker list ≡ own maker old = ap (own maker) (sym x.1) ∙ filter-append mine old x.0 ∙ ap (λ l. own maker old ++ l) (none_own maker x.0 x.2) ∙ append-nil (own maker old) in
    let last : own maker new ≡ new = ap (λ b. cond b new []) (eq-eqb maker maker refl) in
    filter-append mine list new ∙ ap (λ l. l ++ own maker new) before ∙ ap (λ l. own maker old ++ l) last

pub alone : (plan : Plan) (list : List Entry) → MakersBelow (session (first_session plan) + 1) list → ((maker : ℕ) → maker < session (first_session plan) → All (λ e. e.maker ≢ maker) list) → own (session (first_session plan)) list ≡ request_entries plan → list ≡ request_entries plan
alone plan list low others requests = sym (all_own (session (first_session plan)) list each) ∙ requests
  where
    each : All (λ e. e.maker ≡ session (first_session plan)) list
    each n d l = by (slice_index_or list n d).maker (low n d l) (λ k. others (slice_index_or list n d).maker k n d l refl)
      where
        by : (m : ℕ) → m < session (first_session plan) + 1 → (m < session (first_session plan) → ⊥) → m ≡ session (first_session plan)
        by m h not_below = which (cases_order m (session (first_session plan)))
          where
            which : (m ≡ session (first_session plan)) ⊎ ((m < session (first_session plan)) ⊎ (session (first_session plan) < m)) → m ≡ session (first_session plan)
            which (inl e) = e
            which (inr (inl k)) = absurd (not_below k)
            which (inr (inr k)) = let bad : ⊥ = omega (arith, h, k) in absurd bad
