-- Entries keep the counts of children.
use Rattle.std.proofs.Common.{◌≡◌, ◌⊎◌, inl, inr, ℕ, zero, suc, ◌+◌, ◌<◌, ◌≤◌, Bool, true, false, cond, List, [], ◌∷◌, ◌++◌, Option, Some, None, length, slice_get, slice_set, refl, sym, ap, ◌∙◌, subst, arith}
use Rattle.std.specs.Prelude.{◌==◌}
use Rattle.std.proofs.lemmas.Bool.{eq-eqb}
use Rattle.std.proofs.lemmas.Option.{same_Some}
use Rattle.faaslet_meaning.specs.declared.call.CallRecord.{CallRecord}
use Rattle.faaslet_meaning.specs.declared.call.CallState.{CallState}
use Rattle.faaslet_meaning.specs.declared.call.CallState.TheVariants.{Taken}
use Rattle.faaslet_meaning.specs.Lists.{passes_at, changed}
use Rattle.faaslet_meaning.specs.Records.{is_queued, is_open, child_of, takes}
use Rattle.faaslet_meaning.specs.Table as table
use Rattle.faaslet_meaning.specs.Table.{Table, TableOperation, taken, next, finished_state, has_room, child_record, one_more_child, queued_record}
use Rattle.faaslet_meaning.specs.Table.TableOperation.{submit_request, submit, take_next, take_this, finish, look}
use Rattle.turn_cell.specs.declared.view.Entry.{Entry}
use Rattle.turn_cell.specs.History.{Stands}
use Rattle.call_table.specs.Makers.{MakesTable}
use Rattle.call_table.specs.Session.{SessionTable}
use Rattle.call_table.proofs.Counting.{count, count_same, count_push}
use Rattle.call_table.proofs.Held.{changed_set}
use Rattle.call_table.proofs.Mine.{next_is_queued, submit_leaves, next_leaves}
use Rattle.call_table.proofs.Places.{passes_there}
use Rattle.session_meaning.proofs.Later.{push_before}
use Rattle.session_meaning.proofs.ChildrenThere.{child_found}
use Rattle.session_meaning.proofs.Tables.{get_end}
use Rattle.call_service.specs.Grown.{Later, Grown}
use Rattle.call_service.proofs.Further.{child_stays, grown_more, grown_push, set_grown, parent_later, state_later, queued_goes_on, finish_goes_on}
use Rattle.told_asks.specs.Counts.{CountsChildren}

pub none_counted : CountsChildren []
none_counted = record { have = λ n r e child few. let no : ⊥ = cc in absurd no; few = λ n r e. let no : ⊥ = cc in absurd no }

-- ---- One record changed, or one put behind.

set_back : {A : Type 0} (xs : List A) (n : ℕ) (x : A) (m : ℕ) (y : A) → slice_get (slice_set xs n x) m ≡ Some y → (slice_get xs m ≡ Some y) ⊎ ((m ≡ n) × (y ≡ x))
set_back [] n x m y e = inl e
set_back (z ∷ xs) zero x zero y e = inr (refl, same_Some y x (sym e))
set_back (z ∷ xs) zero x (suc m) y e = inl e
set_back (z ∷ xs) (suc n) x zero y e = inl e
set_back (z ∷ xs) (suc n) x (suc m) y e = by (set_back xs n x m y e)
  where
    by : (slice_get xs m ≡ Some y) ⊎ ((m ≡ n) × (y ≡ x)) → (slice_get xs m ≡ Some y) ⊎ ((suc m ≡ suc n) × (y ≡ x))
    by (inl h) = inl h
    by (inr h) = inr (ap suc h.0, h.1)

abbrev calls : List CallRecord → ℕ → ℕ
calls rs q = count (λ r. r.request == q) rs

set_calls : (rs : List CallRecord) (n : ℕ) (r x : CallRecord) (q : ℕ) → slice_get rs n ≡ Some r → x.request ≡ r.request → calls (slice_set rs n x) q ≡ calls rs q
set_calls rs n r x q e same = count_same (λ y. y.request == q) rs n r x e (ap (λ k. k == q) same)

push_calls : (rs : List CallRecord) (x : CallRecord) (q : ℕ) → calls rs q ≤ calls (rs ++ x ∷ []) q
push_calls rs x q = by (x.request == q) (count_push (λ y. y.request == q) rs x (x.request == q) refl)
  where
    by : (b : Bool) → calls (rs ++ x ∷ []) q ≡ cond b (suc (calls rs q)) (calls rs q) → calls rs q ≤ calls (rs ++ x ∷ []) q
    by true e = omega arith
    by false e = omega arith

last_calls : (rs : List CallRecord) (x : CallRecord) (q : ℕ) → x.request ≡ q → calls (rs ++ x ∷ []) q ≡ suc (calls rs q)
last_calls rs x q e = count_push (λ y. y.request == q) rs x true (eq-eqb x.request q e)

-- what a child that was there is later
kept_child : (rs xs : List CallRecord) (n child : ℕ) → Grown rs xs → (k : ℕ) × (child_of rs n child ≡ Some k) → (k : ℕ) × (child_of xs n child ≡ Some k)
kept_child rs xs n child g c = (c.0, child_stays n child c.0 rs xs g c.1)

set_counts : (rs : List CallRecord) (n : ℕ) (r x : CallRecord) → slice_get rs n ≡ Some r → Later r x → x.children ≡ r.children → CountsChildren rs → CountsChildren (slice_set rs n x)
set_counts rs n r x e later same c = record {
  have = λ m y at child low. have m y child low (set_back rs n x m y at);
  few = λ m y at. few m y (set_back rs n x m y at);
}
  where
    grown : Grown rs (slice_set rs n x)
    grown = set_grown rs n r x e later

    have : (m : ℕ) (y : CallRecord) (child : ℕ) → child < y.children → (slice_get rs m ≡ Some y) ⊎ ((m ≡ n) × (y ≡ x)) → (k : ℕ) × (child_of (slice_set rs n x) m child ≡ Some k)
    have m y child low (inl h) = kept_child rs (slice_set rs n x) m child grown (c.have m y h child low)
    have m y child low (inr h) =
        let at : slice_get rs m ≡ Some r = ap (slice_get rs) h.0 ∙ e in
        let number : y.children ≡ r.children = ap (λ (z : CallRecord). z.children) h.1 ∙ same in
        kept_child rs (slice_set rs n x) m child grown (c.have m r at child (subst (λ k. child < k) number low))

    few : (m : ℕ) (y : CallRecord) → (slice_get rs m ≡ Some y) ⊎ ((m ≡ n) × (y ≡ x)) → y.children < calls (slice_set rs n x) y.request
    few m y (inl h) = let a = c.few m y h in let b = set_calls rs n r x y.request e later.request in omega (arith, a, b)
    few m y (inr h) =
        let at : slice_get rs m ≡ Some r = ap (slice_get rs) h.0 ∙ e in
        let a = c.few m r at in
        let b = set_calls rs n r x r.request e later.request in
        let number : y.children ≡ r.children = ap (λ (z : CallRecord). z.children) h.1 ∙ same in
        let request : calls (slice_set rs n x) y.request ≡ calls (slice_set rs n x) r.request = ap (calls (slice_set rs n x)) (ap (λ (z : CallRecord). z.request) h.1 ∙ later.request) in
        omega (arith, a, b, number, request)

push_counts : (rs : List CallRecord) (x : CallRecord) → x.children ≡ 0 → CountsChildren rs → CountsChildren (rs ++ x ∷ [])
push_counts rs x none c = record {
  have = λ m y at child low. have m y child low (push_before rs x m y at);
  few = λ m y at. few m y (push_before rs x m y at);
}
  where
    have : (m : ℕ) (y : CallRecord) (child : ℕ) → child < y.children → (slice_get rs m ≡ Some y) ⊎ ((m ≡ length rs) × (y ≡ x)) → (k : ℕ) × (child_of (rs ++ x ∷ []) m child ≡ Some k)
    have m y child low (inl h) = kept_child rs (rs ++ x ∷ []) m child (grown_push rs (x ∷ [])) (c.have m y h child low)
    have m y child low (inr h) = let number : y.children ≡ 0 = ap (λ (z : CallRecord). z.children) h.1 ∙ none in absurd (omega (arith, low, number))

    few : (m : ℕ) (y : CallRecord) → (slice_get rs m ≡ Some y) ⊎ ((m ≡ length rs) × (y ≡ x)) → y.children < calls (rs ++ x ∷ []) y.request
    few m y (inl h) = let a = c.few m y h in let b = push_calls rs x y.request in omega (arith, a, b)
    few m y (inr h) =
        let number : y.children ≡ 0 = ap (λ (z : CallRecord). z.children) h.1 ∙ none in
        let b = last_calls rs x y.request (sym (ap (λ (z : CallRecord). z.request) h.1)) in
        omega (arith, number, b)

-- ---- One child more.

module _ (t : Table) (parent : ℕ) (p : CallRecord) (function : ℕ) (input : List ℕ) (e : slice_get t.records parent ≡ Some p) where
  abbrev ys : List CallRecord
  ys = slice_set t.records parent (one_more_child p)

  abbrev x : CallRecord
  x = child_record t parent p function input

  abbrev all : List CallRecord
  all = ys ++ x ∷ []

  more_grown : Grown t.records (slice_set t.records parent (one_more_child p) ++ child_record t parent p function input ∷ [])
  more_grown = grown_more t.records (slice_set t.records parent (one_more_child p)) (slice_set t.records parent (one_more_child p) ++ child_record t parent p function input ∷ [])
      (set_grown t.records parent p (one_more_child p) e (parent_later p)) (grown_push (slice_set t.records parent (one_more_child p)) (child_record t parent p function input ∷ []))

  newest : (k : ℕ) × (child_of (slice_set t.records parent (one_more_child p) ++ child_record t parent p function input ∷ []) parent p.children ≡ Some k)
  newest = child_found (slice_set t.records parent (one_more_child p) ++ child_record t parent p function input ∷ []) parent p.children
      (record { call = length (slice_set t.records parent (one_more_child p)); is = child_record t parent p function input; here = get_end (slice_set t.records parent (one_more_child p)) (child_record t parent p function input) (length (slice_set t.records parent (one_more_child p))) refl; of_parent = refl; number = refl })

  more_counts : CountsChildren t.records → CountsChildren (slice_set t.records parent (one_more_child p) ++ child_record t parent p function input ∷ [])
  more_counts c = record {
    have = λ m y at child low. have m y child low (push_before ys x m y at);
    few = λ m y at. few m y (push_before ys x m y at);
  }
    where
      last : (child : ℕ) → child < p.children + 1 → (b : Bool) → (child == p.children) ≡ b → (k : ℕ) × (child_of all parent child ≡ Some k)
      last child low true same = subst (λ n. (k : ℕ) × (child_of all parent n ≡ Some k)) (sym (eqb_so child p.children same)) newest
        where
          eqb_so : (a b : ℕ) → (a == b) ≡ true → a ≡ b
          eqb_so a b h = grind arith
      last child low false apart = kept_child t.records all parent child more_grown (c.have parent p e child (below child p.children low apart))
        where
          below : (a b : ℕ) → a < b + 1 → (a == b) ≡ false → a < b
          below a b l h = grind arith

      old : (m : ℕ) (y : CallRecord) (child : ℕ) → child < y.children → (slice_get t.records m ≡ Some y) ⊎ ((m ≡ parent) × (y ≡ one_more_child p)) → (k : ℕ) × (child_of all m child ≡ Some k)
      old m y child low (inl h) = kept_child t.records all m child more_grown (c.have m y h child low)
      old m y child low (inr h) =
          subst (λ n. (k : ℕ) × (child_of all n child ≡ Some k)) (sym h.0)
          (last child (subst (λ (z : CallRecord). child < z.children) h.1 low) (child == p.children) refl)

      have : (m : ℕ) (y : CallRecord) (child : ℕ) → child < y.children → (slice_get ys m ≡ Some y) ⊎ ((m ≡ length ys) × (y ≡ x)) → (k : ℕ) × (child_of all m child ≡ Some k)
      have m y child low (inl h) = old m y child low (set_back t.records parent (one_more_child p) m y h)
      have m y child low (inr h) = let number : y.children ≡ 0 = ap (λ (z : CallRecord). z.children) h.1 in absurd (omega (arith, low, number))

      few_old : (m : ℕ) (y : CallRecord) → (slice_get t.records m ≡ Some y) ⊎ ((m ≡ parent) × (y ≡ one_more_child p)) → y.children < calls all y.request
      few_old m y (inl h) =
          let a = c.few m y h in
          let b = set_calls t.records parent p (one_more_child p) y.request e refl in
          let d = push_calls ys x y.request in
          omega (arith, a, b, d)
      few_old m y (inr h) =
          let a = c.few parent p e in
          let b = set_calls t.records parent p (one_more_child p) p.request e refl in
          let d = last_calls ys x p.request refl in
          let number : y.children ≡ p.children + 1 = ap (λ (z : CallRecord). z.children) h.1 in
          let request : calls all y.request ≡ calls all p.request = ap (λ (z : CallRecord). calls all z.request) h.1 in
          omega (arith, a, b, d, number, request)

      few : (m : ℕ) (y : CallRecord) → (slice_get ys m ≡ Some y) ⊎ ((m ≡ length ys) × (y ≡ x)) → y.children < calls all y.request
      few m y (inl h) = few_old m y (set_back t.records parent (one_more_child p) m y h)
      few m y (inr h) =
          let number : y.children ≡ 0 = ap (λ (z : CallRecord). z.children) h.1 in
          let b = last_calls ys x y.request (sym (ap (λ (z : CallRecord). z.request) h.1)) in
          omega (arith, number, b)

-- ---- Operations.

submit_counts : (t : Table) (parent function : ℕ) (input : List ℕ) → CountsChildren t.records → CountsChildren (submit_leaves t parent function input (slice_get t.records parent)).records
submit_counts t parent function input c = by (slice_get t.records parent) refl
  where
    room : (p : CallRecord) → slice_get t.records parent ≡ Some p → (b : Bool) → CountsChildren (cond b (record t { records = changed t.records parent one_more_child ++ child_record t parent p function input ∷ [] }) t).records
    room p e true =
        subst (λ (l : List CallRecord). CountsChildren (l ++ child_record t parent p function input ∷ [])) (sym (changed_set t.records parent p one_more_child e)) (more_counts t parent p function input e c)
    room p e false = c

    by : (o : Option CallRecord) → slice_get t.records parent ≡ o → CountsChildren (submit_leaves t parent function input o).records
    by None e = c
    by (Some p) e = room p e (has_room t p function input)

take_counts : (t : Table) (call host bench : ℕ) → passes_at (λ r. is_queued r.state) t.records call ≡ true → CountsChildren t.records → CountsChildren (taken t call host bench).records
take_counts t call host bench q c =
    let p = passes_there (λ r. is_queued r.state) t.records call q in
    let s : CallState = Taken host bench (takes t.records) in
    subst CountsChildren (sym (changed_set t.records call p.item (λ r. record r { state = s }) p.there))
    (set_counts t.records call p.item (record p.item { state = s }) p.there (state_later p.item s (queued_goes_on p.item.state s p.passes)) refl c)

next_counts : (t : Table) (host bench : ℕ) → CountsChildren t.records → CountsChildren (next_leaves t host bench (next t host)).records
next_counts t host bench c = by (next t host) refl
  where
    by : (o : Option ℕ) → next t host ≡ o → CountsChildren (next_leaves t host bench o).records
    by None e = c
    by (Some call) e = take_counts t call host bench (next_is_queued t host call e) c

after_counts : (t : Table) (maker : ℕ) (o : TableOperation) → table.may t maker o ≡ true → CountsChildren t.records → CountsChildren (table.after t maker o).records
after_counts t maker (submit_request function host input) may c = push_counts t.records (queued_record t function host input) refl c
after_counts t maker (submit parent function input) may c = submit_counts t parent function input c
after_counts t maker (take_next host bench) may c = next_counts t host bench c
after_counts t maker (take_this call host bench) may c = take_counts t call host bench may c
after_counts t maker (finish call o used output counts) may c =
    let p = passes_there (λ r. is_open r.state) t.records call may in
    let s : CallState = finished_state p.item.state o used output counts in
    subst CountsChildren (sym (changed_set t.records call p.item (λ r. record r { state = finished_state r.state o used output counts }) p.there))
    (set_counts t.records call p.item (record p.item { state = s }) p.there (state_later p.item s (finish_goes_on p.item.state o used output counts)) refl c)
after_counts t maker (look parent child) may c = c

pub kept_counts : (s t : SessionTable) (list : List Entry) → Stands MakesTable s list t → CountsChildren s.table.records → CountsChildren t.table.records
kept_counts s t [] st c = subst (λ (u : SessionTable). CountsChildren u.table.records) st c
kept_counts s t (e ∷ es) st c =
    let m = st.1.table in
    kept_counts st.0 t es st.2 (subst (λ (u : Table). CountsChildren u.records) (sym m.after_so) (after_counts s.table e.maker m.operation m.may_stand c))
