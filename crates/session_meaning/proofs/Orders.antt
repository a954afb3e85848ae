-- In a legal history of the table no two calls are taken in one place of the order.
use Rattle.std.proofs.Common.{◌≡◌, ◌⊎◌, inl, inr, ℕ, zero, suc, ◌+◌, ◌<◌, Bool, true, false, cond, not, List, [], ◌∷◌, ◌++◌, Option, Some, None, refl, sym, ap, ◌∙◌, map, length, slice_get, option_map, filter, is_some, slice_set, subst, arith}
use Rattle.std.proofs.lemmas.List.{map-append}
use Rattle.faaslet_meaning.specs.declared.call.CallRecord.{CallRecord}
use Rattle.faaslet_meaning.specs.declared.call.CallState.{CallState}
use Rattle.faaslet_meaning.specs.declared.call.CallState.TheVariants.{Queued, Taken, Finished}
use Rattle.faaslet_meaning.specs.declared.outcome.Outcome.{Outcome}
use Rattle.faaslet_meaning.specs.Lists.{changed, passes_at}
use Rattle.faaslet_meaning.specs.Records.{is_queued, takes}
use Rattle.faaslet_meaning.specs.Table as table
use Rattle.faaslet_meaning.specs.Table.{Table, TableOperation, has_room, queued_record, child_record, one_more_child, finished_state, taken, next, submit_request, submit, take_next, take_this, finish, look}
use Rattle.faaslet_meaning.specs.History.{History, Legal, left, table_rules}
use Rattle.session_meaning.proofs.Invariants.{changed_back, Back, push_back}
use Rattle.session_meaning.proofs.Kept.{changed_map, changed_id, get_map}
use Rattle.session_meaning.proofs.HistoryCuts.{next_queued}
use Rattle.session_meaning.proofs.Later.{submitted_by}

-- the place of a call in the order, where it was taken
abbrev pub mark : CallState → Option ℕ
mark Queued = None
mark (Taken host bench order) = Some order
mark (Finished host bench order o used output counts) = Some order

abbrev pub marks : List CallRecord → List (Option ℕ)
marks rs = map (λ r. mark r.state) rs

abbrev somes : List (Option ℕ) → ℕ
somes ms = length (filter is_some ms)

pub record InOrder (ms : List (Option ℕ)) : Type 0 where
  pub apart : (m n order : ℕ) → slice_get ms m ≡ Some (Some order) → slice_get ms n ≡ Some (Some order) → m ≡ n
  pub below : (m order : ℕ) → slice_get ms m ≡ Some (Some order) → order < somes ms

takes_so : (rs : List CallRecord) → takes rs ≡ somes (marks rs)
takes_so [] = refl
takes_so (r ∷ rs) = by r.state (takes_so rs)
  where
    by : (s : CallState) → takes rs ≡ somes (marks rs) → length (cond (not (is_queued s)) (r ∷ filter (λ r. not (is_queued r.state)) rs) (filter (λ r. not (is_queued r.state)) rs)) ≡ length (cond (is_some (mark s)) (mark s ∷ filter is_some (marks rs)) (filter is_some (marks rs)))
    by Queued e = e
    by (Taken host bench order) e = ap suc e
    by (Finished host bench order o used output counts) e = ap suc e

-- ---- One place more, or one that is taken.

somes_push : (ms : List (Option ℕ)) → somes (ms ++ None ∷ []) ≡ somes ms
somes_push [] = refl
somes_push (None ∷ ms) = somes_push ms
somes_push (Some n ∷ ms) = ap suc (somes_push ms)

some_same : {A : Type 0} {x y : A} → Some x ≡ Some y → x ≡ y
some_same e = cc

push_in : (ms : List (Option ℕ)) → InOrder ms → InOrder (ms ++ None ∷ [])
push_in ms h =
    record {
      apart = λ m n order e f. apart m n order (push_back ms None m (Some order) e) (push_back ms None n (Some order) f);
      below = λ m order e. below m order (push_back ms None m (Some order) e);
    }
  where
    apart : (m n order : ℕ) → (slice_get ms m ≡ Some (Some order)) ⊎ (Some order ≡ None) → (slice_get ms n ≡ Some (Some order)) ⊎ (Some order ≡ None) → m ≡ n
    apart m n order (inl e) (inl f) = h.apart m n order e f
    apart m n order (inr e) f = let no : ⊥ = cc in absurd no
    apart m n order e (inr f) = let no : ⊥ = cc in absurd no

    below : (m order : ℕ) → (slice_get ms m ≡ Some (Some order)) ⊎ (Some order ≡ None) → order < somes (ms ++ None ∷ [])
    below m order (inl e) = let l = h.below m order e in let same = somes_push ms in omega (arith, l, same)
    below m order (inr e) = let no : ⊥ = cc in absurd no

changed_more : {A : Type 0} (x : A) (xs : List A) (n : ℕ) (f : A → A) → changed (x ∷ xs) (suc n) f ≡ x ∷ changed xs n f
changed_more {A} x xs n f = by (slice_get xs n)
  where
    by : (o : Option A) → elim o [ None ↦ x ∷ xs | Some y ↦ x ∷ slice_set xs n (f y) ] ≡ x ∷ elim o [ None ↦ xs | Some y ↦ slice_set xs n (f y) ]
    by None = refl
    by (Some y) = refl

somes_taken : (ms : List (Option ℕ)) (n order : ℕ) → slice_get ms n ≡ Some None → somes (changed ms n (λ x. Some order)) ≡ somes ms + 1
somes_taken [] n order e = let no : ⊥ = cc in absurd no
somes_taken (x ∷ ms) zero order e = let same : x ≡ None = cc in sym (ap (λ y. length (cond (is_some y) (y ∷ filter is_some ms) (filter is_some ms)) + 1) same ∙ omega arith)
somes_taken (None ∷ ms) (suc n) order e = ap somes (changed_more None ms n (λ x. Some order)) ∙ somes_taken ms n order e
somes_taken (Some m ∷ ms) (suc n) order e = ap somes (changed_more (Some m) ms n (λ x. Some order)) ∙ (let k = somes_taken ms n order e in omega (arith, k))

take_in : (ms : List (Option ℕ)) (call : ℕ) → slice_get ms call ≡ Some None → InOrder ms → InOrder (changed ms call (λ x. Some (somes ms)))
take_in ms call queued h =
    record {
      apart = λ m n order e f. apart m n order (changed_back ms call change m (Some order) e) (changed_back ms call change n (Some order) f);
      below = λ m order e. below m order (changed_back ms call change m (Some order) e);
    }
  where
    change : Option ℕ → Option ℕ
    change x = Some (somes ms)

    newest : (order : ℕ) (y : Option ℕ) → Some order ≡ change y → order ≡ somes ms
    newest order y e = some_same e

    apart : (m n order : ℕ) → Back ms call change m (Some order) → Back ms call change n (Some order) → m ≡ n
    apart m n order (inl e) (inl f) = h.apart m n order e f
    apart m n order (inr e) (inr f) = e.0 ∙ sym f.0
    apart m n order (inl e) (inr f) = let l = h.below m order e in let same = newest order f.1.0 f.1.2 in let no : ⊥ = omega (arith, l, same) in absurd no
    apart m n order (inr e) (inl f) = let l = h.below n order f in let same = newest order e.1.0 e.1.2 in let no : ⊥ = omega (arith, l, same) in absurd no

    below : (m order : ℕ) → Back ms call change m (Some order) → order < somes (changed ms call change)
    below m order (inl e) = let l = h.below m order e in let more = somes_taken ms call (somes ms) queued in omega (arith, l, more)
    below m order (inr e) = let same = newest order e.1.0 e.1.2 in let more = somes_taken ms call (somes ms) queued in omega (arith, same, more)

-- ---- Each operation.

abbrev Fine : Table → Type 0
Fine t = InOrder (marks t.records)

pushed : (rs : List CallRecord) (x : CallRecord) → x.state ≡ Queued → InOrder (marks rs) → InOrder (marks (rs ++ x ∷ []))
pushed rs x queued h = subst InOrder (sym (map-append (λ r. mark r.state) rs (x ∷ []) ∙ ap (λ s. marks rs ++ mark s ∷ []) queued)) (push_in (marks rs) h)

alike : (rs : List CallRecord) (n : ℕ) (f : CallRecord → CallRecord) → ((r : CallRecord) → mark (f r).state ≡ mark r.state) → marks (changed rs n f) ≡ marks rs
alike rs n f same = changed_map (λ r. mark r.state) rs n f (λ x. x) (λ r e. same r) ∙ changed_id (marks rs) n

marked_none : (rs : List CallRecord) (call : ℕ) → passes_at (λ r. is_queued r.state) rs call ≡ true → slice_get (marks rs) call ≡ Some None
marked_none rs call h = get_map (λ r. mark r.state) rs call ∙ by (slice_get rs call) h
  where
    queued : (s : CallState) → is_queued s ≡ true → mark s ≡ None
    queued Queued k = refl
    queued (Taken host bench order) k = let no : ⊥ = cc in absurd no
    queued (Finished host bench order o used output counts) k = let no : ⊥ = cc in absurd no

    by : (o : Option CallRecord) → elim o as (λ o. Bool) [ None ↦ false | Some r ↦ is_queued r.state ] ≡ true → option_map (λ r. mark r.state) o ≡ Some None
    by None k = let no : ⊥ = cc in absurd no
    by (Some r) k = ap (λ m. Some m) (queued r.state k)

taken_fine : (t : Table) (call host bench : ℕ) → passes_at (λ r. is_queued r.state) t.records call ≡ true → Fine t → Fine (taken t call host bench)
taken_fine t call host bench h fine =
    subst InOrder (sym (changed_map (λ r. mark r.state) t.records call (λ r. record r { state = Taken host bench (takes t.records) }) (λ x. Some (somes (marks t.records))) (λ r e. ap (λ n. Some n) (takes_so t.records))))
    (take_in (marks t.records) call (marked_none t.records call h) fine)

finished_mark : (s : CallState) (o : Outcome) (used : ℕ) (output counts : List ℕ) → mark (finished_state s o used output counts) ≡ mark s
finished_mark Queued o used output counts = refl
finished_mark (Taken host bench order) o used output counts = refl
finished_mark (Finished host bench order x n ys zs) o used output counts = refl

after_fine : (t : Table) (m : ℕ) (op : TableOperation) → table.may t m op ≡ true → Fine t → Fine (table.after t m op)
after_fine t m (submit_request f host input) may fine = pushed t.records (queued_record t f host input) refl fine
after_fine t m (submit parent f input) may fine = by (slice_get t.records parent)
  where
    room : (p : CallRecord) (b : Bool) → Fine (cond b (record t { records = changed t.records parent one_more_child ++ child_record t parent p f input ∷ [] }) t)
    room p true = pushed (changed t.records parent one_more_child) (child_record t parent p f input) refl (subst InOrder (sym (alike t.records parent one_more_child (λ r. refl))) fine)
    room p false = fine

    by : (o : Option CallRecord) → Fine (submitted_by t parent f input o)
    by None = fine
    by (Some p) = room p (has_room t p f input)
after_fine t m (take_next host bench) may fine = by (next t host) refl
  where
    by : (o : Option ℕ) → next t host ≡ o → Fine (elim o as (λ o. Table) [ None ↦ t | Some call ↦ taken t call host bench ])
    by None e = fine
    by (Some call) e = taken_fine t call host bench (next_queued t host call e) fine
after_fine t m (take_this call host bench) may fine = taken_fine t call host bench may fine
after_fine t m (finish call o used output counts) may fine = subst InOrder (sym (alike t.records call _ (λ r. finished_mark r.state o used output counts))) fine
after_fine t m (look parent child) may fine = fine

pub history_in_order : (t : Table) (es : History TableOperation) → Legal table_rules t es → Fine t → Fine (left table_rules t es)
history_in_order t [] legal fine = fine
history_in_order t (e ∷ es) legal fine = history_in_order (table.after t e.0 e.1) es legal.1 (after_fine t e.0 e.1 legal.0 fine)
