-- What is kept of each request stays its own, where a record is changed or put behind the others.
use Rattle.std.proofs.Common.{◌≡◌, ◌≢◌, ℕ, zero, suc, ◌+◌, ◌<◌, ◌≤◌, ◌^◌, List, [], ◌∷◌, ◌++◌, length, Bool, true, false, cond, Some, filter, slice_get, slice_set, get_or, inl, inr, refl, sym, ap, subst, ◌∙◌, arith, ne_eqb, eq-eqb}
use mathlib.Core.Logic.{dite}
use native.Mathlib.Decide.{ℕ_discrete}
use Rattle.std.specs.Prelude.{◌==◌}
use Rattle.std.proofs.lemmas.Bool.{cases_lt}
use Rattle.std.proofs.lemmas.List.{length_push, length-set, get_or_past, get_or_push, get_or-set_same, get_or-set_other}
use Rattle.std.proofs.lemmas.List.Elements.{filter-append}
use Rattle.std.proofs.lemmas.Option.{same_Some}
use Rattle.faaslet_meaning.specs.declared.call.CallRecord.{CallRecord}
use Rattle.faaslet_meaning.specs.declared.call.CallState.TheVariants.{Taken}
use Rattle.faaslet_meaning.specs.declared.outcome.Outcome.{Outcome}
use Rattle.faaslet_meaning.specs.Lists.{total, passes_at, changed}
use Rattle.faaslet_meaning.specs.Records.{is_queued, is_open, calls_of, bytes_of, takes}
use Rattle.faaslet_meaning.specs.Table.{Table, taken, finished_state, one_more_child, queued_record, callable, call_limit, byte_limit}
use Rattle.call_table.specs.Chains.{ChainsFit, ChainIs, chain_at}
use Rattle.call_table.specs.Parent.{IsParent}
use Rattle.call_table.specs.Session.{came}
use Rattle.call_table.specs.declared.chains.Chain.{Chain}
use Rattle.call_table.specs.declared.chains.Chains.{Chains}
use Rattle.call_table.specs.declared.store.Parent.{Parent}
use Rattle.call_table.proofs.Counting.{count_same, count_push, some_counted}
use Rattle.call_table.proofs.Held.{changed_set}
use Rattle.call_table.proofs.Places.{passes_there, passes_so}

-- ---- The sum over the items that pass a test.

abbrev sum_of : {A : Type 0} → (A → ℕ) → (A → Bool) → List A → ℕ
sum_of f test xs = total f (filter test xs)

one : {A : Type 0} (f : A → ℕ) (test : A → Bool) (x : A) (xs : List A) (b : Bool) → test x ≡ b → sum_of f test (x ∷ xs) ≡ cond b (f x + sum_of f test xs) (sum_of f test xs)
one f test x xs true e = rw e refl
one f test x xs false e = rw e refl

sum_same : {A : Type 0} (f : A → ℕ) (test : A → Bool) (xs : List A) (n : ℕ) (x y : A) → slice_get xs n ≡ Some x → test y ≡ test x → f y ≡ f x → sum_of f test (slice_set xs n y) ≡ sum_of f test xs
sum_same f test [] n x y e h k = let no : ⊥ = cc in absurd no
sum_same f test (z ∷ xs) zero x y e h k =
    let s = same_Some z x e in
    one f test y xs (test x) h ∙ ap (λ m. cond (test x) (m + sum_of f test xs) (sum_of f test xs)) (k ∙ sym (ap f s)) ∙ sym (one f test z xs (test x) (ap test s))
sum_same f test (z ∷ xs) (suc n) x y e h k =
    one f test z (slice_set xs n y) (test z) refl ∙ ap (λ m. cond (test z) (f z + m) m) (sum_same f test xs n x y e h k) ∙ sym (one f test z xs (test z) refl)

total_append : {A : Type 0} (f : A → ℕ) (xs ys : List A) → total f (xs ++ ys) ≡ total f xs + total f ys
total_append f [] ys = omega arith
total_append f (x ∷ xs) ys = let r = total_append f xs ys in omega arith

sum_push : {A : Type 0} (f : A → ℕ) (test : A → Bool) (xs : List A) (x : A) (b : Bool) → test x ≡ b → sum_of f test (xs ++ x ∷ []) ≡ sum_of f test xs + cond b (f x) 0
sum_push f test xs x b e =
    ap (total f) (filter-append test xs (x ∷ []))
    ∙ total_append f (filter test xs) (filter test (x ∷ []))
    ∙ ap (λ m. sum_of f test xs + m) (last b e)
  where
    last : (b : Bool) → test x ≡ b → sum_of f test (x ∷ []) ≡ cond b (f x) 0
    last true h = one f test x [] true h ∙ (let z : f x + 0 ≡ f x = omega arith in z)
    last false h = one f test x [] false h

-- ---- The chains.

abbrev size : CallRecord → ℕ
size r = length r.input + r.room

abbrev of_request : ℕ → CallRecord → Bool
of_request request r = r.request == request

pub no_chains : (c : Chains) → c.kept.items ≡ [] → ChainsFit [] c
no_chains c e = record {
  many = ap length e;
  each = λ q. subst (λ k. ChainIs [] q (chain_at k q)) (sym e) (record { calls_so = refl; bytes_so = refl; within = omega arith });
}

pub chains_kept : (rs : List CallRecord) (c d : Chains) → d.kept.items ≡ c.kept.items → ChainsFit rs c → ChainsFit rs d
chains_kept rs c d e h = record {
  many = ap length e ∙ h.many;
  each = λ q. subst (λ k. ChainIs rs q (chain_at k q)) (sym e) (h.each q);
}

-- a change that leaves the request, the depth, the input and the room
pub chains_same : (rs : List CallRecord) (c : Chains) (n : ℕ) (r x : CallRecord) → slice_get rs n ≡ Some r → x.request ≡ r.request → x.depth ≡ r.depth → size x ≡ size r → ChainsFit rs c → ChainsFit (slice_set rs n x) c
chains_same rs c n r x e q d s h = record {
  many = h.many ∙ sym (count_same (λ y. y.depth == 1) rs n r x e (ap (λ k. k == 1) d));
  each = λ request. record {
    calls_so = (h.each request).calls_so ∙ sym (count_same (of_request request) rs n r x e (ap (λ k. k == request) q));
    bytes_so = (h.each request).bytes_so ∙ sym (sum_same size (of_request request) rs n r x e (ap (λ k. k == request) q) s);
    within = (h.each request).within;
  };
}

-- a record has a request that came
pub request_there : (rs : List CallRecord) (c : Chains) (n : ℕ) (r : CallRecord) → ChainsFit rs c → slice_get rs n ≡ Some r → r.request < length c.kept.items
request_there rs c n r h e =
    let some = some_counted (of_request r.request) rs n (passes_so (of_request r.request) rs n r e ∙ eq-eqb r.request r.request refl) in
    let calls = (h.each r.request).calls_so in
    elim (cases_lt r.request (length c.kept.items)) [
      | inl l ↦ l
      | inr g ↦ let none = ap (λ (k : Chain). k.calls) (get_or_past c.kept.items r.request (record { calls = 0; bytes = 0 }) g) in absurd (omega arith)
    ]

-- a record behind the others adds itself to what is kept of its request
module _ (rs : List CallRecord) (c d : Chains) (r : CallRecord) (h : ChainsFit rs c) (others : (q : ℕ) → q ≢ r.request → chain_at d.kept.items q ≡ chain_at c.kept.items q)
    (calls : (chain_at d.kept.items r.request).calls ≡ (chain_at c.kept.items r.request).calls + 1) (bytes : (chain_at d.kept.items r.request).bytes ≡ (chain_at c.kept.items r.request).bytes + size r)
    (few : (chain_at d.kept.items r.request).bytes ≤ byte_limit) where
  apart : (q : ℕ) → q ≢ r.request → of_request q r ≡ false
  apart q ne = ne_eqb r.request q (λ s. ne (sym s))

  here : ChainIs (rs ++ r ∷ []) r.request (chain_at d.kept.items r.request)
  here =
      let all = eq-eqb r.request r.request refl in
      let old = h.each r.request in
      let a = old.calls_so in
      let b = count_push (of_request r.request) rs r true all in
      record { calls_so = omega (arith, calls); bytes_so = bytes ∙ ap (λ n. n + size r) old.bytes_so ∙ sym (sum_push size (of_request r.request) rs r true all); within = few }

  elsewhere : (q : ℕ) → q ≢ r.request → ChainIs (rs ++ r ∷ []) q (chain_at d.kept.items q)
  elsewhere q ne =
      let old : ChainIs rs q (chain_at d.kept.items q) = subst (ChainIs rs q) (sym (others q ne)) (h.each q) in
      let none : bytes_of (rs ++ r ∷ []) q ≡ bytes_of rs q = sum_push size (of_request q) rs r false (apart q ne) ∙ (let z : bytes_of rs q + 0 ≡ bytes_of rs q = omega arith in z) in
      record { calls_so = old.calls_so ∙ sym (count_push (of_request q) rs r false (apart q ne)); bytes_so = old.bytes_so ∙ sym none; within = old.within }

  chains_pushed : length d.kept.items ≡ came (rs ++ r ∷ []) → ChainsFit (rs ++ r ∷ []) d
  chains_pushed many = record {
    many = many;
    each = λ q. dite (ℕ_discrete q r.request) (λ e. subst (λ k. ChainIs (rs ++ r ∷ []) k (chain_at d.kept.items k)) (sym e) here) (elsewhere q);
  }

push_other : {A : Type 0} (xs : List A) (y d : A) (i : ℕ) → i ≢ length xs → get_or (xs ++ y ∷ []) i d ≡ get_or xs i d
push_other [] y d zero ne = absurd (ne refl)
push_other [] y d (suc i) ne = refl
push_other (x ∷ xs) y d zero ne = refl
push_other (x ∷ xs) y d (suc i) ne = push_other xs y d i (λ e. ne (ap suc e))

-- ---- The operations of the table.

-- a request comes
pub chains_started : (rs : List CallRecord) (c d : Chains) (r : CallRecord) (bytes : ℕ) → ChainsFit rs c → r.request ≡ came rs → (r.depth == 1) ≡ true → bytes ≡ size r → bytes ≤ byte_limit
    → d.kept.items ≡ c.kept.items ++ record { calls = 1; bytes = bytes } ∷ [] → ChainsFit (rs ++ r ∷ []) d
chains_started rs c d r bytes h q one_deep s few is =
    let none : Chain = record { calls = 0; bytes = 0 } in
    let new : Chain = record { calls = 1; bytes = bytes } in
    let at : r.request ≡ length c.kept.items = q ∙ sym h.many in
    let here : chain_at d.kept.items r.request ≡ new = ap (λ k. chain_at k r.request) is ∙ get_or_push c.kept.items new none r.request (sym at) in
    let before : chain_at c.kept.items r.request ≡ none = get_or_past c.kept.items r.request none (omega arith) in
    chains_pushed rs c d r h
    (λ k ne. ap (λ l. chain_at l k) is ∙ push_other c.kept.items new none k (λ e. ne (e ∙ sym at)))
    (ap (λ (k : Chain). k.calls) here ∙ sym (ap (λ (k : Chain). k.calls + 1) before))
    (ap (λ (k : Chain). k.bytes) here ∙ s ∙ (let z : size r ≡ 0 + size r = omega arith in z) ∙ sym (ap (λ (k : Chain). k.bytes + size r) before))
    (subst (λ (k : Chain). k.bytes ≤ byte_limit) (sym here) few)
    (let l = length_push c.kept.items new in let k = ap length is in let m = h.many in let n = count_push (λ y. y.depth == 1) rs r true one_deep in omega arith)

-- a request has one call more
pub chains_added : (rs : List CallRecord) (c d : Chains) (r : CallRecord) (bytes : ℕ) → ChainsFit rs c → r.request < length c.kept.items → (r.depth == 1) ≡ false → bytes ≡ size r → bytes_of rs r.request + bytes ≤ byte_limit
    → d.kept.items ≡ slice_set c.kept.items r.request (record { calls = (chain_at c.kept.items r.request).calls + 1; bytes = (chain_at c.kept.items r.request).bytes + bytes }) → ChainsFit (rs ++ r ∷ []) d
chains_added rs c d r bytes h there deeper s few is =
    let none : Chain = record { calls = 0; bytes = 0 } in
    let old = chain_at c.kept.items r.request in
    let new : Chain = record { calls = old.calls + 1; bytes = old.bytes + bytes } in
    let here : chain_at d.kept.items r.request ≡ new = ap (λ k. chain_at k r.request) is ∙ get_or-set_same c.kept.items r.request new none there in
    let kept = (h.each r.request).bytes_so in
    let fits : old.bytes + bytes ≤ byte_limit = subst (λ n. n + bytes ≤ byte_limit) (sym kept) few in
    chains_pushed rs c d r h
    (λ k ne. ap (λ l. chain_at l k) is ∙ get_or-set_other c.kept.items r.request k new none ne)
    (ap (λ (k : Chain). k.calls) here)
    (ap (λ (k : Chain). k.bytes) here ∙ ap (λ n. old.bytes + n) s)
    (subst (λ (k : Chain). k.bytes ≤ byte_limit) (sym here) fits)
    (ap length is ∙ length-set c.kept.items r.request new ∙ h.many ∙ sym (count_push (λ y. y.depth == 1) rs r false deeper))

pub chains_take : (t : Table) (c : Chains) (call host bench : ℕ) → ChainsFit t.records c → passes_at (λ r. is_queued r.state) t.records call ≡ true → ChainsFit (taken t call host bench).records c
chains_take t c call host bench h queued =
    let p = passes_there (λ r. is_queued r.state) t.records call queued in
    subst (λ rs. ChainsFit rs c) (sym (changed_set t.records call p.item (λ r. record r { state = Taken host bench (takes t.records) }) p.there))
    (chains_same t.records c call p.item (record p.item { state = Taken host bench (takes t.records) }) p.there refl refl refl h)

pub chains_finish : (t : Table) (c : Chains) (call : ℕ) (o : Outcome) (used : ℕ) (output counts : List ℕ) → ChainsFit t.records c → passes_at (λ r. is_open r.state) t.records call ≡ true
    → ChainsFit (changed t.records call (λ r. record r { state = finished_state r.state o used output counts })) c
chains_finish t c call o used output counts h opened =
    let p = passes_there (λ r. is_open r.state) t.records call opened in
    subst (λ rs. ChainsFit rs c) (sym (changed_set t.records call p.item (λ r. record r { state = finished_state r.state o used output counts }) p.there))
    (chains_same t.records c call p.item (record p.item { state = finished_state p.item.state o used output counts }) p.there refl refl refl h)

-- a child: its parent has one more, and it stands behind all
module _ (t : Table) (p : Parent) (of : IsParent t p) (c : Chains) (h : ChainsFit t.records c) where
  pub parent_request : p.request < length c.kept.items
  parent_request = subst (λ q. q < length c.kept.items) (sym of.request_so) (request_there t.records c p.call of.of h of.there)

  pub chain_few : length (calls_of t.records p.request) < call_limit → (chain_at c.kept.items p.request).calls < 2 ^ 31
  chain_few l = let a = (h.each p.request).calls_so in omega arith

  pub chain_room : (bytes : ℕ) → bytes_of t.records p.request + bytes ≤ byte_limit → (chain_at c.kept.items p.request).bytes + bytes ≤ byte_limit
  chain_room bytes l = subst (λ n. n + bytes ≤ byte_limit) (sym ((h.each p.request).bytes_so)) l

  pub chains_child : (d : Chains) (function bytes : ℕ) (input : List ℕ) → bytes ≡ length input + (callable t function).room → bytes_of t.records p.request + bytes ≤ byte_limit
      → d.kept.items ≡ slice_set c.kept.items p.request (record { calls = (chain_at c.kept.items p.request).calls + 1; bytes = (chain_at c.kept.items p.request).bytes + bytes })
      → ChainsFit (changed t.records p.call one_more_child ++ record (queued_record t function p.host input) { request = p.request; parent = Some p.call; child = p.child; depth = p.depth + 1 } ∷ []) d
  chains_child d function bytes input s few is =
      let new = one_more_child of.of in
      let rs = slice_set t.records p.call new in
      let made : CallRecord = record (queued_record t function p.host input) { request = p.request; parent = Some p.call; child = p.child; depth = p.depth + 1 } in
      let deep = of.deep in
      let mid : ChainsFit rs c = chains_same t.records c p.call of.of new of.there refl refl refl h in
      let same : bytes_of rs p.request ≡ bytes_of t.records p.request = sum_same size (of_request p.request) t.records p.call of.of new of.there refl refl in
      subst (λ xs. ChainsFit (xs ++ made ∷ []) d) (sym (changed_set t.records p.call of.of one_more_child of.there))
      (chains_added rs c d made bytes mid parent_request (ne_eqb (p.depth + 1) 1 (λ e. omega arith)) s (omega arith) is)
