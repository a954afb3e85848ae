-- The records of calls: what each operation on the table keeps of them. No request has fewer calls than one and the
-- children of any of its calls, no output is too long, and a finished child stays finished.
use Rattle.std.proofs.Common.{◌≡◌, ◌⊎◌, inl, inr, ℕ, zero, suc, ◌+◌, ◌≤◌, List, [], ◌∷◌, ◌++◌, length, refl, sym, subst, ap, ◌∙◌, Bool, true, false, cond, Option, Some, None, slice_get, arith}
use Rattle.std.proofs.lemmas.Bool.{eq-eqb}
use Rattle.std.proofs.lemmas.List.{append_assoc, length-append}
use Rattle.std.specs.Prelude.{option_and_then, ◌==◌, ◌&&◌}
use Rattle.faaslet_meaning.specs.declared.call.CallRecord.{CallRecord}
use Rattle.faaslet_meaning.specs.declared.call.CallState.{CallState}
use Rattle.faaslet_meaning.specs.declared.call.CallState.TheVariants.{Queued, Finished}
use Rattle.faaslet_meaning.specs.declared.outcome.Outcome.{Outcome}
use Rattle.faaslet_meaning.specs.Lists.{first, places_from, changed}
use Rattle.faaslet_meaning.specs.Channels.{Reply}
use Rattle.faaslet_meaning.specs.Call.{output_limit}
use Rattle.faaslet_meaning.specs.Records.{is_child, child_of, calls_of, told_of}
use Rattle.faaslet_meaning.specs.Table.{one_more_child}
use Rattle.session_meaning.proofs.LegalEntries.{changed_next}
use Rattle.session_meaning.proofs.Invariants.{changed_back, push_back}

-- ---- Finished children.

-- the first that passes
abbrev found : {A : Type 0} → (A → Bool) → List A → Option A
found test [] = None
found test (x ∷ xs) = cond (test x) (Some x) (found test xs)

get_behind : {A : Type 0} (ys xs : List A) (x : A) (m : ℕ) → length ys ≡ m → slice_get (ys ++ x ∷ xs) m ≡ Some x
get_behind [] xs x zero e = refl
get_behind [] xs x (suc m) e = let no : ⊥ = omega (arith, e) in absurd no
get_behind (y ∷ ys) xs x zero e = let no : ⊥ = omega (arith, e) in absurd no
get_behind (y ∷ ys) xs x (suc m) e = get_behind ys xs x m (omega (arith, e))

place_found : {A : Type 0} (test : A → Bool) (ys xs : List A) (m : ℕ) → length ys ≡ m → option_and_then (slice_get (ys ++ xs)) (first (places_from m test xs)) ≡ found test xs
place_found test ys [] m e = refl
place_found test ys (x ∷ xs) m e =
    let long = length-append ys (x ∷ []) in
    by (test x) (get_behind ys xs x m e) (ap (λ l. option_and_then (slice_get l) (first (places_from (m + 1) test xs))) (sym (append_assoc ys (x ∷ []) xs)) ∙ place_found test (ys ++ x ∷ []) xs (m + 1) (omega (arith, long, e)))
  where
    by : (b : Bool) → slice_get (ys ++ x ∷ xs) m ≡ Some x → option_and_then (slice_get (ys ++ x ∷ xs)) (first (places_from (m + 1) test xs)) ≡ found test xs → option_and_then (slice_get (ys ++ x ∷ xs)) (first (cond b (m ∷ places_from (m + 1) test xs) (places_from (m + 1) test xs))) ≡ cond b (Some x) (found test xs)
    by true h k = h
    by false h k = k

abbrev tell : Option CallRecord → Reply
tell None = Reply.done
tell (Some r) = told_of r.state

-- what is told of a child
abbrev pub told_child : List CallRecord → ℕ → ℕ → Reply
told_child records parent child = elim (option_and_then (slice_get records) (child_of records parent child)) [ None ↦ Reply.done | Some r ↦ told_of r.state ]

told_found : (records : List CallRecord) (parent child : ℕ) → told_child records parent child ≡ tell (found (is_child parent child) records)
told_found records parent child = ap tell (place_found (is_child parent child) [] records 0 refl)

-- what is told of a finished one is told on
abbrev Stays : Reply → Reply → Type 0
Stays a b = (o : Outcome) (bs : List ℕ) → a ≡ Reply.finished o bs → b ≡ Reply.finished o bs

found_changed : (test : CallRecord → Bool) (rs : List CallRecord) (n : ℕ) (f : CallRecord → CallRecord) → ((r : CallRecord) → test (f r) ≡ test r) → ((r : CallRecord) → slice_get rs n ≡ Some r → Stays (told_of r.state) (told_of (f r).state)) → Stays (tell (found test rs)) (tell (found test (changed rs n f)))
found_changed test [] n f same stays o bs e = e
found_changed test (x ∷ rs) zero f same stays o bs e = ap (λ b. tell (cond b (Some (f x)) (found test rs))) (same x) ∙ by (test x) e
  where
    by : (b : Bool) → tell (cond b (Some x) (found test rs)) ≡ Reply.finished o bs → tell (cond b (Some (f x)) (found test rs)) ≡ Reply.finished o bs
    by true h = stays x refl o bs h
    by false h = h
found_changed test (x ∷ rs) (suc n) f same stays o bs e = ap (λ l. tell (found test l)) (changed_next x rs n f) ∙ by (test x) (found_changed test rs n f same stays o bs) e
  where
    by : (b : Bool) → (tell (found test rs) ≡ Reply.finished o bs → tell (found test (changed rs n f)) ≡ Reply.finished o bs) → tell (cond b (Some x) (found test rs)) ≡ Reply.finished o bs → tell (cond b (Some x) (found test (changed rs n f))) ≡ Reply.finished o bs
    by true k h = h
    by false k h = k h

found_more : (test : CallRecord → Bool) (rs more : List CallRecord) → Stays (tell (found test rs)) (tell (found test (rs ++ more)))
found_more test [] more o bs e = let no : ⊥ = cc in absurd no
found_more test (x ∷ rs) more o bs e = by (test x) (found_more test rs more o bs) e
  where
    by : (b : Bool) → (tell (found test rs) ≡ Reply.finished o bs → tell (found test (rs ++ more)) ≡ Reply.finished o bs) → tell (cond b (Some x) (found test rs)) ≡ Reply.finished o bs → tell (cond b (Some x) (found test (rs ++ more))) ≡ Reply.finished o bs
    by true k h = h
    by false k h = k h

-- every finished child of these records is told alike of those
abbrev pub ChildrenStay : List CallRecord → List CallRecord → Type 0
ChildrenStay rs more = (parent child : ℕ) (o : Outcome) (bs : List ℕ) → told_child rs parent child ≡ Reply.finished o bs → told_child more parent child ≡ Reply.finished o bs

-- a change that keeps whose child a record is
abbrev pub SameKin : (CallRecord → CallRecord) → Type 0
SameKin f = (r : CallRecord) → ((f r).parent ≡ r.parent) × ((f r).child ≡ r.child) × ((f r).request ≡ r.request)

child_same : (f : CallRecord → CallRecord) → SameKin f → (parent child : ℕ) (r : CallRecord) → is_child parent child (f r) ≡ is_child parent child r
child_same f kin parent child r =
    ap (λ p. elim p as (λ p. Bool) [ None ↦ false | Some p ↦ (p == parent) && ((f r).child == child) ]) (kin r).0
    ∙ ap (λ n. elim r.parent as (λ p. Bool) [ None ↦ false | Some p ↦ (p == parent) && (n == child) ]) (kin r).1

pub children_changed : (rs : List CallRecord) (n : ℕ) (f : CallRecord → CallRecord) → SameKin f → ((r : CallRecord) (o : Outcome) (bs : List ℕ) → slice_get rs n ≡ Some r → told_of r.state ≡ Reply.finished o bs → told_of (f r).state ≡ Reply.finished o bs) → ChildrenStay rs (changed rs n f)
children_changed rs n f kin stays parent child o bs e =
    told_found (changed rs n f) parent child ∙ found_changed (is_child parent child) rs n f (child_same f kin parent child) (λ r here o bs h. stays r o bs here h) o bs (sym (told_found rs parent child) ∙ e)

pub children_more : (rs more : List CallRecord) → ChildrenStay rs (rs ++ more)
children_more rs more parent child o bs e = told_found (rs ++ more) parent child ∙ found_more (is_child parent child) rs more o bs (sym (told_found rs parent child) ∙ e)

-- ---- The calls of a request.

count_cons : (rs : List CallRecord) (x : CallRecord) (q : ℕ) → length (calls_of rs q) ≤ length (calls_of (x ∷ rs) q)
count_cons rs x q = by (x.request == q)
  where
    by : (b : Bool) → length (calls_of rs q) ≤ length (cond b (x ∷ calls_of rs q) (calls_of rs q))
    by true = omega arith
    by false = omega arith

count_changed : (rs : List CallRecord) (n : ℕ) (f : CallRecord → CallRecord) (q : ℕ) → SameKin f → length (calls_of (changed rs n f) q) ≡ length (calls_of rs q)
count_changed [] n f q kin = refl
count_changed (x ∷ rs) zero f q kin = ap (λ r. length (cond (r == q) (f x ∷ calls_of rs q) (calls_of rs q))) (kin x).2 ∙ by (x.request == q)
  where
    by : (b : Bool) → length (cond b (f x ∷ calls_of rs q) (calls_of rs q)) ≡ length (cond b (x ∷ calls_of rs q) (calls_of rs q))
    by true = refl
    by false = refl
count_changed (x ∷ rs) (suc n) f q kin = ap (λ l. length (calls_of l q)) (changed_next x rs n f) ∙ by (x.request == q) (count_changed rs n f q kin)
  where
    by : (b : Bool) → length (calls_of (changed rs n f) q) ≡ length (calls_of rs q) → length (cond b (x ∷ calls_of (changed rs n f) q) (calls_of (changed rs n f) q)) ≡ length (cond b (x ∷ calls_of rs q) (calls_of rs q))
    by true e = ap suc e
    by false e = e

count_more : (rs : List CallRecord) (x : CallRecord) (q : ℕ) → length (calls_of rs q) ≤ length (calls_of (rs ++ x ∷ []) q)
count_more [] x q = omega arith
count_more (y ∷ rs) x q = by (y.request == q) (count_more rs x q)
  where
    by : (b : Bool) → length (calls_of rs q) ≤ length (calls_of (rs ++ x ∷ []) q) → length (cond b (y ∷ calls_of rs q) (calls_of rs q)) ≤ length (cond b (y ∷ calls_of (rs ++ x ∷ []) q) (calls_of (rs ++ x ∷ []) q))
    by true h = omega (arith, h)
    by false h = h

count_last : (rs : List CallRecord) (x : CallRecord) → length (calls_of rs x.request) + 1 ≤ length (calls_of (rs ++ x ∷ []) x.request)
count_last [] x = by (x.request == x.request) (eq-eqb x.request x.request refl)
  where
    by : (b : Bool) → b ≡ true → 0 + 1 ≤ length (cond b (x ∷ []) [])
    by true e = omega arith
    by false e = let no : ⊥ = cc in absurd no
count_last (y ∷ rs) x = by (y.request == x.request) (count_last rs x)
  where
    by : (b : Bool) → length (calls_of rs x.request) + 1 ≤ length (calls_of (rs ++ x ∷ []) x.request) → length (cond b (y ∷ calls_of rs x.request) (calls_of rs x.request)) + 1 ≤ length (cond b (y ∷ calls_of (rs ++ x ∷ []) x.request) (calls_of (rs ++ x ∷ []) x.request))
    by true h = omega (arith, h)
    by false h = h

-- ---- What holds of every record.

abbrev pub ShortOutput : CallState → Type 0
ShortOutput (Finished host bench order o used output counts) = length output ≤ output_limit
ShortOutput s = Unit {0}

abbrev pub RecordOk : List CallRecord → CallRecord → Type 0
RecordOk rs r = (r.children + 1 ≤ length (calls_of rs r.request)) × ShortOutput r.state

abbrev pub RecordsOk : List CallRecord → Type 0
RecordsOk rs = (n : ℕ) (r : CallRecord) → slice_get rs n ≡ Some r → RecordOk rs r

-- a change of states alone
pub states_changed : (rs : List CallRecord) (n : ℕ) (f : CallRecord → CallRecord) → SameKin f → ((r : CallRecord) → (f r).children ≡ r.children) → ((r : CallRecord) → slice_get rs n ≡ Some r → ShortOutput r.state → ShortOutput (f r).state) → RecordsOk rs → RecordsOk (changed rs n f)
states_changed rs n f kin children short ok m y e = by (changed_back rs n f m y e)
  where
    by : (slice_get rs m ≡ Some y) ⊎ ((m ≡ n) × ((x : CallRecord) × (slice_get rs m ≡ Some x) × (y ≡ f x))) → RecordOk (changed rs n f) y
    by (inl h) = let k = ok m y h in let few = k.0 in let same = count_changed rs n f y.request kin in (omega (arith, few, same), k.1)
    by (inr h) =
        let x = h.1.0 in
        let k = ok m x h.1.1 in
        let few = k.0 in
        let same = count_changed rs n f x.request kin in
        let kids = children x in
        let request = ap (λ q. length (calls_of (changed rs n f) q)) (kin x).2 in
        subst (RecordOk (changed rs n f)) (sym h.1.2) (omega (arith, few, same, kids, request), short x (subst (λ i. slice_get rs i ≡ Some x) h.0 h.1.1) k.1)

pub record_more : (rs : List CallRecord) (x : CallRecord) → x.children ≡ 0 → x.state ≡ Queued → RecordsOk rs → RecordsOk (rs ++ x ∷ [])
record_more rs x none queued ok m y e = by (push_back rs x m y e)
  where
    last : RecordOk (rs ++ x ∷ []) x
    last = let more = count_last rs x in (omega (arith, none, more), subst ShortOutput (sym queued) tt)

    by : (slice_get rs m ≡ Some y) ⊎ (y ≡ x) → RecordOk (rs ++ x ∷ []) y
    by (inl h) = let k = ok m y h in let few = k.0 in let more = count_more rs x y.request in (omega (arith, few, more), k.1)
    by (inr h) = subst (RecordOk (rs ++ x ∷ [])) (sym h) last

-- a call has one child more, which is a call of its request
pub child_more : (rs : List CallRecord) (parent : ℕ) (p x : CallRecord) → slice_get rs parent ≡ Some p → x.request ≡ p.request → x.children ≡ 0 → x.state ≡ Queued → RecordsOk rs → RecordsOk (changed rs parent one_more_child ++ x ∷ [])
child_more rs parent p x here request none queued ok m y e = by (push_back (changed rs parent one_more_child) x m y e)
  where
    kin : SameKin one_more_child
    kin r = (refl, refl, refl)

    more : (q : ℕ) → length (calls_of rs q) ≤ length (calls_of (changed rs parent one_more_child ++ x ∷ []) q)
    more q = let a = count_changed rs parent one_more_child q kin in let b = count_more (changed rs parent one_more_child) x q in omega (arith, a, b)

    one_more : length (calls_of rs p.request) + 1 ≤ length (calls_of (changed rs parent one_more_child ++ x ∷ []) p.request)
    one_more =
        let a = count_changed rs parent one_more_child p.request kin in
        let b = subst (λ q. length (calls_of (changed rs parent one_more_child) q) + 1 ≤ length (calls_of (changed rs parent one_more_child ++ x ∷ []) q)) request (count_last (changed rs parent one_more_child) x) in
        omega (arith, a, b)

    last : RecordOk (changed rs parent one_more_child ++ x ∷ []) x
    last =
        let a = count_last (changed rs parent one_more_child) x in
        (omega (arith, none, a), subst ShortOutput (sym queued) tt)

    same : (a b : CallRecord) → Some a ≡ Some b → a ≡ b
    same a b h = cc

    inner : (slice_get rs m ≡ Some y) ⊎ ((m ≡ parent) × ((z : CallRecord) × (slice_get rs m ≡ Some z) × (y ≡ one_more_child z))) → RecordOk (changed rs parent one_more_child ++ x ∷ []) y
    inner (inl h) = let k = ok m y h in let few = k.0 in let b = more y.request in (omega (arith, few, b), k.1)
    inner (inr h) =
        let z = h.1.0 in
        let is : p ≡ z = same p z (sym here ∙ subst (λ i. slice_get rs i ≡ Some z) h.0 h.1.1) in
        let k = ok m z h.1.1 in
        let few = k.0 in
        let b = subst (λ r. length (calls_of rs r.request) + 1 ≤ length (calls_of (changed rs parent one_more_child ++ x ∷ []) r.request)) is one_more in
        subst (RecordOk (changed rs parent one_more_child ++ x ∷ [])) (sym h.1.2) (omega (arith, few, b), k.1)

    by : (slice_get (changed rs parent one_more_child) m ≡ Some y) ⊎ (y ≡ x) → RecordOk (changed rs parent one_more_child ++ x ∷ []) y
    by (inl h) = inner (changed_back rs parent one_more_child m y h)
    by (inr h) = subst (RecordOk (changed rs parent one_more_child ++ x ∷ [])) (sym h) last

-- ---- One record and the same later on.

pub record Kin (r s : CallRecord) : Type 0 where
  pub function : s.function ≡ r.function
  pub input : s.input ≡ r.input
  pub state : s.state ≡ r.state
  pub children : r.children ≤ s.children

pub kin_same : (r : CallRecord) → Kin r r
kin_same r = record { function = refl; input = refl; state = refl; children = omega arith }

abbrev pub Forward : List CallRecord → List CallRecord → Type 0
Forward rs more = (n : ℕ) (r : CallRecord) → slice_get rs n ≡ Some r → (s : CallRecord) × (slice_get more n ≡ Some s) × Kin r s

-- each later record was there before, or is queued
abbrev pub Backward : List CallRecord → List CallRecord → Type 0
Backward rs more = (n : ℕ) (s : CallRecord) → slice_get more n ≡ Some s → ((r : CallRecord) × (slice_get rs n ≡ Some r) × Kin r s) ⊎ ((slice_get rs n ≡ None) × (s.state ≡ Queued))

pub forward_same : (rs : List CallRecord) → Forward rs rs
forward_same rs n r e = (r, e, kin_same r)

pub backward_same : (rs : List CallRecord) → Backward rs rs
backward_same rs n s e = inl (s, e, kin_same s)

kin_on : (r s t : CallRecord) → Kin r s → Kin s t → Kin r t
kin_on r s t a b = let l = a.children in let m = b.children in record { function = b.function ∙ a.function; input = b.input ∙ a.input; state = b.state ∙ a.state; children = omega (arith, l, m) }

pub forward_on : (a b c : List CallRecord) → Forward a b → Forward b c → Forward a c
forward_on a b c f g n r e = let x = f n r e in let y = g n x.0 x.1 in (y.0, y.1, kin_on r x.0 y.0 x.2 y.2)

none_back : (a b : List CallRecord) (n : ℕ) → Forward a b → slice_get b n ≡ None → slice_get a n ≡ None
none_back a b n f e = by (slice_get a n) refl
  where
    by : (o : Option CallRecord) → slice_get a n ≡ o → o ≡ None
    by None h = refl
    by (Some r) h = let x = f n r h in let l = x.1 in let no : ⊥ = cc in absurd no

pub backward_on : (a b c : List CallRecord) → Forward a b → Backward a b → Backward b c → Backward a c
backward_on a b c f g h n s e = by (h n s e)
  where
    inner : (x : CallRecord) → Kin x s → ((r : CallRecord) × (slice_get a n ≡ Some r) × Kin r x) ⊎ ((slice_get a n ≡ None) × (x.state ≡ Queued)) → ((r : CallRecord) × (slice_get a n ≡ Some r) × Kin r s) ⊎ ((slice_get a n ≡ None) × (s.state ≡ Queued))
    inner x k (inl y) = inl (y.0, y.1, kin_on y.0 x s y.2 k)
    inner x k (inr y) = inr (y.0, k.state ∙ y.1)

    by : ((x : CallRecord) × (slice_get b n ≡ Some x) × Kin x s) ⊎ ((slice_get b n ≡ None) × (s.state ≡ Queued)) → ((r : CallRecord) × (slice_get a n ≡ Some r) × Kin r s) ⊎ ((slice_get a n ≡ None) × (s.state ≡ Queued))
    by (inl x) = inner x.0 x.2 (g n x.0 x.1)
    by (inr x) = inr (none_back a b n f x.0, x.1)

pub get_front : (rs : List CallRecord) (x : CallRecord) (n : ℕ) (r : CallRecord) → slice_get rs n ≡ Some r → slice_get (rs ++ x ∷ []) n ≡ Some r
get_front [] x n r e = let no : ⊥ = cc in absurd no
get_front (y ∷ rs) x zero r e = e
get_front (y ∷ rs) x (suc n) r e = get_front rs x n r e

get_back : (rs : List CallRecord) (x : CallRecord) (n : ℕ) (s : CallRecord) → slice_get (rs ++ x ∷ []) n ≡ Some s → (slice_get rs n ≡ Some s) ⊎ ((slice_get rs n ≡ None) × (s ≡ x))
get_back [] x zero s e = inr (refl, let same : x ≡ s = cc in sym same)
get_back [] x (suc n) s e = let no : ⊥ = cc in absurd no
get_back (y ∷ rs) x zero s e = inl e
get_back (y ∷ rs) x (suc n) s e = get_back rs x n s e

pub forward_more : (rs : List CallRecord) (x : CallRecord) → Forward rs (rs ++ x ∷ [])
forward_more rs x n r e = (r, get_front rs x n r e, kin_same r)

pub backward_more : (rs : List CallRecord) (x : CallRecord) → x.state ≡ Queued → Backward rs (rs ++ x ∷ [])
backward_more rs x queued n s e = by (get_back rs x n s e)
  where
    by : (slice_get rs n ≡ Some s) ⊎ ((slice_get rs n ≡ None) × (s ≡ x)) → ((r : CallRecord) × (slice_get rs n ≡ Some r) × Kin r s) ⊎ ((slice_get rs n ≡ None) × (s.state ≡ Queued))
    by (inl h) = inl (s, h, kin_same s)
    by (inr h) = inr (h.0, ap (λ y. y.state) h.1 ∙ queued)

pub forward_child : (rs : List CallRecord) (n : ℕ) → Forward rs (changed rs n one_more_child)
forward_child [] n m r e = let no : ⊥ = cc in absurd no
forward_child (x ∷ rs) zero zero r e =
    let same : x ≡ r = cc in
    (one_more_child x, refl, subst (λ y. Kin y (one_more_child x)) same (record { function = refl; input = refl; state = refl; children = omega arith }))
forward_child (x ∷ rs) zero (suc m) r e = (r, e, kin_same r)
forward_child (x ∷ rs) (suc n) zero r e = (r, ap (λ l. slice_get l 0) (changed_next x rs n one_more_child) ∙ e, kin_same r)
forward_child (x ∷ rs) (suc n) (suc m) r e = let h = forward_child rs n m r e in (h.0, ap (λ l. slice_get l (suc m)) (changed_next x rs n one_more_child) ∙ h.1, h.2)

pub backward_child : (rs : List CallRecord) (n : ℕ) → Backward rs (changed rs n one_more_child)
backward_child rs n m s e = by (changed_back rs n one_more_child m s e)
  where
    by : (slice_get rs m ≡ Some s) ⊎ ((m ≡ n) × ((x : CallRecord) × (slice_get rs m ≡ Some x) × (s ≡ one_more_child x))) → ((r : CallRecord) × (slice_get rs m ≡ Some r) × Kin r s) ⊎ ((slice_get rs m ≡ None) × (s.state ≡ Queued))
    by (inl h) = inl (s, h, kin_same s)
    by (inr h) = inl (h.1.0, h.1.1, subst (Kin h.1.0) (sym h.1.2) (record { function = refl; input = refl; state = refl; children = omega arith }))
