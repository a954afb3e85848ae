-- Records that come later: none is lost, and each keeps its function, its parent, its request, its depth and its number.
use Rattle.std.proofs.Common.{◌≡◌, ◌⊎◌, inl, inr, ℕ, zero, suc, ◌≤◌, Bool, true, false, cond, List, [], ◌∷◌, ◌++◌, Option, Some, None, refl, sym, ap, ◌∙◌, length, slice_get, slice_set, subst, arith}
use Rattle.faaslet_meaning.specs.declared.call.CallRecord.{CallRecord}
use Rattle.faaslet_meaning.specs.Lists.{changed}
use Rattle.faaslet_meaning.specs.Table as table
use Rattle.faaslet_meaning.specs.Table.{Table, submitted, child_record, one_more_child}
use Rattle.session_meaning.proofs.Invariants.{changed_back, Back}
use Rattle.session_meaning.proofs.TableKeeps.{Keeps}

-- what never changes of a record
pub record Same (r s : CallRecord) : Type 0 where
  pub function : s.function ≡ r.function
  pub parent : s.parent ≡ r.parent
  pub request : s.request ≡ r.request
  pub depth : s.depth ≡ r.depth
  pub child : s.child ≡ r.child
  pub children : r.children ≤ s.children

pub same_as : (r : CallRecord) → Same r r
same_as r = record { function = refl; parent = refl; request = refl; depth = refl; child = refl; children = omega arith }

pub same_on : (r s u : CallRecord) → Same r s → Same s u → Same r u
same_on r s u g h =
    let a = g.children in
    let b = h.children in
    record { function = h.function ∙ g.function; parent = h.parent ∙ g.parent; request = h.request ∙ g.request; depth = h.depth ∙ g.depth; child = h.child ∙ g.child; children = omega (arith, a, b) }

abbrev pub Later : List CallRecord → List CallRecord → Type 0
Later rs rs' = (n : ℕ) (r : CallRecord) → slice_get rs n ≡ Some r → (s : CallRecord) × (slice_get rs' n ≡ Some s) × Same r s

pub later_as : (rs : List CallRecord) → Later rs rs
later_as rs n r e = (r, e, same_as r)

pub later_on : (rs rs' rs'' : List CallRecord) → Later rs rs' → Later rs' rs'' → Later rs rs''
later_on rs rs' rs'' g h n r e = let a = g n r e in let b = h n a.0 a.1 in (b.0, b.1, same_on r a.0 b.0 a.2 b.2)

some_same : {A : Type 0} {x y : A} → Some x ≡ Some y → x ≡ y
some_same e = cc

changed_more : {A : Type 0} (x : A) (xs : List A) (n : ℕ) (f : A → A) → changed (x ∷ xs) (suc n) f ≡ x ∷ changed xs n f
changed_more x xs n f = by (slice_get xs n)
  where
    by : (o : Option _) → elim o [ None ↦ x ∷ xs | Some y ↦ x ∷ slice_set xs n (f y) ] ≡ x ∷ elim o [ None ↦ xs | Some y ↦ slice_set xs n (f y) ]
    by None = refl
    by (Some y) = refl

pub changed_later : (rs : List CallRecord) (n : ℕ) (f : CallRecord → CallRecord) → ((r : CallRecord) → Same r (f r)) → Later rs (changed rs n f)
changed_later [] n f same m r e = (r, e, same_as r)
changed_later (x ∷ rs) zero f same zero r e = (f x, refl, subst (λ y. Same y (f x)) (some_same e) (same x))
changed_later (x ∷ rs) zero f same (suc m) r e = (r, e, same_as r)
changed_later (x ∷ rs) (suc n) f same zero r e = (r, ap (λ ys. slice_get ys 0) (changed_more x rs n f) ∙ e, same_as r)
changed_later (x ∷ rs) (suc n) f same (suc m) r e = let h = changed_later rs n f same m r e in (h.0, ap (λ ys. slice_get ys (suc m)) (changed_more x rs n f) ∙ h.1, h.2)

-- and each was there
pub changed_before : (rs : List CallRecord) (n : ℕ) (f : CallRecord → CallRecord) → ((r : CallRecord) → Same r (f r)) → (m : ℕ) (s : CallRecord) → slice_get (changed rs n f) m ≡ Some s → (r : CallRecord) × (slice_get rs m ≡ Some r) × Same r s
changed_before rs n f same m s e = by (changed_back rs n f m s e)
  where
    by : Back rs n f m s → (r : CallRecord) × (slice_get rs m ≡ Some r) × Same r s
    by (inl h) = (s, h, same_as s)
    by (inr h) = (h.1.0, h.1.1, subst (λ y. Same h.1.0 y) (sym h.1.2) (same h.1.0))

pub push_later : (rs : List CallRecord) (x : CallRecord) → Later rs (rs ++ x ∷ [])
push_later [] x n r e = let no : ⊥ = cc in absurd no
push_later (y ∷ rs) x zero r e = (r, e, same_as r)
push_later (y ∷ rs) x (suc n) r e = push_later rs x n r e

pub push_stays : {A : Type 0} (xs ys : List A) (n : ℕ) (x : A) → slice_get xs n ≡ Some x → slice_get (xs ++ ys) n ≡ Some x
push_stays [] ys n x e = let no : ⊥ = cc in absurd no
push_stays (y ∷ xs) ys zero x e = e
push_stays (y ∷ xs) ys (suc n) x e = push_stays xs ys n x e

pub push_before : {A : Type 0} (xs : List A) (x : A) (m : ℕ) (y : A) → slice_get (xs ++ x ∷ []) m ≡ Some y → (slice_get xs m ≡ Some y) ⊎ ((m ≡ length xs) × (y ≡ x))
push_before [] x zero y e = inr (refl, sym (some_same e))
push_before [] x (suc m) y e = let no : ⊥ = cc in absurd no
push_before (z ∷ xs) x zero y e = inl e
push_before (z ∷ xs) x (suc m) y e = by (push_before xs x m y e)
  where
    by : (slice_get xs m ≡ Some y) ⊎ ((m ≡ length xs) × (y ≡ x)) → (slice_get xs m ≡ Some y) ⊎ ((suc m ≡ suc (length xs)) × (y ≡ x))
    by (inl h) = inl h
    by (inr h) = inr (ap suc h.0, h.1)

-- ---- What table operations leave.

pub state_same : (r : CallRecord) → Same r (one_more_child r)
state_same r = let n = r.children in record { function = refl; parent = refl; request = refl; depth = refl; child = refl; children = omega arith }

abbrev pub submitted_by : Table → ℕ → ℕ → List ℕ → Option CallRecord → Table
submitted_by t parent f input o = elim o [ None ↦ t | Some p ↦ submitted t parent p f input ]

submit_later : (t : Table) (m parent f : ℕ) (input : List ℕ) → Later t.records (table.after t m (table.submit parent f input)).records
submit_later t m parent f input = by (slice_get t.records parent)
  where
    room : (p : CallRecord) (b : Bool) → Later t.records (cond b (record t { records = changed t.records parent one_more_child ++ child_record t parent p f input ∷ [] }) t).records
    room p true = later_on t.records (changed t.records parent one_more_child) _ (changed_later t.records parent one_more_child state_same) (push_later (changed t.records parent one_more_child) (child_record t parent p f input))
    room p false = later_as t.records

    by : (o : Option CallRecord) → Later t.records (submitted_by t parent f input o).records
    by None = later_as t.records
    by (Some p) = room p (table.has_room t p f input)

pub later_keeps : (rs : List CallRecord) → Keeps (Later rs)
later_keeps rs =
    record {
      take = λ t m call host bench h. later_on rs t.records _ h (changed_later t.records call _ (λ r. record { function = refl; parent = refl; request = refl; depth = refl; child = refl; children = omega arith }));
      finish = λ t m call o used output counts h. later_on rs t.records _ h (changed_later t.records call _ (λ r. record { function = refl; parent = refl; request = refl; depth = refl; child = refl; children = omega arith }));
      submit = λ t m parent f input h. later_on rs t.records _ h (submit_later t m parent f input);
    }
