-- The lists of children that are kept stay those of the records, where a record is changed or put behind the others.
use Rattle.std.proofs.Common.{◌≡◌, ◌≢◌, ℕ, zero, suc, ◌+◌, ◌<◌, List, [], ◌∷◌, ◌++◌, length, Bool, true, false, cond, None, Some, slice_get, slice_set, refl, sym, ap, subst, ◌∙◌, arith, ne_eqb, eq-eqb}
use mathlib.Core.Logic.{dite}
use native.Mathlib.Decide.{ℕ_discrete}
use Rattle.std.specs.Prelude.{◌==◌, ◌&&◌}
use Rattle.std.proofs.lemmas.List.{length_push, length-set, append-nil}
use Rattle.std.proofs.lemmas.Option.{same_Some, slice_get_past, slice_get_within}
use Rattle.faaslet_meaning.specs.declared.call.CallRecord.{CallRecord}
use Rattle.faaslet_meaning.specs.declared.call.CallState.TheVariants.{Taken}
use Rattle.faaslet_meaning.specs.declared.outcome.Outcome.{Outcome}
use Rattle.faaslet_meaning.specs.Lists.{first, places_from, places, passes_at, changed}
use Rattle.faaslet_meaning.specs.Records.{is_queued, is_open, is_child, child_of, takes}
use Rattle.faaslet_meaning.specs.Table.{Table, taken, finished_state, one_more_child, queued_record}
use Rattle.call_table.specs.Children.{ChildrenFit, children_at, told_at}
use Rattle.call_table.specs.Parent.{IsParent}
use Rattle.call_table.specs.declared.children.Children.{Children}
use Rattle.call_table.specs.declared.store.Parent.{Parent}
use Rattle.call_table.proofs.Fronts.{second_of_two}
use Rattle.call_table.proofs.Held.{changed_set}
use Rattle.call_table.proofs.Places.{passes_there}

-- ---- What an item of a list tells, or else this.

abbrev pub told : {A B : Type 0} → (A → B) → B → List A → ℕ → B
told f d xs n = elim (slice_get xs n) [ None ↦ d | Some x ↦ f x ]

pub told_same : {A B : Type 0} (f : A → B) (d : B) (xs : List A) (n k : ℕ) (x y : A) → slice_get xs n ≡ Some x → f y ≡ f x → told f d (slice_set xs n y) k ≡ told f d xs k
told_same f d [] n k x y e h = let no : ⊥ = cc in absurd no
told_same f d (z ∷ xs) zero zero x y e h = h ∙ sym (ap f (same_Some z x e))
told_same f d (z ∷ xs) zero (suc k) x y e h = refl
told_same f d (z ∷ xs) (suc n) zero x y e h = refl
told_same f d (z ∷ xs) (suc n) (suc k) x y e h = told_same f d xs n k x y e h

pub told_here : {A B : Type 0} (f : A → B) (d : B) (xs : List A) (n : ℕ) (y : A) → n < length xs → told f d (slice_set xs n y) n ≡ f y
told_here f d [] n y l = absurd (omega arith)
told_here f d (z ∷ xs) zero y l = refl
told_here f d (z ∷ xs) (suc n) y l = told_here f d xs n y (omega arith)

pub told_other : {A B : Type 0} (f : A → B) (d : B) (xs : List A) (n k : ℕ) (y : A) → k ≢ n → told f d (slice_set xs n y) k ≡ told f d xs k
told_other f d [] n k y ne = refl
told_other f d (z ∷ xs) zero zero y ne = absurd (ne refl)
told_other f d (z ∷ xs) zero (suc k) y ne = refl
told_other f d (z ∷ xs) (suc n) zero y ne = refl
told_other f d (z ∷ xs) (suc n) (suc k) y ne = told_other f d xs n k y (λ e. ne (ap suc e))

pub told_push : {A B : Type 0} (f : A → B) (d : B) (xs : List A) (k : ℕ) (y : A) → f y ≡ d → told f d (xs ++ y ∷ []) k ≡ told f d xs k
told_push f d [] zero y e = e
told_push f d [] (suc k) y e = refl
told_push f d (x ∷ xs) zero y e = refl
told_push f d (x ∷ xs) (suc k) y e = told_push f d xs k y e

last_is : {A : Type 0} (xs : List A) (y : A) → slice_get (xs ++ y ∷ []) (length xs) ≡ Some y
last_is [] y = refl
last_is (x ∷ xs) y = last_is xs y

not_last : {A : Type 0} (xs : List A) (y : A) (k : ℕ) → k ≢ length xs → slice_get (xs ++ y ∷ []) k ≡ slice_get xs k
not_last [] y zero ne = absurd (ne refl)
not_last [] y (suc k) ne = refl
not_last (x ∷ xs) y zero ne = refl
not_last (x ∷ xs) y (suc k) ne = not_last xs y k (λ e. ne (ap suc e))

-- ---- The places of a child.

places_set : {A : Type 0} (test : A → Bool) (m : ℕ) (xs : List A) (n : ℕ) (x y : A) → slice_get xs n ≡ Some x → test y ≡ test x → places_from m test (slice_set xs n y) ≡ places_from m test xs
places_set test m [] n x y e h = let no : ⊥ = cc in absurd no
places_set test m (z ∷ xs) zero x y e h = ap (λ b. cond b (m ∷ places_from (m + 1) test xs) (places_from (m + 1) test xs)) (h ∙ sym (ap test (same_Some z x e)))
places_set test m (z ∷ xs) (suc n) x y e h = ap (λ p. cond (test z) (m ∷ p) p) (places_set test (m + 1) xs n x y e h)

places_push : {A : Type 0} (test : A → Bool) (m : ℕ) (xs : List A) (x : A) → places_from m test (xs ++ x ∷ []) ≡ places_from m test xs ++ cond (test x) ((m + length xs) ∷ []) []
places_push test m [] x = ap (λ k. cond (test x) (k ∷ []) []) (let z : m ≡ m + 0 = omega arith in z)
places_push test m (z ∷ xs) x =
    let all = places_from (m + 1) test xs in
    let e : (m + 1) + length xs ≡ m + suc (length xs) = omega arith in
    ap (λ p. cond (test z) (m ∷ p) p) (places_push test (m + 1) xs x ∙ ap (λ k. all ++ cond (test x) (k ∷ []) []) e) ∙ out (test z) all (cond (test x) ((m + suc (length xs)) ∷ []) [])
  where
    out : (b : Bool) (p q : List ℕ) → cond b (m ∷ p ++ q) (p ++ q) ≡ cond b (m ∷ p) p ++ q
    out true p q = refl
    out false p q = refl

child_set : (rs : List CallRecord) (n : ℕ) (r x : CallRecord) → slice_get rs n ≡ Some r → x.parent ≡ r.parent → x.child ≡ r.child → (call child : ℕ) → child_of (slice_set rs n x) call child ≡ child_of rs call child
child_set rs n r x e p c call child =
    ap first (places_set (is_child call child) 0 rs n r x e (ap (λ o. elim o [ None ↦ false | Some k ↦ (k == call) && (x.child == child) ]) p ∙ ap (λ m. elim r.parent [ None ↦ false | Some k ↦ (k == call) && (m == child) ]) c))

no_child : (rs : List CallRecord) (r : CallRecord) (call child : ℕ) → is_child call child r ≡ false → child_of (rs ++ r ∷ []) call child ≡ child_of rs call child
no_child rs r call child e =
    ap first (places_push (is_child call child) 0 rs r ∙ ap (λ b. places (is_child call child) rs ++ cond b ((0 + length rs) ∷ []) []) e ∙ append-nil (places (is_child call child) rs))

new_child : (rs : List CallRecord) (r : CallRecord) (call child : ℕ) → is_child call child r ≡ true → child_of rs call child ≡ None → child_of (rs ++ r ∷ []) call child ≡ Some (length rs)
new_child rs r call child e none =
    ap first (places_push (is_child call child) 0 rs r ∙ ap (λ b. places (is_child call child) rs ++ cond b ((0 + length rs) ∷ []) []) e)
    ∙ second_of_two (places (is_child call child) rs) ((0 + length rs) ∷ []) none
    ∙ ap (λ k. Some k) (let z : 0 + length rs ≡ length rs = omega arith in z)

-- ---- The lists of children.

pub no_family : (c : Children) → c.lists.items ≡ [] → ChildrenFit [] c
no_family c e = record {
  many = ap length e;
  each = λ call child. ap (λ ls. slice_get (told (λ v. v.items) [] ls call) child) e;
  count = λ call. ap (λ ls. length (told (λ v. v.items) [] ls call)) e;
}

pub family_kept : (rs : List CallRecord) (c d : Children) → length d.lists.items ≡ length c.lists.items → ((call : ℕ) → children_at d call ≡ children_at c call) → ChildrenFit rs c → ChildrenFit rs d
family_kept rs c d many same h = record {
  many = many ∙ h.many;
  each = λ call child. ap (λ ks. slice_get ks child) (same call) ∙ h.each call child;
  count = λ call. ap length (same call) ∙ h.count call;
}

-- a change that leaves whose child a call is, and how many it has
pub family_same : (rs : List CallRecord) (c : Children) (n : ℕ) (r x : CallRecord) → slice_get rs n ≡ Some r → x.parent ≡ r.parent → x.child ≡ r.child → x.children ≡ r.children → ChildrenFit rs c → ChildrenFit (slice_set rs n x) c
family_same rs c n r x e p k m h = record {
  many = h.many ∙ sym (length-set rs n x);
  each = λ call child. h.each call child ∙ sym (child_set rs n r x e p k call child);
  count = λ call. h.count call ∙ sym (told_same (λ (y : CallRecord). y.children) 0 rs n call r x e m);
}

-- a request comes
pub family_started : (rs : List CallRecord) (c d : Children) (r : CallRecord) → ChildrenFit rs c → r.parent ≡ None → r.children ≡ 0 → length d.lists.items ≡ length c.lists.items + 1 → ((call : ℕ) → children_at d call ≡ children_at c call)
    → ChildrenFit (rs ++ r ∷ []) d
family_started rs c d r h none zero_children many same = record {
  many = let l = length_push rs r in let m = h.many in omega (arith, many);
  each = λ call child. ap (λ ks. slice_get ks child) (same call) ∙ h.each call child
      ∙ sym (no_child rs r call child (ap (λ o. elim o [ None ↦ false | Some k ↦ (k == call) && (r.child == child) ]) none));
  count = λ call. ap length (same call) ∙ h.count call ∙ sym (told_push (λ (y : CallRecord). y.children) 0 rs call r zero_children);
}

-- a child comes, and its parent has one more
module _ (rs : List CallRecord) (c d : Children) (n : ℕ) (of x r : CallRecord) (h : ChildrenFit rs c) (there : slice_get rs n ≡ Some of) (parent_so : x.parent ≡ of.parent) (child_so : x.child ≡ of.child) (more : x.children ≡ of.children + 1)
    (is_of : r.parent ≡ Some n) (is_next : r.child ≡ of.children) (has_none : r.children ≡ 0) (many : length d.lists.items ≡ length c.lists.items + 1) (here : children_at d n ≡ children_at c n ++ length rs ∷ [])
    (others : (k : ℕ) → k ≢ n → children_at d k ≡ children_at c k) where
  made : (call child : ℕ) → is_child call child r ≡ ((n == call) && (r.child == child))
  made call child = ap (λ o. elim o [ None ↦ false | Some k ↦ (k == call) && (r.child == child) ]) is_of

  last : length (children_at c n) ≡ r.child
  last = h.count n ∙ ap (λ o. elim o [ None ↦ 0 | Some y ↦ y.children ]) there ∙ sym is_next

  before : (call child : ℕ) → child_of (slice_set rs n x) call child ≡ slice_get (children_at c call) child
  before call child = child_set rs n of x there parent_so child_so call child ∙ sym (h.each call child)

  itself : slice_get (children_at d n) r.child ≡ child_of (slice_set rs n x ++ r ∷ []) n r.child
  itself =
      let yes : is_child n r.child r ≡ true = made n r.child ∙ ap (λ b. b && (r.child == r.child)) (eq-eqb n n refl) ∙ eq-eqb r.child r.child refl in
      let none = before n r.child ∙ slice_get_past (children_at c n) r.child (omega (arith, last)) in
      ap (λ ks. slice_get ks r.child) here
      ∙ ap (λ k. slice_get (children_at c n ++ length rs ∷ []) k) (sym last)
      ∙ last_is (children_at c n) (length rs)
      ∙ sym (new_child (slice_set rs n x) r n r.child yes none ∙ ap (λ k. Some k) (length-set rs n x))

  sibling : (child : ℕ) → child ≢ r.child → slice_get (children_at d n) child ≡ child_of (slice_set rs n x ++ r ∷ []) n child
  sibling child ne =
      let no : is_child n child r ≡ false = made n child ∙ ap (λ b. (n == n) && b) (ne_eqb r.child child (λ e. ne (sym e))) ∙ ap (λ b. b && false) (eq-eqb n n refl) in
      ap (λ ks. slice_get ks child) here ∙ not_last (children_at c n) (length rs) child (λ e. ne (e ∙ last)) ∙ sym (no_child (slice_set rs n x) r n child no ∙ before n child)

  elsewhere : (call child : ℕ) → call ≢ n → slice_get (children_at d call) child ≡ child_of (slice_set rs n x ++ r ∷ []) call child
  elsewhere call child ne =
      let no : is_child call child r ≡ false = made call child ∙ ap (λ b. b && (r.child == child)) (ne_eqb n call (λ e. ne (sym e))) in
      ap (λ ks. slice_get ks child) (others call ne) ∙ sym (no_child (slice_set rs n x) r call child no ∙ before call child)

  each_child : (call child : ℕ) → slice_get (children_at d call) child ≡ child_of (slice_set rs n x ++ r ∷ []) call child
  each_child call child = dite (ℕ_discrete call n)
      (λ e. subst (λ k. slice_get (children_at d k) child ≡ child_of (slice_set rs n x ++ r ∷ []) k child) (sym e)
      (dite (ℕ_discrete child r.child) (λ f. subst (λ k. slice_get (children_at d n) k ≡ child_of (slice_set rs n x ++ r ∷ []) n k) (sym f) itself) (sibling child)))
      (elsewhere call child)

  counted : (call : ℕ) → length (children_at d call) ≡ told_at (slice_set rs n x) call
  counted call = dite (ℕ_discrete call n)
      (λ e. subst (λ k. length (children_at d k) ≡ told_at (slice_set rs n x) k) (sym e)
      (let a = ap length here in let b = length_push (children_at c n) (length rs) in
      let t = told_here (λ (y : CallRecord). y.children) 0 rs n x (slice_get_within rs n of there) in omega (arith, last, is_next, more)))
      (λ ne. ap length (others call ne) ∙ h.count call ∙ sym (told_other (λ (y : CallRecord). y.children) 0 rs n call x ne))

  pub family_grown : ChildrenFit (slice_set rs n x ++ r ∷ []) d
  family_grown = record {
    many = let a = length-set rs n x in let b = length_push (slice_set rs n x) r in let m = h.many in omega (arith, many);
    each = each_child;
    count = λ call. counted call ∙ sym (told_push (λ (y : CallRecord). y.children) 0 (slice_set rs n x) call r has_none);
  }

-- room is made, a call becomes a child, and another list is put behind the others
pub record Grown (c d : Children) (n call : ℕ) : Type 0 where
  pub many : length d.lists.items ≡ length c.lists.items + 1
  pub here : children_at d n ≡ children_at c n ++ call ∷ []
  pub others : (k : ℕ) → k ≢ n → children_at d k ≡ children_at c k

pub grown_by : (c a b e d : Children) (n call : ℕ) → a.lists.items ≡ c.lists.items → ((k : ℕ) → children_at b k ≡ children_at a k) → length b.lists.items ≡ length a.lists.items → children_at e n ≡ children_at b n ++ call ∷ []
    → ((k : ℕ) → k ≢ n → children_at e k ≡ children_at b k) → length e.lists.items ≡ length b.lists.items → ((k : ℕ) → children_at d k ≡ children_at e k) → length d.lists.items ≡ length e.lists.items + 1 → Grown c d n call
grown_by c a b e d n call first_same second_same second_many here others third_many last_same last_many =
    let first : (k : ℕ) → children_at a k ≡ children_at c k = λ k. ap (λ ls. told (λ v. v.items) [] ls k) first_same in
    let m = ap length first_same in
    record {
      many = omega (arith, second_many, third_many, last_many);
      here = last_same n ∙ here ∙ ap (λ ks. ks ++ call ∷ []) (second_same n ∙ first n);
      others = λ k ne. last_same k ∙ others k ne ∙ second_same k ∙ first k;
    }

-- ---- The operations of the table.

pub family_take : (t : Table) (c : Children) (call host bench : ℕ) → ChildrenFit t.records c → passes_at (λ r. is_queued r.state) t.records call ≡ true → ChildrenFit (taken t call host bench).records c
family_take t c call host bench h queued =
    let p = passes_there (λ r. is_queued r.state) t.records call queued in
    subst (λ rs. ChildrenFit rs c) (sym (changed_set t.records call p.item (λ r. record r { state = Taken host bench (takes t.records) }) p.there))
    (family_same t.records c call p.item (record p.item { state = Taken host bench (takes t.records) }) p.there refl refl refl h)

pub family_finish : (t : Table) (c : Children) (call : ℕ) (o : Outcome) (used : ℕ) (output counts : List ℕ) → ChildrenFit t.records c → passes_at (λ r. is_open r.state) t.records call ≡ true
    → ChildrenFit (changed t.records call (λ r. record r { state = finished_state r.state o used output counts })) c
family_finish t c call o used output counts h opened =
    let p = passes_there (λ r. is_open r.state) t.records call opened in
    subst (λ rs. ChildrenFit rs c) (sym (changed_set t.records call p.item (λ r. record r { state = finished_state r.state o used output counts }) p.there))
    (family_same t.records c call p.item (record p.item { state = finished_state p.item.state o used output counts }) p.there refl refl refl h)

pub family_child : (t : Table) (p : Parent) → IsParent t p → (c d : Children) (function call : ℕ) (input : List ℕ) → ChildrenFit t.records c → call ≡ length t.records → Grown c d p.call call
    → ChildrenFit (changed t.records p.call one_more_child ++ record (queued_record t function p.host input) { request = p.request; parent = Some p.call; child = p.child; depth = p.depth + 1 } ∷ []) d
family_child t p of c d function call input h is g =
    let made : CallRecord = record (queued_record t function p.host input) { request = p.request; parent = Some p.call; child = p.child; depth = p.depth + 1 } in
    subst (λ xs. ChildrenFit (xs ++ made ∷ []) d) (sym (changed_set t.records p.call of.of one_more_child of.there))
    (family_grown t.records c d p.call of.of (one_more_child of.of) made h of.there refl refl refl refl of.child_so refl g.many (g.here ∙ ap (λ k. children_at c p.call ++ k ∷ []) is) g.others)
