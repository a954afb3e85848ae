-- The records of a world are a family: the requests' calls stand first in the order of the requests, each other call is a child of one
-- of its request, and no two children of one parent have one number.
use Rattle.std.proofs.Common.{◌≡◌, ◌⊎◌, inl, inr, ℕ, ◌+◌, ◌<◌, Bool, true, false, cond, List, [], ◌∷◌, ◌++◌, Option, Some, None, refl, sym, ap, ◌∙◌, length, slice_get, option_map, subst, append_assoc, arith}
use Rattle.std.specs.Prelude.{fold}
use Rattle.std.proofs.lemmas.List.{length-append, append-nil}
use Rattle.faaslet_meaning.specs.declared.call.CallRecord.{CallRecord}
use Rattle.session_meaning.specs.declared.event.Event.{Event}
use Rattle.faaslet_meaning.specs.Lists.{changed}
use Rattle.faaslet_meaning.specs.Table as table
use Rattle.faaslet_meaning.specs.Table.{Table, queued_record, child_record, one_more_child}
use Rattle.session_meaning.specs.Plan.{Request, Plan}
use Rattle.session_meaning.specs.World.{World, requested, start, first_world}
use Rattle.session_meaning.specs.Events.{Worlds}
use Rattle.session_meaning.proofs.FoldedCut.{first_depth, filter_whole, Begun, requested_begun}
use Rattle.session_meaning.proofs.Tables.{get_end}
use Rattle.session_meaning.proofs.TableKeeps.{Keeps, events_keep}
use Rattle.session_meaning.proofs.Kept.{get_changed_here}
use Rattle.session_meaning.proofs.Later.{Same, same_as, Later, changed_later, changed_before, push_later, push_stays, push_before, state_same, submitted_by}

-- a call without a parent is the first of the request of its number
pub record Root (rs : List Request) (n : ℕ) (r : CallRecord) : Type 0 where
  pub of_request : Request
  pub request_is : slice_get rs n ≡ Some of_request
  pub function : r.function ≡ of_request.function
  pub request : r.request ≡ n
  pub depth : r.depth ≡ 1

pub record ChildOf (records : List CallRecord) (p : ℕ) (r : CallRecord) : Type 0 where
  pub parent : CallRecord
  pub parent_is : slice_get records p ≡ Some parent
  pub request : r.request ≡ parent.request
  pub depth : r.depth ≡ parent.depth + 1
  pub child : r.child < parent.children

abbrev pub Placed : List Request → List CallRecord → ℕ → CallRecord → Option ℕ → Type 0
Placed rs records n r None = Root rs n r
Placed rs records n r (Some p) = ChildOf records p r

pub record Family (rs : List Request) (records : List CallRecord) : Type 0 where
  pub first : (n : ℕ) (q : Request) → slice_get rs n ≡ Some q → (r : CallRecord) × (slice_get records n ≡ Some r) × (r.function ≡ q.function)
  pub placed : (n : ℕ) (r : CallRecord) → slice_get records n ≡ Some r → Placed rs records n r r.parent
  pub requests : (n : ℕ) (r : CallRecord) → slice_get records n ≡ Some r → (q : Request) × (slice_get rs r.request ≡ Some q)
  pub brothers : (n m p : ℕ) (r s : CallRecord) → slice_get records n ≡ Some r → slice_get records m ≡ Some s → r.parent ≡ Some p → s.parent ≡ Some p → r.child ≡ s.child → n ≡ m

-- ---- A change of records that stay who they are.

placed_on : (rs : List Request) (xs ys : List CallRecord) → Later xs ys → (n : ℕ) (r s : CallRecord) → Same r s → (o : Option ℕ) → Placed rs xs n r o → Placed rs ys n s o
placed_on rs xs ys later n r s same None k = record { of_request = k.of_request; request_is = k.request_is; function = same.function ∙ k.function; request = same.request ∙ k.request; depth = same.depth ∙ k.depth }
placed_on rs xs ys later n r s same (Some p) k =
    let h = later p k.parent k.parent_is in
    let child = k.child in
    let number = same.child in
    let more = h.2.children in
    record { parent = h.0; parent_is = h.1; request = same.request ∙ k.request ∙ sym h.2.request; depth = same.depth ∙ k.depth ∙ ap (λ d. d + 1) (sym h.2.depth); child = omega (arith, child, number, more) }

placed_same : (rs : List Request) (xs ys : List CallRecord) → Later xs ys → (n : ℕ) (r s : CallRecord) → Same r s → Placed rs xs n r r.parent → Placed rs ys n s s.parent
placed_same rs xs ys later n r s same k = subst (λ o. Placed rs ys n s o) (sym same.parent) (placed_on rs xs ys later n r s same r.parent k)

first_on : (rs : List Request) (xs ys : List CallRecord) → Later xs ys → Family rs xs → (n : ℕ) (q : Request) → slice_get rs n ≡ Some q → (r : CallRecord) × (slice_get ys n ≡ Some r) × (r.function ≡ q.function)
first_on rs xs ys later family n q e = let f = family.first n q e in let l = later n f.0 f.1 in (l.0, l.1, l.2.function ∙ f.2)

changed_family : (rs : List Request) (xs : List CallRecord) (n : ℕ) (f : CallRecord → CallRecord) → ((r : CallRecord) → Same r (f r)) → Family rs xs → Family rs (changed xs n f)
changed_family rs xs n f same family =
    let ys = changed xs n f in
    let later : Later xs ys = changed_later xs n f same in
    record {
      first = first_on rs xs ys later family;
      placed = λ m s e. let b = changed_before xs n f same m s e in placed_same rs xs ys later m b.0 s b.2 (family.placed m b.0 b.1);
      requests = λ m s e. let b = changed_before xs n f same m s e in let q = family.requests m b.0 b.1 in (q.0, ap (slice_get rs) b.2.request ∙ q.1);
      brothers = λ a b p r s e e' h h' c.
          let x = changed_before xs n f same a r e in
          let y = changed_before xs n f same b s e' in
          family.brothers a b p x.0 y.0 x.1 y.1 (sym x.2.parent ∙ h) (sym y.2.parent ∙ h') (sym x.2.child ∙ c ∙ y.2.child);
    }

-- ---- One record more.

pub record Joins (rs : List Request) (xs : List CallRecord) (x : CallRecord) : Type 0 where
  pub placed : Placed rs (xs ++ x ∷ []) (length xs) x x.parent
  pub request : (q : Request) × (slice_get rs x.request ≡ Some q)
  pub alone : (m p : ℕ) (s : CallRecord) → slice_get xs m ≡ Some s → x.parent ≡ Some p → s.parent ≡ Some p → s.child ≡ x.child → ⊥

push_family : (rs : List Request) (xs : List CallRecord) (x : CallRecord) → Joins rs xs x → Family rs xs → Family rs (xs ++ x ∷ [])
push_family rs xs x joins family =
    record {
      first = first_on rs xs (xs ++ x ∷ []) (push_later xs x) family;
      placed = λ m s e. placed_by m s (push_before xs x m s e);
      requests = λ m s e. request_by m s (push_before xs x m s e);
      brothers = λ a b p r s e e' h h' c. brothers_by a b p r s (push_before xs x a r e) (push_before xs x b s e') h h' c;
    }
  where
    placed_by : (m : ℕ) (s : CallRecord) → (slice_get xs m ≡ Some s) ⊎ ((m ≡ length xs) × (s ≡ x)) → Placed rs (xs ++ x ∷ []) m s s.parent
    placed_by m s (inl h) = placed_on rs xs (xs ++ x ∷ []) (push_later xs x) m s s (same_as s) s.parent (family.placed m s h)
    placed_by m s (inr h) = subst (λ k. Placed rs (xs ++ x ∷ []) k s s.parent) (sym h.0) (subst (λ y. Placed rs (xs ++ x ∷ []) (length xs) y y.parent) (sym h.1) joins.placed)

    request_by : (m : ℕ) (s : CallRecord) → (slice_get xs m ≡ Some s) ⊎ ((m ≡ length xs) × (s ≡ x)) → (q : Request) × (slice_get rs s.request ≡ Some q)
    request_by m s (inl h) = family.requests m s h
    request_by m s (inr h) = (joins.request.0, ap (λ y. slice_get rs y.request) h.1 ∙ joins.request.1)

    brothers_by : (a b p : ℕ) (r s : CallRecord) → (slice_get xs a ≡ Some r) ⊎ ((a ≡ length xs) × (r ≡ x)) → (slice_get xs b ≡ Some s) ⊎ ((b ≡ length xs) × (s ≡ x)) → r.parent ≡ Some p → s.parent ≡ Some p → r.child ≡ s.child → a ≡ b
    brothers_by a b p r s (inl h) (inl k) i j c = family.brothers a b p r s h k i j c
    brothers_by a b p r s (inl h) (inr k) i j c = absurd (joins.alone a p r h (ap (λ y. y.parent) (sym k.1) ∙ j) i (c ∙ ap (λ y. y.child) k.1))
    brothers_by a b p r s (inr h) (inl k) i j c = absurd (joins.alone b p s k (ap (λ y. y.parent) (sym h.1) ∙ i) j (sym c ∙ ap (λ y. y.child) h.1))
    brothers_by a b p r s (inr h) (inr k) i j c = h.0 ∙ sym k.0

-- ---- A Submit.

some_same : {A : Type 0} {x y : A} → Some x ≡ Some y → x ≡ y
some_same e = cc

-- a child of this parent has a lower number
below : (rs : List Request) (xs : List CallRecord) (parent m : ℕ) (p s : CallRecord) → Family rs xs → slice_get xs parent ≡ Some p → slice_get xs m ≡ Some s → s.parent ≡ Some parent → s.child < p.children
below rs xs parent m p s family e f h =
    let k = subst (λ o. Placed rs xs m s o) h (family.placed m s f) in
    let same : k.parent ≡ p = some_same (sym k.parent_is ∙ e) in
    subst (λ q. s.child < q.children) same k.child

child_joins : (rs : List Request) (t : Table) (parent : ℕ) (p : CallRecord) (f : ℕ) (input : List ℕ) → slice_get t.records parent ≡ Some p → Family rs t.records → Joins rs (changed t.records parent one_more_child) (child_record t parent p f input)
child_joins rs t parent p f input e family =
    let xs = t.records in
    let ys = changed xs parent one_more_child in
    let x = child_record t parent p f input in
    record {
      placed = record { parent = one_more_child p; parent_is = push_stays ys (x ∷ []) parent (one_more_child p) (get_changed_here xs parent one_more_child ∙ ap (option_map one_more_child) e); request = refl; depth = refl; child = omega arith };
      request = family.requests parent p e;
      alone = λ m q s h i j c.
          let b = changed_before xs parent one_more_child state_same m s h in
          let same : parent ≡ q = some_same i in
          let low = below rs xs parent m p b.0 family e b.1 (sym b.2.parent ∙ j ∙ ap (λ n. Some n) (sym same)) in
          let number : b.0.child ≡ p.children = sym b.2.child ∙ c in
          omega (arith, low, number);
    }

submit_family : (rs : List Request) (t : Table) (m parent f : ℕ) (input : List ℕ) → Family rs t.records → Family rs (table.after t m (table.submit parent f input)).records
submit_family rs t m parent f input family = by (slice_get t.records parent) refl
  where
    room : (p : CallRecord) → slice_get t.records parent ≡ Some p → (b : Bool) → Family rs (cond b (record t { records = changed t.records parent one_more_child ++ child_record t parent p f input ∷ [] }) t).records
    room p e true = push_family rs (changed t.records parent one_more_child) (child_record t parent p f input) (child_joins rs t parent p f input e family) (changed_family rs t.records parent one_more_child state_same family)
    room p e false = family

    by : (o : Option CallRecord) → slice_get t.records parent ≡ o → Family rs (submitted_by t parent f input o).records
    by None e = family
    by (Some p) e = room p e (table.has_room t p f input)

pub family_keeps : (rs : List Request) → Keeps (Family rs)
family_keeps rs =
    record {
      take = λ t m call host bench h. changed_family rs t.records call _ (λ r. record { function = refl; parent = refl; request = refl; depth = refl; child = refl; children = omega arith }) h;
      finish = λ t m call o used output counts h. changed_family rs t.records call _ (λ r. record { function = refl; parent = refl; request = refl; depth = refl; child = refl; children = omega arith }) h;
      submit = λ t m parent f input h. submit_family rs t m parent f input h;
    }

-- ---- The first world.

get_request : (done : List Request) (q : Request) (n : ℕ) (x : Request) → slice_get done n ≡ Some x → slice_get (done ++ q ∷ []) n ≡ Some x
get_request done q n x e = push_stays done (q ∷ []) n x e

placed_more : (done : List Request) (q : Request) (xs ys : List CallRecord) → Later xs ys → (n : ℕ) (r : CallRecord) (o : Option ℕ) → Placed done xs n r o → Placed (done ++ q ∷ []) ys n r o
placed_more done q xs ys later n r None k = record { of_request = k.of_request; request_is = get_request done q n k.of_request k.request_is; function = k.function; request = k.request; depth = k.depth }
placed_more done q xs ys later n r (Some p) k = placed_on (done ++ q ∷ []) xs ys later n r r (same_as r) (Some p) (record { parent = k.parent; parent_is = k.parent_is; request = k.request; depth = k.depth; child = k.child })

-- the call of a request more
request_family : (done : List Request) (q : Request) (xs : List CallRecord) (x : CallRecord) → length done ≡ length xs → x.parent ≡ None → x.request ≡ length xs → x.depth ≡ 1 → x.function ≡ q.function → Family done xs → Family (done ++ q ∷ []) (xs ++ x ∷ [])
request_family done q xs x long no_parent request depth function family =
    record {
      first = λ n y e. first_by n y (push_before done q n y e);
      placed = λ m s e. placed_by m s (push_before xs x m s e);
      requests = λ m s e. request_by m s (push_before xs x m s e);
      brothers = λ a b p r s e e' h h' c. brothers_by a b p r s (push_before xs x a r e) (push_before xs x b s e') h h' c;
    }
  where
    first_by : (n : ℕ) (y : Request) → (slice_get done n ≡ Some y) ⊎ ((n ≡ length done) × (y ≡ q)) → (r : CallRecord) × (slice_get (xs ++ x ∷ []) n ≡ Some r) × (r.function ≡ y.function)
    first_by n y (inl h) = let f = family.first n y h in (f.0, push_stays xs (x ∷ []) n f.0 f.1, f.2)
    first_by n y (inr h) = (x, get_end xs x n (sym long ∙ sym h.0), function ∙ ap (λ z. z.function) (sym h.1))

    placed_by : (m : ℕ) (s : CallRecord) → (slice_get xs m ≡ Some s) ⊎ ((m ≡ length xs) × (s ≡ x)) → Placed (done ++ q ∷ []) (xs ++ x ∷ []) m s s.parent
    placed_by m s (inl h) = placed_more done q xs (xs ++ x ∷ []) (push_later xs x) m s s.parent (family.placed m s h)
    placed_by m s (inr h) =
        subst (λ o. Placed (done ++ q ∷ []) (xs ++ x ∷ []) m s o) (sym (ap (λ y. y.parent) h.1 ∙ no_parent))
        (record {
          of_request = q;
          request_is = ap (slice_get (done ++ q ∷ [])) h.0 ∙ get_end done q (length xs) long;
          function = ap (λ y. y.function) h.1 ∙ function;
          request = ap (λ y. y.request) h.1 ∙ request ∙ sym h.0;
          depth = ap (λ y. y.depth) h.1 ∙ depth;
        })

    request_by : (m : ℕ) (s : CallRecord) → (slice_get xs m ≡ Some s) ⊎ ((m ≡ length xs) × (s ≡ x)) → (y : Request) × (slice_get (done ++ q ∷ []) s.request ≡ Some y)
    request_by m s (inl h) = let f = family.requests m s h in (f.0, get_request done q s.request f.0 f.1)
    request_by m s (inr h) = (q, ap (slice_get (done ++ q ∷ [])) (ap (λ y. y.request) h.1 ∙ request) ∙ get_end done q (length xs) long)

    orphan : (p : ℕ) (s : CallRecord) → s ≡ x → s.parent ≡ Some p → ⊥
    orphan p s e h = let none : s.parent ≡ None = ap (λ y. y.parent) e ∙ no_parent in let no : ⊥ = cc in no

    brothers_by : (a b p : ℕ) (r s : CallRecord) → (slice_get xs a ≡ Some r) ⊎ ((a ≡ length xs) × (r ≡ x)) → (slice_get xs b ≡ Some s) ⊎ ((b ≡ length xs) × (s ≡ x)) → r.parent ≡ Some p → s.parent ≡ Some p → r.child ≡ s.child → a ≡ b
    brothers_by a b p r s (inl h) (inl k) i j c = family.brothers a b p r s h k i j c
    brothers_by a b p r s (inr h) k i j c = absurd (orphan p r h.1 i)
    brothers_by a b p r s h (inr k) i j c = absurd (orphan p s k.1 j)

requests_family : (w : World) (done rest : List Request) → Begun w → length done ≡ length w.table.records → Family done w.table.records → Family (done ++ rest) (fold requested w rest).table.records
requests_family w done [] b long family = subst (λ rs. Family rs w.table.records) (sym (append-nil done)) family
requests_family w done (q ∷ rest) b long family =
    let t = w.table in
    let x = queued_record t q.function q.host q.input in
    let number : x.request ≡ length t.records = ap length (filter_whole first_depth t.records b.firsts) in
    let more = length-append t.records (x ∷ []) in
    let most = length-append done (q ∷ []) in
    subst (λ rs. Family rs (fold requested (requested w q) rest).table.records) (append_assoc done (q ∷ []) rest)
    (requests_family (requested w q) (done ++ q ∷ []) rest (requested_begun w q b) (omega (arith, more, most, long)) (request_family done q t.records x long refl number refl refl family))

none_yet : Family [] []
none_yet =
    record {
      first = λ n q e. let no : ⊥ = cc in absurd no;
      placed = λ n r e. let no : ⊥ = cc in absurd no;
      requests = λ n r e. let no : ⊥ = cc in absurd no;
      brothers = λ n m p r s e e' h h' c. let no : ⊥ = cc in absurd no;
    }

pub first_family : (plan : Plan) → Family plan.requests (first_world plan).table.records
first_family plan = requests_family (start plan) [] plan.requests (record { firsts = refl; plain = refl; sizes = refl }) refl none_yet

-- ---- Every world.

pub world_family : (plan : Plan) (es : List Event) (w : World) → Worlds plan es w → Family plan.requests w.table.records
world_family plan es w made = subst (λ v. Family plan.requests v.table.records) (sym made.world_so) (events_keep (Family plan.requests) (family_keeps plan.requests) plan (first_world plan) es (first_family plan))
