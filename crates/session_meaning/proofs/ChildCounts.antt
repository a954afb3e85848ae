-- A call has no more children than its request has calls, which are at most 1,024.
use Rattle.std.proofs.Common.{◌≡◌, ◌⊎◌, inl, inr, ℕ, zero, suc, ◌+◌, ◌≤◌, ◌<◌, Bool, true, false, cond, List, [], ◌∷◌, ◌++◌, Option, Some, None, refl, sym, ap, ◌∙◌, length, slice_get, slice_set, subst, arith}
use Rattle.std.specs.Prelude.{fold, nat_lt, nat_le, ◌==◌, ◌&&◌}
use Rattle.std.proofs.lemmas.Bool.{and_parts, eq-eqb, ltb-true}
use Rattle.faaslet_meaning.specs.declared.call.CallRecord.{CallRecord}
use Rattle.session_meaning.specs.declared.event.Event.{Event}
use Rattle.faaslet_meaning.specs.Lists.{changed}
use Rattle.faaslet_meaning.specs.Records.{calls_of, bytes_of}
use Rattle.faaslet_meaning.specs.Table as table
use Rattle.faaslet_meaning.specs.Table.{Table, callable, call_limit, byte_limit, depth_limit, has_room, queued_record, child_record, one_more_child}
use Rattle.session_meaning.specs.Plan.{Request, Plan}
use Rattle.session_meaning.specs.World.{World, requested, start, first_world}
use Rattle.session_meaning.specs.Events.{Worlds}
use Rattle.session_meaning.proofs.Invariants.{changed_back, Back}
use Rattle.session_meaning.proofs.TableKeeps.{Keeps, events_keep}
use Rattle.session_meaning.proofs.Later.{push_before, submitted_by}

abbrev count : List CallRecord → ℕ → ℕ
count rs q = length (calls_of rs q)

pub record Counted (rs : List CallRecord) (r : CallRecord) : Type 0 where
  pub of_request : r.children ≤ length (calls_of rs r.request)
  pub few : r.children ≤ 1024

abbrev pub AllCounted : List CallRecord → Type 0
AllCounted rs = (n : ℕ) (r : CallRecord) → slice_get rs n ≡ Some r → Counted rs r

count_push : (rs : List CallRecord) (x : CallRecord) (q : ℕ) → count (rs ++ x ∷ []) q ≡ count rs q + cond (x.request == q) 1 0
count_push [] x q = by (x.request == q)
  where
    by : (b : Bool) → length (cond b (x ∷ []) []) ≡ 0 + cond b 1 0
    by true = refl
    by false = refl
count_push (r ∷ rs) x q = by (r.request == q) (cond (x.request == q) 1 0) (count_push rs x q)
  where
    by : (b : Bool) (n : ℕ) → count (rs ++ x ∷ []) q ≡ count rs q + n → length (cond b (r ∷ calls_of (rs ++ x ∷ []) q) (calls_of (rs ++ x ∷ []) q)) ≡ length (cond b (r ∷ calls_of rs q) (calls_of rs q)) + n
    by true n e = omega (arith, e)
    by false n e = e

changed_more : {A : Type 0} (x : A) (xs : List A) (n : ℕ) (f : A → A) → changed (x ∷ xs) (suc n) f ≡ x ∷ changed xs n f
changed_more x xs n f = by (slice_get xs n)
  where
    by : (o : Option _) → elim o [ None ↦ x ∷ xs | Some y ↦ x ∷ slice_set xs n (f y) ] ≡ x ∷ elim o [ None ↦ xs | Some y ↦ slice_set xs n (f y) ]
    by None = refl
    by (Some y) = refl

count_changed : (rs : List CallRecord) (n : ℕ) (f : CallRecord → CallRecord) (q : ℕ) → ((r : CallRecord) → (f r).request ≡ r.request) → count (changed rs n f) q ≡ count rs q
count_changed [] n f q same = refl
count_changed (x ∷ rs) zero f q same = ap (λ m. length (cond (m == q) (f x ∷ calls_of rs q) (calls_of rs q))) (same x) ∙ by (x.request == q)
  where
    by : (b : Bool) → length (cond b (f x ∷ calls_of rs q) (calls_of rs q)) ≡ length (cond b (x ∷ calls_of rs q) (calls_of rs q))
    by true = refl
    by false = refl
count_changed (x ∷ rs) (suc n) f q same = ap (λ ys. count ys q) (changed_more x rs n f) ∙ by (x.request == q) (count_changed rs n f q same)
  where
    by : (b : Bool) → count (changed rs n f) q ≡ count rs q → length (cond b (x ∷ calls_of (changed rs n f) q) (calls_of (changed rs n f) q)) ≡ length (cond b (x ∷ calls_of rs q) (calls_of rs q))
    by true e = ap suc e
    by false e = e

counted_on : (rs ys : List CallRecord) (r : CallRecord) → count rs r.request ≤ count ys r.request → Counted rs r → Counted ys r
counted_on rs ys r more c = let a = c.of_request in record { of_request = omega (arith, a, more); few = c.few }

changed_counted : (rs : List CallRecord) (n : ℕ) (f : CallRecord → CallRecord) → ((r : CallRecord) → (f r).request ≡ r.request) → ((r : CallRecord) → (f r).children ≡ r.children) → AllCounted rs → AllCounted (changed rs n f)
changed_counted rs n f request children all m y e = by (changed_back rs n f m y e)
  where
    by : Back rs n f m y → Counted (changed rs n f) y
    by (inl h) = let same = count_changed rs n f y.request request in counted_on rs (changed rs n f) y (omega (arith, same)) (all m y h)
    by (inr h) =
        let x = h.1.0 in
        let same = count_changed rs n f y.request request in
        let old = all m x h.1.1 in
        let few = old.few in
        let some = old.of_request in
        let number : y.children ≡ x.children = ap (λ z. z.children) h.1.2 ∙ children x in
        let at : count rs x.request ≡ count rs y.request = ap (count rs) (sym (ap (λ z. z.request) h.1.2 ∙ request x)) in
        record { of_request = omega (arith, same, some, number, at); few = omega (arith, few, number) }

push_counted : (rs : List CallRecord) (x : CallRecord) → Counted (rs ++ x ∷ []) x → AllCounted rs → AllCounted (rs ++ x ∷ [])
push_counted rs x c all m y e = by (push_before rs x m y e)
  where
    by : (slice_get rs m ≡ Some y) ⊎ ((m ≡ length rs) × (y ≡ x)) → Counted (rs ++ x ∷ []) y
    by (inl h) = let more = count_push rs x y.request in counted_on rs (rs ++ x ∷ []) y (omega (arith, more)) (all m y h)
    by (inr h) = subst (Counted (rs ++ x ∷ [])) (sym h.1) c

no_children : (rs : List CallRecord) (x : CallRecord) → x.children ≡ 0 → Counted rs x
no_children rs x e = record { of_request = omega (arith, e); few = omega (arith, e) }

some_same : {A : Type 0} {x y : A} → Some x ≡ Some y → x ≡ y
some_same e = cc

more_counted : (t : Table) (parent : ℕ) (p : CallRecord) (f : ℕ) (input : List ℕ) → slice_get t.records parent ≡ Some p → has_room t p f input ≡ true → AllCounted t.records → AllCounted (changed t.records parent one_more_child ++ child_record t parent p f input ∷ [])
more_counted t parent p f input e room all m y h = by (push_before ys x m y h)
  where
    ys : List CallRecord
    ys = changed t.records parent one_more_child

    x : CallRecord
    x = child_record t parent p f input

    free : length (calls_of t.records p.request) < 1024
    free =
        let calls = nat_lt (length (calls_of t.records p.request)) call_limit in
        let bytes = nat_le (bytes_of t.records p.request + (length input + (callable t f).room)) byte_limit in
        ltb-true (length (calls_of t.records p.request)) call_limit (and_parts calls bytes (and_parts (calls && bytes) (nat_lt p.depth depth_limit) room).0).0

    old : Back t.records parent one_more_child m y → Counted (ys ++ x ∷ []) y
    old (inl k) =
        let same = count_changed t.records parent one_more_child y.request (λ r. refl) in
        let more = count_push ys x y.request in
        counted_on t.records (ys ++ x ∷ []) y (omega (arith, same, more)) (all m y k)
    old (inr k) =
        let z = k.1.0 in
        let is_p : z ≡ p = some_same (sym k.1.1 ∙ ap (slice_get t.records) k.0 ∙ e) in
        let number : y.children ≡ p.children + 1 = ap (λ r. r.children) k.1.2 ∙ ap (λ r. r.children + 1) is_p in
        let at : y.request ≡ p.request = ap (λ r. r.request) k.1.2 ∙ ap (λ r. r.request) is_p in
        let same = count_changed t.records parent one_more_child p.request (λ r. refl) in
        let more : count (ys ++ x ∷ []) p.request ≡ count ys p.request + 1 = count_push ys x p.request ∙ ap (λ b. count ys p.request + cond b 1 0) (eq-eqb p.request p.request refl) in
        let some = (all parent p e).of_request in
        let all_at : count (ys ++ x ∷ []) y.request ≡ count (ys ++ x ∷ []) p.request = ap (count (ys ++ x ∷ [])) at in
        record { of_request = omega (arith, number, same, more, some, all_at); few = let l = free in omega (arith, number, some, l) }

    by : (slice_get ys m ≡ Some y) ⊎ ((m ≡ length ys) × (y ≡ x)) → Counted (ys ++ x ∷ []) y
    by (inl k) = old (changed_back t.records parent one_more_child m y k)
    by (inr k) = no_children (ys ++ x ∷ []) y (ap (λ r. r.children) k.1)

submit_counted : (t : Table) (m parent f : ℕ) (input : List ℕ) → AllCounted t.records → AllCounted (table.after t m (table.submit parent f input)).records
submit_counted t m parent f input all = by (slice_get t.records parent) refl
  where
    room : (p : CallRecord) → slice_get t.records parent ≡ Some p → (b : Bool) → has_room t p f input ≡ b → AllCounted (cond b (record t { records = changed t.records parent one_more_child ++ child_record t parent p f input ∷ [] }) t).records
    room p e true h = more_counted t parent p f input e h all
    room p e false h = all

    by : (o : Option CallRecord) → slice_get t.records parent ≡ o → AllCounted (submitted_by t parent f input o).records
    by None e = all
    by (Some p) e = room p e (has_room t p f input) refl

counted_keeps : Keeps AllCounted
counted_keeps =
    record {
      take = λ t m call host bench h. changed_counted t.records call _ (λ r. refl) (λ r. refl) h;
      finish = λ t m call o used output counts h. changed_counted t.records call _ (λ r. refl) (λ r. refl) h;
      submit = λ t m parent f input h. submit_counted t m parent f input h;
    }

requests_counted : (w : World) (rs : List Request) → AllCounted w.table.records → AllCounted (fold requested w rs).table.records
requests_counted w [] h = h
requests_counted w (r ∷ rs) h = requests_counted (requested w r) rs (push_counted w.table.records (queued_record w.table r.function r.host r.input) (no_children _ _ refl) h)

pub world_counted : (plan : Plan) (es : List Event) (w : World) → Worlds plan es w → AllCounted w.table.records
world_counted plan es w made = subst (λ v. AllCounted v.table.records) (sym made.world_so) (events_keep AllCounted counted_keeps plan (first_world plan) es (requests_counted (start plan) plan.requests (λ n r e. let no : ⊥ = cc in absurd no)))
