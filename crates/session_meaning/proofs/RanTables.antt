-- In an ended session what a call was told on the table is what all entries that name it as their parent tell.
use Rattle.std.proofs.Common.{◌≡◌, ℕ, zero, suc, ◌+◌, ◌-◌, ◌<◌, ◌≤◌, Bool, true, false, cond, not, List, [], ◌∷◌, ◌++◌, Option, Some, None, refl, sym, ap, ap₂, ◌∙◌, map, length, slice_get, filter, filter_map, subst, arith, take, drop, eqb-true}
use Rattle.std.specs.Prelude.{◌==◌, ◌&&◌, nat_lt}
use Rattle.std.specs.List.{list_all, cons_option, AllByRecursion}
use Rattle.std.proofs.lemmas.Bool.{and_parts, ltb-true, ltb-false, eq-eqb}
use Rattle.std.proofs.lemmas.List.{take-append-drop, append-nil, append_assoc}
use Rattle.faaslet_meaning.specs.declared.call.CallRecord.{CallRecord}
use Rattle.faaslet_meaning.specs.declared.grant.Channel.TheVariants.{Table as OnTable}
use Rattle.faaslet_meaning.specs.Channels.{Operation, Reply}
use Rattle.faaslet_meaning.specs.History.{History, left, told_to, table_rules}
use Rattle.faaslet_meaning.specs.Lists.{total}
use Rattle.faaslet_meaning.specs.Table as table
use Rattle.faaslet_meaning.specs.Table.{Table, TableOperation, submit_request, submit, take_next, take_this, finish, look}
use Rattle.faaslet_meaning.proofs.Histories.{filter_both}
use Rattle.session_meaning.specs.Answered.{Answered, of_table, asked_on_table, told_of}
use Rattle.session_meaning.specs.HistoryCut.{first_table, asks, asked_in, told_in, requests_first, is_request}
use Rattle.session_meaning.specs.Own.{Session, benches, host_of_bench, made_by, made, bench_of, order_of, count_on, is_of_bench, made_before, own, told}
use Rattle.session_meaning.specs.Plan.{Plan, Request}
use Rattle.session_meaning.specs.Ran.{is_question, by_its_maker, is_granted, CallRan, Ran}
use Rattle.session_meaning.proofs.BenchParts.{Found, found}
use Rattle.session_meaning.proofs.Kept.{all_at}
use Rattle.session_meaning.proofs.RanSections.{call_ran, ran_in_order, bench_so, host_so, own_at}

-- ---- The requests come first.

none_first : (ys : History TableOperation) → list_all (λ e. not (is_request e.1)) ys ≡ true → requests_first ys ≡ true
none_first [] h = refl
none_first (e ∷ es) h = by (is_request e.1) h
  where
    by : (b : Bool) → (not b && list_all (λ e. not (is_request e.1)) es) ≡ true → cond b (requests_first es) (list_all (λ e. not (is_request e.1)) es) ≡ true
    by true k = let no : ⊥ = cc in absurd no
    by false k = k

requests_front : (xs ys : History TableOperation) (rs : List Request) → map (λ e. e.1) xs ≡ map (λ r. submit_request r.function r.host r.input) rs → list_all (λ e. not (is_request e.1)) ys ≡ true → requests_first (xs ++ ys) ≡ true
requests_front [] ys rs e h = none_first ys h
requests_front (x ∷ xs) ys [] e h = let no : ⊥ = cc in absurd no
requests_front (x ∷ xs) ys (r ∷ rs) e h =
    let head : x.1 ≡ submit_request r.function r.host r.input = cc in
    let tail : map (λ e. e.1) xs ≡ map (λ r. submit_request r.function r.host r.input) rs = cc in
    ap (λ op. cond (is_request op) (requests_first (xs ++ ys)) (list_all (λ e. not (is_request e.1)) (xs ++ ys))) head ∙ requests_front xs ys rs tail h

pub ran_requests_first : (plan : Plan) (s : Session) (finals : List (List ℕ)) → Ran plan s finals → requests_first s.table_history ≡ true
ran_requests_first plan s finals ran = ap requests_first ran.table.split ∙ requests_front ran.table.requested ran.table.rest plan.requests ran.table.requests ran.table.no_more

-- ---- Questions on the table.

abbrev pub answered_of : ℕ × Operation → Reply → Answered
answered_of a r = record { parent = Some a.0; operation = a.1; reply = r }

some_same : {A : Type 0} {x y : A} → Some x ≡ Some y → x ≡ y
some_same e = cc

as_asked : (op : TableOperation) (a : ℕ × Operation) (r : Reply) → asks op ≡ Some a → of_table (op, r) ≡ Some (answered_of a r)
as_asked (submit parent f input) a r e = ap (λ x. Some (answered_of x r)) (some_same e)
as_asked (look parent child) a r e = ap (λ x. Some (answered_of x r)) (some_same e)
as_asked (submit_request f host input) a r e = let no : ⊥ = cc in absurd no
as_asked (take_next host bench) a r e = let no : ⊥ = cc in absurd no
as_asked (take_this call host bench) a r e = let no : ⊥ = cc in absurd no
as_asked (finish call o used output counts) a r e = let no : ⊥ = cc in absurd no

none_asked : (op : TableOperation) (r : Reply) → asks op ≡ None → of_table (op, r) ≡ None
none_asked (submit parent f input) r e = let no : ⊥ = cc in absurd no
none_asked (look parent child) r e = let no : ⊥ = cc in absurd no
none_asked (submit_request f host input) r e = refl
none_asked (take_next host bench) r e = refl
none_asked (take_this call host bench) r e = refl
none_asked (finish call o used output counts) r e = refl

question_asks : (op : TableOperation) → is_question op ≡ true → (a : ℕ × Operation) × (asks op ≡ Some a)
question_asks (submit parent f input) h = ((parent, Operation.submit f input), refl)
question_asks (look parent child) h = ((parent, Operation.look child), refl)
question_asks (submit_request f host input) h = let no : ⊥ = cc in absurd no
question_asks (take_next host bench) h = let no : ⊥ = cc in absurd no
question_asks (take_this call host bench) h = let no : ⊥ = cc in absurd no
question_asks (finish call o used output counts) h = let no : ⊥ = cc in absurd no

asks_question : (op : TableOperation) (a : ℕ × Operation) → asks op ≡ Some a → is_question op ≡ true
asks_question (submit parent f input) a e = refl
asks_question (look parent child) a e = refl
asks_question (submit_request f host input) a e = let no : ⊥ = cc in absurd no
asks_question (take_next host bench) a e = let no : ⊥ = cc in absurd no
asks_question (take_this call host bench) a e = let no : ⊥ = cc in absurd no
asks_question (finish call o used output counts) a e = let no : ⊥ = cc in absurd no

abbrev Rest : Type 0
Rest = List (TableOperation × Reply)

abbrev told_if : Bool → TableOperation × Reply → Rest → List Answered
told_if b x rest = filter_map of_table (cond b (x ∷ rest) rest)

-- the question of a bench behind others
pub table_split : (m : ℕ) (t : Table) (before behind : History TableOperation) (op : TableOperation) (a : ℕ × Operation) → asks op ≡ Some a → slice_get (asked_on_table m t (before ++ (m, op) ∷ behind)) (length (asked_on_table m t before)) ≡ Some (answered_of a (table.reply (left table_rules t before) m op))
table_split m t [] behind op a e =
    let x : TableOperation × Reply = (op, table.reply t m op) in
    let rest = told_to table_rules m (table.after t m op) behind in
    ap (λ b. slice_get (told_if b x rest) 0) (eq-eqb m m refl) ∙ ap (λ o. slice_get (cons_option o (filter_map of_table rest)) 0) (as_asked op a (table.reply t m op) e)
table_split m t (e ∷ before) behind op a i = by (e.0 == m) (table_split m u before behind op a i)
  where
    u : Table
    u = table.after t e.0 e.1

    x : TableOperation × Reply
    x = (e.1, table.reply t e.0 e.1)

    here : Option Answered
    here = Some (answered_of a (table.reply (left table_rules u before) m op))

    more : (o : Option Answered) (xs ys : List Answered) → slice_get xs (length ys) ≡ here → slice_get (cons_option o xs) (length (cons_option o ys)) ≡ here
    more None xs ys h = h
    more (Some y) xs ys h = h

    by : (b : Bool) → slice_get (asked_on_table m u (before ++ (m, op) ∷ behind)) (length (asked_on_table m u before)) ≡ here → slice_get (told_if b x (told_to table_rules m u (before ++ (m, op) ∷ behind))) (length (told_if b x (told_to table_rules m u before))) ≡ here
    by true h = more (of_table x) (asked_on_table m u (before ++ (m, op) ∷ behind)) (asked_on_table m u before) h
    by false h = h

-- every entry of a bench is a question
table_made : (plan : Plan) (m : ℕ) (t : Table) (h : History TableOperation) → nat_lt m (benches plan) ≡ true → list_all (by_its_maker plan) h ≡ true → made_by m h ≡ length (asked_on_table m t h)
table_made plan m t [] l k = refl
table_made plan m t (e ∷ h) l k =
    let p = and_parts (by_its_maker plan e) (list_all (by_its_maker plan) h) k in
    by (e.0 == m) refl (table_made plan m (table.after t e.0 e.1) h l p.1) p.0
  where
    u : Table
    u = table.after t e.0 e.1

    x : TableOperation × Reply
    x = (e.1, table.reply t e.0 e.1)

    question : (b : Bool) → nat_lt e.0 (benches plan) ≡ true → cond b (nat_lt e.0 (benches plan)) (not (nat_lt e.0 (benches plan))) ≡ true → b ≡ true
    question true i j = refl
    question false i j = let no : ⊥ = cc in absurd no

    by : (b : Bool) → (e.0 == m) ≡ b → made_by m h ≡ length (asked_on_table m u h) → by_its_maker plan e ≡ true → length {A = ℕ × TableOperation} (cond b (e ∷ filter (λ e. e.0 == m) h) (filter (λ e. e.0 == m) h)) ≡ length (told_if b x (told_to table_rules m u h))
    by true i same maker =
        let low : nat_lt e.0 (benches plan) ≡ true = ap (λ n. nat_lt n (benches plan)) (eqb-true e.0 m i) ∙ l in
        let a = question_asks e.1 (question (is_question e.1) low maker) in
        ap suc same ∙ sym (ap (λ o. length (cons_option o (asked_on_table m u h))) (as_asked e.1 a.0 x.1 a.1))
    by false i same maker = same

-- ---- Places of lists.

get_drop : {A : Type 0} (n j : ℕ) (xs : List A) → slice_get (drop n xs) j ≡ slice_get xs (n + j)
get_drop zero j xs = let e : j ≡ 0 + j = omega arith in ap (slice_get xs) e
get_drop (suc n) j [] = refl
get_drop (suc n) j (x ∷ xs) = get_drop n j xs ∙ (let e : suc (n + j) ≡ suc n + j = omega arith in ap (slice_get (x ∷ xs)) e)

get_take : {A : Type 0} (n j : ℕ) (xs : List A) → j < n → slice_get (take n xs) j ≡ slice_get xs j
get_take zero j xs l = let no : ⊥ = omega (arith, l) in absurd no
get_take (suc n) j [] l = refl
get_take (suc n) zero (x ∷ xs) l = refl
get_take (suc n) (suc j) (x ∷ xs) l = get_take n j xs (omega (arith, l))

taken_back : {A : Type 0} (n j : ℕ) (xs : List A) (x : A) → slice_get (take n xs) j ≡ Some x → (j < n) × (slice_get xs j ≡ Some x)
taken_back zero j xs x e = let no : ⊥ = cc in absurd no
taken_back (suc n) j [] x e = let no : ⊥ = cc in absurd no
taken_back (suc n) zero (y ∷ xs) x e = (omega arith, e)
taken_back (suc n) (suc j) (y ∷ xs) x e = let h = taken_back n j xs x e in let l = h.0 in (omega (arith, l), h.1)

none_pass : {A : Type 0} (test : A → Bool) (xs : List A) → ((j : ℕ) (x : A) → slice_get xs j ≡ Some x → test x ≡ true → ⊥) → filter test xs ≡ []
none_pass test [] h = refl
none_pass {A} test (x ∷ xs) h = by (test x) refl (none_pass test xs (λ j y e i. h (suc j) y e i))
  where
    by : (b : Bool) → test x ≡ b → filter test xs ≡ [] → cond b (x ∷ filter test xs) (filter test xs) ≡ []
    by true i e = absurd (h 0 x refl i)
    by false i e = e

all_pass : {A : Type 0} (test : A → Bool) (xs : List A) → list_all test xs ≡ true → filter test xs ≡ xs
all_pass test [] h = refl
all_pass test (x ∷ xs) h = let p = and_parts (test x) (list_all test xs) h in ap (λ b. cond b (x ∷ filter test xs) (filter test xs)) p.0 ∙ ap (λ ys. x ∷ ys) (all_pass test xs p.1)

below_get : {A : Type 0} (xs : List A) (i : ℕ) (x : A) → slice_get xs i ≡ Some x → i < length xs
below_get [] i x e = let no : ⊥ = cc in absurd no
below_get (y ∷ xs) zero x e = omega arith
below_get (y ∷ xs) (suc i) x e = let l = below_get xs i x e in omega (arith, l)

-- ---- Each question of a bench is of the call in whose part it lies.

abbrev pub is_of : ℕ → Answered → Bool
is_of call a = elim a.parent [ None ↦ false | Some parent ↦ parent == call ]

pub record Asker (plan : Plan) (s : Session) (m i : ℕ) (x : Answered) : Type 0 where
  pub found_so : Found plan s m OnTable i
  pub spot : ℕ
  pub its : slice_get (own plan s found_so.r OnTable) spot ≡ Some x
  pub is_its : is_of found_so.call x ≡ true

own_part : (plan : Plan) (s : Session) (call m : ℕ) (r : CallRecord) → CallRan plan s call r → bench_of r.state ≡ Some m → own plan s r OnTable ≡ take (count_on plan r OnTable) (drop (made_before plan s m (order_of r.state) OnTable) (asked_on_table m (first_table plan) s.table_history))
own_part plan s call m r c e = own_at plan s r OnTable (host_of_bench plan m) m (host_so plan s call m r c e) e

pub asker_of : (plan : Plan) (s : Session) (finals : List (List ℕ)) (m i : ℕ) (x : Answered) → Ran plan s finals → nat_lt m (benches plan) ≡ true → slice_get (asked_on_table m (first_table plan) s.table_history) i ≡ Some x → Asker plan s m i x
asker_of plan s finals m i x ran is_bench at =
    let all = asked_on_table m (first_table plan) s.table_history in
    let used = eqb-true (made plan s m (host_of_bench plan m) OnTable) (total (λ r. count_on plan r OnTable) (filter (is_of_bench m) s.records)) (ran.all_used m OnTable (ltb-true m (benches plan) is_bench)) in
    let number : made plan s m (host_of_bench plan m) OnTable ≡ length all = table_made plan m (first_table plan) s.table_history is_bench ran.table.makers in
    let below = below_get all i x at in
    let f = found plan s m i OnTable (ran_in_order plan s finals ran) (omega (arith, used, number, below)) in
    let c = call_ran plan s 0 f.call s.records f.r ran.calls f.here in
    let from = made_before plan s m (order_of f.r.state) OnTable in
    let count = count_on plan f.r OnTable in
    let low = f.from in
    let high = f.below in
    let j = i - from in
    let whole : from + j ≡ i = omega (arith, low) in
    let its : slice_get (own plan s f.r OnTable) j ≡ Some x =
    ap (λ xs. slice_get xs j) (own_part plan s (0 + f.call) m f.r c (bench_so m f.r.state f.of_bench))
    ∙ get_take count j (drop from all) (omega (arith, low, high))
    ∙ get_drop from j all
    ∙ ap (slice_get all) whole
    ∙ at in
    let same : 0 + f.call ≡ f.call = omega arith in
    record {
      found_so = f;
      spot = j;
      its = its;
      is_its = subst (λ n. is_of n x ≡ true) same (all_at (is_granted (0 + f.call) c.function.function.grants OnTable) (own plan s f.r OnTable) j x (c.granted OnTable) its);
    }

-- ---- So a call's questions are those that name it.

one_parent : (a b : ℕ) (x : Answered) → is_of a x ≡ true → is_of b x ≡ true → a ≡ b
one_parent a b x h k = by x.parent h k
  where
    by : (o : Option ℕ) → elim o as (λ o. Bool) [ None ↦ false | Some p ↦ p == a ] ≡ true → elim o as (λ o. Bool) [ None ↦ false | Some p ↦ p == b ] ≡ true → a ≡ b
    by None i j = let no : ⊥ = cc in absurd no
    by (Some p) i j = sym (eqb-true p a i) ∙ eqb-true p b j

record Same (plan : Plan) (s : Session) (call : ℕ) (r : CallRecord) (m i : ℕ) : Type 0 where
  pub bench : bench_of r.state ≡ Some m
  pub from : made_before plan s m (order_of r.state) OnTable ≤ i
  pub below : i < made_before plan s m (order_of r.state) OnTable + count_on plan r OnTable

same_call : (plan : Plan) (s : Session) (finals : List (List ℕ)) (call m i : ℕ) (r : CallRecord) (x : Answered) → Ran plan s finals → slice_get s.records call ≡ Some r → nat_lt m (benches plan) ≡ true → slice_get (asked_on_table m (first_table plan) s.table_history) i ≡ Some x → is_of call x ≡ true → Same plan s call r m i
same_call plan s finals call m i r x ran here is_bench at is =
    let a = asker_of plan s finals m i x ran is_bench at in
    let f = a.found_so in
    let call_so : f.call ≡ call = one_parent f.call call x a.is_its is in
    let r_so : f.r ≡ r = some_same (sym f.here ∙ ap (slice_get s.records) call_so ∙ here) in
    let low = f.from in
    let high = f.below in
    record {
      bench = ap (λ (q : CallRecord). bench_of q.state) (sym r_so) ∙ bench_so m f.r.state f.of_bench;
      from = subst (λ (q : CallRecord). made_before plan s m (order_of q.state) OnTable ≤ i) r_so low;
      below = subst (λ (q : CallRecord). i < made_before plan s m (order_of q.state) OnTable + count_on plan q OnTable) r_so high;
    }

own_filter : (plan : Plan) (s : Session) (finals : List (List ℕ)) (call m : ℕ) (r : CallRecord) → Ran plan s finals → slice_get s.records call ≡ Some r → nat_lt m (benches plan) ≡ true → bench_of r.state ≡ Some m → own plan s r OnTable ≡ filter (is_of call) (asked_on_table m (first_table plan) s.table_history)
own_filter plan s finals call m r ran here is_bench bench =
    let c = call_ran plan s 0 call s.records r ran.calls here in
    let same : 0 + call ≡ call = omega arith in
    let part_so = own_part plan s (0 + call) m r c bench in
    let granted : list_all (is_of call) (take count (drop from all)) ≡ true = subst (λ xs. list_all (is_of call) xs ≡ true) part_so (subst (λ n. list_all (is_of n) (own plan s r OnTable) ≡ true) same (c.granted OnTable)) in
    let parts : all ≡ take from all ++ (take count (drop from all) ++ drop count (drop from all)) = sym (take-append-drop from all) ∙ ap (λ ys. take from all ++ ys) (sym (take-append-drop count (drop from all))) in
    part_so
    ∙ sym (
    ap (filter (is_of call)) parts
    ∙ filter_both (is_of call) (take from all) (take count (drop from all) ++ drop count (drop from all))
    ∙ ap₂ (λ xs ys. xs ++ ys) (none_pass (is_of call) (take from all) early) (filter_both (is_of call) (take count (drop from all)) (drop count (drop from all)))
    ∙ ap₂ (λ xs ys. xs ++ ys) (all_pass (is_of call) (take count (drop from all)) granted) (none_pass (is_of call) (drop count (drop from all)) late)
    ∙ append-nil (take count (drop from all)))
  where
    all : List Answered
    all = asked_on_table m (first_table plan) s.table_history

    from : ℕ
    from = made_before plan s m (order_of r.state) OnTable

    count : ℕ
    count = count_on plan r OnTable

    early : (j : ℕ) (x : Answered) → slice_get (take from all) j ≡ Some x → is_of call x ≡ true → ⊥
    early j x e i =
        let b = taken_back from j all x e in
        let k = same_call plan s finals call m j r x ran here is_bench b.1 i in
        let l = b.0 in
        let low = k.from in
        omega (arith, l, low)

    late : (j : ℕ) (x : Answered) → slice_get (drop count (drop from all)) j ≡ Some x → is_of call x ≡ true → ⊥
    late j x e i =
        let at = sym (get_drop count j (drop from all) ∙ get_drop from (count + j) all) ∙ e in
        let k = same_call plan s finals call m (from + (count + j)) r x ran here is_bench at i in
        let high = k.below in
        omega (arith, high)

-- ---- All entries that name a call are of its bench.

abbrev ByBench : ℕ → ℕ → ℕ × TableOperation → Type 0
ByBench call bench e = (a : ℕ × Operation) → asks e.1 ≡ Some a → a.0 ≡ call → e.0 ≡ bench

all_middle : {A : Type 0} (test : A → Bool) (xs ys : List A) (x : A) → list_all test (xs ++ x ∷ ys) ≡ true → test x ≡ true
all_middle test [] ys x h = (and_parts (test x) (list_all test ys) h).0
all_middle test (z ∷ xs) ys x h = all_middle test xs ys x (and_parts (test z) (list_all test (xs ++ x ∷ ys)) h).1

-- who asks is a bench
pub asks_bench : (plan : Plan) (s : Session) (finals : List (List ℕ)) (before behind : History TableOperation) (e : ℕ × TableOperation) (a : ℕ × Operation) → Ran plan s finals → s.table_history ≡ before ++ e ∷ behind → asks e.1 ≡ Some a → nat_lt e.0 (benches plan) ≡ true
asks_bench plan s finals before behind e a ran at i =
    let maker = all_middle (by_its_maker plan) before behind e (subst (λ h. list_all (by_its_maker plan) h ≡ true) at ran.table.makers) in
    sym (ap (λ b. cond b (nat_lt e.0 (benches plan)) (not (nat_lt e.0 (benches plan)))) (asks_question e.1 a i)) ∙ maker

pub asked_at : (plan : Plan) (s : Session) (before behind : History TableOperation) (e : ℕ × TableOperation) (a : ℕ × Operation) → s.table_history ≡ before ++ e ∷ behind → asks e.1 ≡ Some a → slice_get (asked_on_table e.0 (first_table plan) s.table_history) (length (asked_on_table e.0 (first_table plan) before)) ≡ Some (answered_of a (table.reply (left table_rules (first_table plan) before) e.0 e.1))
asked_at plan s before behind e a at i = ap (λ h. slice_get (asked_on_table e.0 (first_table plan) h) (length (asked_on_table e.0 (first_table plan) before))) at ∙ table_split e.0 (first_table plan) before behind e.1 a i

by_bench : (plan : Plan) (s : Session) (finals : List (List ℕ)) (call bench : ℕ) (r : CallRecord) (before es : History TableOperation) → Ran plan s finals → slice_get s.records call ≡ Some r → bench_of r.state ≡ Some bench → s.table_history ≡ before ++ es → AllByRecursion (ByBench call bench) es
by_bench plan s finals call bench r before [] ran here is at = tt
by_bench plan s finals call bench r before (e ∷ es) ran here is at = (one, by_bench plan s finals call bench r (before ++ e ∷ []) es ran here is (at ∙ sym (append_assoc before (e ∷ []) es)))
  where
    one : ByBench call bench e
    one a i same =
        let x = answered_of a (table.reply (left table_rules (first_table plan) before) e.0 e.1) in
        let k = same_call plan s finals call e.0 (length (asked_on_table e.0 (first_table plan) before)) r x ran here (asks_bench plan s finals before es e a ran at i) (asked_at plan s before es e a at i) (eq-eqb a.0 call same) in
        some_same (sym k.bench ∙ is)

abbrev filtered : ℕ → Bool → TableOperation × Reply → Rest → List (Operation × Reply)
filtered call b x rest = told_of (filter (is_of call) (told_if b x rest))

told_by_bench : (call bench : ℕ) (t : Table) (h : History TableOperation) → AllByRecursion (ByBench call bench) h → told_in call (asked_in t h) ≡ told_of (filter (is_of call) (asked_on_table bench t h))
told_by_bench call bench t [] own = refl
told_by_bench call bench t (e ∷ es) own = by (asks e.1) refl (told_by_bench call bench u es own.1)
  where
    u : Table
    u = table.after t e.0 e.1

    x : TableOperation × Reply
    x = (e.1, table.reply t e.0 e.1)

    rest : Rest
    rest = told_to table_rules bench u es

    tail : List (ℕ × (Operation × Reply))
    tail = asked_in u es

    silent : asks e.1 ≡ None → (b : Bool) → told_in call tail ≡ told_of (filter (is_of call) (asked_on_table bench u es)) → told_in call tail ≡ filtered call b x rest
    silent i true h = h ∙ sym (ap (λ o. told_of (filter (is_of call) (cons_option o (filter_map of_table rest)))) (none_asked e.1 x.1 i))
    silent i false h = h

    asked : (a : ℕ × Operation) → asks e.1 ≡ Some a → (c b : Bool) → (a.0 == call) ≡ c → (e.0 == bench) ≡ b → told_in call tail ≡ told_of (filter (is_of call) (asked_on_table bench u es)) → told_in call ((a.0, (a.1, x.1)) ∷ tail) ≡ filtered call b x rest
    asked a i true true k l h =
        ap (λ c. map (λ (y : ℕ × (Operation × Reply)). y.1) (cond c ((a.0, (a.1, x.1)) ∷ filter (λ y. y.0 == call) tail) (filter (λ y. y.0 == call) tail))) k
        ∙ ap (λ ys. (a.1, x.1) ∷ ys) h
        ∙ sym (ap (λ c. told_of (cond c (answered_of a x.1 ∷ filter (is_of call) (filter_map of_table rest)) (filter (is_of call) (filter_map of_table rest)))) k)
        ∙ sym (ap (λ o. told_of (filter (is_of call) (cons_option o (filter_map of_table rest)))) (as_asked e.1 a x.1 i))
    asked a i true false k l h = let same = own.0 a i (eqb-true a.0 call k) in let yes = eq-eqb e.0 bench same in let no : ⊥ = cc in absurd no
    asked a i false true k l h =
        ap (λ c. map (λ (y : ℕ × (Operation × Reply)). y.1) (cond c ((a.0, (a.1, x.1)) ∷ filter (λ y. y.0 == call) tail) (filter (λ y. y.0 == call) tail))) k
        ∙ h
        ∙ sym (ap (λ c. told_of (cond c (answered_of a x.1 ∷ filter (is_of call) (filter_map of_table rest)) (filter (is_of call) (filter_map of_table rest)))) k)
        ∙ sym (ap (λ o. told_of (filter (is_of call) (cons_option o (filter_map of_table rest)))) (as_asked e.1 a x.1 i))
    asked a i false false k l h = ap (λ c. map (λ (y : ℕ × (Operation × Reply)). y.1) (cond c ((a.0, (a.1, x.1)) ∷ filter (λ y. y.0 == call) tail) (filter (λ y. y.0 == call) tail))) k ∙ h

    by : (o : Option (ℕ × Operation)) → asks e.1 ≡ o → told_in call tail ≡ told_of (filter (is_of call) (asked_on_table bench u es)) → told_in call (elim o as (λ o. List (ℕ × (Operation × Reply))) [ None ↦ tail | Some a ↦ (a.0, (a.1, x.1)) ∷ tail ]) ≡ filtered call (e.0 == bench) x rest
    by None i h = silent i (e.0 == bench) h
    by (Some a) i h = asked a i (a.0 == call) (e.0 == bench) refl refl h

pub told_on_table : (plan : Plan) (s : Session) (finals : List (List ℕ)) (call : ℕ) (r : CallRecord) → Ran plan s finals → slice_get s.records call ≡ Some r → told plan s r OnTable ≡ told_in call (asked_in (first_table plan) s.table_history)
told_on_table plan s finals call r ran here =
    let c = call_ran plan s 0 call s.records r ran.calls here in
    let bench = ap bench_of c.finished in
    ap told_of (own_filter plan s finals call c.bench r ran here (below_true c.bench (benches plan) c.on_bench) bench)
    ∙ sym (told_by_bench call c.bench (first_table plan) s.table_history (by_bench plan s finals call c.bench r [] s.table_history ran here bench refl))
  where
    below_true : (m n : ℕ) → m < n → nat_lt m n ≡ true
    below_true m n l = by (nat_lt m n) refl
      where
        by : (b : Bool) → nat_lt m n ≡ b → nat_lt m n ≡ true
        by true e = e
        by false e = let k = ltb-false m n e in let no : ⊥ = omega (arith, l, k) in absurd no
