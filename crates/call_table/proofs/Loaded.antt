-- The loads that are kept stay those of the records, and a call is placed by them as by the records.
use Rattle.std.proofs.Common.{◌≡◌, ◌≢◌, ℕ, zero, suc, ◌+◌, ◌-◌, ◌<◌, ◌≤◌, List, [], ◌∷◌, ◌++◌, length, map, Bool, true, false, cond, ◌||◌, ◌&&◌, ◌==◌, Option, Some, None, All, filter, slice_get, slice_set, get_or, refl, sym, ap, subst, ◌∙◌, arith, ne_eqb, eq-eqb}
use Rattle.std.specs.Prelude.{not, nat_lt, option_map, unwrap_or, replicate, vec_capacity}
use Rattle.std.specs.List.{range_with_len, cons_option}
use Rattle.std.proofs.lemmas.Bool.{and_parts, eqb-true}
use Rattle.std.proofs.lemmas.List.{append-nil, length-set, length_push, length-map}
use Rattle.std.proofs.lemmas.List.Elements.{filter_map-append, All-push, All-nil}
use Rattle.std.proofs.lemmas.Option.{same_Some}
use Rattle.faaslet_meaning.specs.declared.call.CallRecord.{CallRecord}
use Rattle.faaslet_meaning.specs.declared.call.CallState.{CallState}
use Rattle.faaslet_meaning.specs.declared.call.CallState.TheVariants.{Queued, Taken, Finished}
use Rattle.faaslet_meaning.specs.Placement.{place, is_warm, fewest, queued, queue_limit}
use Rattle.faaslet_meaning.specs.Records.{is_queued, is_open, host_of, queue, warm, takes}
use Rattle.faaslet_meaning.specs.declared.outcome.Outcome.{Outcome}
use Rattle.faaslet_meaning.specs.Lists.{passes_at, changed}
use Rattle.faaslet_meaning.specs.Table.{Table, place_of, taken, finished_state, one_more_child}
use Rattle.call_table.specs.Heads.{at_host}
use Rattle.call_table.specs.Loads.{LoadsFit, WarmWith}
use Rattle.call_table.specs.declared.loads.Loads.{Loads}
use Rattle.call_table.specs.Loads.WarmWith.{stays, added}
use Rattle.call_table.proofs.Counting.{count, count_same, count_less, count_more, count_push}
use Rattle.call_table.proofs.Counts.{few}
use Rattle.call_table.proofs.Held.{changed_set}
use Rattle.call_table.proofs.Places.{queue_counts, passes_there, passes_so}

-- ---- A list by the numbers of a range, changed at one of them.

got : (f : ℕ → ℕ) (a n k : ℕ) → k < n → get_or (map f (range_with_len a n)) k 0 ≡ f (a + k)
got f a zero k low = absurd (omega arith)
got f a (suc n) zero low = ap f (let z : a ≡ a + zero = omega arith in z)
got f a (suc n) (suc k) low = got f (a + 1) n k (omega arith) ∙ ap f (let z : (a + 1) + k ≡ a + suc k = omega arith in z)

same_from : (f g : ℕ → ℕ) (a n : ℕ) → ((x : ℕ) → a ≤ x → g x ≡ f x) → map g (range_with_len a n) ≡ map f (range_with_len a n)
same_from f g a zero e = refl
same_from f g a (suc n) e = ap (λ x. x ∷ map g (range_with_len (a + 1) n)) (e a (omega arith)) ∙ ap (λ xs. f a ∷ xs) (same_from f g (a + 1) n (λ x l. e x (omega arith)))

changed_from : (f g : ℕ → ℕ) (a n k v : ℕ) → ((x : ℕ) → x ≢ a + k → g x ≡ f x) → (k < n → v ≡ g (a + k)) → map g (range_with_len a n) ≡ slice_set (map f (range_with_len a n)) k v
changed_from f g a zero k v e is = refl
changed_from f g a (suc n) zero v e is =
    let z : a + zero ≡ a = omega arith in
    ap (λ x. x ∷ map g (range_with_len (a + 1) n)) (sym (is (omega arith) ∙ ap g z)) ∙ ap (λ xs. v ∷ xs) (same_from f g (a + 1) n (λ x l. e x (λ s. omega arith)))
changed_from f g a (suc n) (suc k) v e is =
    let z : (a + 1) + k ≡ a + suc k = omega arith in
    ap (λ x. x ∷ map g (range_with_len (a + 1) n)) (e a (λ s. omega arith))
    ∙ ap (λ xs. f a ∷ xs) (changed_from f g (a + 1) n k v (λ x d. e x (λ s. d (s ∙ sym z))) (λ l. is (omega arith) ∙ ap g (sym z)))

-- ---- The queues.

abbrev lengths : List CallRecord → ℕ → ℕ
lengths rs host = length (queue rs host)

by_count : (rs : List CallRecord) (host : ℕ) → lengths rs host ≡ count (at_host host) rs
by_count rs host = sym (queue_counts rs host)

queues_same : (hosts : ℕ) (rs new : List CallRecord) → ((host : ℕ) → count (at_host host) new ≡ count (at_host host) rs) → map (lengths new) (range_with_len 0 hosts) ≡ map (lengths rs) (range_with_len 0 hosts)
queues_same hosts rs new e = same_from (lengths rs) (lengths new) 0 hosts (λ x l. by_count new x ∙ e x ∙ sym (by_count rs x))

queues_set : (hosts placed : ℕ) (rs new : List CallRecord) (items : List ℕ) (v : ℕ) → items ≡ map (lengths rs) (range_with_len 0 hosts) → ((host : ℕ) → host ≢ placed → count (at_host host) new ≡ count (at_host host) rs)
    → (placed < hosts → v ≡ count (at_host placed) new) → slice_set items placed v ≡ map (lengths new) (range_with_len 0 hosts)
queues_set hosts placed rs new items v is others this =
    let z : 0 + placed ≡ placed = omega arith in
    ap (λ xs. slice_set xs placed v) is
    ∙ sym (changed_from (lengths rs) (lengths new) 0 hosts placed v (λ x d. by_count new x ∙ others x (λ e. d (e ∙ sym z)) ∙ sym (by_count rs x)) (λ l. this l ∙ sym (by_count new placed) ∙ ap (lengths new) (sym z)))

queue_at : (hosts placed : ℕ) (rs : List CallRecord) (items : List ℕ) → items ≡ map (lengths rs) (range_with_len 0 hosts) → placed < hosts → get_or items placed 0 ≡ count (at_host placed) rs
queue_at hosts placed rs items is low = ap (λ xs. get_or xs placed 0) is ∙ got (lengths rs) 0 hosts placed low ∙ ap (lengths rs) (let z : 0 + placed ≡ placed = omega arith in z) ∙ by_count rs placed

other_host : (host : ℕ) (r : CallRecord) → host ≢ r.placed → at_host host r ≡ false
other_host host r d = by (is_queued r.state) refl
  where
    by : (b : Bool) → is_queued r.state ≡ b → (b && (r.placed == host)) ≡ false
    by true e = ne_eqb r.placed host (λ s. d (sym s))
    by false e = refl

-- ---- What is warm.

abbrev pair_of : CallRecord → Option (ℕ × ℕ)
pair_of r = option_map (λ host. (r.function, host)) (host_of r.state)

pub warm_same : (rs : List CallRecord) (n : ℕ) (r x : CallRecord) → slice_get rs n ≡ Some r → x.function ≡ r.function → host_of x.state ≡ host_of r.state → warm (slice_set rs n x) ≡ warm rs
warm_same [] n r x e f h = let no : ⊥ = cc in absurd no
warm_same (y ∷ rs) zero r x e f h = let s = same_Some y r e in
    ap (λ k. cons_option (option_map (λ host. (k, host)) (host_of x.state)) (warm rs)) f ∙ ap (λ o. cons_option (option_map (λ host. (r.function, host)) o) (warm rs)) h
    ∙ ap (λ z. cons_option (pair_of z) (warm rs)) (sym s)
warm_same (y ∷ rs) (suc n) r x e f h = ap (λ ws. cons_option (pair_of y) ws) (warm_same rs n r x e f h)

warm_push : (rs : List CallRecord) (r : CallRecord) → host_of r.state ≡ None → warm (rs ++ r ∷ []) ≡ warm rs
warm_push rs r h = filter_map-append pair_of rs (r ∷ []) ∙ ap (λ o. warm rs ++ cons_option (option_map (λ host. (r.function, host)) o) []) h ∙ append-nil (warm rs)

abbrev is_pair : ℕ → ℕ → ℕ × ℕ → Bool
is_pair function host w = (w.0 == function) && (w.1 == host)

or_last : (a b : Bool) → (a || b) ≡ (b || a)
or_last true true = refl
or_last true false = refl
or_last false true = refl
or_last false false = refl

or_over : (a b c : Bool) → (a || (b || c)) ≡ ((a || b) || c)
or_over true b c = refl
or_over false b c = refl

pub warm_push_is : (ws : List (ℕ × ℕ)) (w : ℕ × ℕ) (function host : ℕ) → is_warm (ws ++ w ∷ []) function host ≡ (is_warm ws function host || is_pair function host w)
warm_push_is [] w function host = or_last (is_pair function host w) false
warm_push_is (v ∷ ws) w function host = ap (λ b. is_pair function host v || b) (warm_push_is ws w function host) ∙ or_over (is_pair function host v) (is_warm ws function host) (is_pair function host w)

cons_is : (o : Option (ℕ × ℕ)) (xs ys : List (ℕ × ℕ)) (function host : ℕ) (b : Bool) → is_warm ys function host ≡ (is_warm xs function host || b) → is_warm (cons_option o ys) function host ≡ (is_warm (cons_option o xs) function host || b)
cons_is None xs ys function host b e = e
cons_is (Some w) xs ys function host b e = ap (λ c. is_pair function host w || c) e ∙ or_over (is_pair function host w) (is_warm xs function host) b

warm_taken : (rs : List CallRecord) (n : ℕ) (r : CallRecord) (at bench order function host : ℕ) → slice_get rs n ≡ Some r → is_queued r.state ≡ true
    → is_warm (warm (slice_set rs n (record r { state = Taken at bench order }))) function host ≡ (is_warm (warm rs) function host || is_pair function host (r.function, at))
warm_taken [] n r at bench order function host e q = let no : ⊥ = cc in absurd no
warm_taken (y ∷ rs) zero r at bench order function host e q =
    let none : host_of y.state ≡ None = queued_none y.state (ap (λ (z : CallRecord). is_queued z.state) (same_Some y r e) ∙ q) in
    or_last (is_pair function host (r.function, at)) (is_warm (warm rs) function host)
    ∙ sym (ap (λ o. is_warm (cons_option (option_map (λ h. (y.function, h)) o) (warm rs)) function host || is_pair function host (r.function, at)) none)
  where
    queued_none : (s : CallState) → is_queued s ≡ true → host_of s ≡ None
    queued_none Queued t = refl
    queued_none (Taken h b o) t = let no : ⊥ = cc in absurd no
    queued_none (Finished h b o c u out counts) t = let no : ⊥ = cc in absurd no
warm_taken (y ∷ rs) (suc n) r at bench order function host e q =
    cons_is (pair_of y) (warm rs) (warm (slice_set rs n (record r { state = Taken at bench order }))) function host (is_pair function host (r.function, at)) (warm_taken rs n r at bench order function host e q)

or_true : (a b : Bool) → (b ≡ true → a ≡ true) → a ≡ (a || b)
or_true true b k = refl
or_true false true k = k refl
or_true false false k = refl

with_is : (before after : List (ℕ × ℕ)) (named at function host : ℕ) → WarmWith before named at after → is_warm after function host ≡ (is_warm before function host || is_pair function host (named, at))
with_is before after named at function host (stays t e) = ap (λ ws. is_warm ws function host) e ∙ or_true (is_warm before function host) (is_pair function host (named, at)) (λ p. by p)
  where
    by : is_pair function host (named, at) ≡ true → is_warm before function host ≡ true
    by p = let s = and_parts (named == function) (at == host) p in
        subst (λ h. is_warm before function h ≡ true) (eqb-true at host s.1) (subst (λ f. is_warm before f at ≡ true) (eqb-true named function s.0) t)
with_is before after named at function host (added e) = ap (λ ws. is_warm ws function host) e ∙ warm_push_is before (named, at) function host

-- ---- Placement.

pub place_same : (ls : List ℕ) (ws vs : List (ℕ × ℕ)) (function from : ℕ) → ((f host : ℕ) → is_warm ws f host ≡ is_warm vs f host) → place ls ws function from ≡ place ls vs function from
place_same ls ws vs function from e =
    let same : is_warm ws function ≡ is_warm vs function = λ i host. e function host i in
    ap (λ (has : ℕ → Bool). cond (has from && nat_lt (queued ls from) queue_limit) from (unwrap_or (fewest ls (filter has (range_with_len 0 (length ls)))) from)) same

-- ---- The loads after each operation.

pub loads_pushed : (hosts : ℕ) (rs : List CallRecord) (l m : Loads) (r : CallRecord) → LoadsFit hosts rs l → r.state ≡ Queued
    → m.queued.items ≡ slice_set l.queued.items r.placed (get_or l.queued.items r.placed 0 + 1) → m.warm.items ≡ l.warm.items → length l.warm.items + length rs + 1 ≤ vec_capacity m.warm + takes rs
    → LoadsFit hosts (rs ++ r ∷ []) m
loads_pushed hosts rs l m r fit state q w room =
    let len = length_push rs r in
    let t = count_push (λ x. not (is_queued x.state)) rs r false (ap (λ s. not (is_queued s)) state) in
    let wl = ap length w in
    record {
      queued = q ∙ queues_set hosts r.placed rs (rs ++ r ∷ []) l.queued.items (get_or l.queued.items r.placed 0 + 1) fit.queued others here;
      warm = λ f host. ap (λ ws. is_warm ws f host) w ∙ fit.warm f host ∙ ap (λ ws. is_warm ws f host) (sym (warm_push rs r (ap host_of state)));
      within = subst (All (λ x. x.1 < hosts)) (sym w) fit.within;
      room = omega arith;
    }
  where
    others : (host : ℕ) → host ≢ r.placed → count (at_host host) (rs ++ r ∷ []) ≡ count (at_host host) rs
    others host d = count_push (at_host host) rs r false (other_host host r d)

    here : r.placed < hosts → get_or l.queued.items r.placed 0 + 1 ≡ count (at_host r.placed) (rs ++ r ∷ [])
    here low =
        let is : at_host r.placed r ≡ true = ap (λ s. is_queued s && (r.placed == r.placed)) state ∙ eq-eqb r.placed r.placed refl in
        let c = count_push (at_host r.placed) rs r true is in
        let k = queue_at hosts r.placed rs l.queued.items fit.queued low in
        omega arith

pub loads_taken : (hosts : ℕ) (rs : List CallRecord) (l m : Loads) (n at bench order : ℕ) (r : CallRecord) → LoadsFit hosts rs l → slice_get rs n ≡ Some r → is_queued r.state ≡ true → at < hosts
    → m.queued.items ≡ slice_set l.queued.items r.placed (get_or l.queued.items r.placed 0 - 1) → WarmWith l.warm.items r.function at m.warm.items → vec_capacity m.warm ≡ vec_capacity l.warm
    → LoadsFit hosts (slice_set rs n (record r { state = Taken at bench order })) m
loads_taken hosts rs l m n at bench order r fit e state low q w cap =
    let x : CallRecord = record r { state = Taken at bench order } in
    let len = length-set rs n x in
    let t = count_more (λ y. not (is_queued y.state)) rs n r x e (ap not state) refl in
    let old = fit.room in
    let more = with_more l.warm.items m.warm.items r.function at w in
    record {
      queued = q ∙ queues_set hosts r.placed rs (slice_set rs n x) l.queued.items (get_or l.queued.items r.placed 0 - 1) fit.queued others here;
      warm = λ f host. with_is l.warm.items m.warm.items r.function at f host w ∙ ap (λ b. b || is_pair f host (r.function, at)) (fit.warm f host) ∙ sym (warm_taken rs n r at bench order f host e state);
      within = with_within w;
      room = omega arith;
    }
  where
    new_record : CallRecord
    new_record = record r { state = Taken at bench order }

    others : (host : ℕ) → host ≢ r.placed → count (at_host host) (slice_set rs n new_record) ≡ count (at_host host) rs
    others host d = count_same (at_host host) rs n r new_record e (sym (other_host host r d))

    here : r.placed < hosts → get_or l.queued.items r.placed 0 - 1 ≡ count (at_host r.placed) (slice_set rs n new_record)
    here in_range =
        let is : at_host r.placed r ≡ true = rw state (eq-eqb r.placed r.placed refl) in
        let c = count_less (at_host r.placed) rs n r new_record e is refl in
        let k = queue_at hosts r.placed rs l.queued.items fit.queued in_range in
        omega arith

    with_within : WarmWith l.warm.items r.function at m.warm.items → All (λ v. v.1 < hosts) m.warm.items
    with_within (stays t same) = subst (All (λ v. v.1 < hosts)) (sym same) fit.within
    with_within (added same) = subst (All (λ v. v.1 < hosts)) (sym same) (All-push (λ v. v.1 < hosts) l.warm.items (r.function, at) fit.within low)

    with_more : (before after : List (ℕ × ℕ)) (f h : ℕ) → WarmWith before f h after → length after ≤ length before + 1
    with_more before after f h (stays t same) = let k = ap length same in omega arith
    with_more before after f h (added same) = let k = ap length same ∙ length_push before (f, h) in omega arith

-- a change that leaves whether the call is queued and where it was taken
pub loads_same : (hosts : ℕ) (rs : List CallRecord) (l : Loads) (n : ℕ) (r x : CallRecord) → LoadsFit hosts rs l → slice_get rs n ≡ Some r → is_queued x.state ≡ is_queued r.state → host_of x.state ≡ host_of r.state
    → x.placed ≡ r.placed → x.function ≡ r.function → LoadsFit hosts (slice_set rs n x) l
loads_same hosts rs l n r x fit e q h p f =
    let len = length-set rs n x in
    let t = count_same (λ y. not (is_queued y.state)) rs n r x e (ap not q) in
    let old = fit.room in
    record {
      queued = fit.queued ∙ sym (queues_same hosts rs (slice_set rs n x) (λ host. count_same (at_host host) rs n r x e (ap (λ b. b && (x.placed == host)) q ∙ ap (λ k. is_queued r.state && (k == host)) p)));
      warm = λ g host. fit.warm g host ∙ ap (λ ws. is_warm ws g host) (sym (warm_same rs n r x e f h));
      within = fit.within;
      room = omega arith;
    }

-- ---- What the calls ask of the loads.

zeros : (a n : ℕ) → replicate n 0 ≡ map (lengths []) (range_with_len a n)
zeros a zero = refl
zeros a (suc n) = ap (λ xs. 0 ∷ xs) (zeros (a + 1) n)

pub none_loaded : (hosts : ℕ) (l : Loads) → l.queued.items ≡ replicate hosts 0 → l.warm.items ≡ [] → LoadsFit hosts [] l
none_loaded hosts l q w =
    let n = ap length w in
    record {
      queued = q ∙ zeros 0 hosts;
      warm = λ f host. ap (λ ws. is_warm ws f host) w;
      within = subst (All (λ v. v.1 < hosts)) (sym w) (All-nil (λ v. v.1 < hosts));
      room = omega arith;
    }

pub loads_more : (hosts : ℕ) (rs : List CallRecord) (l m : Loads) → LoadsFit hosts rs l → m.queued.items ≡ l.queued.items → m.warm.items ≡ l.warm.items → vec_capacity l.warm ≤ vec_capacity m.warm → LoadsFit hosts rs m
loads_more hosts rs l m fit q w c =
    let old = fit.room in
    let n = ap length w in
    record {
      queued = q ∙ fit.queued;
      warm = λ f host. ap (λ ws. is_warm ws f host) w ∙ fit.warm f host;
      within = subst (All (λ v. v.1 < hosts)) (sym w) fit.within;
      room = omega arith;
    }

range_length : (a n : ℕ) → length (range_with_len a n) ≡ n
range_length a zero = refl
range_length a (suc n) = ap suc (range_length (a + 1) n)

pub loads_length : (hosts : ℕ) (rs : List CallRecord) (l : Loads) → LoadsFit hosts rs l → length l.queued.items ≡ hosts
loads_length hosts rs l fit = ap length fit.queued ∙ length-map (range_with_len 0 hosts) (lengths rs) ∙ range_length 0 hosts

at_most : (f : ℕ → ℕ) (a n k b : ℕ) → ((x : ℕ) → f x ≤ b) → get_or (map f (range_with_len a n)) k 0 ≤ b
at_most f a zero k b h = omega arith
at_most f a (suc n) zero b h = h a
at_most f a (suc n) (suc k) b h = at_most f (a + 1) n k b h

pub queue_few : (hosts placed : ℕ) (rs : List CallRecord) (l : Loads) → LoadsFit hosts rs l → get_or l.queued.items placed 0 ≤ length rs
queue_few hosts placed rs l fit =
    subst (λ xs. get_or xs placed 0 ≤ length rs) (sym fit.queued) (at_most (lengths rs) 0 hosts placed (length rs) (λ x. let a = few (at_host x) rs in let e = by_count rs x in omega arith))

pub placed_so : (t : Table) (l : Loads) (function from : ℕ) → LoadsFit t.hosts t.records l → place l.queued.items l.warm.items function from ≡ place_of t function from
placed_so t l function from fit =
    ap (λ ls. place ls l.warm.items function from) fit.queued
    ∙ place_same (map (lengths t.records) (range_with_len 0 t.hosts)) l.warm.items (warm t.records) function from fit.warm

takes_few : (rs : List CallRecord) (n : ℕ) → passes_at (λ r. is_queued r.state) rs n ≡ true → takes rs < length rs
takes_few rs n e =
    let p = passes_there (λ r. is_queued r.state) rs n e in
    let x : CallRecord = record p.item { state = Taken 0 0 0 } in
    let more = count_more (λ y. not (is_queued y.state)) rs n p.item x p.there (ap not p.passes) refl in
    let at = few (λ y. not (is_queued y.state)) (slice_set rs n x) in
    let len = length-set rs n x in
    omega arith

pub one_room : (hosts : ℕ) (rs : List CallRecord) (l : Loads) (n : ℕ) → LoadsFit hosts rs l → passes_at (λ r. is_queued r.state) rs n ≡ true → length l.warm.items < vec_capacity l.warm
one_room hosts rs l n fit e = let room = fit.room in let t = takes_few rs n e in omega arith

pub takes_within : (rs : List CallRecord) → takes rs ≤ length rs
takes_within rs = few (λ y. not (is_queued y.state)) rs

-- ---- The operations of the table.

pub loads_take : (t : Table) (l m : Loads) (call at bench placed function : ℕ) (r : CallRecord) → LoadsFit t.hosts t.records l → slice_get t.records call ≡ Some r → passes_at (λ x. is_queued x.state) t.records call ≡ true → at < t.hosts
    → placed ≡ r.placed → function ≡ r.function → m.queued.items ≡ slice_set l.queued.items placed (get_or l.queued.items placed 0 - 1) → WarmWith l.warm.items function at m.warm.items → vec_capacity m.warm ≡ vec_capacity l.warm
    → LoadsFit t.hosts (taken t call at bench).records m
loads_take t l m call at bench placed function r fit e q low p f items w cap =
    let queued = sym (passes_so (λ x. is_queued x.state) t.records call r e) ∙ q in
    let a = subst (λ k. m.queued.items ≡ slice_set l.queued.items k (get_or l.queued.items k 0 - 1)) p items in
    let b = subst (λ k. WarmWith l.warm.items k at m.warm.items) f w in
    subst (λ rs. LoadsFit t.hosts rs m) (sym (changed_set t.records call r (λ x. record x { state = Taken at bench (takes t.records) }) e))
    (loads_taken t.hosts t.records l m call at bench (takes t.records) r fit e queued low a b cap)

finished_queued : (s : CallState) (o : Outcome) (used : ℕ) (output counts : List ℕ) → is_queued (finished_state s o used output counts) ≡ is_queued s
finished_queued Queued o used output counts = refl
finished_queued (Taken h b k) o used output counts = refl
finished_queued (Finished h b k c u out n) o used output counts = refl

finished_host : (s : CallState) (o : Outcome) (used : ℕ) (output counts : List ℕ) → host_of (finished_state s o used output counts) ≡ host_of s
finished_host Queued o used output counts = refl
finished_host (Taken h b k) o used output counts = refl
finished_host (Finished h b k c u out n) o used output counts = refl

pub loads_finish : (t : Table) (l : Loads) (call : ℕ) (o : Outcome) (used : ℕ) (output counts : List ℕ) → LoadsFit t.hosts t.records l → passes_at (λ r. is_open r.state) t.records call ≡ true
    → LoadsFit t.hosts (changed t.records call (λ r. record r { state = finished_state r.state o used output counts })) l
loads_finish t l call o used output counts fit e =
    let p = passes_there (λ r. is_open r.state) t.records call e in
    let x : CallRecord = record p.item { state = finished_state p.item.state o used output counts } in
    subst (λ rs. LoadsFit t.hosts rs l) (sym (changed_set t.records call p.item (λ r. record r { state = finished_state r.state o used output counts }) p.there))
    (loads_same t.hosts t.records l call p.item x fit p.there (finished_queued p.item.state o used output counts) (finished_host p.item.state o used output counts) refl refl)

-- room was made, and the record put behind the others
pub loads_added : (hosts : ℕ) (rs : List CallRecord) (l k m : Loads) (r : CallRecord) (placed spare : ℕ) → LoadsFit hosts rs l → r.state ≡ Queued → placed ≡ r.placed
    → k.queued.items ≡ l.queued.items → k.warm.items ≡ l.warm.items → vec_capacity l.warm ≤ vec_capacity k.warm → length l.warm.items + spare ≤ vec_capacity k.warm → spare + takes rs ≡ length rs + 1
    → m.queued.items ≡ slice_set k.queued.items placed (get_or k.queued.items placed 0 + 1) → m.warm ≡ k.warm → LoadsFit hosts (rs ++ r ∷ []) m
loads_added hosts rs l k m r placed spare fit state p q w more room is items same =
    let mid = loads_more hosts rs l k fit q w more in
    let a = subst (λ n. m.queued.items ≡ slice_set k.queued.items n (get_or k.queued.items n 0 + 1)) p items in
    let n = ap length w in
    let cap : vec_capacity m.warm ≡ vec_capacity k.warm = ap (λ v. vec_capacity v) same in
    loads_pushed hosts rs k m r mid state a (ap (λ v. v.items) same) (omega arith)

pub loads_child : (t : Table) (of : CallRecord) (call : ℕ) (l k m : Loads) (r : CallRecord) (placed spare : ℕ) → LoadsFit t.hosts t.records l → slice_get t.records call ≡ Some of → r.state ≡ Queued → placed ≡ r.placed
    → k.queued.items ≡ l.queued.items → k.warm.items ≡ l.warm.items → vec_capacity l.warm ≤ vec_capacity k.warm → length l.warm.items + spare ≤ vec_capacity k.warm → spare + takes t.records ≡ length t.records + 1
    → m.queued.items ≡ slice_set k.queued.items placed (get_or k.queued.items placed 0 + 1) → m.warm ≡ k.warm → LoadsFit t.hosts (changed t.records call one_more_child ++ r ∷ []) m
loads_child t of call l k m r placed spare fit there state p q w more room is items same =
    let new = one_more_child of in
    let rs = slice_set t.records call new in
    let len = length-set t.records call new in
    let tk : takes rs ≡ takes t.records = count_same (λ y. not (is_queued y.state)) t.records call of new there refl in
    let next = loads_same t.hosts t.records l call of new fit there refl refl refl refl in
    subst (λ xs. LoadsFit t.hosts (xs ++ r ∷ []) m) (sym (changed_set t.records call of one_more_child there))
    (loads_added t.hosts rs l k m r placed spare next state p q w more room (omega arith) items same)
