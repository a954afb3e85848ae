-- What is offered on the floor of a world is what a trace offers there.
use Rattle.std.proofs.Common.{◌≡◌, ℕ, zero, suc, ◌+◌, ◌<◌, Bool, true, false, cond, List, [], ◌∷◌, ◌++◌, Option, Some, None, length, map, filter, slice_get, unwrap_or, refl, sym, ap, ap₂, ◌∙◌, arith}
use Rattle.std.specs.Prelude.{◌&&◌, ◌||◌, All, is_none, is_some, nat_lt}
use Rattle.std.specs.List.{flat_map, range_with_len}
use Rattle.std.proofs.lemmas.Bool.{lt-ltb}
use Rattle.std.proofs.lemmas.List.Elements.{filter-append, All-head, All-tail}
use Rattle.faaslet_meaning.specs.declared.call.CallRecord.{CallRecord}
use Rattle.faaslet_meaning.specs.Lists.{passes_at, places, places_from}
use Rattle.faaslet_meaning.specs.Records.{is_queued}
use Rattle.session_meaning.specs.declared.event.Event.{Event}
use Rattle.session_meaning.specs.declared.event.Event.TheVariants.{Take, Ask, End}
use Rattle.session_meaning.specs.declared.event.Why.{Why}
use Rattle.session_meaning.specs.declared.event.Why.TheVariants.{NoCall, NoHost, NotOpen, NotQueued}
use Rattle.session_meaning.specs.Events.{why, why_ask, why_end, why_open, why_take}
use Rattle.session_meaning.specs.OpenCall.{Open}
use Rattle.session_meaning.specs.Plan.{Plan}
use Rattle.session_meaning.specs.Schedule.{calls_of, has_worker, is_awaited, offered, offers, takes_of}
use Rattle.session_meaning.specs.World.{World}
use Rattle.world_core.specs.declared.floor.Floor.{Floor}
use Rattle.world_core.specs.declared.floor.Seat.{Seat}
use Rattle.world_core.specs.declared.floor.Stand.{Stand}
use Rattle.world_core.specs.declared.floor.Stand.TheVariants as stand
use Rattle.world_core.specs.declared.floor.Waiting.{Waiting}
use Rattle.world_core.specs.Floor.{FloorOf, has_stand, has_worker_on, may_take, offered_on, takes_at, takes_on}

-- ---- Lists.

filter_mapped : {A B : Type 0} (p : B → Bool) (f : A → B) (xs : List A) → filter p (map f xs) ≡ map f (filter (λ x. p (f x)) xs)
filter_mapped p f [] = refl
filter_mapped {A = A} p f (x ∷ xs) = by (p (f x)) (filter_mapped p f xs)
  where
    by : (b : Bool) → filter p (map f xs) ≡ map f (filter (λ y. p (f y)) xs) → cond b (f x ∷ filter p (map f xs)) (filter p (map f xs)) ≡ map f (cond b (x ∷ filter (λ y. p (f y)) xs) (filter (λ y. p (f y)) xs))
    by true e = ap (λ l. f x ∷ l) e
    by false e = e

filter_flat : {A B : Type 0} (p : B → Bool) (q : A → Bool) (g : A → List B) (xs : List A) → ((x : A) → filter p (g x) ≡ cond (q x) (g x) []) → filter p (flat_map g xs) ≡ flat_map g (filter q xs)
filter_flat p q g [] same = refl
filter_flat p q g (x ∷ xs) same = filter-append p (g x) (flat_map g xs) ∙ (ap₂ (λ a b. a ++ b) (same x) (filter_flat p q g xs same) ∙ by (q x))
  where
    by : (b : Bool) → cond b (g x) [] ++ flat_map g (filter q xs) ≡ flat_map g (cond b (x ∷ filter q xs) (filter q xs))
    by true = refl
    by false = refl

filter_both : {A : Type 0} (p q : A → Bool) (xs : List A) → filter (λ x. p x && q x) xs ≡ filter q (filter p xs)
filter_both p q [] = refl
filter_both p q (x ∷ xs) = by (p x) (q x) refl (filter_both p q xs)
  where
    by : (a b : Bool) → q x ≡ b → filter (λ y. p y && q y) xs ≡ filter q (filter p xs) → cond (a && b) (x ∷ filter (λ y. p y && q y) xs) (filter (λ y. p y && q y) xs) ≡ filter q (cond a (x ∷ filter p xs) (filter p xs))
    by true true is e = ap (λ l. x ∷ l) e ∙ sym (ap (λ c. cond c (x ∷ filter q (filter p xs)) (filter q (filter p xs))) is)
    by true false is e = e ∙ sym (ap (λ c. cond c (x ∷ filter q (filter p xs)) (filter q (filter p xs))) is)
    by false b is e = e

filter_same : {A : Type 0} (p q : A → Bool) (xs : List A) → ((x : A) → p x ≡ q x) → filter p xs ≡ filter q xs
filter_same p q [] same = refl
filter_same p q (x ∷ xs) same = ap₂ (λ b l. cond b (x ∷ l) l) (same x) (filter_same p q xs same)

filter_all_same : {A : Type 0} (p q : A → Bool) (xs : List A) → All (λ x. p x ≡ q x) xs → filter p xs ≡ filter q xs
filter_all_same p q [] same = refl
filter_all_same p q (x ∷ xs) same = ap₂ (λ b l. cond b (x ∷ l) l) (All-head (λ y. p y ≡ q y) x xs same) (filter_all_same p q xs (All-tail (λ y. p y ≡ q y) x xs same))

flat_mapped : {A B C : Type 0} (g : B → List C) (f : A → B) (xs : List A) → flat_map g (map f xs) ≡ flat_map (λ x. g (f x)) xs
flat_mapped g f [] = refl
flat_mapped g f (x ∷ xs) = ap (λ l. g (f x) ++ l) (flat_mapped g f xs)

mapped_twice : {A B C : Type 0} (g : B → C) (f : A → B) (xs : List A) → map g (map f xs) ≡ map (λ x. g (f x)) xs
mapped_twice g f [] = refl
mapped_twice g f (x ∷ xs) = ap (λ l. g (f x) ∷ l) (mapped_twice g f xs)

length_mapped : {A B : Type 0} (f : A → B) (xs : List A) → length (map f xs) ≡ length xs
length_mapped f [] = refl
length_mapped f (x ∷ xs) = ap suc (length_mapped f xs)

-- the places of a list are those numbers of its range that pass there
ranged : {A : Type 0} (test : A → Bool) (p : ℕ → Bool) (xs : List A) (n : ℕ) → ((k : ℕ) → p (n + k) ≡ passes_at test xs k) → filter p (range_with_len n (length xs)) ≡ places_from n test xs
ranged test p [] n same = refl
ranged test p (x ∷ xs) n same = by (test x) (ap p (omega arith) ∙ same 0) (ranged test p xs (n + 1) (λ k. ap p (omega arith) ∙ same (suc k)))
  where
    by : (b : Bool) → p n ≡ b → filter p (range_with_len (n + 1) (length xs)) ≡ places_from (n + 1) test xs → filter p (n ∷ range_with_len (n + 1) (length xs)) ≡ cond b (n ∷ places_from (n + 1) test xs) (places_from (n + 1) test xs)
    by true is e = ap₂ (λ c l. cond c (n ∷ l) l) is e
    by false is e = ap₂ (λ c l. cond c (n ∷ l) l) is e

in_range : {A : Type 0} (test : A → Bool) (xs : List A) → filter (passes_at test xs) (range_with_len 0 (length xs)) ≡ places test xs
in_range test xs = ranged test (passes_at test xs) xs 0 (λ k. ap (passes_at test xs) (omega arith))

and_true : (b : Bool) → (b && true) ≡ b
and_true true = refl
and_true false = refl

abbrev call_of : Waiting → ℕ
call_of q = q.call

abbrev seated : Seat → ℕ
seated s = s.call

-- an event may stand and is offered
abbrev stands : Plan → World → Event → Bool
stands plan w e = is_none (why w e) && offers plan w e

-- ---- Takes.

abbrev is_queued_in : World → ℕ → Bool
is_queued_in w c = passes_at (λ (r : CallRecord). is_queued r.state) w.table.records c

abbrev is_taken_next : Plan → World → ℕ → Bool
is_taken_next plan w c = is_awaited w c || has_worker plan w

queued_so : (b : Bool) → is_none {T = Why} (cond b None (Some NotQueued)) ≡ b
queued_so true = refl
queued_so false = refl

queued_here : (w : World) (c host : ℕ) → host < w.table.hosts → is_none (why w (Take c host)) ≡ is_queued_in w c
queued_here w c host h = by (slice_get w.table.records c)
  where
    by : (z : Option CallRecord) → is_none (elim z [ None ↦ Some NoCall | Some r ↦ why_take w r host ]) ≡ elim z [ None ↦ false | Some r ↦ is_queued r.state ]
    by None = refl
    by (Some r) = ap (λ b. is_none (cond b (cond (is_queued r.state) None (Some NotQueued)) (Some NoHost))) (lt-ltb host w.table.hosts h) ∙ queued_so (is_queued r.state)

takes_here : (plan : Plan) (w : World) (c n m : ℕ) → n + m ≡ w.table.hosts → filter (stands plan w) (map (λ host. Take c host) (range_with_len n m)) ≡ cond (is_queued_in w c && is_taken_next plan w c) (map (λ host. Take c host) (range_with_len n m)) []
takes_here plan w c n zero e = by (is_queued_in w c && is_taken_next plan w c)
  where
    by : (b : Bool) → [] ≡ cond b [] (let l : List Event = [] in l)
    by true = refl
    by false = refl
takes_here plan w c n (suc m) e = by (is_queued_in w c && is_taken_next plan w c) (ap (λ b. b && is_taken_next plan w c) (queued_here w c n (omega (arith, e)))) (takes_here plan w c (n + 1) m (omega (arith, e)))
  where
    by : (b : Bool) → stands plan w (Take c n) ≡ b → filter (stands plan w) (map (λ host. Take c host) (range_with_len (n + 1) m)) ≡ cond b (map (λ host. Take c host) (range_with_len (n + 1) m)) [] → filter (stands plan w) (Take c n ∷ map (λ host. Take c host) (range_with_len (n + 1) m)) ≡ cond b (Take c n ∷ map (λ host. Take c host) (range_with_len (n + 1) m)) []
    by true is f = ap₂ (λ a l. cond a (Take c n ∷ l) l) is f
    by false is f = ap₂ (λ a l. cond a (Take c n ∷ l) l) is f

worker_so : (plan : Plan) (w : World) (f : Floor) → FloorOf plan w f → has_worker plan w ≡ has_worker_on f
worker_so plan w f fo = ap₂ (λ a b. nat_lt a b) (sym (ap length fo.has.open_so) ∙ length_mapped seated f.open.items) (sym fo.has.workers)

takes_so : (plan : Plan) (w : World) (f : Floor) → FloorOf plan w f → filter (stands plan w) (flat_map (takes_of w) (calls_of w)) ≡ takes_on f
takes_so plan w f fo =
    let next = is_taken_next plan w in
    let worker = worker_so plan w f fo in
    let same = filter_all_same (λ (q : Waiting). next q.call) (may_take (has_worker_on f)) f.queued.items (λ k d h. ap₂ (λ a b. a || b) (sym (fo.has.awaited k d h)) worker) in
    let queued = in_range (λ (r : CallRecord). is_queued r.state) w.table.records ∙ sym fo.has.queued in
    let calls = filter_both (is_queued_in w) next (calls_of w) ∙ (ap (filter next) queued ∙ (filter_mapped next call_of f.queued.items ∙ ap (map call_of) same)) in
    filter_flat (stands plan w) (λ c. is_queued_in w c && next c) (takes_of w) (calls_of w) (λ c. takes_here plan w c 0 w.table.hosts (omega arith))
    ∙ (ap (flat_map (takes_of w)) calls ∙ (flat_mapped (takes_of w) call_of (filter (may_take (has_worker_on f)) f.queued.items)
    ∙ ap (λ n. flat_map (λ (q : Waiting). takes_at n q.call) (filter (may_take (has_worker_on f)) f.queued.items)) (sym fo.has.hosts)))

-- ---- Asks and Ends.

not_open : (z : Option (Option Open)) → elim z [ None ↦ false | Some x ↦ is_some x ] ≡ false → unwrap_or z None ≡ None
not_open None e = refl
not_open (Some None) e = refl
not_open (Some (Some o)) e = let no : ⊥ = cc in absurd no

closed_so : (w : World) (c : ℕ) (reason : Open → Option Why) → passes_at is_some w.calls c ≡ false → is_none (elim (slice_get w.table.records c) [ None ↦ Some NoCall | Some r ↦ why_open w c reason ]) ≡ false
closed_so w c reason e = by (slice_get w.table.records c)
  where
    by : (z : Option CallRecord) → is_none (elim z [ None ↦ Some NoCall | Some r ↦ why_open w c reason ]) ≡ false
    by None = refl
    by (Some r) = ap (λ (y : Option Open). is_none (elim y [ None ↦ Some NotOpen | Some o ↦ reason o ])) (not_open (slice_get w.calls c) e)

within : (opened may : ℕ → Bool) → ((c : ℕ) → opened c ≡ false → may c ≡ false) → (c : ℕ) → may c ≡ (opened c && may c)
within opened may shut c = by (opened c) refl
  where
    by : (b : Bool) → opened c ≡ b → may c ≡ (b && may c)
    by true e = refl
    by false e = shut c e

of_kind : (plan : Plan) (w : World) (f : Floor) (e : ℕ → Event) (p : Stand) → FloorOf plan w f → ((c : ℕ) → offers plan w (e c) ≡ true) → ((c : ℕ) → passes_at is_some w.calls c ≡ false → is_none (why w (e c)) ≡ false) → All (λ (s : Seat). has_stand p s ≡ is_none (why w (e s.call))) f.open.items → filter (stands plan w) (map e (calls_of w)) ≡ map (λ (s : Seat). e s.call) (filter (has_stand p) f.open.items)
of_kind plan w f e p fo offer shut all =
    let may = λ (c : ℕ). is_none (why w (e c)) in
    let opened = λ (c : ℕ). passes_at is_some w.calls c in
    let here = ap (λ n. filter opened (range_with_len 0 n)) (sym fo.has.calls) ∙ (in_range is_some w.calls ∙ sym fo.has.open_so) in
    let mine = filter_same (λ c. stands plan w (e c)) may (calls_of w) (λ c. ap (λ b. may c && b) (offer c) ∙ and_true (may c)) in
    let seats = filter_same may (λ c. opened c && may c) (calls_of w) (within opened may shut) ∙ (filter_both opened may (calls_of w) ∙ (ap (filter may) here ∙ filter_mapped may seated f.open.items)) in
    let standing = sym (filter_all_same (has_stand p) (λ (s : Seat). may s.call) f.open.items all) in
    filter_mapped (stands plan w) e (calls_of w) ∙ (ap (map e) (mine ∙ (seats ∙ ap (map seated) standing)) ∙ mapped_twice e seated (filter (has_stand p) f.open.items))

pub offered_so : (plan : Plan) (w : World) (f : Floor) → FloorOf plan w f → offered_on f ≡ offered plan w
offered_so plan w f fo =
    let takes = takes_so plan w f fo in
    let asks = of_kind plan w f (λ call. Ask call) stand.Free fo (λ c. refl) (λ c e. closed_so w c (why_ask w c) e) (λ k d h. (fo.stands k d h).free) in
    let ends = of_kind plan w f (λ call. End call) stand.Ended fo (λ c. refl) (λ c e. closed_so w c why_end e) (λ k d h. (fo.stands k d h).has_ended) in
    let t = flat_map (takes_of w) (calls_of w) in
    let a = map (λ call. Ask call) (calls_of w) in
    let n = map (λ call. End call) (calls_of w) in
    sym (filter-append (stands plan w) (t ++ a) n ∙ ap₂ (λ x y. x ++ y) (filter-append (stands plan w) t a ∙ ap₂ (λ x y. x ++ y) takes asks) ends)
