-- Which calls are awaited after an Ask: those that were, and the one at which the call looks next.
use Rattle.std.proofs.Common.{◌≡◌, ℕ, zero, suc, ◌+◌, ◌<◌, Bool, true, false, cond, List, [], ◌∷◌, Option, Some, None, refl, sym, ap, ◌∙◌, subst, length, map, slice_get, arith}
use Rattle.std.specs.Prelude.{◌==◌, ◌&&◌, ◌||◌, All}
use Rattle.std.specs.List.{list_any}
use Rattle.std.proofs.lemmas.Bool.{and_parts, eq-eqb, eqb-false, eqb-true, ne_eqb}
use Rattle.std.proofs.lemmas.Option.{get_or_from_slice_get}
use Rattle.faaslet_meaning.specs.declared.ask.Ask.TheVariants as an_ask
use Rattle.faaslet_meaning.specs.declared.ask.Move.TheVariants as move
use Rattle.faaslet_meaning.specs.declared.call.CallRecord.{CallRecord}
use Rattle.faaslet_meaning.specs.declared.call.CallState.{CallState}
use Rattle.faaslet_meaning.specs.declared.call.CallState.TheVariants.{Queued, Taken, Finished}
use Rattle.faaslet_meaning.specs.declared.grant.Channel.{Channel}
use Rattle.faaslet_meaning.specs.declared.grant.Channel.TheVariants.{Local, Global, Table as OnTable}
use Rattle.faaslet_meaning.specs.Asks.{front, submit_of}
use Rattle.faaslet_meaning.specs.CallState.{State, asks, over}
use Rattle.faaslet_meaning.specs.Channels.{Operation, Question, RegionOperation, ask, fills, on_region, pulls, pushes}
use Rattle.faaslet_meaning.specs.Lists.{passes_at, places_from}
use Rattle.faaslet_meaning.specs.Records.{child_of, is_finished, is_open, is_queued, queued_calls}
use Rattle.faaslet_run.specs.declared.faaslet.Faaslet.{Faaslet}
use Rattle.faaslet_run.specs.declared.faaslet.Turn.{Turn}
use Rattle.faaslet_run.specs.declared.faaslet.Turn.TheVariants as turns
use Rattle.session_meaning.specs.Events.{open_at}
use Rattle.session_meaning.specs.OpenCall.{Open, asking, is_broken, stands}
use Rattle.session_meaning.specs.Schedule.{is_awaited, looked_at, looks_at, open_calls}
use Rattle.session_meaning.specs.World.{World}
use Rattle.session_meaning.proofs.OneQuestion.{LookStands}
use Rattle.world_core.specs.Asking.{looked_by, marked_as}
use Rattle.world_core.specs.Played.{IsAt}
use Rattle.world_core.specs.Seating.{looked}
use Rattle.world_core.specs.declared.floor.Waiting.{Waiting}
use Rattle.world_core.specs.declared.player.Place.{Place}
use Rattle.world_core.specs.declared.player.Place.TheVariants as place
use Rattle.world_core.proofs.KeptBack.{child_within}
use Rattle.world_core.proofs.Looking.{asks_nothing, looks_so, looks_not}
use Rattle.world_core.proofs.RegionAsks.{fill_is, region_is}

some_same : {A : Type 0} {x y : A} → Some x ≡ Some y → x ≡ y
some_same e = cc

-- ---- Any of a list.

abbrev pub has : ℕ → List ℕ → Bool
has n xs = list_any (λ x. x == n) xs

or_false : (b : Bool) → (b || false) ≡ b
or_false true = refl
or_false false = refl

or_true : (b : Bool) → (b || true) ≡ true
or_true true = refl
or_true false = refl

or_assoc : (a b c : Bool) → (a || (b || c)) ≡ ((a || b) || c)
or_assoc true b c = refl
or_assoc false b c = refl

here_too : (b f h : Bool) → (b || (f || (h && b))) ≡ (f || b)
here_too true f h = sym (or_true f)
here_too false true h = refl
here_too false false true = refl
here_too false false false = refl

any_more : (f g : ℕ → Bool) (call : ℕ) (b : Bool) (xs : List ℕ) → ((x : ℕ) → (call ≡ x → ⊥) → g x ≡ f x) → f call ≡ false → g call ≡ b → list_any g xs ≡ (list_any f xs || (has call xs && b))
any_more f g call b [] others none now = refl
any_more f g call b (x ∷ xs) others none now = by (x == call) refl (any_more f g call b xs others none now)
  where
    by : (e : Bool) → (x == call) ≡ e → list_any g xs ≡ (list_any f xs || (has call xs && b)) → (g x || list_any g xs) ≡ ((f x || list_any f xs) || ((e || has call xs) && b))
    by true e ih =
        let same = eqb-true x call e in
        ap (λ y. y || list_any g xs) (ap g same ∙ now)
        ∙ ap (λ y. b || y) ih
        ∙ here_too b (list_any f xs) (has call xs)
        ∙ sym (ap (λ y. (y || list_any f xs) || b) (ap f same ∙ none))
    by false e ih =
        ap (λ y. y || list_any g xs) (others x (λ s. eqb-false x call e (sym s)))
        ∙ ap (λ y. f x || y) ih
        ∙ or_assoc (f x) (list_any f xs) (has call xs && b)

any_none : (f : ℕ → Bool) (xs : List ℕ) → ((x : ℕ) → f x ≡ false) → list_any f xs ≡ false
any_none f [] none = refl
any_none f (x ∷ xs) none = ap (λ y. y || list_any f xs) (none x) ∙ any_none f xs none

pub has_at : (xs : List ℕ) (i n : ℕ) → slice_get xs i ≡ Some n → has n xs ≡ true
has_at [] i n e = let no : ⊥ = cc in absurd no
has_at (x ∷ xs) zero n e = let same : x ≡ n = cc in ap (λ b. b || has n xs) (eq-eqb x n same)
has_at (x ∷ xs) (suc i) n e = ap (λ b. (x == n) || b) (has_at xs i n e) ∙ or_true (x == n)

same_way : (a b : ℕ) → (a == b) ≡ (b == a)
same_way a b = by (b == a) refl
  where
    by : (c : Bool) → (b == a) ≡ c → (a == b) ≡ c
    by true e = eq-eqb a b (sym (eqb-true b a e))
    by false e = ne_eqb a b (λ s. eqb-false b a e (sym s))

-- ---- Where an open call looks.

abbrev looked_in : List CallRecord → ℕ → ℕ → Option ℕ → Bool
looked_in records call other child = elim child [ None ↦ false | Some child ↦ elim (child_of records call child) [ None ↦ false | Some c ↦ c == other ] ]

abbrev looks_of : List CallRecord → ℕ → ℕ → Option Open → Bool
looks_of records call other x = elim x [ None ↦ false | Some o ↦ elim (asking o.machine) [ None ↦ false | Some a ↦ looked_in records call other (looked_at a.1) ] ]

-- where it finds its children as before it looks at the same
looks_same : (records more : List CallRecord) (call other : ℕ) (x y : Option Open) → y ≡ x → ((child : ℕ) → child_of more call child ≡ child_of records call child) → looks_of more call other y ≡ looks_of records call other x
looks_same records more call other x y e kids = ap (looks_of more call other) e ∙ by x
  where
    child : (c : Option ℕ) → looked_in more call other c ≡ looked_in records call other c
    child None = refl
    child (Some c) = ap (λ o. elim o as (λ o. Bool) [ None ↦ false | Some c ↦ c == other ]) (kids c)

    at : (a : Option (State × Question)) → ◌≡◌ {A = Bool} (elim a [ None ↦ false | Some a ↦ looked_in more call other (looked_at a.1) ]) (elim a [ None ↦ false | Some a ↦ looked_in records call other (looked_at a.1) ])
    at None = refl
    at (Some a) = child (looked_at a.1)

    by : (x : Option Open) → looks_of more call other x ≡ looks_of records call other x
    by None = refl
    by (Some o) = at (asking o.machine)

-- nobody looks at a call that is not there
none_looks : (w : World) (call : ℕ) → looks_at w call (length w.table.records) ≡ false
none_looks w call = by (open_at w call)
  where
    found : (c : ℕ) (k : Option ℕ) → k ≡ child_of w.table.records call c → ◌≡◌ {A = Bool} (elim k [ None ↦ false | Some k ↦ k == length w.table.records ]) false
    found c None e = refl
    found c (Some k) e = let l = child_within w.table.records call c k (Some k) e refl in ne_eqb k (length w.table.records) (λ s. omega (arith, l, s))

    child : (c : Option ℕ) → looked_in w.table.records call (length w.table.records) c ≡ false
    child None = refl
    child (Some c) = found c (child_of w.table.records call c) refl

    at : (a : Option (State × Question)) → ◌≡◌ {A = Bool} (elim a [ None ↦ false | Some a ↦ looked_in w.table.records call (length w.table.records) (looked_at a.1) ]) false
    at None = refl
    at (Some a) = child (looked_at a.1)

    by : (x : Option Open) → looks_of w.table.records call (length w.table.records) x ≡ false
    by None = refl
    by (Some o) = at (asking o.machine)

-- one whose question may stand looks at a finished call, if at any
pub looks_before : (w : World) (call : ℕ) (o : Open) (s : State) (q : Question) (n : ℕ) → open_at w call ≡ Some o → o.machine ≡ stands (asks s q) → LookStands w call q → passes_at (λ r. is_finished r.state) w.table.records n ≡ false → looks_at w call n ≡ false
looks_before w call o s (ask OnTable (Operation.look c)) n at is may not_done = by (child_of w.table.records call c) refl (and_parts (passes_at (λ r. is_open r.state) w.table.records call) _ may).1
  where
    by : (k : Option ℕ) → child_of w.table.records call c ≡ k → ◌≡◌ {A = Bool} (elim k [ None ↦ false | Some k ↦ passes_at (λ r. is_finished r.state) w.table.records k ]) true → looks_at w call n ≡ false
    by None e done = let no : ⊥ = cc in absurd no
    by (Some k) e done =
        looks_so w call n o s c k at is e
        ∙ ne_eqb k n (λ (same : k ≡ n). let b : true ≡ false = sym done ∙ ap (passes_at (λ r. is_finished r.state) w.table.records) same ∙ not_done in let no : ⊥ = cc in no)
looks_before w call o s (ask OnTable (Operation.submit f input)) n at is may not_done = looks_not w call n o s (ask OnTable (Operation.submit f input)) at is refl
looks_before w call o s (ask OnTable (on_region op)) n at is may not_done = looks_not w call n o s (ask OnTable (on_region op)) at is refl
looks_before w call o s (ask (Local key) op) n at is may not_done = looks_not w call n o s (ask (Local key) op) at is refl
looks_before w call o s (ask (Global key) op) n at is may not_done = looks_not w call n o s (ask (Global key) op) at is refl
looks_before w call o s (fills key size) n at is may not_done = looks_not w call n o s (fills key size) at is refl
looks_before w call o s (pulls key off len) n at is may not_done = looks_not w call n o s (pulls key off len) at is refl
looks_before w call o s (pushes key off len) n at is may not_done = looks_not w call n o s (pushes key off len) at is refl

-- ---- Where it looks next, read off what its Faaslet told.

abbrev pub looked_next : Option ℕ → ℕ → Bool
looked_next None other = false
looked_next (Some k) other = k == other

region_looks : (ch : Channel) (op : RegionOperation) → looked_at (ask ch (on_region op)) ≡ None
region_looks (Local key) op = refl
region_looks (Global key) op = refl
region_looks OnTable op = refl

submit_looks : (f : Option ℕ) (input : Option (List ℕ)) (q : Question) → submit_of f input ≡ Some q → looked_at q ≡ None
submit_looks None input q e = let no : ⊥ = cc in absurd no
submit_looks (Some f) None q e = let no : ⊥ = cc in absurd no
submit_looks (Some f) (Some input) q e = let same : q ≡ ask OnTable (Operation.submit f input) = cc in ap looked_at same

looks_turn : (w : World) (call n : ℕ) (o : Open) (f : Faaslet) (turn : Turn) → open_at w call ≡ Some o → IsAt o f (place.Told turn) → looks_at w call n ≡ looked_next (looked_by w.table.records call (place.Told turn)) n
looks_turn w call n o f (turns.Ended end) at h = asks_nothing w call n o (stands (over h.ended.state end)) at h.machine refl
looks_turn w call n o f (turns.Asks (an_ask.Region ch op)) at h =
    let q = h.asked.question in
    let is = region_is ch op f.scratch q h.asked.is in
    looks_not w call n o h.asked.state q at h.machine (ap looked_at is.0 ∙ region_looks ch _)
looks_turn w call n o f (turns.Asks (an_ask.Move key move.Fill)) at h =
    let q = h.asked.question in
    let is = fill_is _ key q h.asked.is in
    looks_not w call n o h.asked.state q at h.machine (ap looked_at is.1)
looks_turn w call n o f (turns.Asks (an_ask.Move key (move.Pull off len))) at h =
    let is : h.asked.question ≡ pulls key off len = sym (some_same h.asked.is) in
    looks_not w call n o h.asked.state h.asked.question at h.machine (ap looked_at is)
looks_turn w call n o f (turns.Asks (an_ask.Move key (move.Push off len))) at h =
    let is : h.asked.question ≡ pushes key off len = sym (some_same h.asked.is) in
    looks_not w call n o h.asked.state h.asked.question at h.machine (ap looked_at is)
looks_turn w call n o f (turns.Asks (an_ask.Submit k len)) at h = looks_not w call n o h.asked.state h.asked.question at h.machine (submit_looks (slice_get o.invocation.callees k) (front len f.scratch) h.asked.question h.asked.is)
looks_turn w call n o f (turns.Asks (an_ask.Look c)) at h =
    let is : h.asked.question ≡ ask OnTable (Operation.look c) = sym (some_same h.asked.is) in
    let machine : o.machine ≡ stands (asks h.asked.state (ask OnTable (Operation.look c))) = h.machine ∙ ap (λ q. stands (asks h.asked.state q)) is in
    by machine (child_of w.table.records call c) refl
  where
    by : o.machine ≡ stands (asks h.asked.state (ask OnTable (Operation.look c))) → (k : Option ℕ) → child_of w.table.records call c ≡ k → looks_at w call n ≡ looked_next k n
    by m (Some k) e = looks_so w call n o h.asked.state c k at m e
    by m None e = ap (looks_of w.table.records call n) at ∙ ap (λ m. looks_of w.table.records call n (Some (record o { machine = m }))) m ∙ ap (λ k. elim k as (λ k. Bool) [ None ↦ false | Some c ↦ c == n ]) e

pub looks_next : (w : World) (call n : ℕ) (o : Open) (f : Faaslet) (p : Place) → open_at w call ≡ Some o → IsAt o f p → looks_at w call n ≡ looked_next (looked_by w.table.records call p) n
looks_next w call n o f (place.Told turn) at h = looks_turn w call n o f turn at h
looks_next w call n o f (place.Broken kind) at h = asks_nothing w call n o (is_broken kind) at h refl

-- ---- Who is awaited.

-- of the calls of two worlds, of which one stands behind an Ask of this call
pub record Looks (w v : World) (call : ℕ) (next : Option ℕ) : Type 0 where
  pub same : open_calls v ≡ open_calls w
  pub there : has call (open_calls w) ≡ true
  pub opens : (c : ℕ) → (call ≡ c → ⊥) → open_at v c ≡ open_at w c
  pub kids : (c child : ℕ) → (call ≡ c → ⊥) → child_of v.table.records c child ≡ child_of w.table.records c child
  pub before : (n : ℕ) → passes_at (λ r. is_finished r.state) w.table.records n ≡ false → looks_at w call n ≡ false
  pub next_so : (n : ℕ) → looks_at v call n ≡ looked_next next n

module _ (w v : World) (call : ℕ) (next : Option ℕ) (h : Looks w v call next) where
  pub awaited_after : (n : ℕ) → passes_at (λ r. is_finished r.state) w.table.records n ≡ false → is_awaited v n ≡ (is_awaited w n || looked_next next n)
  awaited_after n not_done =
      ap (list_any (λ other. looks_at v other n)) h.same
      ∙ any_more (λ other. looks_at w other n) (λ other. looks_at v other n) call (looked_next next n) (open_calls w) (λ c ne. looks_same w.table.records v.table.records c n (open_at w c) (open_at v c) (h.opens c ne) (λ child. h.kids c child ne)) (h.before n not_done) (h.next_so n)
      ∙ ap (λ b. is_awaited w n || (b && looked_next next n)) h.there

  pub new_unawaited : is_awaited w (length w.table.records) ≡ false
  new_unawaited = any_none (λ other. looks_at w other (length w.table.records)) (open_calls w) (λ other. none_looks w other)

marked_one : (v : World) (next : Option ℕ) (queue : List Waiting) → ((i : ℕ) (q : Waiting) → slice_get queue i ≡ Some q → is_awaited v q.call ≡ (q.awaited || looked_next next q.call)) → (i : ℕ) (q : Waiting) → slice_get (marked_as next queue) i ≡ Some q → q.awaited ≡ is_awaited v q.call
marked_one v None queue was i q e = sym (was i q e ∙ or_false q.awaited)
marked_one v (Some k) queue was i q e = by queue was i e
  where
    by : (queue : List Waiting) → ((i : ℕ) (q : Waiting) → slice_get queue i ≡ Some q → is_awaited v q.call ≡ (q.awaited || (k == q.call))) → (i : ℕ) → slice_get (map (looked k) queue) i ≡ Some q → q.awaited ≡ is_awaited v q.call
    by [] was i e = let no : ⊥ = cc in absurd no
    by (x ∷ xs) was zero e =
        let same : looked k x ≡ q = some_same e in
        ap (λ q. q.awaited) (sym same) ∙ ap (λ b. x.awaited || b) (same_way x.call k) ∙ sym (was zero x refl) ∙ ap (λ (q : Waiting). is_awaited v q.call) same
    by (x ∷ xs) was (suc i) e = by xs (λ i q e. was (suc i) q e) i e

item_there : {A : Type 0} (xs : List A) (n : ℕ) → n < length xs → (x : A) × (slice_get xs n ≡ Some x)
item_there [] n h = let bad : ⊥ = omega (arith, h) in absurd bad
item_there (x ∷ xs) zero h = (x, refl)
item_there (x ∷ xs) (suc n) h = item_there xs n (omega (arith, h))

pub all_of : {A : Type 0} (P : A → Type 0) (xs : List A) → ((i : ℕ) (x : A) → slice_get xs i ≡ Some x → P x) → All P xs
all_of P xs h n d l = let x = item_there xs n l in subst P (sym (get_or_from_slice_get xs n x.0 d x.1)) (h n x.0 x.1)

pub all_marked : (v : World) (next : Option ℕ) (queue : List Waiting) → ((i : ℕ) (q : Waiting) → slice_get queue i ≡ Some q → is_awaited v q.call ≡ (q.awaited || looked_next next q.call)) → All (λ (q : Waiting). q.awaited ≡ is_awaited v q.call) (marked_as next queue)
all_marked v next queue was = all_of (λ (q : Waiting). q.awaited ≡ is_awaited v q.call) (marked_as next queue) (marked_one v next queue was)

-- ---- A queued call is not finished.

abbrev Passing : {A : Type 0} → (A → Bool) → List A → ℕ → ℕ → Type 0
Passing {A} test xs k n = (x : A) × (m : ℕ) × (n ≡ k + m) × (slice_get xs m ≡ Some x) × (test x ≡ true)

pub passes_there : {A : Type 0} (test : A → Bool) (k : ℕ) (xs : List A) (i n : ℕ) → slice_get (places_from k test xs) i ≡ Some n → Passing test xs k n
passes_there test k [] i n e = let no : ⊥ = cc in absurd no
passes_there {A} test k (x ∷ xs) i n e = by (test x) refl i e (λ i e. passes_there test (k + 1) xs i n e)
  where
    later : Passing test xs (k + 1) n → Passing test (x ∷ xs) k n
    later r = let so = r.2 in (r.0, suc r.1, omega (arith, so), r.3, r.4)

    by : (b : Bool) → test x ≡ b → (i : ℕ) → slice_get (cond b (k ∷ places_from (k + 1) test xs) (places_from (k + 1) test xs)) i ≡ Some n → ((i : ℕ) → slice_get (places_from (k + 1) test xs) i ≡ Some n → Passing test xs (k + 1) n) → Passing test (x ∷ xs) k n
    by true h zero e go = let same : k ≡ n = some_same e in (x, zero, omega (arith, same), refl, h)
    by true h (suc i) e go = later (go i e)
    by false h i e go = later (go i e)

pub queued_not_done : (records : List CallRecord) (i n : ℕ) → slice_get (queued_calls records) i ≡ Some n → passes_at (λ r. is_finished r.state) records n ≡ false
queued_not_done records i n e =
    let r = passes_there (λ r. is_queued r.state) 0 records i n e in
    let so = r.2 in
    let same : n ≡ r.1 = omega (arith, so) in
    ap (passes_at (λ r. is_finished r.state) records) same ∙ ap (λ o. elim o as (λ o. Bool) [ None ↦ false | Some r ↦ is_finished r.state ]) r.3 ∙ state r.0.state r.4
  where
    state : (s : CallState) → is_queued s ≡ true → is_finished s ≡ false
    state Queued e = refl
    state (Taken h b o) e = refl
    state (Finished h b o u c out ns) e = let no : ⊥ = cc in absurd no
