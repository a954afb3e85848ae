-- The call table under a cut: what concerns a kept call goes on as in the cut table, and what concerns another leaves no trace there.
use Rattle.std.proofs.Common.{◌≡◌, ℕ, suc, ◌+◌, Bool, true, false, cond, List, [], ◌∷◌, ◌++◌, Option, Some, None, refl, sym, ap, ap₂, ◌∙◌, map, length, slice_get, option_map, unwrap_or, nat_lt, nat_le, option_and_then, arith, subst}
use Rattle.std.specs.Prelude.{◌==◌, ◌&&◌}
use Rattle.std.proofs.lemmas.List.{length-map, map-append, append-nil}
use Rattle.std.proofs.lemmas.Bool.{and_parts, eqb-true, ne_eqb, true≢false}
use Rattle.faaslet_meaning.specs.declared.call.CallRecord.{CallRecord}
use Rattle.faaslet_meaning.specs.declared.call.CallState.{CallState}
use Rattle.faaslet_meaning.specs.declared.call.CallState.TheVariants.{Queued, Taken, Finished}
use Rattle.faaslet_meaning.specs.declared.outcome.Outcome.{Outcome}
use Rattle.faaslet_meaning.specs.Lists.{total, first, places_from, passes_at, changed}
use Rattle.faaslet_meaning.specs.Channels.{Reply}
use Rattle.faaslet_meaning.specs.Table as table
use Rattle.faaslet_meaning.specs.Table.{Table, callable, has_room, call_limit, byte_limit, depth_limit, taken, finished_state, submitted, child_record, one_more_child}
use Rattle.faaslet_meaning.specs.Records.{is_child, child_of, calls_of, bytes_of, host_of, told_of}
use Rattle.session_meaning.specs.Cut.{Part, kept, rank, cut_record, blank_record, blank_state, cut_table, blank_table}
use Rattle.session_meaning.proofs.Kept.{get_kept, get_map, changed_kept, changed_left, changed_map, kept_push, rank_eq}

-- A record is of a kept call where its function is kept, and so are its request and its parent.
pub record Fits (part : Part) (n : ℕ) (r : CallRecord) : Type 0 where
  pub function : part.functions r.function ≡ part.calls n
  pub request : part.calls r.request ≡ part.calls n
  pub parent : (p : ℕ) → r.parent ≡ Some p → part.calls p ≡ part.calls n

abbrev pub AllFit : Part → List CallRecord → Type 0
AllFit part rs = (n : ℕ) (r : CallRecord) → slice_get rs n ≡ Some r → Fits part n r

pub get_cut : (part : Part) (rs : List CallRecord) (n : ℕ) → part.calls n ≡ true → slice_get (map (cut_record part) (kept part.calls rs)) (rank part.calls n) ≡ option_map (cut_record part) (slice_get rs n)
get_cut part rs n i = get_map (cut_record part) (kept part.calls rs) (rank part.calls n) ∙ ap (option_map (cut_record part)) (get_kept part.calls rs n i)

abbrev passes_by : (CallRecord → Bool) → Option CallRecord → Bool
passes_by test o = elim o [ None ↦ false | Some x ↦ test x ]

passes_by_cut : (part : Part) (test : CallRecord → Bool) (o : Option CallRecord) → ((r : CallRecord) → test (cut_record part r) ≡ test r) → passes_by test (option_map (cut_record part) o) ≡ passes_by test o
passes_by_cut part test None same = refl
passes_by_cut part test (Some r) same = same r

-- a test that a cut leaves as it is
pub passes_cut : (part : Part) (test : CallRecord → Bool) (rs : List CallRecord) (n : ℕ) → ((r : CallRecord) → test (cut_record part r) ≡ test r) → part.calls n ≡ true → passes_at test (map (cut_record part) (kept part.calls rs)) (rank part.calls n) ≡ passes_at test rs n
passes_cut part test rs n same i = ap (passes_by test) (get_cut part rs n i) ∙ passes_by_cut part test (slice_get rs n) same

pub callable_cut : (part : Part) (t : Table) (f : ℕ) → part.functions f ≡ true → callable (cut_table part t) (rank part.functions f) ≡ callable t f
callable_cut part t f i = ap (λ o. unwrap_or o (record { fuel = 0; room = 0; channels = 0 })) (get_kept part.functions t.functions f i)

-- ---- The calls of a kept request are kept.

abbrev Requests : Part → (ℕ → Bool) → List CallRecord → Type 0
Requests part is rs = (n : ℕ) (r : CallRecord) → slice_get rs n ≡ Some r → part.calls r.request ≡ is n

abbrev Calls : Part → (ℕ → Bool) → List CallRecord → ℕ → Type 0
Calls part is rs q = calls_of (map (cut_record part) (kept is rs)) (rank part.calls q) ≡ map (cut_record part) (calls_of rs q)

abbrev later : (ℕ → Bool) → ℕ → Bool
later is n = is (suc n)

of_request : (part : Part) (is : ℕ → Bool) (rs : List CallRecord) (q : ℕ) → part.calls q ≡ true → Requests part is rs → Calls part is rs q
of_request part is [] q i all = refl
of_request part is (r ∷ rs) q i all = by (is 0) refl (of_request part (later is) rs q i (λ n s e. all (suc n) s e))
  where
    pick : (b : Bool) → Calls part (later is) rs q → cond b (cut_record part r ∷ calls_of (map (cut_record part) (kept (later is) rs)) (rank part.calls q)) (calls_of (map (cut_record part) (kept (later is) rs)) (rank part.calls q)) ≡ map (cut_record part) (cond b (r ∷ calls_of rs q) (calls_of rs q))
    pick true e = ap (λ xs. cut_record part r ∷ xs) e
    pick false e = e

    other : is 0 ≡ false → (r.request == q) ≡ false
    other e = ne_eqb r.request q (λ same. true≢false (sym i ∙ sym (ap part.calls same) ∙ all 0 r refl ∙ e))

    by : (b : Bool) → is 0 ≡ b → Calls part (later is) rs q → calls_of (map (cut_record part) (cond b (r ∷ kept (later is) rs) (kept (later is) rs))) (rank part.calls q) ≡ map (cut_record part) (cond (r.request == q) (r ∷ calls_of rs q) (calls_of rs q))
    by true e f = ap (λ b. cond b (cut_record part r ∷ calls_of (map (cut_record part) (kept (later is) rs)) (rank part.calls q)) (calls_of (map (cut_record part) (kept (later is) rs)) (rank part.calls q))) (rank_eq part.calls r.request q (all 0 r refl ∙ e) i) ∙ pick (r.request == q) f
    by false e f = f ∙ sym (ap (λ b. map (cut_record part) (cond b (r ∷ calls_of rs q) (calls_of rs q))) (other e))

total_cut : (part : Part) (rs : List CallRecord) → total (λ r. length r.input + r.room) (map (cut_record part) rs) ≡ total (λ r. length r.input + r.room) rs
total_cut part [] = refl
total_cut part (r ∷ rs) = ap (λ n. length r.input + r.room + n) (total_cut part rs)

pub has_room_cut : (part : Part) (t : Table) (p : CallRecord) (f : ℕ) (input : List ℕ) → AllFit part t.records → part.calls p.request ≡ true → part.functions f ≡ true → has_room (cut_table part t) (cut_record part p) (rank part.functions f) input ≡ has_room t p f input
has_room_cut part t p f input fit i j =
    let same = of_request part part.calls t.records p.request i (λ n r e. (fit n r e).request) in
    let count : length (calls_of (cut_table part t).records (rank part.calls p.request)) ≡ length (calls_of t.records p.request) = ap length same ∙ length-map (calls_of t.records p.request) (cut_record part) in
    let bytes : bytes_of (cut_table part t).records (rank part.calls p.request) ≡ bytes_of t.records p.request = ap (total (λ r. length r.input + r.room)) same ∙ total_cut part (calls_of t.records p.request) in
    let room : (callable (cut_table part t) (rank part.functions f)).room ≡ (callable t f).room = ap (λ c. c.room) (callable_cut part t f j) in
    ap₂ (λ a b. nat_lt a call_limit && nat_le (b + (length input + (callable (cut_table part t) (rank part.functions f)).room)) byte_limit && nat_lt p.depth depth_limit) count bytes
    ∙ ap (λ c. nat_lt (length (calls_of t.records p.request)) call_limit && nat_le (bytes_of t.records p.request + (length input + c)) byte_limit && nat_lt p.depth depth_limit) room

-- ---- A child of a kept call is kept.

abbrev pub spot : {A : Type 0} → (A → Bool) → List A → Option ℕ
spot test [] = None
spot test (x ∷ xs) = cond (test x) (Some 0) (option_map (λ n. suc n) (spot test xs))

pub first_place : {A : Type 0} (m : ℕ) (test : A → Bool) (xs : List A) → first (places_from m test xs) ≡ option_map (λ n. m + n) (spot test xs)
first_place m test [] = refl
first_place m test (x ∷ xs) = by (test x) (spot test xs) (first_place (m + 1) test xs)
  where
    by : (b : Bool) (o : Option ℕ) → first (places_from (m + 1) test xs) ≡ option_map (λ n. m + 1 + n) o → first (cond b (m ∷ places_from (m + 1) test xs) (places_from (m + 1) test xs)) ≡ option_map (λ n. m + n) (cond b (Some 0) (option_map (λ n. suc n) o))
    by true o e = ap (λ n. Some n) (omega arith)
    by false None e = e
    by false (Some n) e = e ∙ ap (λ k. Some k) (omega arith)

pub child_is : (rs : List CallRecord) (parent child : ℕ) → child_of rs parent child ≡ spot (is_child parent child) rs
child_is rs parent child = first_place 0 (is_child parent child) rs ∙ by (spot (is_child parent child) rs)
  where
    by : (o : Option ℕ) → option_map (λ n. 0 + n) o ≡ o
    by None = refl
    by (Some n) = ap (λ k. Some k) (omega arith)

spot_cut : {A B : Type 0} (is : ℕ → Bool) (g : A → B) (test : A → Bool) (test' : B → Bool) (xs : List A) → ((n : ℕ) (x : A) → slice_get xs n ≡ Some x → is n ≡ true → test' (g x) ≡ test x) → ((n : ℕ) (x : A) → slice_get xs n ≡ Some x → is n ≡ false → test x ≡ false) → spot test' (map g (kept is xs)) ≡ option_map (rank is) (spot test xs)
spot_cut is g test test' [] when_kept when_left = refl
spot_cut is g test test' (x ∷ xs) when_kept when_left = by (is 0) refl (spot test xs) (spot_cut (later is) g test test' xs (λ n y e i. when_kept (suc n) y e i) (λ n y e i. when_left (suc n) y e i))
  where
    found : (o : Option ℕ) → is 0 ≡ true → option_map (λ n. suc n) (option_map (rank (later is)) o) ≡ option_map (rank is) (option_map (λ n. suc n) o)
    found None e = refl
    found (Some n) e = sym (ap (λ b. Some (cond b (suc (rank (later is) n)) (rank (later is) n))) e)

    left : (o : Option ℕ) → is 0 ≡ false → option_map (rank (later is)) o ≡ option_map (rank is) (option_map (λ n. suc n) o)
    left None e = refl
    left (Some n) e = sym (ap (λ b. Some (cond b (suc (rank (later is) n)) (rank (later is) n))) e)

    pick : (b : Bool) (o : Option ℕ) → is 0 ≡ true → spot test' (map g (kept (later is) xs)) ≡ option_map (rank (later is)) o → cond b (Some 0) (option_map (λ n. suc n) (spot test' (map g (kept (later is) xs)))) ≡ option_map (rank is) (cond b (Some 0) (option_map (λ n. suc n) o))
    pick true o e f = refl
    pick false o e f = ap (option_map (λ n. suc n)) f ∙ found o e

    by : (b : Bool) → is 0 ≡ b → (o : Option ℕ) → spot test' (map g (kept (later is) xs)) ≡ option_map (rank (later is)) o → spot test' (map g (cond b (x ∷ kept (later is) xs) (kept (later is) xs))) ≡ option_map (rank is) (cond (test x) (Some 0) (option_map (λ n. suc n) o))
    by true e o f = ap (λ b. cond b (Some 0) (option_map (λ n. suc n) (spot test' (map g (kept (later is) xs))))) (when_kept 0 x refl e) ∙ pick (test x) o e f
    by false e o f = f ∙ left o e ∙ sym (ap (λ b. option_map (rank is) (cond b (Some 0) (option_map (λ n. suc n) o))) (when_left 0 x refl e))

abbrev child_by : ℕ → ℕ → ℕ → Option ℕ → Bool
child_by parent child n o = elim o [ None ↦ false | Some p ↦ (p == parent) && (n == child) ]

child_kept : (part : Part) (n : ℕ) (r : CallRecord) (parent child : ℕ) → Fits part n r → part.calls parent ≡ true → part.calls n ≡ true → is_child (rank part.calls parent) child (cut_record part r) ≡ is_child parent child r
child_kept part n r parent child fit i k = by r.parent refl
  where
    by : (o : Option ℕ) → r.parent ≡ o → child_by (rank part.calls parent) child r.child (option_map (rank part.calls) o) ≡ child_by parent child r.child o
    by None e = refl
    by (Some p) e = ap (λ b. b && (r.child == child)) (rank_eq part.calls p parent (fit.parent p e ∙ k) i)

child_left : (part : Part) (n : ℕ) (r : CallRecord) (parent child : ℕ) → Fits part n r → part.calls parent ≡ true → part.calls n ≡ false → is_child parent child r ≡ false
child_left part n r parent child fit i k = by r.parent refl
  where
    by : (o : Option ℕ) → r.parent ≡ o → child_by parent child r.child o ≡ false
    by None e = refl
    by (Some p) e = ap (λ b. b && (r.child == child)) (ne_eqb p parent (λ same. true≢false (sym i ∙ sym (ap part.calls same) ∙ fit.parent p e ∙ k)))

pub child_of_cut : (part : Part) (rs : List CallRecord) (parent child : ℕ) → AllFit part rs → part.calls parent ≡ true → child_of (map (cut_record part) (kept part.calls rs)) (rank part.calls parent) child ≡ option_map (rank part.calls) (child_of rs parent child)
child_of_cut part rs parent child fit i =
    child_is (map (cut_record part) (kept part.calls rs)) (rank part.calls parent) child
    ∙ spot_cut part.calls (cut_record part) (is_child parent child) (is_child (rank part.calls parent) child) rs (λ n r e k. child_kept part n r parent child (fit n r e) i k) (λ n r e k. child_left part n r parent child (fit n r e) i k)
    ∙ sym (ap (option_map (rank part.calls)) (child_is rs parent child))

-- what is found passes the test
pub found_at : {A : Type 0} (test : A → Bool) (xs : List A) (n : ℕ) → spot test xs ≡ Some n → (x : A) × (slice_get xs n ≡ Some x) × (test x ≡ true)
found_at test [] n e = let no : ⊥ = cc in absurd no
found_at {A} test (x ∷ xs) n e = by (test x) refl (spot test xs) (λ m. found_at test xs m) e
  where
    by : (b : Bool) → test x ≡ b → (o : Option ℕ) → ((m : ℕ) → o ≡ Some m → (y : A) × (slice_get xs m ≡ Some y) × (test y ≡ true)) → cond b (Some 0) (option_map (λ n. suc n) o) ≡ Some n → (y : A) × (slice_get (x ∷ xs) n ≡ Some y) × (test y ≡ true)
    by true h o k f = let z : 0 ≡ n = cc in subst (λ m. (y : A) × (slice_get (x ∷ xs) m ≡ Some y) × (test y ≡ true)) z (x, refl, h)
    by false h None k f = let no : ⊥ = cc in absurd no
    by false h (Some m) k f = let z : suc m ≡ n = cc in subst (λ l. (y : A) × (slice_get (x ∷ xs) l ≡ Some y) × (test y ≡ true)) z (k m refl)

is_child_parent : (parent child : ℕ) (r : CallRecord) → is_child parent child r ≡ true → r.parent ≡ Some parent
is_child_parent parent child r h = by r.parent refl h
  where
    by : (o : Option ℕ) → r.parent ≡ o → child_by parent child r.child o ≡ true → r.parent ≡ Some parent
    by None e f = let no : ⊥ = cc in absurd no
    by (Some p) e f = e ∙ ap (λ n. Some n) (eqb-true p parent (and_parts (p == parent) (r.child == child) f).0)

pub child_of_kept : (part : Part) (rs : List CallRecord) (parent child c : ℕ) → AllFit part rs → part.calls parent ≡ true → child_of rs parent child ≡ Some c → part.calls c ≡ true
child_of_kept part rs parent child c fit i e =
    let f = found_at (is_child parent child) rs c (sym (child_is rs parent child) ∙ e) in
    sym ((fit c f.0 f.1).parent parent (is_child_parent parent child f.0 f.2)) ∙ i

-- ---- Blanks.

pub blank_blank : (s : CallState) → blank_state (blank_state s) ≡ blank_state s
blank_blank Queued = refl
blank_blank (Taken host bench order) = refl
blank_blank (Finished host bench order o used output counts) = refl

pub blank_cut : (part : Part) (rs : List CallRecord) → map blank_record (map (cut_record part) rs) ≡ map (cut_record part) rs
blank_cut part [] = refl
blank_cut part (r ∷ rs) = ap₂ (λ s ss. record (cut_record part r) { state = s } ∷ ss) (blank_blank r.state) (blank_cut part rs)

told_blank : (s : CallState) → told_of (blank_state s) ≡ told_of s
told_blank Queued = refl
told_blank (Taken host bench order) = refl
told_blank (Finished host bench order o used output counts) = refl

host_blank : (s : CallState) → host_of (blank_state s) ≡ host_of s
host_blank Queued = refl
host_blank (Taken host bench order) = refl
host_blank (Finished host bench order o used output counts) = refl

-- ---- What operations on a kept call leave.

changed_cut : (part : Part) (rs : List CallRecord) (call : ℕ) (f f' g : CallRecord → CallRecord) → part.calls call ≡ true → ((r : CallRecord) → cut_record part (f r) ≡ g (cut_record part r)) → ((r : CallRecord) → blank_record (f' r) ≡ g (blank_record r)) → map (cut_record part) (kept part.calls (changed rs call f)) ≡ map blank_record (changed (map (cut_record part) (kept part.calls rs)) (rank part.calls call) f')
changed_cut part rs call f f' g i e e' =
    let c = rank part.calls call in
    let ks = map (cut_record part) (kept part.calls rs) in
    ap (map (cut_record part)) (changed_kept part.calls rs call f i)
    ∙ changed_map (cut_record part) (kept part.calls rs) c f g (λ r h. e r)
    ∙ sym (changed_map blank_record ks c f' g (λ r h. e' r) ∙ ap (λ xs. changed xs c g) (blank_cut part (kept part.calls rs)))

pub take_cut : (part : Part) (t : Table) (m m' call host bench bench' : ℕ) → part.calls call ≡ true → cut_table part (table.after t m (table.take_this call host bench)) ≡ blank_table (table.after (cut_table part t) m' (table.take_this (rank part.calls call) host bench'))
take_cut part t m m' call host bench bench' i = ap (λ rs. record (cut_table part t) { records = rs }) (changed_cut part t.records call _ _ (λ r. record r { state = Taken host 0 0 }) i (λ r. refl) (λ r. refl))

finished_blank : (s : CallState) (o : Outcome) (used : ℕ) (output counts : List ℕ) → blank_state (finished_state s o used output counts) ≡ finished_state (blank_state s) o used output counts
finished_blank Queued o used output counts = refl
finished_blank (Taken host bench order) o used output counts = refl
finished_blank (Finished host bench order p u out ns) o used output counts = refl

pub finish_cut : (part : Part) (t : Table) (m m' call : ℕ) (o : Outcome) (used : ℕ) (output counts : List ℕ) → part.calls call ≡ true → cut_table part (table.after t m (table.finish call o used output counts)) ≡ blank_table (table.after (cut_table part t) m' (table.finish (rank part.calls call) o used output counts))
finish_cut part t m m' call o used output counts i = ap (λ rs. record (cut_table part t) { records = rs }) (changed_cut part t.records call _ _ (λ r. record r { state = finished_state r.state o used output counts }) i (λ r. ap (λ s. record (cut_record part r) { state = s }) (finished_blank r.state o used output counts)) (λ r. ap (λ s. record (blank_record r) { state = s }) (finished_blank r.state o used output counts)))

-- ---- A Submit.

child_cut : (part : Part) (t : Table) (parent : ℕ) (p : CallRecord) (f : ℕ) (input : List ℕ) → part.functions f ≡ true → cut_record part (child_record t parent p f input) ≡ blank_record (child_record (cut_table part t) (rank part.calls parent) (cut_record part p) (rank part.functions f) input)
child_cut part t parent p f input i =
    ap₂ (λ c h. record (cut_record part (child_record t parent p f input)) { room = c.room; fuel = c.fuel; from = unwrap_or h 0 }) (sym (callable_cut part t f i)) (sym (host_blank p.state))

pub get_end : {A : Type 0} (xs : List A) (x : A) (n : ℕ) → length xs ≡ n → slice_get (xs ++ x ∷ []) n ≡ Some x
get_end [] x n e = ap (slice_get (x ∷ [])) (sym e)
get_end (y ∷ xs) x n e = ap (slice_get (y ∷ xs ++ x ∷ [])) (sym e) ∙ get_end xs x (length xs) refl

-- the call that is submitted is kept where its parent is
submitted_kept : (part : Part) (t : Table) (parent : ℕ) (p : CallRecord) (f : ℕ) (input : List ℕ) → AllFit part (changed t.records parent one_more_child ++ child_record t parent p f input ∷ []) → part.calls (length (changed t.records parent one_more_child)) ≡ part.calls parent
submitted_kept part t parent p f input fit =
    let rs = changed t.records parent one_more_child in
    sym ((fit (length rs) (child_record t parent p f input) (get_end rs _ (length rs) refl)).parent parent refl)

more_cut : (part : Part) (t : Table) (parent : ℕ) (p : CallRecord) (f : ℕ) (input : List ℕ) → part.calls parent ≡ true → part.functions f ≡ true → AllFit part (changed t.records parent one_more_child ++ child_record t parent p f input ∷ []) → map (cut_record part) (kept part.calls (changed t.records parent one_more_child ++ child_record t parent p f input ∷ [])) ≡ map blank_record (changed (map (cut_record part) (kept part.calls t.records)) (rank part.calls parent) one_more_child ++ child_record (cut_table part t) (rank part.calls parent) (cut_record part p) (rank part.functions f) input ∷ [])
more_cut part t parent p f input i j fit =
    let rs = changed t.records parent one_more_child in
    let x = child_record t parent p f input in
    let ks = changed (map (cut_record part) (kept part.calls t.records)) (rank part.calls parent) one_more_child in
    let y = child_record (cut_table part t) (rank part.calls parent) (cut_record part p) (rank part.functions f) input in
    ap (map (cut_record part)) (kept_push part.calls rs x ∙ ap (λ b. kept part.calls rs ++ cond b (x ∷ []) []) (submitted_kept part t parent p f input fit ∙ i))
    ∙ map-append (cut_record part) (kept part.calls rs) (x ∷ [])
    ∙ ap₂ (λ xs z. xs ++ z ∷ []) (changed_cut part t.records parent one_more_child one_more_child one_more_child i (λ r. refl) (λ r. refl)) (child_cut part t parent p f input j)
    ∙ sym (map-append blank_record ks (y ∷ []))

pub submit_cut : (part : Part) (t : Table) (m m' parent : ℕ) (p : CallRecord) (f : ℕ) (input : List ℕ) → slice_get t.records parent ≡ Some p → AllFit part t.records → AllFit part (table.after t m (table.submit parent f input)).records → part.calls parent ≡ true → part.functions f ≡ true → cut_table part (table.after t m (table.submit parent f input)) ≡ blank_table (table.after (cut_table part t) m' (table.submit (rank part.calls parent) (rank part.functions f) input))
submit_cut part t m m' parent p f input e fit fit' i j =
    let now = ap (λ o. elim o [ None ↦ t | Some q ↦ submitted t parent q f input ]) e in
    let then = ap (λ o. elim o [ None ↦ cut_table part t | Some q ↦ submitted (cut_table part t) (rank part.calls parent) q (rank part.functions f) input ]) (get_cut part t.records parent i ∙ ap (option_map (cut_record part)) e) in
    let room = has_room_cut part t p f input fit ((fit parent p e).request ∙ i) j in
    ap (cut_table part) now
    ∙ by (has_room t p f input) (subst (λ u. AllFit part u.records) now fit')
    ∙ sym (ap blank_table (then ∙ ap (λ b. cond b (record (cut_table part t) { records = changed (cut_table part t).records (rank part.calls parent) one_more_child ++ child_record (cut_table part t) (rank part.calls parent) (cut_record part p) (rank part.functions f) input ∷ [] }) (cut_table part t)) room))
  where
    by : (b : Bool) → AllFit part (cond b (record t { records = changed t.records parent one_more_child ++ child_record t parent p f input ∷ [] }) t).records → cut_table part (cond b (record t { records = changed t.records parent one_more_child ++ child_record t parent p f input ∷ [] }) t) ≡ blank_table (cond b (record (cut_table part t) { records = changed (cut_table part t).records (rank part.calls parent) one_more_child ++ child_record (cut_table part t) (rank part.calls parent) (cut_record part p) (rank part.functions f) input ∷ [] }) (cut_table part t))
    by true k = ap (λ rs. record (cut_table part t) { records = rs }) (more_cut part t parent p f input i j k)
    by false k = ap (λ rs. record (cut_table part t) { records = rs }) (sym (blank_cut part (kept part.calls t.records)))

-- what is answered to a kept call
pub submit_reply_cut : (part : Part) (t : Table) (m m' parent : ℕ) (f : ℕ) (input : List ℕ) → AllFit part t.records → part.calls parent ≡ true → part.functions f ≡ true → table.reply (cut_table part t) m' (table.submit (rank part.calls parent) (rank part.functions f) input) ≡ table.reply t m (table.submit parent f input)
submit_reply_cut part t m m' parent f input fit i j = ap (answers (cut_table part t) (rank part.functions f)) (get_cut part t.records parent i) ∙ by (slice_get t.records parent) refl
  where
    answers : Table → ℕ → Option CallRecord → Reply
    answers t f o = elim o [ None ↦ Reply.done | Some p ↦ cond (has_room t p f input) (Reply.child p.children) Reply.chain_full ]

    by : (o : Option CallRecord) → slice_get t.records parent ≡ o → answers (cut_table part t) (rank part.functions f) (option_map (cut_record part) o) ≡ answers t f o
    by None e = refl
    by (Some p) e = ap (λ b. cond b (Reply.child p.children) Reply.chain_full) (has_room_cut part t p f input fit ((fit parent p e).request ∙ i) j)

pub look_reply_cut : (part : Part) (t : Table) (m m' parent child : ℕ) → AllFit part t.records → part.calls parent ≡ true → table.reply (cut_table part t) m' (table.look (rank part.calls parent) child) ≡ table.reply t m (table.look parent child)
look_reply_cut part t m m' parent child fit i = ap (λ o. answers (option_and_then (slice_get (cut_table part t).records) o)) (child_of_cut part t.records parent child fit i) ∙ by (child_of t.records parent child) refl
  where
    answers : Option CallRecord → Reply
    answers o = elim o [ None ↦ Reply.done | Some r ↦ told_of r.state ]

    at : (o : Option CallRecord) → answers (option_map (cut_record part) o) ≡ answers o
    at None = refl
    at (Some r) = told_blank r.state

    by : (o : Option ℕ) → child_of t.records parent child ≡ o → answers (option_and_then (slice_get (cut_table part t).records) (option_map (rank part.calls) o)) ≡ answers (option_and_then (slice_get t.records) o)
    by None e = refl
    by (Some c) e = ap answers (get_cut part t.records c (child_of_kept part t.records parent child c fit i e)) ∙ at (slice_get t.records c)

-- ---- What operations of other calls leave of the cut.

left_by : (part : Part) (t : Table) (rs : List CallRecord) → kept part.calls rs ≡ kept part.calls t.records → cut_table part (record t { records = rs }) ≡ cut_table part t
left_by part t rs e = ap (λ ks. record (cut_table part t) { records = map (cut_record part) ks }) e

pub take_left : (part : Part) (t : Table) (m call host bench : ℕ) → part.calls call ≡ false → cut_table part (table.after t m (table.take_this call host bench)) ≡ cut_table part t
take_left part t m call host bench i = left_by part t _ (changed_left part.calls t.records call _ i)

pub finish_left : (part : Part) (t : Table) (m call : ℕ) (o : Outcome) (used : ℕ) (output counts : List ℕ) → part.calls call ≡ false → cut_table part (table.after t m (table.finish call o used output counts)) ≡ cut_table part t
finish_left part t m call o used output counts i = left_by part t _ (changed_left part.calls t.records call _ i)

abbrev submitted_by : Table → ℕ → ℕ → List ℕ → Option CallRecord → Table
submitted_by t parent f input o = elim o [ None ↦ t | Some p ↦ submitted t parent p f input ]

pub submit_left : (part : Part) (t : Table) (m parent f : ℕ) (input : List ℕ) → AllFit part (table.after t m (table.submit parent f input)).records → part.calls parent ≡ false → cut_table part (table.after t m (table.submit parent f input)) ≡ cut_table part t
submit_left part t m parent f input fit i = by (slice_get t.records parent) fit
  where
    room : (p : CallRecord) (b : Bool) → AllFit part (cond b (record t { records = changed t.records parent one_more_child ++ child_record t parent p f input ∷ [] }) t).records → cut_table part (cond b (record t { records = changed t.records parent one_more_child ++ child_record t parent p f input ∷ [] }) t) ≡ cut_table part t
    room p true k =
        let rs = changed t.records parent one_more_child in
        left_by part t (rs ++ child_record t parent p f input ∷ [])
        (kept_push part.calls rs (child_record t parent p f input) ∙ ap (λ b. kept part.calls rs ++ cond b (child_record t parent p f input ∷ []) []) (submitted_kept part t parent p f input k ∙ i) ∙ append-nil (kept part.calls rs) ∙ changed_left part.calls t.records parent one_more_child i)
    room p false k = refl

    by : (o : Option CallRecord) → AllFit part (submitted_by t parent f input o).records → cut_table part (submitted_by t parent f input o) ≡ cut_table part t
    by None k = refl
    by (Some p) k = room p (has_room t p f input) k
