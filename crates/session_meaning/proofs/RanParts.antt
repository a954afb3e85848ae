-- In an ended session the entries on the objects of closed keys are of calls of the closed functions, and what these were told of regions
-- does not depend on the others.
use Rattle.std.proofs.Common.{◌≡◌, ℕ, zero, suc, ◌+◌, ◌<◌, ◌≤◌, Bool, true, false, cond, List, [], ◌∷◌, ◌++◌, Option, Some, None, refl, sym, ap, ap₂, ◌∙◌, map, length, slice_get, option_map, filter, unwrap_or, subst, arith, take, drop, eqb-true}
use Rattle.std.specs.Prelude.{◌==◌, ◌&&◌, nat_lt}
use Rattle.std.specs.List.{list_all}
use Rattle.std.proofs.lemmas.Bool.{and_parts, ltb-true, ltb-false, eq-eqb}
use Rattle.faaslet_meaning.specs.declared.call.CallRecord.{CallRecord}
use Rattle.faaslet_meaning.specs.declared.grant.Channel.{Channel}
use Rattle.faaslet_meaning.specs.declared.grant.Channel.TheVariants.{Local, Global}
use Rattle.faaslet_meaning.specs.declared.grant.Grant.{Grant}
use Rattle.faaslet_meaning.specs.Channels.{RegionOperation, channels}
use Rattle.faaslet_meaning.specs.History.{History}
use Rattle.faaslet_meaning.specs.Lists.{total, passes_at}
use Rattle.faaslet_meaning.specs.Records.{host_of}
use Rattle.faaslet_meaning.specs.Region.{replica, global_value}
use Rattle.session_meaning.specs.Answered.{Answered, asked_on, told_of}
use Rattle.session_meaning.specs.Own.{Session, benches, host_of_bench, local_history, with_last_read, global_history, heard, made_by, made, bench_of, order_of, counts_of, count_in, count_on, is_of_bench, is_before, made_before, part, told}
use Rattle.session_meaning.specs.Plan.{Key, NamedFunction, Plan, Names, is_function_of, is_key_of, Closed}
use Rattle.session_meaning.specs.Ran.{of_host, Ran}
use Rattle.session_meaning.specs.HistoryCut.{cut_told}
use Rattle.session_meaning.specs.RanPart.{table_part, calls_in, IsOfPart, EntriesOfPart, masked, no_call, only_part, CallOfPart, RanPart}
use Rattle.session_meaning.proofs.BenchParts.{found}
use Rattle.session_meaning.proofs.Invariants.{ClosedIn}
use Rattle.session_meaning.proofs.Kept.{get_map}
use Rattle.session_meaning.proofs.RanSections.{call_ran, ran_in_order, local_ran, global_ran, bench_so, all_middle}
use Rattle.session_meaning.proofs.RanSubmits.{ran_history}
use Rattle.session_meaning.proofs.RanTables.{told_on_table}
use Rattle.session_meaning.proofs.TwoWorlds.{closed_by_names}

-- ---- A call with entries on a key is granted it.

abbrev HasKey : List Grant → ℕ → Type 0
HasKey gs key = (k : ℕ) × (g : Grant) × (slice_get gs k ≡ Some g) × (g.key ≡ key)

later_key : (g : Grant) (gs : List Grant) (key : ℕ) → HasKey gs key → HasKey (g ∷ gs) key
later_key g gs key h = (suc h.0, h.1, h.2, h.3)

local_key : (gs : List Grant) (ns : List ℕ) (key : ℕ) → 0 < count_in (channels gs) ns (Local key) → HasKey gs key
local_key [] [] key l = let no : ⊥ = omega (arith, l) in absurd no
local_key [] (n ∷ ns) key l = let no : ⊥ = omega (arith, l) in absurd no
local_key (g ∷ gs) [] key l = let no : ⊥ = omega (arith, l) in absurd no
local_key (g ∷ gs) (n ∷ []) key l = by (g.key == key) refl l
  where
    by : (b : Bool) → (g.key == key) ≡ b → 0 < cond b n 0 → HasKey (g ∷ gs) key
    by true e k = (0, g, refl, eqb-true g.key key e)
    by false e k = let no : ⊥ = omega (arith, k) in absurd no
local_key (g ∷ gs) (n ∷ m ∷ ns) key l = by (g.key == key) refl l (local_key gs ns key)
  where
    by : (b : Bool) → (g.key == key) ≡ b → 0 < cond b n (count_in (channels gs) ns (Local key)) → (0 < count_in (channels gs) ns (Local key) → HasKey gs key) → HasKey (g ∷ gs) key
    by true e k go = (0, g, refl, eqb-true g.key key e)
    by false e k go = later_key g gs key (go k)

global_key : (gs : List Grant) (ns : List ℕ) (key : ℕ) → 0 < count_in (channels gs) ns (Global key) → HasKey gs key
global_key [] [] key l = let no : ⊥ = omega (arith, l) in absurd no
global_key [] (n ∷ ns) key l = let no : ⊥ = omega (arith, l) in absurd no
global_key (g ∷ gs) [] key l = let no : ⊥ = omega (arith, l) in absurd no
global_key (g ∷ gs) (n ∷ []) key l = let no : ⊥ = omega (arith, l) in absurd no
global_key (g ∷ gs) (n ∷ m ∷ ns) key l = by (g.key == key) refl l (global_key gs ns key)
  where
    by : (b : Bool) → (g.key == key) ≡ b → 0 < cond b m (count_in (channels gs) ns (Global key)) → (0 < count_in (channels gs) ns (Global key) → HasKey gs key) → HasKey (g ∷ gs) key
    by true e k go = (0, g, refl, eqb-true g.key key e)
    by false e k go = later_key g gs key (go k)

-- what counts need of a channel: it is of this key
abbrev OfKey : Channel → ℕ → Type 0
OfKey ch key = (gs : List Grant) (ns : List ℕ) → 0 < count_in (channels gs) ns ch → HasKey gs key

-- so the function is closed in where the key is
counted_kept : (plan : Plan) (functions keys : ℕ → Bool) (r : CallRecord) (ch : Channel) (key : ℕ) → ClosedIn plan functions keys → OfKey ch key → 0 < count_on plan r ch → keys key ≡ functions r.function
counted_kept plan functions keys r ch key closed of_key l = by (slice_get plan.functions r.function) refl l
  where
    by : (o : Option NamedFunction) → slice_get plan.functions r.function ≡ o → 0 < count_in (elim o as (λ o. List Channel) [ None ↦ [] | Some f ↦ channels f.function.grants ]) (counts_of r.state) ch → keys key ≡ functions r.function
    by None e k = let no : ⊥ = omega (arith, k) in absurd no
    by (Some f) e k = let h = of_key f.function.grants (counts_of r.state) k in ap keys (sym h.3) ∙ (closed r.function f e).grants h.0 h.1 h.2

none_counted : (plan : Plan) (functions keys : ℕ → Bool) (r : CallRecord) (ch : Channel) (key : ℕ) → ClosedIn plan functions keys → OfKey ch key → (keys key ≡ functions r.function → ⊥) → count_on plan r ch ≡ 0
none_counted plan functions keys r ch key closed of_key apart = by (nat_lt 0 (count_on plan r ch)) refl
  where
    by : (b : Bool) → nat_lt 0 (count_on plan r ch) ≡ b → count_on plan r ch ≡ 0
    by true e = absurd (apart (counted_kept plan functions keys r ch key closed of_key (ltb-true 0 (count_on plan r ch) e)))
    by false e = let l = ltb-false 0 (count_on plan r ch) e in omega (arith, l)

-- ---- Entries.

made_split : (m : ℕ) (before behind : History RegionOperation) (op : RegionOperation) → made_by m before < made_by m (before ++ (m, op) ∷ behind)
made_split m [] behind op = let e = ap (λ b. length {A = ℕ × RegionOperation} (cond b ((m, op) ∷ filter (λ e. e.0 == m) behind) (filter (λ e. e.0 == m) behind))) (eq-eqb m m refl) in omega (arith, e)
made_split m (e ∷ before) behind op = by (e.0 == m) (made_split m before behind op)
  where
    by : (b : Bool) → made_by m before < made_by m (before ++ (m, op) ∷ behind) → length {A = ℕ × RegionOperation} (cond b (e ∷ filter (λ e. e.0 == m) before) (filter (λ e. e.0 == m) before)) < length {A = ℕ × RegionOperation} (cond b (e ∷ filter (λ e. e.0 == m) (before ++ (m, op) ∷ behind)) (filter (λ e. e.0 == m) (before ++ (m, op) ∷ behind)))
    by true l = omega (arith, l)
    by false l = l

entry_of : (plan : Plan) (functions keys : Names) (s : Session) (finals : List (List ℕ)) (ch : Channel) (key m : ℕ) (h before behind : History RegionOperation) (op : RegionOperation) → Closed plan functions keys → Ran plan s finals → OfKey ch key → is_key_of plan keys key ≡ true → m < benches plan → made_by m h ≤ made plan s m (host_of_bench plan m) ch → h ≡ before ++ (m, op) ∷ behind → IsOfPart plan functions s ch m (made_by m before)
entry_of plan functions keys s finals ch key m h before behind op closed ran of_key is_key is_bench few e =
    let used = eqb-true (made plan s m (host_of_bench plan m) ch) (total (λ r. count_on plan r ch) (filter (is_of_bench m) s.records)) (ran.all_used m ch is_bench) in
    let split = made_split m before behind op in
    let whole = ap (made_by m) e in
    let f = found plan s m (made_by m before) ch (ran_in_order plan s finals ran) (omega (arith, used, split, whole, few)) in
    let low = f.from in
    let high = f.below in
    let kept : is_function_of plan functions f.r.function ≡ true = sym (counted_kept plan (is_function_of plan functions) (is_key_of plan keys) f.r ch key (closed_by_names plan functions keys closed) of_key (omega (arith, low, high))) ∙ is_key in
    record {
      call = f.call;
      r = f.r;
      here = f.here;
      is_kept = ap (λ o. elim o as (λ o. Bool) [ None ↦ false | Some r ↦ is_function_of plan functions r.function ]) f.here ∙ kept;
      of_bench = bench_so m f.r.state f.of_bench;
      from = f.from;
      below = f.below;
    }

key_there : (plan : Plan) (keys : Names) (key : ℕ) → is_key_of plan keys key ≡ true → (k : Key) × (slice_get plan.keys key ≡ Some k)
key_there plan keys key h = by (slice_get plan.keys key) refl h
  where
    by : (o : Option Key) → slice_get plan.keys key ≡ o → elim o as (λ o. Bool) [ None ↦ false | Some k ↦ keys k.name ] ≡ true → (k : Key) × (slice_get plan.keys key ≡ Some k)
    by None e k = let no : ⊥ = cc in absurd no
    by (Some x) e k = (x, e)

local_entries : (plan : Plan) (functions keys : Names) (s : Session) (finals : List (List ℕ)) (host key : ℕ) → Closed plan functions keys → Ran plan s finals → is_key_of plan keys key ≡ true → EntriesOfPart plan functions s (Local key) (local_history s host key)
local_entries plan functions keys s finals host key closed ran is_key m op before behind e =
    let k = key_there plan keys key is_key in
    let r = local_ran plan s finals host key k.0 ran k.1 in
    let maker = all_middle (λ e. nat_lt e.0 (benches plan) && (host_of_bench plan e.0 == host)) before behind (m, op) (subst (λ h. of_host plan host h ≡ true) e r.by_its_host) in
    let p = and_parts (nat_lt m (benches plan)) (host_of_bench plan m == host) maker in
    let same : made plan s m (host_of_bench plan m) (Local key) ≡ made_by m (local_history s host key) = ap (λ n. made plan s m n (Local key)) (eqb-true (host_of_bench plan m) host p.1) in
    entry_of plan functions keys s finals (Local key) key m (local_history s host key) before behind op closed ran (λ gs ns l. local_key gs ns key l) is_key (ltb-true m (benches plan) p.0) (omega (arith, same)) e

made_more : (m : ℕ) (h more : History RegionOperation) → made_by m h ≤ made_by m (h ++ more)
made_more m [] more = omega arith
made_more m (e ∷ h) more = by (e.0 == m) (made_more m h more)
  where
    by : (b : Bool) → made_by m h ≤ made_by m (h ++ more) → length {A = ℕ × RegionOperation} (cond b (e ∷ filter (λ e. e.0 == m) h) (filter (λ e. e.0 == m) h)) ≤ length {A = ℕ × RegionOperation} (cond b (e ∷ filter (λ e. e.0 == m) (h ++ more)) (filter (λ e. e.0 == m) (h ++ more)))
    by true l = omega (arith, l)
    by false l = l

global_entries : (plan : Plan) (functions keys : Names) (s : Session) (finals : List (List ℕ)) (key : ℕ) → Closed plan functions keys → Ran plan s finals → is_key_of plan keys key ≡ true → EntriesOfPart plan functions s (Global key) (unwrap_or (slice_get s.globals key) [])
global_entries plan functions keys s finals key closed ran is_key m op before behind e =
    let k = key_there plan keys key is_key in
    let r = (global_ran plan s finals key k.0 ran k.1).1 in
    let seen = unwrap_or (slice_get s.globals key) [] in
    let maker : nat_lt m (benches plan) ≡ true = all_middle (λ e. nat_lt e.0 (benches plan)) before behind (m, op) (subst (λ h. list_all (λ e. nat_lt e.0 (benches plan)) h ≡ true) e r.by_benches) in
    let same : made plan s m (host_of_bench plan m) (Global key) ≡ made_by m (global_history plan s k.0 key) = ap (λ o. elim o as (λ o. ℕ) [ None ↦ 0 | Some k ↦ made_by m (global_history plan s k key) ]) k.1 in
    let more = made_more m seen ((benches plan, RegionOperation.read 0 k.0.size) ∷ []) in
    entry_of plan functions keys s finals (Global key) key m seen before behind op closed ran (λ gs ns l. global_key gs ns key l) is_key (ltb-true m (benches plan) maker) (omega (arith, same, more)) e

-- ---- What is left out of the session is not looked at.

get_masked : {A : Type 0} (is : ℕ → Bool) (blank : A) (xs : List A) (n : ℕ) → slice_get (masked is blank xs) n ≡ option_map (λ x. cond (is n) x blank) (slice_get xs n)
get_masked is blank [] n = refl
get_masked is blank (x ∷ xs) zero = refl
get_masked is blank (x ∷ xs) (suc n) = get_masked (λ n. is (suc n)) blank xs n

masked_there : {A : Type 0} (is : ℕ → Bool) (blank : A) (xs : List A) (n : ℕ) → is n ≡ true → unwrap_or (slice_get (masked is blank xs) n) blank ≡ unwrap_or (slice_get xs n) blank
masked_there {A} is blank xs n i = ap (λ o. unwrap_or o blank) (get_masked is blank xs n) ∙ by (slice_get xs n)
  where
    by : (o : Option A) → unwrap_or (option_map (λ x. cond (is n) x blank) o) blank ≡ unwrap_or o blank
    by None = refl
    by (Some x) = ap (λ b. cond b x blank) i

local_same : (plan : Plan) (functions keys : Names) (s : Session) (host key : ℕ) → is_key_of plan keys key ≡ true → local_history (only_part plan functions keys s) host key ≡ local_history s host key
local_same plan functions keys s host key i = ap (λ o. unwrap_or (slice_get (unwrap_or o []) key) []) (get_map (masked (is_key_of plan keys) []) s.locals host) ∙ by (slice_get s.locals host)
  where
    by : (o : Option (List (History RegionOperation))) → unwrap_or (slice_get (unwrap_or (option_map (masked (is_key_of plan keys) []) o) []) key) [] ≡ unwrap_or (slice_get (unwrap_or o []) key) []
    by None = refl
    by (Some hs) = masked_there (is_key_of plan keys) [] hs key i

total_masked : (test : CallRecord → Bool) (count : CallRecord → ℕ) (is : ℕ → Bool) (rs : List CallRecord) → test no_call ≡ false → ((n : ℕ) (r : CallRecord) → slice_get rs n ≡ Some r → is n ≡ false → count r ≡ 0) → total count (filter test (masked is no_call rs)) ≡ total count (filter test rs)
total_masked test count is [] idle none = refl
total_masked test count is (x ∷ rs) idle none = by (is 0) refl (total_masked test count (λ n. is (suc n)) rs idle (λ n r e i. none (suc n) r e i))
  where
    rest : List CallRecord
    rest = masked (λ n. is (suc n)) no_call rs

    same : (b : Bool) → total count (filter test rest) ≡ total count (filter test rs) → total count (cond b (x ∷ filter test rest) (filter test rest)) ≡ total count (cond b (x ∷ filter test rs) (filter test rs))
    same true e = ap (λ n. count x + n) e
    same false e = e

    gone : (b : Bool) → count x ≡ 0 → total count (filter test rest) ≡ total count (filter test rs) → total count (filter test rest) ≡ total count (cond b (x ∷ filter test rs) (filter test rs))
    gone true z e = omega (arith, z, e)
    gone false z e = e

    by : (b : Bool) → is 0 ≡ b → total count (filter test rest) ≡ total count (filter test rs) → total count (filter test (cond b x no_call ∷ rest)) ≡ total count (filter test (x ∷ rs))
    by true i e = same (test x) e
    by false i e = ap (λ b. total count (cond b (no_call ∷ filter test rest) (filter test rest))) idle ∙ gone (test x) (none 0 x refl i) e

function_so : (plan : Plan) (functions : Names) (s : Session) (n : ℕ) (r : CallRecord) (b : Bool) → slice_get s.records n ≡ Some r → calls_in plan functions s n ≡ b → is_function_of plan functions r.function ≡ b
function_so plan functions s n r b e i = sym (ap (λ o. elim o as (λ o. Bool) [ None ↦ false | Some r ↦ is_function_of plan functions r.function ]) e) ∙ i

before_same : (plan : Plan) (functions keys : Names) (s : Session) (bench order key : ℕ) (ch : Channel) → Closed plan functions keys → OfKey ch key → is_key_of plan keys key ≡ true → made_before plan (only_part plan functions keys s) bench order ch ≡ made_before plan s bench order ch
before_same plan functions keys s bench order key ch closed of_key is_key =
    total_masked (is_before bench order) (λ r. count_on plan r ch) (calls_in plan functions s) s.records refl
    (λ n r e i.
    let other = function_so plan functions s n r false e i in
    none_counted plan (is_function_of plan functions) (is_key_of plan keys) r ch key (closed_by_names plan functions keys closed) of_key (λ same. let no : ⊥ = cc in no))

part_alike : (plan : Plan) (functions keys : Names) (s : Session) (r : CallRecord) (host bench key : ℕ) (ch : Channel) → Closed plan functions keys → OfKey ch key → is_function_of plan functions r.function ≡ true → (is_key_of plan keys key ≡ true → heard plan (only_part plan functions keys s) bench host ch ≡ heard plan s bench host ch) → part plan s r host bench ch ≡ part plan (only_part plan functions keys s) r host bench ch
part_alike plan functions keys s r host bench key ch closed of_key mine heard_same = by (is_key_of plan keys key) refl
  where
    by : (b : Bool) → is_key_of plan keys key ≡ b → part plan s r host bench ch ≡ part plan (only_part plan functions keys s) r host bench ch
    by true i = ap₂ (λ n all. take (count_on plan r ch) (drop n all)) (sym (before_same plan functions keys s bench (order_of r.state) key ch closed of_key i)) (sym (heard_same i))
    by false i =
        let none = none_counted plan (is_function_of plan functions) (is_key_of plan keys) r ch key (closed_by_names plan functions keys closed) of_key (λ same. let no : ⊥ = cc in no) in
        ap (λ n. take n (drop (made_before plan s bench (order_of r.state) ch) (heard plan s bench host ch))) none
        ∙ sym (ap (λ n. take n (drop (made_before plan (only_part plan functions keys s) bench (order_of r.state) ch) (heard plan (only_part plan functions keys s) bench host ch))) none)

told_alike : (plan : Plan) (functions keys : Names) (s : Session) (r : CallRecord) (key : ℕ) (ch : Channel) → Closed plan functions keys → OfKey ch key → is_function_of plan functions r.function ≡ true → ((bench host : ℕ) → is_key_of plan keys key ≡ true → heard plan (only_part plan functions keys s) bench host ch ≡ heard plan s bench host ch) → told plan s r ch ≡ told plan (only_part plan functions keys s) r ch
told_alike plan functions keys s r key ch closed of_key mine heard_same = ap told_of (by (host_of r.state) (bench_of r.state))
  where
    by : (x y : Option ℕ) → elim x as (λ o. List Answered) [ None ↦ [] | Some host ↦ elim y as (λ o. List Answered) [ None ↦ [] | Some bench ↦ part plan s r host bench ch ] ] ≡ elim x as (λ o. List Answered) [ None ↦ [] | Some host ↦ elim y as (λ o. List Answered) [ None ↦ [] | Some bench ↦ part plan (only_part plan functions keys s) r host bench ch ] ]
    by None y = refl
    by (Some host) None = refl
    by (Some host) (Some bench) = part_alike plan functions keys s r host bench key ch closed of_key mine (heard_same bench host)

local_told : (plan : Plan) (functions keys : Names) (s : Session) (r : CallRecord) (key : ℕ) → Closed plan functions keys → is_function_of plan functions r.function ≡ true → told plan s r (Local key) ≡ told plan (only_part plan functions keys s) r (Local key)
local_told plan functions keys s r key closed mine =
    told_alike plan functions keys s r key (Local key) closed (λ gs ns l. local_key gs ns key l) mine
    (λ bench host i. ap (λ h. elim (slice_get plan.keys key) as (λ o. List Answered) [ None ↦ [] | Some k ↦ asked_on bench (replica k.size) h ]) (local_same plan functions keys s host key i))

global_told : (plan : Plan) (functions keys : Names) (s : Session) (r : CallRecord) (key : ℕ) → Closed plan functions keys → is_function_of plan functions r.function ≡ true → told plan s r (Global key) ≡ told plan (only_part plan functions keys s) r (Global key)
global_told plan functions keys s r key closed mine =
    told_alike plan functions keys s r key (Global key) closed (λ gs ns l. global_key gs ns key l) mine
    (λ bench host i. ap (λ h. elim (slice_get plan.keys key) as (λ o. List Answered) [ None ↦ [] | Some k ↦ asked_on bench (global_value k.size k.init) (with_last_read plan k h) ]) (masked_there (is_key_of plan keys) [] s.globals key i))

-- ---- The law.

call_of_part : (plan : Plan) (functions keys : Names) (s : Session) (finals : List (List ℕ)) (call : ℕ) (r : CallRecord) → Closed plan functions keys → Ran plan s finals → slice_get s.records call ≡ Some r → calls_in plan functions s call ≡ true → CallOfPart plan functions keys s call r
call_of_part plan functions keys s finals call r closed ran e i =
    let c = call_ran plan s 0 call s.records r ran.calls e in
    let mine = function_so plan functions s call r true e i in
    record {
      function = c.function;
      function_so = c.function_so;
      host = c.host;
      bench = c.bench;
      order = c.order;
      outcome = c.outcome;
      used = c.used;
      output = c.output;
      told_so = told plan s r;
      finished = c.finished;
      runs = c.runs;
      on_locals = λ key. local_told plan functions keys s r key closed mine;
      on_globals = λ key. global_told plan functions keys s r key closed mine;
      on_table =
          ap (map (cut_told (table_part plan functions keys s))) (told_on_table plan s finals call r ran e)
          ∙ sym ((ran_history plan functions keys s finals closed ran).each_call call (ap (λ rs. passes_at (λ r. is_function_of plan functions r.function) rs call) (sym (ran.table.records ∙ ap (λ t. t.records) ran.table.leads.end_so)) ∙ i));
    }

pub ran_part : (plan : Plan) (functions keys : Names) (s : Session) (finals : List (List ℕ)) → Closed plan functions keys → Ran plan s finals → RanPart plan functions keys s
ran_part plan functions keys s finals closed ran =
    record {
      locals = λ host key i. local_entries plan functions keys s finals host key closed ran i;
      globals = λ key i. global_entries plan functions keys s finals key closed ran i;
      calls = λ call r e i. call_of_part plan functions keys s finals call r closed ran e i;
      table = ran_history plan functions keys s finals closed ran;
    }
