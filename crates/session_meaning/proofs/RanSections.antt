-- In an ended session each Unlock finds a lock of its maker, and so between a bench's LockWrite and its Unlock no other maker's entry
-- stands.
use Rattle.std.proofs.Common.{◌≡◌, ℕ, zero, suc, ◌+◌, ◌<◌, ◌≤◌, Bool, true, false, cond, List, [], ◌∷◌, ◌++◌, Option, Some, None, refl, sym, ap, ap₂, ◌∙◌, map, length, slice_get, filter, unwrap_or, subst, arith, take, drop, eqb-true}
use Rattle.std.specs.Prelude.{◌==◌, ◌&&◌, nat_lt}
use Rattle.std.specs.List.{list_all}
use Rattle.std.proofs.Math.Logic.{∥∥₁_elim}
use Rattle.std.proofs.Math.Bool.{Bool-set}
use Rattle.std.proofs.lemmas.Bool.{and_parts, ltb-true, eq-eqb}
use Rattle.std.proofs.lemmas.List.{length-append, take-map, take-append-drop, drop-append-le}
use Rattle.faaslet_meaning.specs.declared.call.CallRecord.{CallRecord}
use Rattle.faaslet_meaning.specs.declared.call.CallState.{CallState}
use Rattle.faaslet_meaning.specs.declared.call.CallState.TheVariants.{Queued, Taken, Finished}
use Rattle.faaslet_meaning.specs.declared.grant.Channel.{Channel}
use Rattle.faaslet_meaning.specs.declared.grant.Channel.TheVariants.{Local, Global}
use Rattle.faaslet_meaning.specs.Channels.{RegionOperation, Operation, on_region, Reply}
use Rattle.faaslet_meaning.specs.Formed.{KeysDiffer}
use Rattle.faaslet_meaning.specs.Region as region
use Rattle.faaslet_meaning.specs.Region.{Region, replica, global_value, holds}
use Rattle.faaslet_meaning.specs.History.{History, Legal, left, told_to, region_rules}
use Rattle.faaslet_meaning.specs.Lists.{total}
use Rattle.faaslet_meaning.specs.Records.{host_of}
use Rattle.faaslet_meaning.specs.Runnable.{Runnable}
use Rattle.faaslet_meaning.specs.Runs.{invocation}
use Rattle.faaslet_meaning.specs.Asked.{IsNumbered}
use Rattle.faaslet_meaning.specs.Sections.{is_unlock}
use Rattle.faaslet_meaning.specs.Valid.{Valid}
use Rattle.faaslet_meaning.proofs.Histories.{legal_prefix}
use Rattle.session_meaning.specs.Answered.{Answered, of_region, asked_on, told_of}
use Rattle.session_meaning.specs.Own.{Session, benches, host_of_bench, local_history, global_history, heard, made_by, made, bench_of, order_of, count_on, is_of_bench, made_before, part, own, told}
use Rattle.session_meaning.specs.OwnSections.{HasOwnSections, UnlocksHeld}
use Rattle.session_meaning.specs.Plan.{Key, Plan}
use Rattle.session_meaning.specs.Ran.{ReplicaRan, GlobalRan, ReplicasRan, HostsRan, GlobalsRan, of_host, CallRan, CallsRan, Ran}
use Rattle.session_meaning.specs.WellFormed.{WellFormed}
use Rattle.session_meaning.proofs.BenchParts.{found}
use Rattle.session_meaning.proofs.CallLocks.{keeps, keeps_both}
use Rattle.session_meaning.proofs.CallsRan.{all_get}
use Rattle.session_meaning.proofs.HeldLocks.{kept_held}
use Rattle.session_meaning.proofs.Kept.{all_push}
use Rattle.session_meaning.proofs.Orders.{marks, InOrder, history_in_order}
use Rattle.session_meaning.proofs.OwnHistory.{told_on}
use Rattle.session_meaning.proofs.OwnSections.{sections_of}
use Rattle.session_meaning.proofs.OwnUnlocks.{frees, frees_there, keeps_more, runs_free}
use Rattle.session_meaning.proofs.WellFits.{modules_fit, invocations_fit}

-- ---- Looking up what is so of an ended session.

pub call_ran : (plan : Plan) (s : Session) (first n : ℕ) (rs : List CallRecord) (r : CallRecord) → CallsRan plan s first rs → slice_get rs n ≡ Some r → CallRan plan s (first + n) r
call_ran plan s first n [] r h e = let no : ⊥ = cc in absurd no
call_ran plan s first zero (x ∷ rs) r h e = let same : x ≡ r = cc in let at : first ≡ first + 0 = omega arith in subst (λ k. CallRan plan s k r) at (subst (CallRan plan s first) same h.0)
call_ran plan s first (suc n) (x ∷ rs) r h e = let at : suc first + n ≡ first + suc n = omega arith in subst (λ k. CallRan plan s k r) at (call_ran plan s (suc first) n rs r h.1 e)

pub ran_in_order : (plan : Plan) (s : Session) (finals : List (List ℕ)) → Ran plan s finals → InOrder (marks s.records)
ran_in_order plan s finals ran =
    subst (λ rs. InOrder (marks rs)) (sym (ran.table.records ∙ ap (λ t. t.records) ran.table.leads.end_so))
    (history_in_order _ s.table_history ran.table.leads.legal (record { apart = λ m n o e f. let no : ⊥ = cc in absurd no; below = λ m o e. let no : ⊥ = cc in absurd no }))

replica_at : (plan : Plan) (host n : ℕ) (ks : List Key) (hs : List (History RegionOperation)) (k : Key) → ReplicasRan plan host ks hs → slice_get ks n ≡ Some k → ReplicaRan plan host k (unwrap_or (slice_get hs n) [])
replica_at plan host n [] [] k h e = let no : ⊥ = cc in absurd no
replica_at plan host n [] (x ∷ hs) k h e = absurd h
replica_at plan host n (y ∷ ks) [] k h e = absurd h
replica_at plan host zero (y ∷ ks) (x ∷ hs) k h e = let same : y ≡ k = cc in subst (λ z. ReplicaRan plan host z x) same h.0
replica_at plan host (suc n) (y ∷ ks) (x ∷ hs) k h e = replica_at plan host n ks hs k h.1 e

no_entries : (plan : Plan) (host : ℕ) (k : Key) → ReplicaRan plan host k []
no_entries plan host k = record { ran = record { legal = tt; free = refl }; by_its_host = refl }

-- a host that is not there has no entries
replicas_at : (plan : Plan) (first host n : ℕ) (hss : List (List (History RegionOperation))) (k : Key) → HostsRan plan first hss → slice_get plan.keys n ≡ Some k → ReplicaRan plan (first + host) k (unwrap_or (slice_get (unwrap_or (slice_get hss host) []) n) [])
replicas_at plan first host n [] k h e = no_entries plan (first + host) k
replicas_at plan first zero n (hs ∷ hss) k h e = let at : first ≡ first + 0 = omega arith in subst (λ z. ReplicaRan plan z k (unwrap_or (slice_get hs n) [])) at (replica_at plan first n plan.keys hs k h.0 e)
replicas_at plan first (suc host) n (hs ∷ hss) k h e = let at : suc first + host ≡ first + suc host = omega arith in subst (λ z. ReplicaRan plan z k (unwrap_or (slice_get (unwrap_or (slice_get hss host) []) n) [])) at (replicas_at plan (suc first) host n hss k h.1 e)

pub local_ran : (plan : Plan) (s : Session) (finals : List (List ℕ)) (host key : ℕ) (k : Key) → Ran plan s finals → slice_get plan.keys key ≡ Some k → ReplicaRan plan host k (local_history s host key)
local_ran plan s finals host key k ran e = let at : 0 + host ≡ host = omega arith in subst (λ n. ReplicaRan plan n k (local_history s host key)) at (replicas_at plan 0 host key s.locals k ran.replicas e)

global_at : (plan : Plan) (n : ℕ) (ks : List Key) (hs : List (History RegionOperation)) (fs : List (List ℕ)) (k : Key) → GlobalsRan plan ks hs fs → slice_get ks n ≡ Some k → (f : List ℕ) × GlobalRan plan k (unwrap_or (slice_get hs n) []) f
global_at plan n [] [] [] k h e = let no : ⊥ = cc in absurd no
global_at plan zero (y ∷ ks) (x ∷ hs) (f ∷ fs) k h e = let same : y ≡ k = cc in (f, subst (λ z. GlobalRan plan z x f) same h.0)
global_at plan (suc n) (y ∷ ks) (x ∷ hs) (f ∷ fs) k h e = global_at plan n ks hs fs k h.1 e
global_at plan n [] (x ∷ hs) fs k h e = absurd h
global_at plan n [] [] (f ∷ fs) k h e = absurd h
global_at plan n (y ∷ ks) [] fs k h e = absurd h
global_at plan n (y ∷ ks) (x ∷ hs) [] k h e = absurd h

pub global_ran : (plan : Plan) (s : Session) (finals : List (List ℕ)) (key : ℕ) (k : Key) → Ran plan s finals → slice_get plan.keys key ≡ Some k → (f : List ℕ) × GlobalRan plan k (unwrap_or (slice_get s.globals key) []) f
global_ran plan s finals key k ran e = global_at plan key plan.keys s.globals finals k ran.globals e

-- ---- The entry of a bench at a place of a history, among all that it made there.

pub told_split : (m : ℕ) (s : Region) (before behind : History RegionOperation) (op : RegionOperation) → told_on m s (before ++ (m, op) ∷ behind) ≡ told_on m s before ++ (on_region op, region.reply (left region_rules s before) m op) ∷ told_on m (region.after (left region_rules s before) m op) behind
told_split m s [] behind op = ap (λ b. map (λ (x : Answered). (x.operation, x.reply)) (map of_region (cond b ((op, region.reply s m op) ∷ told_to region_rules m (region.after s m op) behind) (told_to region_rules m (region.after s m op) behind)))) (eq-eqb m m refl)
told_split m s (e ∷ before) behind op = by (e.0 == m) (told_split m (region.after s e.0 e.1) before behind op)
  where
    t : Region
    t = region.after s e.0 e.1

    rest : List (Operation × Reply)
    rest = (on_region op, region.reply (left region_rules t before) m op) ∷ told_on m (region.after (left region_rules t before) m op) behind

    by : (b : Bool) → told_on m t (before ++ (m, op) ∷ behind) ≡ told_on m t before ++ rest → map (λ (x : Answered). (x.operation, x.reply)) (map of_region (cond b ((e.1, region.reply s e.0 e.1) ∷ told_to region_rules m t (before ++ (m, op) ∷ behind)) (told_to region_rules m t (before ++ (m, op) ∷ behind)))) ≡ map (λ (x : Answered). (x.operation, x.reply)) (map of_region (cond b ((e.1, region.reply s e.0 e.1) ∷ told_to region_rules m t before) (told_to region_rules m t before))) ++ rest
    by true h = ap (λ xs. (on_region e.1, region.reply s e.0 e.1) ∷ xs) h
    by false h = h

-- a bench made as many entries as it was told of
pub made_told : (m : ℕ) (s : Region) (h : History RegionOperation) → made_by m h ≡ length (told_on m s h)
made_told m s [] = refl
made_told m s (e ∷ h) = by (e.0 == m) (made_told m (region.after s e.0 e.1) h)
  where
    t : Region
    t = region.after s e.0 e.1

    by : (b : Bool) → made_by m h ≡ length (told_on m t h) → length {A = ℕ × RegionOperation} (cond b (e ∷ filter (λ e. e.0 == m) h) (filter (λ e. e.0 == m) h)) ≡ length {A = Operation × Reply} (map (λ (x : Answered). (x.operation, x.reply)) (map of_region (cond b ((e.1, region.reply s e.0 e.1) ∷ told_to region_rules m t h) (told_to region_rules m t h))))
    by true k = ap suc k
    by false k = k

-- ---- Lists.

pub drop_map : {A B : Type 0} (f : A → B) (n : ℕ) (xs : List A) → map f (drop n xs) ≡ drop n (map f xs)
drop_map f zero xs = refl
drop_map f (suc n) [] = refl
drop_map f (suc n) (x ∷ xs) = drop_map f n xs

drop_length : {A : Type 0} (n : ℕ) (xs : List A) → n ≤ length xs → n + length (drop n xs) ≡ length xs
drop_length zero xs l = omega arith
drop_length (suc n) [] l = let no : ⊥ = omega (arith, l) in absurd no
drop_length (suc n) (x ∷ xs) l = let k = drop_length n xs (omega (arith, l)) in omega (arith, k)

take_past : {A : Type 0} (n : ℕ) (xs : List A) (y : A) (ys : List A) → length xs < n → (zs : List A) × (take n (xs ++ y ∷ ys) ≡ xs ++ y ∷ zs)
take_past zero xs y ys l = let no : ⊥ = omega (arith, l) in absurd no
take_past (suc n) [] y ys l = (take n ys, refl)
take_past (suc n) (x ∷ xs) y ys l = let t = take_past n xs y ys (omega (arith, l)) in (t.0, ap (λ zs. x ∷ zs) t.1)

-- the entry behind `xs` lies in a part that begins no later and ends behind it
in_part : {A : Type 0} (from count : ℕ) (xs ys : List A) (y : A) → from ≤ length xs → length xs < from + count → (zs : List A) × (take count (drop from (xs ++ y ∷ ys)) ≡ drop from xs ++ y ∷ zs)
in_part from count xs ys y l h =
    let k = drop_length from xs l in
    let t = take_past count (drop from xs) y ys (omega (arith, k, l, h)) in
    (t.0, ap (take count) (drop-append-le from xs (y ∷ ys) l) ∙ t.1)

-- ---- What a call was told is its part of what its bench was told.

pub own_at : (plan : Plan) (s : Session) (r : CallRecord) (ch : Channel) (host bench : ℕ) → host_of r.state ≡ Some host → bench_of r.state ≡ Some bench → own plan s r ch ≡ part plan s r host bench ch
own_at plan s r ch host bench e f = ap₂ {A = Option ℕ} {B = Option ℕ} (λ x y. elim x as (λ o. List Answered) [ None ↦ [] | Some h ↦ elim y as (λ o. List Answered) [ None ↦ [] | Some b ↦ part plan s r h b ch ] ]) e f

pub bench_so : (bench : ℕ) (s : CallState) → elim (bench_of s) as (λ o. Bool) [ None ↦ false | Some b ↦ b == bench ] ≡ true → bench_of s ≡ Some bench
bench_so bench Queued h = let no : ⊥ = cc in absurd no
bench_so bench (Taken host b order) h = ap (λ n. Some n) (eqb-true b bench h)
bench_so bench (Finished host b order o used output counts) h = ap (λ n. Some n) (eqb-true b bench h)

some_same : {A : Type 0} {x y : A} → Some x ≡ Some y → x ≡ y
some_same e = cc

-- the host of a call is that of its bench
pub host_so : (plan : Plan) (s : Session) (call bench : ℕ) (r : CallRecord) → CallRan plan s call r → bench_of r.state ≡ Some bench → host_of r.state ≡ Some (host_of_bench plan bench)
host_so plan s call bench r c e =
    let same : c.bench ≡ bench = some_same (sym (ap bench_of c.finished) ∙ e) in
    ap host_of c.finished ∙ ap (λ n. Some n) (c.at_host ∙ ap (host_of_bench plan) same)

pub told_part : (plan : Plan) (s : Session) (call bench : ℕ) (r : CallRecord) (ch : Channel) → CallRan plan s call r → bench_of r.state ≡ Some bench → told plan s r ch ≡ take (count_on plan r ch) (drop (made_before plan s bench (order_of r.state) ch) (told_of (heard plan s bench (host_of_bench plan bench) ch)))
told_part plan s call bench r ch c e =
    let host = host_of_bench plan bench in
    let all = heard plan s bench host ch in
    let from = made_before plan s bench (order_of r.state) ch in
    let f : Answered → Operation × Reply = λ x. (x.operation, x.reply) in
    ap told_of (own_at plan s r ch host bench (host_so plan s call bench r c e) e)
    ∙ sym (take-map f (count_on plan r ch) (drop from all))
    ∙ ap (take (count_on plan r ch)) (drop_map f from all)

-- ---- A bench unlocks what it holds.

own_unlock : (plan : Plan) (s : Session) (finals : List (List ℕ)) (ch : Channel) (m : ℕ) (start : Region) (h before behind : History RegionOperation) → WellFormed plan → Ran plan s finals → m < benches plan → heard plan s m (host_of_bench plan m) ch ≡ asked_on m start h → made plan s m (host_of_bench plan m) ch ≡ made_by m h → Legal region_rules start h → h ≡ before ++ (m, RegionOperation.unlock) ∷ behind → holds (left region_rules start before) m ≡ true
own_unlock plan s finals ch m start h before behind fine ran is_bench heard_so made_so legal e =
    let xs = told_on m start before in
    let y : Operation × Reply = (on_region RegionOperation.unlock, region.reply (left region_rules start before) m RegionOperation.unlock) in
    let ys = told_on m (region.after (left region_rules start before) m RegionOperation.unlock) behind in
    let split : told_on m start h ≡ xs ++ y ∷ ys = ap (told_on m start) e ∙ told_split m start before behind RegionOperation.unlock in
    let used = eqb-true (made plan s m (host_of_bench plan m) ch) (total (λ r. count_on plan r ch) (filter (is_of_bench m) s.records)) (ran.all_used m ch is_bench) in
    let number = made_so ∙ made_told m start h ∙ ap length split ∙ length-append xs (y ∷ ys) in
    let f = found plan s m (length xs) ch (ran_in_order plan s finals ran) (omega (arith, used, number)) in
    let c = call_ran plan s 0 f.call s.records f.r ran.calls f.here in
    let from = made_before plan s m (order_of f.r.state) ch in
    let p = in_part from (count_on plan f.r ch) xs ys y f.from f.below in
    let told_so : told plan s f.r ch ≡ drop from xs ++ y ∷ p.0 =
    told_part plan s (0 + f.call) m f.r ch c (bench_so m f.r.state f.of_bench)
    ∙ ap (λ zs. take (count_on plan f.r ch) (drop from (told_of zs))) heard_so
    ∙ ap (λ zs. take (count_on plan f.r ch) (drop from zs)) split
    ∙ p.1 in
    let valid = (all_get (λ f. Valid f.function.code × Runnable f.function.code) plan.functions f.r.function c.function (modules_fit plan fine) c.function_so).0 in
    let differ = (all_get (λ f. (input : List ℕ) → KeysDiffer (invocation f.function input) × IsNumbered (invocation f.function input)) plan.functions f.r.function c.function (invocations_fit plan fine) c.function_so f.r.input).0 in
    let mine : keeps false (drop from xs) ≡ true = ∥∥₁_elim c.runs (Bool-set (keeps false (drop from xs)) true) (λ run. frees_there false (drop from xs) p.0 y.1 (ap (frees false) (sym told_so) ∙ runs_free c.function.function f.r.input (told plan s f.r) c.outcome c.output c.used ch valid differ run)) in
    let all_mine : keeps false xs ≡ true = ap (keeps false) (sym (take-append-drop from xs)) ∙ keeps_both false (take from xs) (drop from xs) ∙ keeps_more (keeps false (take from xs)) (drop from xs) mine in
    kept_held m start before false (legal_prefix region_rules start before ((m, RegionOperation.unlock) ∷ behind) (subst (Legal region_rules start) e legal)) (λ k. let no : ⊥ = cc in absurd no) all_mine

-- ---- Each object.

pub all_middle : {A : Type 0} (test : A → Bool) (xs ys : List A) (x : A) → list_all test (xs ++ x ∷ ys) ≡ true → test x ≡ true
all_middle test [] ys x h = (and_parts (test x) (list_all test ys) h).0
all_middle test (z ∷ xs) ys x h = all_middle test xs ys x (and_parts (test z) (list_all test (xs ++ x ∷ ys)) h).1

local_unlocks : (plan : Plan) (s : Session) (finals : List (List ℕ)) (host key : ℕ) (k : Key) → WellFormed plan → Ran plan s finals → slice_get plan.keys key ≡ Some k → UnlocksHeld (replica k.size) (local_history s host key)
local_unlocks plan s finals host key k fine ran at m before behind e =
    let r = local_ran plan s finals host key k ran at in
    let maker = all_middle (λ e. nat_lt e.0 (benches plan) && (host_of_bench plan e.0 == host)) before behind (m, RegionOperation.unlock) (subst (λ h. of_host plan host h ≡ true) e r.by_its_host) in
    let p = and_parts (nat_lt m (benches plan)) (host_of_bench plan m == host) maker in
    let here = eqb-true (host_of_bench plan m) host p.1 in
    own_unlock plan s finals (Local key) m (replica k.size) (local_history s host key) before behind fine ran (ltb-true m (benches plan) p.0)
    (ap (λ n. heard plan s m n (Local key)) here ∙ ap (λ o. elim o as (λ o. List Answered) [ None ↦ [] | Some k ↦ asked_on m (replica k.size) (local_history s host key) ]) at)
    (ap (λ n. made plan s m n (Local key)) here) r.ran.legal e

abbrev unlocks_by : Plan → ℕ × RegionOperation → Bool
unlocks_by plan e = cond (is_unlock e.1) (nat_lt e.0 (benches plan)) true

benches_unlock : (plan : Plan) (h : History RegionOperation) → list_all (λ e. nat_lt e.0 (benches plan)) h ≡ true → list_all (unlocks_by plan) h ≡ true
benches_unlock plan [] h = refl
benches_unlock plan (e ∷ es) h = let p = and_parts (nat_lt e.0 (benches plan)) (list_all (λ e. nat_lt e.0 (benches plan)) es) h in ap₂ (λ a b. a && b) (by (is_unlock e.1) p.0) (benches_unlock plan es p.1)
  where
    by : (b : Bool) → nat_lt e.0 (benches plan) ≡ true → cond b (nat_lt e.0 (benches plan)) true ≡ true
    by true i = i
    by false i = refl

global_unlocks : (plan : Plan) (s : Session) (finals : List (List ℕ)) (key : ℕ) (k : Key) → WellFormed plan → Ran plan s finals → slice_get plan.keys key ≡ Some k → UnlocksHeld (global_value k.size k.init) (global_history plan s k key)
global_unlocks plan s finals key k fine ran at m before behind e =
    let r = (global_ran plan s finals key k ran at).1 in
    let seen = unwrap_or (slice_get s.globals key) [] in
    let all = all_push (unlocks_by plan) seen (benches plan, RegionOperation.read 0 k.size) (benches_unlock plan seen r.by_benches) refl in
    let maker : nat_lt m (benches plan) ≡ true = all_middle (unlocks_by plan) before behind (m, RegionOperation.unlock) (subst (λ h. list_all (unlocks_by plan) h ≡ true) e all) in
    own_unlock plan s finals (Global key) m (global_value k.size k.init) (global_history plan s k key) before behind fine ran (ltb-true m (benches plan) maker)
    (ap (λ o. elim o as (λ o. List Answered) [ None ↦ [] | Some k ↦ asked_on m (global_value k.size k.init) (global_history plan s k key) ]) at)
    (ap (λ o. elim o as (λ o. ℕ) [ None ↦ 0 | Some k ↦ made_by m (global_history plan s k key) ]) at) r.ran.legal e

pub ran_unlocks : (plan : Plan) (s : Session) (finals : List (List ℕ)) (host key : ℕ) (k : Key) → WellFormed plan → Ran plan s finals → slice_get plan.keys key ≡ Some k → UnlocksHeld (replica k.size) (local_history s host key) × UnlocksHeld (global_value k.size k.init) (global_history plan s k key)
ran_unlocks plan s finals host key k fine ran at = (local_unlocks plan s finals host key k fine ran at, global_unlocks plan s finals key k fine ran at)

pub ran_sections : (plan : Plan) (s : Session) (finals : List (List ℕ)) (host key : ℕ) (k : Key) → WellFormed plan → Ran plan s finals → slice_get plan.keys key ≡ Some k → HasOwnSections (local_history s host key) × HasOwnSections (global_history plan s k key)
ran_sections plan s finals host key k fine ran at = (
  sections_of (replica k.size) (local_history s host key) (local_ran plan s finals host key k ran at).ran.legal (local_unlocks plan s finals host key k fine ran at),
  sections_of (global_value k.size k.init) (global_history plan s k key) (global_ran plan s finals key k ran at).1.ran.legal (global_unlocks plan s finals key k fine ran at),
)
