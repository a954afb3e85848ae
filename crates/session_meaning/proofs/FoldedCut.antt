-- The cut of the world of a list of events is the world of the cut list.
use Rattle.std.proofs.Common.{◌≡◌, ℕ, zero, suc, ◌+◌, Bool, true, false, cond, List, [], ◌∷◌, ◌++◌, Some, None, refl, sym, ap, ap₂, ◌∙◌, map, length, slice_get, option_map, filter, replicate, arith}
use Rattle.std.specs.Prelude.{◌&&◌, ◌==◌, fold}
use Rattle.std.specs.List.{list_all}
use Rattle.std.proofs.lemmas.Bool.{and_parts}
use Rattle.std.proofs.lemmas.List.{length-map, length-append, map-append, append-nil}
use Rattle.faaslet_meaning.specs.declared.call.CallRecord.{CallRecord}
use Rattle.session_meaning.specs.declared.event.Event.{Event}
use Rattle.faaslet_meaning.specs.Table as table
use Rattle.faaslet_meaning.specs.Table.{Table, TableOperation, queued_record, callable, empty_table}
use Rattle.faaslet_meaning.specs.Channels.{channels}
use Rattle.faaslet_meaning.specs.Region.{replica, global_value}
use Rattle.session_meaning.specs.Plan.{Key, NamedFunction, Request, Plan, callable_of, callables}
use Rattle.session_meaning.specs.World.{Object, World, unused, on_table, requested, start, first_world}
use Rattle.session_meaning.specs.Events.{step, world}
use Rattle.session_meaning.specs.Cut.{Part, kept, rank, cut_object, cut_objects, cut_record, blank_record, cut_table, cut, blank, cut_named, cut_request, cut_plan, call_of, cut_event, cut_events}
use Rattle.session_meaning.proofs.Kept.{kept_push, all_push}
use Rattle.session_meaning.proofs.Renumbered.{channels_cut}
use Rattle.session_meaning.proofs.Tables.{AllFit, callable_cut, get_end}
use Rattle.session_meaning.proofs.WorldParts.{length_filled, table_cut, table_left, length_cut, blank_cut_world}
use Rattle.session_meaning.proofs.OneStep.{HasRecord, step_kept}
use Rattle.session_meaning.proofs.KeptAsks.{Apart}
use Rattle.session_meaning.proofs.OtherSteps.{step_left}
use Rattle.session_meaning.proofs.Whole.{everything, no_next, whole, blank_step, fit_all, rank_all}

-- what one step needs
pub record Ready (part : Part) (w : World) : Type 0 where
  pub apart : Apart part w
  pub recorded : (call : ℕ) → HasRecord w call

-- the history of the table has no TakeNext
abbrev pub Plain : World → Type 0
Plain w = list_all no_next w.table_history ≡ true

-- it holds of each world on the way
abbrev pub Along : (World → Type 0) → Plan → World → List Event → Type 0
Along P plan w [] = P w
Along P plan w (e ∷ es) = P w × Along P plan (step plan w e) es

pub along_first : (P : World → Type 0) (plan : Plan) (w : World) (es : List Event) → Along P plan w es → P w
along_first P plan w [] h = h
along_first P plan w (e ∷ es) h = h.0

abbrev pub Both : World → Type 0
Both v = Ready everything v × Plain v

pub one_more : (part : Part) (plan plan' : Plan) (w v : World) (e : Event) (es : List Event) → plan' ≡ cut_plan part plan → part.calls (call_of e) ≡ true → Ready part w → AllFit part (step plan w e).table.records → Both v → Plain (step plan' v (cut_event part.calls e)) → cut part w ≡ blank v → cut part (step plan w e) ≡ blank (step plan' v (cut_event part.calls e))
one_more part plan plan' w v e es p i ready fit' both plain same =
    let e' = cut_event part.calls e in
    step_kept part plan w e i ready.apart (ready.recorded (call_of e)) fit'
    ∙ ap₂ (λ q x. blank (step q x e')) (sym p) same
    ∙ sym (blank_step plan' v e' both.0.apart (both.0.recorded (call_of e')) both.1 plain)

pub fold_cut : (part : Part) (plan : Plan) (w v : World) (es : List Event) → Along (Ready part) plan w es → Along Both (cut_plan part plan) v (cut_events part.calls es) → cut part w ≡ blank v → cut part (fold (step plan) w es) ≡ blank (fold (step (cut_plan part plan)) v (cut_events part.calls es))
fold_cut part plan w v [] ready both same = same
fold_cut part plan w v (e ∷ es) ready both same =
    by (part.calls (call_of e)) refl both (λ x b s. fold_cut part plan (step plan w e) x es ready.1 b s)
  where
    fit_next : AllFit part (step plan w e).table.records
    fit_next = (along_first (Ready part) plan (step plan w e) es ready.1).apart.fit

    by : (b : Bool) → part.calls (call_of e) ≡ b → Along Both (cut_plan part plan) v (map (cut_event part.calls) (cond b (e ∷ filter (λ e. part.calls (call_of e)) es) (filter (λ e. part.calls (call_of e)) es))) → ((x : World) → Along Both (cut_plan part plan) x (cut_events part.calls es) → cut part (step plan w e) ≡ blank x → cut part (fold (step plan) (step plan w e) es) ≡ blank (fold (step (cut_plan part plan)) x (cut_events part.calls es))) → cut part (fold (step plan) (step plan w e) es) ≡ blank (fold (step (cut_plan part plan)) v (map (cut_event part.calls) (cond b (e ∷ filter (λ e. part.calls (call_of e)) es) (filter (λ e. part.calls (call_of e)) es))))
    by true i b go = go (step (cut_plan part plan) v (cut_event part.calls e)) b.1 (one_more part plan (cut_plan part plan) w v e es refl i ready.0 fit_next b.0 (along_first Both (cut_plan part plan) (step (cut_plan part plan) v (cut_event part.calls e)) (cut_events part.calls es) b.1).1 same)
    by false i b go = go v b (step_left part plan w e i ready.0.apart fit_next ∙ same)

-- ---- Before any event.

pub kept_map : {A B : Type 0} (is : ℕ → Bool) (f : A → B) (xs : List A) → kept is (map f xs) ≡ map f (kept is xs)
kept_map is f [] = refl
kept_map is f (x ∷ xs) = by (is 0) (kept_map (λ n. is (suc n)) f xs)
  where
    by : (b : Bool) → kept (λ n. is (suc n)) (map f xs) ≡ map f (kept (λ n. is (suc n)) xs) → cond b (f x ∷ kept (λ n. is (suc n)) (map f xs)) (kept (λ n. is (suc n)) (map f xs)) ≡ map f (cond b (x ∷ kept (λ n. is (suc n)) xs) (kept (λ n. is (suc n)) xs))
    by true e = ap (λ ys. f x ∷ ys) e
    by false e = e

map_cong : {A B : Type 0} (f g : A → B) (xs : List A) → ((x : A) → f x ≡ g x) → map f xs ≡ map g xs
map_cong f g [] e = refl
map_cong f g (x ∷ xs) e = ap₂ (λ y ys. y ∷ ys) (e x) (map_cong f g xs e)

map_map : {A B C : Type 0} (f : A → B) (g : B → C) (h : A → C) (xs : List A) → ((x : A) → g (f x) ≡ h x) → map g (map f xs) ≡ map h xs
map_map f g h [] e = refl
map_map f g h (x ∷ xs) e = ap₂ (λ y ys. y ∷ ys) (e x) (map_map f g h xs e)

objects_start : (part : Part) (f : Key → Object) (ks : List Key) → ((k : Key) → cut_object part.calls (f k) ≡ f k) → cut_objects part (map f ks) ≡ map f (kept part.keys ks)
objects_start part f ks e = ap (map (cut_object part.calls)) (kept_map part.keys f ks) ∙ map_map f (cut_object part.calls) f (kept part.keys ks) e

map_replicate : {A B : Type 0} (f : A → B) (n : ℕ) (x : A) → map f (replicate n x) ≡ replicate n (f x)
map_replicate f zero x = refl
map_replicate f (suc n) x = ap (λ ys. f x ∷ ys) (map_replicate f n x)

pub callables_cut : (part : Part) (fs : List NamedFunction) → kept part.functions (map callable_of fs) ≡ map callable_of (map (cut_named part) (kept part.functions fs))
callables_cut part fs = kept_map part.functions callable_of fs ∙ sym (map_map (cut_named part) callable_of callable_of (kept part.functions fs) (λ f. ap (λ n. record (callable_of f) { channels = n }) (ap length (channels_cut part.keys f.function.grants) ∙ length-map (channels f.function.grants) _)))

pub start_cut : (part : Part) (plan : Plan) → cut part (start plan) ≡ blank (start (cut_plan part plan))
start_cut part plan =
    ap₂ (λ fs ls. record (cut part (start plan)) { table = record (cut_table part (empty_table plan.hosts (callables plan))) { functions = fs }; locals = ls }) (callables_cut part plan.functions) (map_replicate (cut_objects part) plan.hosts (map (λ k. unused (replica k.size)) plan.keys) ∙ ap (replicate plan.hosts) (objects_start part (λ k. unused (replica k.size)) plan.keys (λ k. refl)))
    ∙ ap (λ gs. record (blank (start (cut_plan part plan))) { globals = gs }) (objects_start part (λ k. unused (global_value k.size k.init)) plan.keys (λ k. refl))

abbrev pub first_depth : CallRecord → Bool
first_depth r = r.depth == 1

pub filter_whole : {A : Type 0} (test : A → Bool) (xs : List A) → list_all test xs ≡ true → filter test xs ≡ xs
filter_whole test [] h = refl
filter_whole test (x ∷ xs) h =
    let p = and_parts (test x) (list_all test xs) h in
    ap (λ b. cond b (x ∷ filter test xs) (filter test xs)) p.0 ∙ ap (λ ys. x ∷ ys) (filter_whole test xs p.1)

all_kept : {A : Type 0} (is : ℕ → Bool) (test : A → Bool) (xs : List A) → list_all test xs ≡ true → list_all test (kept is xs) ≡ true
all_kept is test [] h = refl
all_kept is test (x ∷ xs) h =
    let p = and_parts (test x) (list_all test xs) h in
    by (is 0) (all_kept (λ n. is (suc n)) test xs p.1) p.0
  where
    by : (b : Bool) → list_all test (kept (λ n. is (suc n)) xs) ≡ true → test x ≡ true → list_all test (cond b (x ∷ kept (λ n. is (suc n)) xs) (kept (λ n. is (suc n)) xs)) ≡ true
    by true e t = ap (λ c. c && list_all test (kept (λ n. is (suc n)) xs)) t ∙ e
    by false e t = e

all_map : (part : Part) (rs : List CallRecord) → list_all first_depth rs ≡ true → list_all first_depth (map (cut_record part) rs) ≡ true
all_map part [] h = refl
all_map part (r ∷ rs) h = let p = and_parts (first_depth r) (list_all first_depth rs) h in ap (λ b. b && list_all first_depth (map (cut_record part) rs)) p.0 ∙ all_map part rs p.1

-- all records are of requests
abbrev pub Firsts : World → Type 0
Firsts w = list_all first_depth w.table.records ≡ true

request_number : (part : Part) (t : Table) → list_all first_depth t.records ≡ true → rank part.calls (length (filter first_depth t.records)) ≡ length (filter first_depth (cut_table part t).records)
request_number part t h =
    ap (λ rs. rank part.calls (length rs)) (filter_whole first_depth t.records h)
    ∙ sym (length_cut part t)
    ∙ sym (ap length (filter_whole first_depth (cut_table part t).records (all_map part (kept part.calls t.records) (all_kept part.calls first_depth t.records h))))

pub queued_cut : (part : Part) (t : Table) (f host : ℕ) (input : List ℕ) → part.functions f ≡ true → list_all first_depth t.records ≡ true → cut_record part (queued_record t f host input) ≡ blank_record (queued_record (cut_table part t) (rank part.functions f) host input)
queued_cut part t f host input i h = ap₂ (λ q c. record (cut_record part (queued_record t f host input)) { request = q; room = c.room; fuel = c.fuel }) (request_number part t h) (sym (callable_cut part t f i))

pub end_fit : (part : Part) (rs : List CallRecord) (r : CallRecord) → AllFit part (rs ++ r ∷ []) → part.functions r.function ≡ part.calls (length rs)
end_fit part rs r fit = (fit (length rs) r (get_end rs r (length rs) refl)).function

pub requested_kept : (part : Part) (w : World) (r : Request) → part.functions r.function ≡ true → Firsts w → AllFit part (requested w r).table.records → cut part (requested w r) ≡ blank (requested (cut part w) (cut_request part r))
requested_kept part w r i h fit' =
    let n = length w.table.records in
    let x = queued_record w.table r.function r.host r.input in
    let y = queued_record (cut_table part w.table) (rank part.functions r.function) r.host r.input in
    let op = table.submit_request r.function r.host r.input in
    let op' = table.submit_request (rank part.functions r.function) r.host r.input in
    let ks = kept part.calls w.table.records in
    let records : map (cut_record part) (kept part.calls (w.table.records ++ x ∷ [])) ≡ map blank_record (map (cut_record part) ks ++ y ∷ []) =
    ap (map (cut_record part)) (kept_push part.calls w.table.records x ∙ ap (λ b. ks ++ cond b (x ∷ []) []) (sym (end_fit part w.table.records x fit') ∙ i))
    ∙ map-append (cut_record part) ks (x ∷ [])
    ∙ ap₂ (λ xs z. xs ++ z ∷ []) (sym (ap (λ v. v.table.records) (blank_cut_world part w))) (queued_cut part w.table r.function r.host r.input i h)
    ∙ sym (map-append blank_record (map (cut_record part) ks) (y ∷ [])) in
    table_cut part w n op op' (ap (λ rs. record (cut_table part w.table) { records = rs }) records) (ap (λ b. option_map (λ o. (rank part.calls n, o)) (cond b (Some op') None)) i)
    ∙ ap (λ m. blank (on_table (cut part w) m op')) (sym (length_cut part w.table))

pub requested_left : (part : Part) (w : World) (r : Request) → part.functions r.function ≡ false → length w.calls ≡ length w.table.records → AllFit part (requested w r).table.records → cut part (requested w r) ≡ cut part w
requested_left part w r i sizes fit' =
    let n = length w.table.records in
    let x = queued_record w.table r.function r.host r.input in
    let ks = kept part.calls w.table.records in
    table_left part w n (table.submit_request r.function r.host r.input) sizes (ap (λ rs. record (cut_table part w.table) { records = map (cut_record part) rs }) (kept_push part.calls w.table.records x ∙ ap (λ b. ks ++ cond b (x ∷ []) []) (sym (end_fit part w.table.records x fit') ∙ i) ∙ append-nil ks)) (ap (λ b. cond b (Some (table.submit_request (rank part.functions r.function) r.host r.input)) None) i)

-- ---- All requests.

get_front : {A : Type 0} (xs ys : List A) (n : ℕ) (x : A) → slice_get xs n ≡ Some x → slice_get (xs ++ ys) n ≡ Some x
get_front [] ys n x e = let no : ⊥ = cc in absurd no
get_front (y ∷ xs) ys zero x e = e
get_front (y ∷ xs) ys (suc n) x e = get_front xs ys n x e

fit_before : (part : Part) (w : World) (r : Request) → AllFit part (requested w r).table.records → AllFit part w.table.records
fit_before part w r fit n x e = fit n x (get_front w.table.records _ n x e)

fit_first : (part : Part) (w : World) (rs : List Request) → AllFit part (fold requested w rs).table.records → AllFit part w.table.records
fit_first part w [] fit = fit
fit_first part w (r ∷ rs) fit = fit_before part w r (fit_first part (requested w r) rs fit)

-- what requests keep
pub record Begun (w : World) : Type 0 where
  pub firsts : Firsts w
  pub plain : Plain w
  pub sizes : length w.calls ≡ length w.table.records

pub requested_begun : (w : World) (r : Request) → Begun w → Begun (requested w r)
requested_begun w r b =
    let n : length (w.table.records ++ queued_record w.table r.function r.host r.input ∷ []) ≡ length w.table.records + 1 = length-append w.table.records (queued_record w.table r.function r.host r.input ∷ []) in
    record {
      firsts = all_push first_depth w.table.records (queued_record w.table r.function r.host r.input) b.firsts refl;
      plain = all_push no_next w.table_history (length w.table.records, table.submit_request r.function r.host r.input) b.plain refl;
      sizes = length_filled (length (requested w r).table.records) w.calls (omega (arith, n, b.sizes));
    }

begun_all : (w : World) (rs : List Request) → Begun w → Begun (fold requested w rs)
begun_all w [] b = b
begun_all w (r ∷ rs) b = begun_all (requested w r) rs (requested_begun w r b)

request_all : (r : Request) → cut_request everything r ≡ r
request_all r = ap (λ f. record r { function = f }) (rank_all r.function)

blank_requested : (v : World) (r : Request) → Begun v → blank (requested v r) ≡ blank (requested (blank v) r)
blank_requested v r b =
    sym (whole (requested v r) (requested_begun v r b).plain)
    ∙ requested_kept everything v r refl b.firsts (fit_all (requested v r).table.records)
    ∙ ap₂ (λ u q. blank (requested u q)) (whole v b.plain) (request_all r)

requests_cut : (part : Part) (w v : World) (rs : List Request) → Begun w → Begun v → AllFit part (fold requested w rs).table.records → cut part w ≡ blank v → cut part (fold requested w rs) ≡ blank (fold requested v (map (cut_request part) (filter (λ r. part.functions r.function) rs)))
requests_cut part w v [] b c fit same = same
requests_cut part w v (r ∷ rs) b c fit same = by (part.functions r.function) refl (λ u d s. requests_cut part (requested w r) u rs (requested_begun w r b) d fit s)
  where
    fit_next : AllFit part (requested w r).table.records
    fit_next = fit_first part (requested w r) rs fit

    by : (t : Bool) → part.functions r.function ≡ t → ((u : World) → Begun u → cut part (requested w r) ≡ blank u → cut part (fold requested (requested w r) rs) ≡ blank (fold requested u (map (cut_request part) (filter (λ r. part.functions r.function) rs)))) → cut part (fold requested (requested w r) rs) ≡ blank (fold requested v (map (cut_request part) (cond t (r ∷ filter (λ r. part.functions r.function) rs) (filter (λ r. part.functions r.function) rs))))
    by true i go = go (requested v (cut_request part r)) (requested_begun v (cut_request part r) c) (requested_kept part w r i b.firsts fit_next ∙ ap (λ u. blank (requested u (cut_request part r))) same ∙ sym (blank_requested v (cut_request part r) c))
    by false i go = go v c (requested_left part w r i b.sizes fit_next ∙ same)

start_begun : (plan : Plan) → Begun (start plan)
start_begun plan = record { firsts = refl; plain = refl; sizes = refl }

pub first_begun : (plan : Plan) → Begun (first_world plan)
first_begun plan = begun_all (start plan) plan.requests (start_begun plan)

-- the first world of the cut plan is the cut of the first world
pub first_cut : (part : Part) (plan : Plan) → AllFit part (first_world plan).table.records → cut part (first_world plan) ≡ blank (first_world (cut_plan part plan))
first_cut part plan fit = requests_cut part (start plan) (start (cut_plan part plan)) plan.requests (start_begun plan) (start_begun (cut_plan part plan)) fit (start_cut part plan)

-- The cut of the world of a list of events is the world of the cut plan under the cut list.
pub world_cut : (part : Part) (plan : Plan) (es : List Event) → Along (Ready part) plan (first_world plan) es → Along Both (cut_plan part plan) (first_world (cut_plan part plan)) (cut_events part.calls es) → cut part (world plan es) ≡ blank (world (cut_plan part plan) (cut_events part.calls es))
world_cut part plan es ready both =
    fold_cut part plan (first_world plan) (first_world (cut_plan part plan)) es ready both
    (first_cut part plan (along_first (Ready part) plan (first_world plan) es ready).apart.fit)
