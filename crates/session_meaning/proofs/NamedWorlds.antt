-- Two worlds by names: plans with one cut and events with one cut make worlds with one cut.
use Rattle.std.proofs.Common.{◌≡◌, ℕ, zero, suc, Bool, true, false, cond, List, [], ◌∷◌, ◌++◌, Option, Some, None, refl, sym, ap, ap₂, ◌∙◌, map, filter, option_map, slice_get, subst}
use Rattle.std.specs.Prelude.{fold}
use Rattle.faaslet_meaning.specs.declared.call.CallRecord.{CallRecord}
use Rattle.faaslet_meaning.specs.Lists.{passes_at}
use Rattle.session_meaning.specs.declared.event.Event.{Event}
use Rattle.session_meaning.specs.declared.event.Event.TheVariants.{Take, Ask, End}
use Rattle.session_meaning.specs.declared.event.Why.{Why}
use Rattle.session_meaning.specs.declared.event.Why.TheVariants.{NoCall}
use Rattle.session_meaning.specs.Plan.{Request, Plan, Names, Closed}
use Rattle.session_meaning.specs.SessionReport.{label_of}
use Rattle.session_meaning.specs.World.{World, first_world}
use Rattle.session_meaning.specs.Events.{why, why_take, why_ask, why_end, why_open, step, Stand, Worlds}
use Rattle.session_meaning.specs.Cut.{Part, kept, rank, cut_record, blank_record, blank, cut_request, cut_plan, call_of, cut_event, cut_events, calls_of, part_of, plan_cut, events_cut, world_cut}
use Rattle.session_meaning.specs.CallNames.{CallName, steps_by, call_name, NamedApart, DistinctLabels, DistinctNames}
use Rattle.session_meaning.specs.NamedCut.{named_function, takes, asks, ends, named_event, plan_by_name, events_by_name, WorldByName, each, world_by_name}
use Rattle.session_meaning.proofs.Kept.{get_map}
use Rattle.session_meaning.proofs.Tables.{AllFit, get_cut}
use Rattle.session_meaning.proofs.Paths.{RequestsKept, label_cut}
use Rattle.session_meaning.proofs.Later.{Later, later_as, later_keeps}
use Rattle.session_meaning.proofs.TableKeeps.{events_keep, step_keeps}
use Rattle.session_meaning.proofs.Family.{Family, family_keeps, first_family}
use Rattle.session_meaning.proofs.DistinctCalls.{family_apart, name_later}
use Rattle.session_meaning.proofs.NamedPlans.{kept_apart, filter_kept, named_there, map_map, same_plan_cut}
use Rattle.session_meaning.proofs.WorldEnds.{end_ready, requests_kept}
use Rattle.session_meaning.proofs.AsksGranted.{cut_is_world, one_cut}

-- ---- The name of a kept call in the cut.

abbrev up : (ℕ → List ℕ) → ℕ → Option ℕ → List ℕ
up go child o = elim o [ None ↦ [] | Some parent ↦ go parent ++ child ∷ [] ]

abbrev steps_at : (ℕ → List ℕ) → Option CallRecord → List ℕ
steps_at go o = elim o [ None ↦ [] | Some r ↦ up go r.child r.parent ]

abbrev name_at : Plan → (ℕ → List ℕ) → Option CallRecord → CallName
name_at plan go o = elim o [ None ↦ record { label = []; steps = [] } | Some r ↦ record { label = label_of plan r.request; steps = go r.depth } ]

steps_cut : (part : Part) (rs : List CallRecord) (depth call : ℕ) → AllFit part rs → part.calls call ≡ true → steps_by (map (cut_record part) (kept part.calls rs)) depth (rank part.calls call) ≡ steps_by rs depth call
steps_cut part rs zero call fit i = refl
steps_cut part rs (suc depth) call fit i =
    ap (steps_at (steps_by (map (cut_record part) (kept part.calls rs)) depth)) (get_cut part rs call i)
    ∙ by (slice_get rs call) refl (λ parent k. steps_cut part rs depth parent fit k)
  where
    at : (r : CallRecord) → slice_get rs call ≡ Some r → ((parent : ℕ) → part.calls parent ≡ true → steps_by (map (cut_record part) (kept part.calls rs)) depth (rank part.calls parent) ≡ steps_by rs depth parent) → (o : Option ℕ) → r.parent ≡ o → up (steps_by (map (cut_record part) (kept part.calls rs)) depth) r.child (option_map (rank part.calls) o) ≡ up (steps_by rs depth) r.child o
    at r e go None h = refl
    at r e go (Some p) h = ap (λ ns. ns ++ r.child ∷ []) (go p ((fit call r e).parent p h ∙ i))

    by : (o : Option CallRecord) → slice_get rs call ≡ o → ((parent : ℕ) → part.calls parent ≡ true → steps_by (map (cut_record part) (kept part.calls rs)) depth (rank part.calls parent) ≡ steps_by rs depth parent) → steps_at (steps_by (map (cut_record part) (kept part.calls rs)) depth) (option_map (cut_record part) o) ≡ steps_at (steps_by rs depth) o
    by None e go = refl
    by (Some r) e go = at r e go r.parent refl

pub name_cut : (part : Part) (plan : Plan) (rs : List CallRecord) (call : ℕ) → AllFit part rs → RequestsKept part part.calls plan.requests → part.calls call ≡ true → call_name (cut_plan part plan) (map (cut_record part) (kept part.calls rs)) (rank part.calls call) ≡ call_name plan rs call
name_cut part plan rs call fit same i =
    ap (name_at (cut_plan part plan) (λ d. steps_by (map (cut_record part) (kept part.calls rs)) d (rank part.calls call))) (get_cut part rs call i) ∙ by (slice_get rs call) refl
  where
    by : (o : Option CallRecord) → slice_get rs call ≡ o → name_at (cut_plan part plan) (λ d. steps_by (map (cut_record part) (kept part.calls rs)) d (rank part.calls call)) (option_map (cut_record part) o) ≡ name_at plan (λ d. steps_by rs d call) o
    by None e = refl
    by (Some r) e = ap₂ (λ l ns. record { label = l; steps = ns }) (label_cut part plan r.request same ((fit call r e).request ∙ i)) (steps_cut part rs r.depth call fit i)

-- ---- Blanks are no part of a name.

steps_blank : (rs : List CallRecord) (depth call : ℕ) → steps_by (map blank_record rs) depth call ≡ steps_by rs depth call
steps_blank rs zero call = refl
steps_blank rs (suc depth) call = ap (steps_at (steps_by (map blank_record rs) depth)) (get_map blank_record rs call) ∙ by (slice_get rs call) (λ parent. steps_blank rs depth parent)
  where
    at : (child : ℕ) (o : Option ℕ) → ((parent : ℕ) → steps_by (map blank_record rs) depth parent ≡ steps_by rs depth parent) → up (steps_by (map blank_record rs) depth) child o ≡ up (steps_by rs depth) child o
    at child None go = refl
    at child (Some p) go = ap (λ ns. ns ++ child ∷ []) (go p)

    by : (o : Option CallRecord) → ((parent : ℕ) → steps_by (map blank_record rs) depth parent ≡ steps_by rs depth parent) → steps_at (steps_by (map blank_record rs) depth) (option_map blank_record o) ≡ steps_at (steps_by rs depth) o
    by None go = refl
    by (Some r) go = at r.child r.parent go

name_blank : (plan : Plan) (rs : List CallRecord) (call : ℕ) → call_name plan (map blank_record rs) call ≡ call_name plan rs call
name_blank plan rs call = ap (name_at plan (λ d. steps_by (map blank_record rs) d call)) (get_map blank_record rs call) ∙ by (slice_get rs call)
  where
    by : (o : Option CallRecord) → name_at plan (λ d. steps_by (map blank_record rs) d call) (option_map blank_record o) ≡ name_at plan (λ d. steps_by rs d call) o
    by None = refl
    by (Some r) = ap (λ ns. record { label = label_of plan r.request; steps = ns }) (steps_blank rs r.depth call)

-- ---- Events of one plan whose names are equal.

there_by : (reason : CallRecord → Option Why) (o : Option CallRecord) → ◌≡◌ {A = Option Why} (elim o [ None ↦ Some NoCall | Some r ↦ reason r ]) None → (r : CallRecord) × (o ≡ Some r)
there_by reason None h = let no : ⊥ = cc in absurd no
there_by reason (Some r) h = (r, refl)

pub event_there : (w : World) (e : Event) → why w e ≡ None → (r : CallRecord) × (slice_get w.table.records (call_of e) ≡ Some r)
event_there w (Take call host) h = there_by (λ r. why_take w r host) (slice_get w.table.records call) h
event_there w (Ask call) h = there_by (λ r. why_open w call (why_ask w call)) (slice_get w.table.records call) h
event_there w (End call) h = there_by (λ r. why_open w call why_end) (slice_get w.table.records call) h

abbrev OneCall : (ℕ → CallName) → ℕ → ℕ → Type 0
OneCall name c d = name c ≡ name d → c ≡ d

takes_same : {c d : CallName} {h k : ℕ} → takes c h ≡ takes d k → (c ≡ d) × (h ≡ k)
takes_same e = (cc, cc)

asks_same : {c d : CallName} → asks c ≡ asks d → c ≡ d
asks_same e = cc

ends_same : {c d : CallName} → ends c ≡ ends d → c ≡ d
ends_same e = cc

-- events with one name are one event
one_name : (plan : Plan) (rs : List CallRecord) (e f : Event) → OneCall (call_name plan rs) (call_of e) (call_of f) → named_event plan rs e ≡ named_event plan rs f → e ≡ f
one_name plan rs (Take c h) (Take d k) one same = let s = takes_same same in ap₂ (λ x y. Take x y) (one s.0) s.1
one_name plan rs (Ask c) (Ask d) one same = ap (λ x. Ask x) (one (asks_same same))
one_name plan rs (End c) (End d) one same = ap (λ x. End x) (one (ends_same same))
one_name plan rs (Take c h) (Ask d) one same = let no : ⊥ = cc in absurd no
one_name plan rs (Take c h) (End d) one same = let no : ⊥ = cc in absurd no
one_name plan rs (Ask c) (Take d k) one same = let no : ⊥ = cc in absurd no
one_name plan rs (Ask c) (End d) one same = let no : ⊥ = cc in absurd no
one_name plan rs (End c) (Take d k) one same = let no : ⊥ = cc in absurd no
one_name plan rs (End c) (Ask d) one same = let no : ⊥ = cc in absurd no

-- an event keeps its name
event_later : (plan : Plan) (xs ys : List CallRecord) (e : Event) → call_name plan ys (call_of e) ≡ call_name plan xs (call_of e) → named_event plan ys e ≡ named_event plan xs e
event_later plan xs ys (Take c h) same = ap (λ n. takes n h) same
event_later plan xs ys (Ask c) same = ap (λ n. asks n) same
event_later plan xs ys (End c) same = ap (λ n. ends n) same

event_stays : (plan : Plan) (w : World) (e : Event) (es : List Event) → Family plan.requests w.table.records → why w e ≡ None → named_event plan (fold (step plan) w (e ∷ es)).table.records e ≡ named_event plan w.table.records e
event_stays plan w e es family h =
    let r = event_there w e h in
    let rs = w.table.records in
    let later = events_keep (Later rs) (later_keeps rs) plan w (e ∷ es) (later_as rs) in
    event_later plan rs (fold (step plan) w (e ∷ es)).table.records e (name_later plan rs (fold (step plan) w (e ∷ es)).table.records (call_of e) r.0 family later r.1)

cons_same : {A : Type 0} {x y : A} {xs ys : List A} → x ∷ xs ≡ y ∷ ys → (x ≡ y) × (xs ≡ ys)
cons_same e = (cc, cc)

abbrev NamesAgree : Plan → World → World → List Event → List Event → Type 0
NamesAgree plan a b es fs = map (named_event plan a.table.records) es ≡ map (named_event plan b.table.records) fs

abbrev Rest : Plan → World → Event → World → List Event → List Event → Type 0
Rest plan w f a es fs = Stand plan (step plan w f) fs × NamesAgree plan a (fold (step plan) (step plan w f) fs) es fs

pub same_events : (plan : Plan) (w : World) (es fs : List Event) → DistinctLabels plan → Family plan.requests w.table.records → Stand plan w es → Stand plan w fs → NamesAgree plan (fold (step plan) w es) (fold (step plan) w fs) es fs → es ≡ fs
same_events plan w [] [] apart family h k same = refl
same_events plan w [] (f ∷ fs) apart family h k same = let no : ⊥ = cc in absurd no
same_events plan w (e ∷ es) [] apart family h k same = let no : ⊥ = cc in absurd no
same_events plan w (e ∷ es) (f ∷ fs) apart family h k same =
    let s = cons_same same in
    let a = event_there w e h.0 in
    let b = event_there w f k.0 in
    let one : e ≡ f = one_name plan w.table.records e f (λ n. family_apart plan w.table.records apart family (call_of e) (call_of f) a.0 b.0 a.1 b.1 n) (sym (event_stays plan w e es family h.0) ∙ s.0 ∙ event_stays plan w f fs family k.0) in
    let rest = subst (λ g. Rest plan w g (fold (step plan) w (e ∷ es)) es fs) (sym one) (k.1, s.1) in
    ap₂ (λ x xs. x ∷ xs) one (same_events plan (step plan w e) es fs apart (step_keeps (Family plan.requests) (family_keeps plan.requests) plan w e family) h.1 rest.0 rest.1)

-- ---- The events of a cut go by the same names.

event_cut : (part : Part) (plan other : Plan) (rs rs' : List CallRecord) (e : Event) → call_name plan rs (call_of e) ≡ call_name other rs' (rank part.calls (call_of e)) → named_event plan rs e ≡ named_event other rs' (cut_event part.calls e)
event_cut part plan other rs rs' (Take c h) same = ap (λ n. takes n h) same
event_cut part plan other rs rs' (Ask c) same = ap (λ n. asks n) same
event_cut part plan other rs rs' (End c) same = ap (λ n. ends n) same

events_cut_names : (part : Part) (plan other : Plan) (rs rs' : List CallRecord) (es : List Event) → ((c : ℕ) → part.calls c ≡ true → call_name plan rs c ≡ call_name other rs' (rank part.calls c)) → map (named_event plan rs) (filter (λ e. part.calls (call_of e)) es) ≡ map (named_event other rs') (cut_events part.calls es)
events_cut_names part plan other rs rs' [] same = refl
events_cut_names part plan other rs rs' (e ∷ es) same = by (part.calls (call_of e)) refl (events_cut_names part plan other rs rs' es same)
  where
    by : (b : Bool) → part.calls (call_of e) ≡ b → map (named_event plan rs) (filter (λ e. part.calls (call_of e)) es) ≡ map (named_event other rs') (cut_events part.calls es) → map (named_event plan rs) (cond b (e ∷ filter (λ e. part.calls (call_of e)) es) (filter (λ e. part.calls (call_of e)) es)) ≡ map (named_event other rs') (map (cut_event part.calls) (cond b (e ∷ filter (λ e. part.calls (call_of e)) es) (filter (λ e. part.calls (call_of e)) es)))
    by true i h = ap₂ (λ x xs. x ∷ xs) (event_cut part plan other rs rs' e (same (call_of e) i)) h
    by false i h = h

pub kept_each : {A B C : Type 0} (is : ℕ → Bool) (f g : ℕ → C) (h : A → B) (xs : List A) → ((n : ℕ) → is n ≡ true → f n ≡ g (rank is n)) → kept is (each f xs) ≡ each g (map h (kept is xs))
kept_each is f g h [] same = refl
kept_each {A} {B} {C} is f g h (x ∷ xs) same = by (is 0) refl (λ g' s. kept_each (λ n. is (suc n)) (λ n. f (suc n)) g' h xs s)
  where
    by : (b : Bool) → is 0 ≡ b → ((g' : ℕ → C) → ((n : ℕ) → is (suc n) ≡ true → f (suc n) ≡ g' (rank (λ m. is (suc m)) n)) → kept (λ n. is (suc n)) (each (λ n. f (suc n)) xs) ≡ each g' (map h (kept (λ n. is (suc n)) xs))) → cond b (f 0 ∷ kept (λ n. is (suc n)) (each (λ n. f (suc n)) xs)) (kept (λ n. is (suc n)) (each (λ n. f (suc n)) xs)) ≡ each g (map h (cond b (x ∷ kept (λ n. is (suc n)) xs) (kept (λ n. is (suc n)) xs)))
    by true i go = ap₂ (λ y ys. y ∷ ys) (same 0 i) (go (λ n. g (suc n)) (λ n k. same (suc n) k ∙ ap (λ b. g (cond b (suc (rank (λ m. is (suc m)) n)) (rank (λ m. is (suc m)) n))) i))
    by false i go = go g (λ n k. same (suc n) k ∙ ap (λ b. g (cond b (suc (rank (λ m. is (suc m)) n)) (rank (λ m. is (suc m)) n))) i)

-- ---- Labels of a cut plan.

labels_apart : (part : Part) (plan : Plan) → DistinctLabels plan → DistinctLabels (cut_plan part plan)
labels_apart part plan apart m n x y e f same =
    let rs = filter (λ r. part.functions r.function) plan.requests in
    let a = named_there (cut_request part) rs m x e in
    let b = named_there (cut_request part) rs n y f in
    kept_rs rs (filter_kept (λ r. part.functions r.function) plan.requests) m n a.0 b.0 a.1 b.1 (ap (λ r. r.label) a.2 ∙ same ∙ sym (ap (λ r. r.label) b.2))
  where
    kept_rs : (rs : List Request) → rs ≡ kept (λ n. passes_at (λ r. part.functions r.function) plan.requests n) plan.requests → NamedApart (λ r. r.label) rs
    kept_rs rs e = subst (NamedApart (λ r. r.label)) (sym e) (kept_apart (λ r. r.label) (λ n. passes_at (λ r. part.functions r.function) plan.requests n) plan.requests apart)

-- ---- The theorem.

-- the names of kept calls are those in the cut
pub names_cut : (plan : Plan) (functions keys : Names) (events : List Event) (w : World) → Closed plan functions keys → Worlds plan events w → (c : ℕ) → calls_of plan functions w c ≡ true → call_name plan w.table.records c ≡ call_name (plan_cut plan functions keys) (world_cut plan functions keys w).table.records (rank (calls_of plan functions w) c)
names_cut plan functions keys events w closed made c i =
    sym (name_cut (part_of plan functions keys w) plan w.table.records c (end_ready plan functions keys events w closed made).apart.fit (requests_kept plan functions keys events w made) i)

events_so : (plan : Plan) (functions keys : Names) (events : List Event) (w small : World) → Closed plan functions keys → Worlds plan events w → world_cut plan functions keys w ≡ blank small → events_by_name plan functions w events ≡ map (named_event (plan_cut plan functions keys) small.table.records) (events_cut plan functions w events)
events_so plan functions keys events w small closed made is =
    let part = part_of plan functions keys w in
    let other = plan_cut plan functions keys in
    events_cut_names part plan other w.table.records small.table.records events
    (λ c i. names_cut plan functions keys events w closed made c i ∙ ap (λ v. call_name other v.table.records (rank part.calls c)) is ∙ name_blank other small.table.records (rank part.calls c))

pub same_events_cut : (plan other : Plan) (functions keys : Names) (events more : List Event) (w v : World) → DistinctLabels plan → Closed plan functions keys → Closed other functions keys → Worlds plan events w → Worlds other more v → plan_cut plan functions keys ≡ plan_cut other functions keys → events_by_name plan functions w events ≡ events_by_name other functions v more → events_cut plan functions w events ≡ events_cut other functions v more
same_events_cut plan other functions keys events more w v apart closed closed' made made' p same =
    let a = cut_is_world plan functions keys events w closed made in
    let b = cut_is_world other functions keys more v closed' made' in
    let cut = plan_cut plan functions keys in
    let es = events_cut plan functions w events in
    let fs = events_cut other functions v more in
    let m = subst (λ q. Worlds q fs b.small) (sym p) b.made in
    let names : map (named_event cut a.small.table.records) es ≡ map (named_event cut b.small.table.records) fs =
    sym (events_so plan functions keys events w a.small closed made a.is_cut) ∙ same ∙ events_so other functions keys more v b.small closed' made' b.is_cut ∙ ap (λ q. map (named_event q b.small.table.records) fs) (sym p) in
    same_events cut (first_world cut) es fs (labels_apart (part_of plan functions keys w) plan apart) (first_family cut) a.made.stand m.stand
    (sym (ap (λ u. map (named_event cut u.table.records) es) a.made.world_so) ∙ names ∙ ap (λ u. map (named_event cut u.table.records) fs) m.world_so)

calls_so : (plan : Plan) (functions keys : Names) (events : List Event) (w : World) → Closed plan functions keys → Worlds plan events w → (world_by_name plan functions keys w).calls ≡ each (call_name (plan_cut plan functions keys) (world_cut plan functions keys w).table.records) (world_cut plan functions keys w).table.records
calls_so plan functions keys events w closed made =
    kept_each (calls_of plan functions w) (call_name plan w.table.records) (call_name (plan_cut plan functions keys) (world_cut plan functions keys w).table.records) (cut_record (part_of plan functions keys w)) w.table.records (λ c i. names_cut plan functions keys events w closed made c i)

abbrev by_parts : List CallName → List (List ℕ) → List (List ℕ) → World → WorldByName
by_parts calls functions keys w = record { calls = calls; functions = functions; keys = keys; world = w }

-- Two plans with one cut by names, and two lists of events with one cut by names, make two worlds with one cut by names.
pub one_cut_by_name : (plan other : Plan) (functions keys : Names) (events more : List Event) (w v : World) → DistinctNames plan → DistinctLabels plan → Closed plan functions keys → Closed other functions keys → Worlds plan events w → Worlds other more v → plan_by_name plan functions keys ≡ plan_by_name other functions keys → events_by_name plan functions w events ≡ events_by_name other functions v more → world_by_name plan functions keys w ≡ world_by_name other functions keys v
one_cut_by_name plan other functions keys events more w v distinct apart closed closed' made made' same same_events_too =
    let p = same_plan_cut plan other functions keys closed closed' distinct same in
    let e = same_events_cut plan other functions keys events more w v apart closed closed' made made' p same_events_too in
    let u = one_cut plan other functions keys events more w v closed closed' made made' p e in
    let calls = calls_so plan functions keys events w closed made ∙ ap₂ (λ q x. each (call_name q x.table.records) x.table.records) p u ∙ sym (calls_so other functions keys more v closed' made') in
    let fs = sym (map_map (named_function plan) (λ f. f.name) (filter (λ f. functions f.name) plan.functions)) ∙ ap (λ q. map (λ f. f.name) q.functions) same ∙ map_map (named_function other) (λ f. f.name) (filter (λ f. functions f.name) other.functions) in
    ap₂ (λ cs ks. by_parts cs (map (λ f. f.name) (filter (λ f. functions f.name) plan.functions)) ks (world_cut plan functions keys w)) calls (ap (λ q. map (λ k. k.name) q.keys) same)
    ∙ ap₂ (λ ns x. by_parts (world_by_name other functions keys v).calls ns (world_by_name other functions keys v).keys x) fs u
