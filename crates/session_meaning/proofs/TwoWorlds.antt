-- Two worlds: what the others do leaves no trace in the cut.
use Rattle.std.proofs.Common.{◌≡◌, ◌⊎◌, inl, inr, ℕ, zero, suc, Bool, true, false, cond, not, List, [], ◌∷◌, ◌++◌, Option, Some, None, refl, sym, ap, ap₂, ◌∙◌, map, length, slice_get, slice_index_or, ◌<◌, option_map, filter, replicate, subst, arith}
use Rattle.std.specs.Prelude.{◌&&◌, fold}
use Rattle.std.specs.List.{list_all}
use Rattle.std.proofs.lemmas.Bool.{and_parts}
use Rattle.std.proofs.lemmas.List.{length-append}
use Rattle.faaslet_meaning.specs.declared.call.CallRecord.{CallRecord}
use Rattle.session_meaning.specs.declared.event.Event.{Event}
use Rattle.session_meaning.specs.declared.event.Event.TheVariants.{Take, Ask, End}
use Rattle.faaslet_meaning.specs.declared.grant.Channel.TheVariants.{Local, Global, Table as OnTable}
use Rattle.faaslet_meaning.specs.Channels.{Operation, Reply, Question, ask, fills, pulls, pushes, Entry}
use Rattle.faaslet_meaning.specs.CallState.{State, runs, fresh_state}
use Rattle.faaslet_meaning.specs.Call.{replied}
use Rattle.faaslet_meaning.specs.Configuration.{Configuration}
use Rattle.faaslet_meaning.specs.Fresh.{Function, Made, makes, breaks, nothing, fresh}
use Rattle.faaslet_meaning.specs.Runs.{invocation}
use Rattle.faaslet_meaning.specs.Bounds.{steps_left}
use Rattle.faaslet_meaning.specs.Region.{replica, global_value}
use Rattle.faaslet_meaning.specs.Table as table
use Rattle.faaslet_meaning.specs.Table.{queued_record}
use Rattle.session_meaning.specs.Plan.{Plan, NamedFunction, Request, Names, is_function_of, is_key_of, Closed, ClosedAt}
use Rattle.session_meaning.specs.OpenCall.{Open, stands, asking, machine_by, quiet, opened, answered, Ended, ended}
use Rattle.session_meaning.specs.World.{World, unused, on_table, entered, requested, start, first_world}
use Rattle.session_meaning.specs.Events.{answer, entries_now, open_at, open_of, why, step, Stand, world, Worlds}
use Rattle.session_meaning.specs.Cut.{Part, kept, cut, blank, cut_plan, call_of, cut_event, cut_events, cut_why, part_of, CutWorld, plan_cut, events_cut, world_cut as cut_by}
use Rattle.session_meaning.proofs.Tables.{AllFit, get_end}
use Rattle.session_meaning.proofs.WorldParts.{held_on, held_among}
use Rattle.session_meaning.proofs.OneStep.{taken_by, finished_at, finished_of, asked_at, asked_of}
use Rattle.session_meaning.proofs.KeptAsks.{AsksOwn, keeps_question, leaves_question, leaves_operation}
use Rattle.session_meaning.proofs.OtherSteps.{step_left}
use Rattle.session_meaning.proofs.Whole.{all, everything, whole, event_all}
use Rattle.session_meaning.proofs.FoldedCut.{Ready, Plain, Along, Both, along_first, one_more, first_depth, Begun, requested_begun, filter_whole, kept_map, first_cut, world_cut}
use Rattle.session_meaning.proofs.Enabled.{why_cut}
use Rattle.session_meaning.proofs.Invariants.{begun, replying, AsksGranted, ClosedIn, steps_come, KinAt, Like, kin_push, push_front, take_goes, finish_goes}
use Rattle.session_meaning.proofs.WorldInvariants.{Agrees, Inv, KeyOk, MachineOk, OpenOk, QuestionOk, agrees_before, agrees_first, asked_so, entries_grow, open_grows, put_inv, question_inv, ready, some_open, step_grows, table_inv}

-- ---- One event keeps all this.

machine_ok : (f : Function) (input : List ℕ) (m : Made Configuration) → fresh f ≡ m → MachineOk f input (machine_by (invocation f input) m)
machine_ok f input (makes c) e = inl (c, e, steps_come (invocation f input) c (steps_left (runs (fresh_state c))) (runs (fresh_state c)) begun)
machine_ok f input (breaks k) e = tt
machine_ok f input nothing e = inr refl

open_of_ok : (plan : Plan) (rs : List CallRecord) (call host : ℕ) (r r' : CallRecord) → slice_get rs call ≡ Some r' → r'.function ≡ r.function → (o : Open) → open_of plan r host ≡ Some o → OpenOk plan rs call o
open_of_ok plan rs call host r r' e same o h = by (slice_get plan.functions r.function) refl h
  where
    by : (x : Option NamedFunction) → slice_get plan.functions r.function ≡ x → option_map (λ f. opened f.function r.input host) x ≡ Some o → OpenOk plan rs call o
    by None g k = let no : ⊥ = cc in absurd no
    by (Some f) g k = subst (λ y. OpenOk plan rs call y) (some_open k) (record { record_of = r'; record_is = e; function = f; function_is = ap (slice_get plan.functions) same ∙ g; input = r.input; runs_so = refl; machine = machine_ok f.function r.input (fresh f.function) refl })

answered_ok : (plan : Plan) (rs : List CallRecord) (call : ℕ) (o : Open) (s : State) (q : Question) (r : Reply) (es : List Entry) → OpenOk plan rs call o → asking o.machine ≡ Some (s, q) → OpenOk plan rs call (answered o s r es)
answered_ok plan rs call o s q r es k e =
    let h = asked_so k.function.function k.input o.machine s q k.machine e in
    let j = invocation k.function.function k.input in
    record {
      record_of = k.record_of;
      record_is = k.record_is;
      function = k.function;
      function_is = k.function_is;
      input = k.input;
      runs_so = k.runs_so;
      machine = subst (λ i. MachineOk k.function.function k.input (stands (quiet i (replied i s r)))) (sym k.runs_so) (inl (h.0, h.1, steps_come j h.0 (steps_left (replied j s r)) (replied j s r) (replying r h.2)));
    }

key_ok : (part : Part) (call key : ℕ) (b : Bool) → part.calls call ≡ b → ((b ≡ true) ⊎ (part.keys key ≡ false)) → KeyOk part call key
key_ok part call key b i (inl e) = inl (i ∙ e)
key_ok part call key b i (inr e) = inr e

not_true : (b : Bool) → not b ≡ true → b ≡ false
not_true true h = let no : ⊥ = cc in absurd no
not_true false h = refl

question_ok : (part : Part) (w : World) (call : ℕ) (q : Question) (b : Bool) → part.calls call ≡ b → Agrees part w.table.records → AsksOwn part b q → QuestionOk part w call q
question_ok part w call q true i agrees h = by q h
  where
    by : (q : Question) → keeps_question part q ≡ true → QuestionOk part w call q
    by (ask (Local key) op) h = inl i
    by (ask (Global key) op) h = inl i
    by (ask OnTable (Operation.submit f input)) h = λ p e. agrees call p e ∙ i ∙ sym h
    by (ask OnTable op) h = tt
    by (fills key n) h = inl i
    by (pulls key off len) h = inl i
    by (pushes key off len) h = inl i
question_ok part w call q false i agrees h = by q h
  where
    by : (q : Question) → leaves_question part q ≡ true → QuestionOk part w call q
    by (ask (Local key) op) h = inr (not_true (part.keys key) (and_parts (not (part.keys key)) (leaves_operation part op) h).0)
    by (ask (Global key) op) h = inr (not_true (part.keys key) (and_parts (not (part.keys key)) (leaves_operation part op) h).0)
    by (ask OnTable (Operation.submit f input)) h = λ p e. agrees call p e ∙ i ∙ sym (not_true (part.functions f) (and_parts true (not (part.functions f)) h).1)
    by (ask OnTable op) h = tt
    by (fills key n) h = inr (not_true (part.keys key) h)
    by (pulls key off len) h = inr (not_true (part.keys key) h)
    by (pushes key off len) h = inr (not_true (part.keys key) h)

pub step_inv : (part : Part) (plan : Plan) (w : World) (e : Event) → Ready part w → Agrees part w.table.records → Inv part plan w → Inv part plan (step plan w e)
step_inv part plan w (Take call host) rd agrees inv = by (slice_get w.table.records call) refl
  where
    by : (o : Option CallRecord) → slice_get w.table.records call ≡ o → Inv part plan (taken_by plan w call host o)
    by None e = inv
    by (Some r) e =
        let op = table.take_this call host call in
        let goes = take_goes part.functions w.table call call host call in
        let at = goes.grows call r e in
        put_inv part plan (on_table w call op) call (open_of plan r host) (λ o h. open_of_ok plan (table.after w.table call op).records call host r at.0 at.1 at.2 o h) (table_inv part plan w call op goes refl inv)
step_inv part plan w (End call) rd agrees inv = by (open_at w call)
  where
    at : (o : Open) (e : Option Ended) → Inv part plan (finished_of w call o e)
    at o None = inv
    at o (Some e) =
        let op = table.finish call e.outcome e.used e.output o.counts in
        put_inv part plan (on_table w call op) call None (λ x h. let no : ⊥ = cc in absurd no) (table_inv part plan w call op (finish_goes part.functions w.table call call e.outcome e.used e.output o.counts) refl inv)

    by : (o : Option Open) → Inv part plan (finished_at w call o)
    by None = inv
    by (Some o) = at o (ended o)
step_inv part plan w (Ask call) rd agrees inv = by (open_at w call) refl
  where
    at : (o : Open) → open_at w call ≡ Some o → (a : Option (State × Question)) → asking o.machine ≡ a → Inv part plan (asked_of w call o a)
    at o k None e = inv
    at o k (Some a) e =
        let es = entries_now w call o.host a.1 in
        let r = answer w call o.host a.1 in
        let v = fold (entered call o.host) w es in
        put_inv part plan v call (Some (answered o a.0 r es))
        (λ x h. subst (λ y. OpenOk plan v.table.records call y) (some_open h) (open_grows plan w.table.records v.table.records call (answered o a.0 r es) (entries_grow w call o.host es) (answered_ok plan w.table.records call o a.0 a.1 r es (inv.opens call o k) e)))
        (question_inv part plan w call o.host a.1 r (question_ok part w call a.1 (part.calls call) refl agrees ((rd.apart.own call o k).asks a.0 a.1 e)) inv)

    by : (o : Option Open) → open_at w call ≡ o → Inv part plan (asked_at w call o)
    by None e = inv
    by (Some o) e = at o e (asking o.machine) refl

abbrev ReadyPlain : Part → World → Type 0
ReadyPlain part v = Ready part v × Plain v

pub ready_along : (part : Part) (plan : Plan) (w : World) (es : List Event) → AsksGranted → ClosedIn plan part.functions part.keys → Agrees part (fold (step plan) w es).table.records → Inv part plan w → Along (ReadyPlain part) plan w es
ready_along part plan w [] law closed agrees inv = (ready part plan w law closed agrees inv, inv.plain)
ready_along part plan w (e ∷ es) law closed agrees inv =
    let later = agrees_first part plan (step plan w e) es agrees in
    let here = agrees_before part w.table.records (step plan w e).table.records (step_grows plan w e) later in
    let rd = ready part plan w law closed here inv in
    ((rd, inv.plain), ready_along part plan (step plan w e) es law closed agrees (step_inv part plan w e rd here inv))

along_left : (part : Part) (plan : Plan) (w : World) (es : List Event) → Along (ReadyPlain part) plan w es → Along (Ready part) plan w es
along_left part plan w [] h = h.0
along_left part plan w (e ∷ es) h = (h.0.0, along_left part plan (step plan w e) es h.1)

-- ---- The first world.

no_open : (part : Part) (plan : Plan) (w : World) (r : Request) → Begun w → Inv part plan w → Inv part plan (requested w r)
no_open part plan w r b inv =
    let t = w.table in
    let x = queued_record t r.function r.host r.input in
    let number : x.request ≡ length t.records = ap length (filter_whole first_depth t.records b.firsts) in
    let more = length-append t.records (x ∷ []) in
    let kin_at : KinAt part.functions (t.records ++ x ∷ []) x =
    record { parent = λ p h. let no : ⊥ = cc in absurd no; request = subst (λ q. Like part.functions (t.records ++ x ∷ []) q r.function) (sym number) (x, get_end t.records x (length t.records) refl, refl) } in
    table_inv part plan w (length t.records) (table.submit_request r.function r.host r.input) (record { grows = push_front t.records x; longer = omega (arith, more); kin = λ k. kin_push part.functions t.records x k kin_at }) refl inv

requests_inv : (part : Part) (plan : Plan) (w : World) (rs : List Request) → Begun w → Inv part plan w → Inv part plan (fold requested w rs)
requests_inv part plan w [] b inv = inv
requests_inv part plan w (r ∷ rs) b inv = requests_inv part plan (requested w r) rs (requested_begun w r b) (no_open part plan w r b inv)

all_of : {A B : Type 0} (f : A → B) (test : B → Bool) (xs : List A) → ((x : A) → test (f x) ≡ true) → list_all test (map f xs) ≡ true
all_of f test [] h = refl
all_of f test (x ∷ xs) h = ap₂ (λ b c. b && c) (h x) (all_of f test xs h)

all_times : {A : Type 0} (test : A → Bool) (n : ℕ) (x : A) → test x ≡ true → list_all test (replicate n x) ≡ true
all_times test zero x h = refl
all_times test (suc n) x h = ap₂ (λ b c. b && c) h (all_times test n x h)

start_inv : (part : Part) (plan : Plan) → Inv part plan (start plan)
start_inv part plan =
    record {
      kin = λ n r e. let no : ⊥ = cc in absurd no;
      sizes = refl;
      plain = refl;
      opens = λ c o e. let no : ⊥ = cc in absurd no;
      held = record {
        locals = all_times (held_among part) plan.hosts (map (λ k. unused (replica k.size)) plan.keys) (ap (list_all (held_on part)) (kept_map part.keys (λ k. unused (replica k.size)) plan.keys) ∙ all_of (λ k. unused (replica k.size)) (held_on part) (kept part.keys plan.keys) (λ k. refl));
        globals = ap (list_all (held_on part)) (kept_map part.keys (λ k. unused (global_value k.size k.init)) plan.keys) ∙ all_of (λ k. unused (global_value k.size k.init)) (held_on part) (kept part.keys plan.keys) (λ k. refl);
      };
    }

pub first_inv : (part : Part) (plan : Plan) → Inv part plan (first_world plan)
first_inv part plan = requests_inv part plan (start plan) plan.requests (record { firsts = refl; plain = refl; sizes = refl }) (start_inv part plan)

-- ---- The theorem.

pub ready_world : (part : Part) (plan : Plan) (es : List Event) → AsksGranted → ClosedIn plan part.functions part.keys → Agrees part (world plan es).table.records → Along (ReadyPlain part) plan (first_world plan) es
ready_world part plan es law closed agrees = ready_along part plan (first_world plan) es law closed agrees (first_inv part plan)

pub everything_ready : (plan : Plan) (es : List Event) → AsksGranted → Along Both plan (first_world plan) es
everything_ready plan es law = ready_world everything plan es law (λ n f e. record { grants = λ k g h. refl; callees = λ k g h. refl }) (λ n r e. refl)

-- The cut of a world is the world of the cut plan under the cut events, but for what is blank.
pub cut_of_world : (part : Part) (plan : Plan) (es : List Event) → AsksGranted → ClosedIn plan part.functions part.keys → Agrees part (world plan es).table.records → cut part (world plan es) ≡ blank (world (cut_plan part plan) (cut_events part.calls es))
cut_of_world part plan es law closed agrees =
    world_cut part plan es (along_left part plan (first_world plan) es (ready_world part plan es law closed agrees)) (everything_ready (cut_plan part plan) (cut_events part.calls es) law)

-- Two plans with one cut, and two lists of events with one cut, make two worlds with one cut.
pub two_worlds : (part part' : Part) (plan plan' : Plan) (es es' : List Event) → AsksGranted → ClosedIn plan part.functions part.keys → ClosedIn plan' part'.functions part'.keys → Agrees part (world plan es).table.records → Agrees part' (world plan' es').table.records → cut_plan part plan ≡ cut_plan part' plan' → cut_events part.calls es ≡ cut_events part'.calls es' → cut part (world plan es) ≡ cut part' (world plan' es')
two_worlds part part' plan plan' es es' law closed closed' agrees agrees' p e =
    cut_of_world part plan es law closed agrees
    ∙ ap₂ (λ q fs. blank (world q fs)) p e
    ∙ sym (cut_of_world part' plan' es' law closed' agrees')

-- ---- Events may stand in the cut world where they stand.

none_from : {A : Type 0} (f : A → A) (o : Option A) → option_map f o ≡ None → o ≡ None
none_from f None h = refl
none_from f (Some x) h = let no : ⊥ = cc in absurd no

-- whether an event may stand is the same of a world and of its cut
pub stands_in_cut : (part : Part) (w v : World) (e : Event) → part.calls (call_of e) ≡ true → Ready part w → Ready everything v → Plain v → cut part w ≡ blank v → why w e ≡ None → why v (cut_event part.calls e) ≡ None
stands_in_cut part w v e i rd rv plain same h =
    let e' = cut_event part.calls e in
    let small : why (cut part w) e' ≡ None = why_cut part w e i rd.apart ∙ ap (option_map (cut_why part.calls)) h in
    let whole_so : cut everything v ≡ cut part w = whole v plain ∙ sym same in
    none_from (cut_why all) (why v e') (sym (why_cut everything v e' refl rv.apart) ∙ ap₂ why whole_so (event_all e') ∙ small)

stand_cut : (part : Part) (plan : Plan) (w v : World) (es : List Event) → Along (ReadyPlain part) plan w es → Along Both (cut_plan part plan) v (cut_events part.calls es) → cut part w ≡ blank v → Stand plan w es → Stand (cut_plan part plan) v (cut_events part.calls es)
stand_cut part plan w v [] rd rv same h = tt
stand_cut part plan w v (e ∷ es) rd rv same h = by (part.calls (call_of e)) refl rv (λ x b s. stand_cut part plan (step plan w e) x es rd.1 b s h.1)
  where
    fit_next : AllFit part (step plan w e).table.records
    fit_next = (along_first (ReadyPlain part) plan (step plan w e) es rd.1).0.apart.fit

    by : (b : Bool) → part.calls (call_of e) ≡ b → Along Both (cut_plan part plan) v (map (cut_event part.calls) (cond b (e ∷ filter (λ e. part.calls (call_of e)) es) (filter (λ e. part.calls (call_of e)) es))) → ((x : World) → Along Both (cut_plan part plan) x (cut_events part.calls es) → cut part (step plan w e) ≡ blank x → Stand (cut_plan part plan) x (cut_events part.calls es)) → Stand (cut_plan part plan) v (map (cut_event part.calls) (cond b (e ∷ filter (λ e. part.calls (call_of e)) es) (filter (λ e. part.calls (call_of e)) es)))
    by true i b go =
        (stands_in_cut part w v e i rd.0.0 b.0.0 b.0.1 same h.0, go (step (cut_plan part plan) v (cut_event part.calls e)) b.1 (one_more part plan (cut_plan part plan) w v e es refl i rd.0.0 fit_next b.0 (along_first Both (cut_plan part plan) (step (cut_plan part plan) v (cut_event part.calls e)) (cut_events part.calls es) b.1).1 same))
    by false i b go = go v b (step_left part plan w e i rd.0.0.apart fit_next ∙ same)

pub cut_stands : (part : Part) (plan : Plan) (es : List Event) → AsksGranted → ClosedIn plan part.functions part.keys → Agrees part (world plan es).table.records → Stand plan (first_world plan) es → Stand (cut_plan part plan) (first_world (cut_plan part plan)) (cut_events part.calls es)
cut_stands part plan es law closed agrees h =
    let rd = ready_world part plan es law closed agrees in
    stand_cut part plan (first_world plan) (first_world (cut_plan part plan)) es rd (everything_ready (cut_plan part plan) (cut_events part.calls es) law)
    (first_cut part plan (along_first (ReadyPlain part) plan (first_world plan) es rd).0.apart.fit) h

-- ---- By names.

pub agrees_part : (plan : Plan) (functions keys : Names) (w : World) → Agrees (part_of plan functions keys w) w.table.records
agrees_part plan functions keys w n r e = sym (ap (λ o. elim o as (λ o. Bool) [ None ↦ false | Some r ↦ is_function_of plan functions r.function ]) e)

pub get_index : {A : Type 0} (xs : List A) (n : ℕ) (x : A) → slice_get xs n ≡ Some x → (slice_index_or xs n x ≡ x) × (n < length xs)
get_index [] n x e = let no : ⊥ = cc in absurd no
get_index (y ∷ xs) zero x e = (some_open e, omega arith)
get_index (y ∷ xs) (suc n) x e = let h = get_index xs n x e in let l = h.1 in (h.0, omega (arith, l))

pub closed_by_names : (plan : Plan) (functions keys : Names) → Closed plan functions keys → ClosedIn plan (is_function_of plan functions) (is_key_of plan keys)
closed_by_names plan functions keys closed n f e =
    let h = get_index plan.functions n f e in
    let c = subst (λ g. ClosedAt plan functions keys g) h.0 (closed n f h.1) in
    let here : is_function_of plan functions n ≡ functions f.name = ap (λ o. elim o as (λ o. Bool) [ None ↦ false | Some g ↦ functions g.name ]) e in
    record {
      grants = λ k g k_is. let i = get_index f.function.grants k g k_is in subst (λ g. is_key_of plan keys g.key ≡ is_function_of plan functions n) i.0 (c.grants k g i.1 ∙ sym here);
      callees = λ k g k_is. let i = get_index f.function.callees k g k_is in subst (λ g. is_function_of plan functions g ≡ is_function_of plan functions n) i.0 (c.callees k g i.1 ∙ sym here);
    }

-- The theorem for sets of names.
pub cut_by_names : (plan : Plan) (functions keys : Names) (es : List Event) (w : World) → AsksGranted → Closed plan functions keys → Worlds plan es w → CutWorld plan functions keys es w
cut_by_names plan functions keys es w law closed made =
    let part = part_of plan functions keys w in
    let c = closed_by_names plan functions keys closed in
    let a = subst (λ v. Agrees part v.table.records) made.world_so (agrees_part plan functions keys w) in
    record {
      small = world (cut_plan part plan) (cut_events part.calls es);
      made = record { stand = cut_stands part plan es law c a made.stand; world_so = refl };
      is_cut = ap (cut part) made.world_so ∙ cut_of_world part plan es law c a;
    }

pub two_worlds_by_names : (plan other : Plan) (functions keys : Names) (es fs : List Event) (w v : World) → AsksGranted → Closed plan functions keys → Closed other functions keys → Worlds plan es w → Worlds other fs v → plan_cut plan functions keys ≡ plan_cut other functions keys → events_cut plan functions w es ≡ events_cut other functions v fs → cut_by plan functions keys w ≡ cut_by other functions keys v
two_worlds_by_names plan other functions keys es fs w v law closed closed' made made' p e =
    let a = subst (λ u. Agrees (part_of plan functions keys w) u.table.records) made.world_so (agrees_part plan functions keys w) in
    let b = subst (λ u. Agrees (part_of other functions keys v) u.table.records) made'.world_so (agrees_part other functions keys v) in
    ap (cut (part_of plan functions keys w)) made.world_so
    ∙ two_worlds (part_of plan functions keys w) (part_of other functions keys v) plan other es fs law (closed_by_names plan functions keys closed) (closed_by_names other functions keys closed') a b p e
    ∙ sym (ap (cut (part_of other functions keys v)) made'.world_so)
