-- What an event leaves of a cut, and why it may not stand there.
use Rattle.std.proofs.Common.{◌≡◌, inl, inr, ℕ, zero, suc, Bool, true, false, cond, List, [], ◌∷◌, Option, Some, None, refl, sym, ap, ap₂, ◌∙◌, map, length, slice_get, ◌<◌, option_map, filter, subst, arith}
use Rattle.std.specs.Prelude.{fold}
use Rattle.faaslet_meaning.specs.declared.call.CallRecord.{CallRecord}
use Rattle.faaslet_meaning.specs.Lists.{passes_at}
use Rattle.session_meaning.specs.declared.event.Event.{Event}
use Rattle.session_meaning.specs.declared.event.Event.TheVariants.{Take, Ask, End}
use Rattle.session_meaning.specs.declared.event.Why.{Why}
use Rattle.session_meaning.specs.declared.event.Why.TheVariants.{NoCall}
use Rattle.session_meaning.specs.Plan.{Plan, Names, is_function_of, Closed}
use Rattle.session_meaning.specs.OpenCall.{Open}
use Rattle.session_meaning.specs.World.{World, first_world}
use Rattle.session_meaning.specs.Events.{open_at, why, why_take, why_ask, why_end, why_open, took, asked_by, finished_by, step, Stand, world, Worlds}
use Rattle.session_meaning.specs.Cut.{Part, rank, cut, blank, cut_plan, call_of, cut_event, cut_events, cut_why, calls_of, part_of, CutStep, world_cut as cut_by}
use Rattle.std.proofs.lemmas.Option.{slice_get_cases}
use Rattle.session_meaning.proofs.OneStep.{step_kept, HasRecord}
use Rattle.session_meaning.proofs.OtherSteps.{step_left}
use Rattle.session_meaning.proofs.Enabled.{why_cut}
use Rattle.session_meaning.proofs.Invariants.{AsksGranted, ClosedIn, Grows, grows_on}
use Rattle.session_meaning.proofs.TwoWorlds.{agrees_part, closed_by_names, first_inv, get_index, step_inv, two_worlds}
use Rattle.session_meaning.proofs.WorldInvariants.{Agrees, Inv, agrees_before, agrees_first, all_fit, own, ready, step_grows}

pub inv_end : (part : Part) (plan : Plan) (w : World) (es : List Event) → AsksGranted → ClosedIn plan part.functions part.keys → Agrees part (fold (step plan) w es).table.records → Inv part plan w → Inv part plan (fold (step plan) w es)
inv_end part plan w [] law closed agrees inv = inv
inv_end part plan w (e ∷ es) law closed agrees inv =
    let here = agrees_first part plan w (e ∷ es) agrees in
    inv_end part plan (step plan w e) es law closed agrees (step_inv part plan w e (ready part plan w law closed here inv) here inv)

-- parts of one plan that agree on the numbers below n give them the same new numbers
rank_same : (is is' : ℕ → Bool) (n : ℕ) → ((m : ℕ) → m < n → is m ≡ is' m) → rank is n ≡ rank is' n
rank_same is is' zero h = refl
rank_same is is' (suc n) h =
    ap₂ (λ b k. cond b (suc k) k) (h 0 (omega arith)) (rank_same (λ m. is (suc m)) (λ m. is' (suc m)) n (λ m l. h (suc m) (omega (arith, l))))

event_same : (is is' : ℕ → Bool) (e : Event) → rank is (call_of e) ≡ rank is' (call_of e) → cut_event is e ≡ cut_event is' e
event_same is is' (Take call host) h = ap (λ n. Take n host) h
event_same is is' (Ask call) h = ap Ask h
event_same is is' (End call) h = ap End h

-- the call of an event that may stand is there
recorded_there : (reason : CallRecord → Option Why) (o : Option CallRecord) → elim o as (λ o. Option Why) [ None ↦ Some NoCall | Some r ↦ reason r ] ≡ None → (r : CallRecord) × (o ≡ Some r)
recorded_there reason None k = let no : ⊥ = cc in absurd no
recorded_there reason (Some r) k = (r, refl)

pub stands_there : (w : World) (e : Event) → why w e ≡ None → (r : CallRecord) × (slice_get w.table.records (call_of e) ≡ Some r)
stands_there w (Take call host) h = recorded_there (λ r. why_take w r host) (slice_get w.table.records call) h
stands_there w (Ask call) h = recorded_there (λ r. why_open w call (why_ask w call)) (slice_get w.table.records call) h
stands_there w (End call) h = recorded_there (λ r. why_open w call why_end) (slice_get w.table.records call) h

fold_grows : (plan : Plan) (w : World) (es : List Event) → Grows w.table.records (fold (step plan) w es).table.records
fold_grows plan w [] n r e = (r, e, refl)
fold_grows plan w (x ∷ es) n r e = grows_on w.table.records (step plan w x).table.records (fold (step plan) w (x ∷ es)).table.records (step_grows plan w x) (fold_grows plan (step plan w x) es) n r e

abbrev SameCalls : (ℕ → Bool) → (ℕ → Bool) → List CallRecord → Type 0
SameCalls is is' rs = (n : ℕ) → n < length rs → is n ≡ is' n

pub below_there : {A : Type 0} (xs : List A) (n : ℕ) → n < length xs → (x : A) × (slice_get xs n ≡ Some x)
below_there [] n l = let no : ⊥ = omega (arith, l) in absurd no
below_there (x ∷ xs) zero l = (x, refl)
below_there (x ∷ xs) (suc n) l = below_there xs n (omega (arith, l))

same_calls : (part part' : Part) (rs : List CallRecord) → ((f : ℕ) → part.functions f ≡ part'.functions f) → Agrees part rs → Agrees part' rs → SameCalls part.calls part'.calls rs
same_calls part part' rs same a a' n l = let r = below_there rs n l in sym (a n r.0 r.1) ∙ same r.0.function ∙ a' n r.0 r.1

rank_there : (is is' : ℕ → Bool) (rs : List CallRecord) (n : ℕ) (r : CallRecord) → SameCalls is is' rs → slice_get rs n ≡ Some r → rank is n ≡ rank is' n
rank_there is is' rs n r same e = let h = (get_index rs n r e).1 in rank_same is is' n (λ m l. same m (omega (arith, h, l)))

events_same : (is is' : ℕ → Bool) (plan : Plan) (w : World) (es : List Event) → SameCalls is is' (fold (step plan) w es).table.records → Stand plan w es → cut_events is es ≡ cut_events is' es
events_same is is' plan w [] same stand = refl
events_same is is' plan w (e ∷ es) same stand =
    let r = stands_there w e stand.0 in
    let g = fold_grows plan w (e ∷ es) (call_of e) r.0 r.1 in
    let end = (fold (step plan) w (e ∷ es)).table.records in
    let test = same (call_of e) (get_index end (call_of e) g.0 g.1).1 in
    let one = event_same is is' e (rank_there is is' end (call_of e) g.0 same g.1) in
    let rest = events_same is is' plan (step plan w e) es same stand.1 in
    by (is (call_of e)) (is' (call_of e)) test one rest
  where
    fs : List Event
    fs = filter (λ e. is (call_of e)) es

    fs' : List Event
    fs' = filter (λ e. is' (call_of e)) es

    by : (b b' : Bool) → b ≡ b' → cut_event is e ≡ cut_event is' e → map (cut_event is) fs ≡ map (cut_event is') fs' → map (cut_event is) (cond b (e ∷ fs) fs) ≡ map (cut_event is') (cond b' (e ∷ fs') fs')
    by true true h one rest = ap₂ (λ x xs. x ∷ xs) one rest
    by false false h one rest = rest
    by true false h one rest = let no : ⊥ = cc in absurd no
    by false true h one rest = let no : ⊥ = cc in absurd no

-- The cut of a world is the same by two parts that agree on its calls.
one_cut_of : (part part' : Part) (plan : Plan) (es : List Event) → AsksGranted → ClosedIn plan part.functions part.keys → ClosedIn plan part'.functions part'.keys → ((f : ℕ) → part.functions f ≡ part'.functions f) → cut_plan part plan ≡ cut_plan part' plan → Agrees part (world plan es).table.records → Agrees part' (world plan es).table.records → Stand plan (first_world plan) es → cut part (world plan es) ≡ cut part' (world plan es)
one_cut_of part part' plan es law closed closed' same p a a' stand =
    two_worlds part part' plan plan es es law closed closed' a a' p (events_same part.calls part'.calls plan (first_world plan) es (same_calls part part' (world plan es).table.records same a a') stand)

-- an event on a call that is not there leaves the world as it is
none_there : (plan : Plan) (w : World) (e : Event) → HasRecord w (call_of e) → slice_get w.table.records (call_of e) ≡ None → step plan w e ≡ w
none_there plan w (Take call host) own h = ap (λ o. elim o as (λ o. World) [ None ↦ w | Some r ↦ took plan w call host r ]) h
none_there plan w (Ask call) own h = by (open_at w call) refl
  where
    by : (o : Option Open) → open_at w call ≡ o → elim o as (λ o. World) [ None ↦ w | Some o ↦ asked_by w call o ] ≡ w
    by None e = refl
    by (Some o) e = let r = own o e in let k = r.1 in let no : ⊥ = cc in absurd no
none_there plan w (End call) own h = by (open_at w call) refl
  where
    by : (o : Option Open) → open_at w call ≡ o → elim o as (λ o. World) [ None ↦ w | Some o ↦ finished_by w call o ] ≡ w
    by None e = refl
    by (Some o) e = let r = own o e in let k = r.1 in let no : ⊥ = cc in absurd no

pub passes_on : (plan : Plan) (functions : Names) (rs : List CallRecord) (call : ℕ) → passes_at (λ r. is_function_of plan functions r.function) rs call ≡ true → (r : CallRecord) × (slice_get rs call ≡ Some r)
passes_on plan functions rs call h = by (slice_get rs call) refl h
  where
    by : (o : Option CallRecord) → slice_get rs call ≡ o → elim o as (λ o. Bool) [ None ↦ false | Some r ↦ is_function_of plan functions r.function ] ≡ true → (r : CallRecord) × (slice_get rs call ≡ Some r)
    by None e k = let no : ⊥ = cc in absurd no
    by (Some r) e k = (r, e)

pub event_by_names : (plan : Plan) (functions keys : Names) (es : List Event) (w : World) (e : Event) → AsksGranted → Closed plan functions keys → Worlds plan es w → CutStep plan functions keys w e
event_by_names plan functions keys es w e law closed made =
    let part = part_of plan functions keys (step plan w e) in
    let old = part_of plan functions keys w in
    let c = closed_by_names plan functions keys closed in
    let after = agrees_part plan functions keys (step plan w e) in
    let here : Agrees part w.table.records = agrees_before part w.table.records (step plan w e).table.records (step_grows plan w e) after in
    let mine : Agrees old w.table.records = agrees_part plan functions keys w in
    let inv = subst (λ v. Inv part plan v) (sym made.world_so) (inv_end part plan (first_world plan) es law c (subst (λ v. Agrees part v.table.records) made.world_so here) (first_inv part plan)) in
    let rd = ready part plan w law c here inv in
    let next = all_fit part (step plan w e).table.records after (step_inv part plan w e rd here inv).kin in
    let one : cut part w ≡ cut old w =
    subst (λ v. cut part v ≡ cut old v) (sym made.world_so) (one_cut_of part old plan es law c c (λ f. refl) refl (subst (λ v. Agrees part v.table.records) made.world_so here) (subst (λ v. Agrees old v.table.records) made.world_so mine) made.stand) in
    let calls = same_calls part old w.table.records (λ f. refl) here mine in
    let n = call_of e in
    record {
      kept = λ i.
          let r = passes_on plan functions w.table.records n i in
          let j : part.calls n ≡ true = sym (here n r.0 r.1) ∙ mine n r.0 r.1 ∙ i in
          step_kept part plan w e j rd.apart (rd.recorded n) next
          ∙ ap₂ (λ v f. blank (step (cut_plan part plan) v f)) one (event_same part.calls old.calls e (rank_there part.calls old.calls w.table.records n r.0 calls r.1));
      left = λ i. elim (slice_get_cases w.table.records n).1 [
        | inl there ↦ step_left part plan w e (sym (here n there.0 there.2) ∙ mine n there.0 there.2 ∙ i) rd.apart next ∙ one
        | inr none ↦ ap (cut_by plan functions keys) (none_there plan w e (rd.recorded n) none.1)
      ];
    }

-- Why an event on a kept call may not stand is the same of the world and of its cut.
pub reason_by_names : (plan : Plan) (functions keys : Names) (es : List Event) (w : World) (e : Event) → AsksGranted → Closed plan functions keys → Worlds plan es w → calls_of plan functions w (call_of e) ≡ true → why (cut_by plan functions keys w) (cut_event (calls_of plan functions w) e) ≡ option_map (cut_why (calls_of plan functions w)) (why w e)
reason_by_names plan functions keys es w e law closed made i =
    let part = part_of plan functions keys w in
    let c = closed_by_names plan functions keys closed in
    let here = agrees_part plan functions keys w in
    let inv = subst (λ v. Inv part plan v) (sym made.world_so) (inv_end part plan (first_world plan) es law c (subst (λ v. Agrees part v.table.records) made.world_so here) (first_inv part plan)) in
    why_cut part w e i (ready part plan w law c here inv).apart
