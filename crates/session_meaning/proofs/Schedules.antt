-- A seed picks one list of events, each may stand where it comes, and behind the last none is offered.
use Rattle.std.proofs.Common.{◌≡◌, ℕ, zero, suc, List, [], ◌∷◌, length, refl, sym, subst, ap, ◌∙◌, Option, Some, None}
use Rattle.std.specs.Prelude.{slice_get, fold, is_none, true, ◌&&◌}
use Rattle.std.proofs.lemmas.Bool.{and_parts}
use Rattle.session_meaning.specs.declared.event.Why.{Why}
use Rattle.session_meaning.specs.declared.event.Event.{Event}
use Rattle.session_meaning.specs.Plan.{Plan}
use Rattle.session_meaning.specs.World.{World, first_world}
use Rattle.session_meaning.specs.Events.{why, step, Stand, world, Worlds}
use Rattle.session_meaning.specs.Schedule.{offers, all_events, offered, next_of, pick, Picks, stops, picks, Schedule}
use Rattle.session_meaning.proofs.NamedPlans.{filter_there}
use Rattle.session_meaning.proofs.ExampleWorlds.{with_event, pick_by, picked_from, picked}

nothing_at : (es : List Event) (i : ℕ) (e : Event) → es ≡ [] → slice_get es i ≡ Some e → ⊥
nothing_at es i e h k = let no : None ≡ Some e = subst (λ l. slice_get l i ≡ Some e) h k in cc

one_from : {plan : Plan} {w : World} {x : ℕ} {es fs : List Event} → Picks plan w x es → Picks plan w x fs → es ≡ fs
one_from (stops h) (stops k) = refl
one_from {plan} {w} {x} (stops h) (picks {e = e} k rest) = absurd (nothing_at (offered plan w) (pick (next_of x) (length (offered plan w))) e h k)
one_from {plan} {w} {x} (picks {e = e} h rest) (stops k) = absurd (nothing_at (offered plan w) (pick (next_of x) (length (offered plan w))) e k h)
one_from {plan} {w} {x} (picks {e = e} {es = es} h rest) (picks {e = f} {es = fs} k others) =
    let same : e ≡ f = cc in
    let tail = one_from rest (subst (λ g. Picks plan (step plan w g) (next_of x) fs) (sym same) others) in
    ap (λ l. e ∷ l) tail ∙ ap (λ g. g ∷ fs) same

pub one_schedule : (plan : Plan) (seed : ℕ) (es fs : List Event) → Schedule plan seed es → Schedule plan seed fs → es ≡ fs
one_schedule plan seed es fs h k = one_from h k

-- ---- What is picked may stand.

pub may_stand : (plan : Plan) (w : World) (n : ℕ) (e : Event) → slice_get (offered plan w) n ≡ Some e → why w e ≡ None
may_stand plan w n e at = none_of (why w e) (and_parts (is_none (why w e)) (offers plan w e) (filter_there (λ e. is_none (why w e) && offers plan w e) (all_events w) n e at)).0
  where
    none_of : (o : Option Why) → is_none o ≡ true → o ≡ None
    none_of None h = refl
    none_of (Some y) h = let no : ⊥ = cc in absurd no

all_stand : {plan : Plan} {w : World} {x : ℕ} {es : List Event} → Picks plan w x es → Stand plan w es
all_stand (stops h) = tt
all_stand {plan} {w} {x} (picks {e = e} at rest) = (may_stand plan w (pick (next_of x) (length (offered plan w))) e at, all_stand rest)

none_behind : {plan : Plan} {w : World} {x : ℕ} {es : List Event} → Picks plan w x es → offered plan (fold (step plan) w es) ≡ []
none_behind (stops h) = h
none_behind (picks at rest) = none_behind rest

pub schedule_stands : (plan : Plan) (seed : ℕ) (es : List Event) → Schedule plan seed es → Worlds plan es (world plan es)
schedule_stands plan seed es h = record { stand = all_stand h; world_so = refl }

pub schedule_ends : (plan : Plan) (seed : ℕ) (es : List Event) → Schedule plan seed es → offered plan (world plan es) ≡ []
schedule_ends plan seed es h = none_behind h

-- ---- What is computed is a schedule.

with_event_so : (e : Event) (rest : Option (List Event)) (es : List Event) → with_event e rest ≡ Some es → (t : List Event) × (e ∷ t ≡ es) × (rest ≡ Some t)
with_event_so e None es h = let no : ⊥ = cc in absurd no
with_event_so e (Some l) es h = (l, cc, refl)

pick_so : (plan : Plan) (w : World) (x : ℕ) (es : List Event) (l : List Event) (p : Option Event) (go : Event → Option (List Event)) → offered plan w ≡ l → slice_get (offered plan w) (pick (next_of x) (length (offered plan w))) ≡ p → pick_by l p go ≡ Some es
    → ((e : Event) (t : List Event) → go e ≡ Some t → Picks plan (step plan w e) (next_of x) t) → Picks plan w x es
pick_so plan w x es [] p go o s h k = let same : [] ≡ es = cc in subst (λ l. Picks plan w x l) same (stops o)
pick_so plan w x es (f ∷ fs) None go o s h k = let no : ⊥ = cc in absurd no
pick_so plan w x es (f ∷ fs) (Some e) go o s h k =
    let some = with_event_so e (go e) es h in
    subst (λ l. Picks plan w x l) some.1 (picks s (k e some.0 some.2))

picks_so : (plan : Plan) (n : ℕ) (w : World) (x : ℕ) (es : List Event) → picked_from plan n w x ≡ Some es → Picks plan w x es
picks_so plan zero w x es h = let no : ⊥ = cc in absurd no
picks_so plan (suc n) w x es h =
    pick_so plan w x es (offered plan w) (slice_get (offered plan w) (pick (next_of x) (length (offered plan w)))) (λ e. picked_from plan n (step plan w e) (next_of x)) refl refl h (λ e t g. picks_so plan n (step plan w e) (next_of x) t g)

pub picked_so : (plan : Plan) (n seed : ℕ) (es : List Event) → picked plan n seed ≡ Some es → Schedule plan seed es
picked_so plan n seed es h = picks_so plan n (first_world plan) seed es h
