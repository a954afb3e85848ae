-- A trace goes on by one event, and ends where none is offered.
use Rattle.std.proofs.Common.{◌≡◌, ℕ, Bool, not, List, [], ◌∷◌, ◌++◌, None, Some, refl, sym, ap, ◌∙◌, subst, length, slice_get, append_assoc}
use Rattle.std.proofs.lemmas.List.{append-nil}
use Rattle.faaslet_meaning.specs.Lists.{is_empty}
use Rattle.session_meaning.specs.declared.event.Event.{Event}
use Rattle.session_meaning.specs.Events.{step, why}
use Rattle.session_meaning.specs.Plan.{Plan}
use Rattle.session_meaning.specs.Schedule.{Picks, Schedule, is_stuck, next_of, offered, pick, picks, stops, unfinished_calls}
use Rattle.session_meaning.specs.World.{World, first_world}
use Rattle.std.specs.Prelude.{fold, ◌&&◌}
use Rattle.world_core.specs.Tracing.{Picked, Traces}
use Rattle.world_core.specs.Whole.{Refuses, Session, world_after}
use Rattle.world_core.specs.declared.running.StepFault.{StepFault}
use Rattle.world_core.specs.declared.running.StepFault.TheVariants as fault
use Rattle.session_meaning.specs.declared.event.Why.{Why}

pub nothing_yet : (plan : Plan) (seed : ℕ) (s : Session) → s ≡ record { plan = plan; events = [] } → Traces plan seed s seed
nothing_yet plan seed s e = subst (λ s. Traces plan seed s seed) (sym e) (record { plan_so = refl; schedule = λ rest more. more })

fold_one : (plan : Plan) (w : World) (es : List Event) (e : Event) → fold (step plan) w (es ++ e ∷ []) ≡ step plan (fold (step plan) w es) e
fold_one plan w [] e = refl
fold_one plan w (x ∷ es) e = fold_one plan (step plan w x) es e

module _ (plan : Plan) (seed x : ℕ) (s new : Session) (so : Traces plan seed s x) (p : Picked s x new) where
  abbrev next : Session
  next = record s { events = s.events ++ p.event ∷ [] }

  world_next : world_after next ≡ step plan (world_after s) p.event
  world_next = fold_one s.plan (first_world s.plan) s.events p.event ∙ ap (λ q. step q (world_after s) p.event) so.plan_so

  goes_on : (rest : List Event) → Picks plan (world_after next) (next_of x) rest → Schedule plan seed (next.events ++ rest)
  goes_on rest more =
      let here = subst (λ w. Picks plan w (next_of x) rest) world_next more in
      let at = subst (λ q. slice_get (offered q (world_after s)) (pick (next_of x) (length (offered q (world_after s)))) ≡ Some p.event) so.plan_so p.is_picked in
      subst (Schedule plan seed) (sym (append_assoc s.events (p.event ∷ []) rest)) (so.schedule (p.event ∷ rest) (picks at here))

  pub one_more : Traces plan seed new (next_of x)
  one_more = subst (λ s. Traces plan seed s (next_of x)) (sym p.comes) (record { plan_so = so.plan_so; schedule = goes_on })

none_offered : {A : Type 0} (xs : List A) → length xs ≡ 0 → xs ≡ []
none_offered [] e = refl
none_offered (x ∷ xs) e = let no : ⊥ = cc in absurd no

module _ (plan : Plan) (seed x count : ℕ) (s : Session) (so : Traces plan seed s x) (many : count ≡ length (offered s.plan (world_after s))) (zero_so : count ≡ 0) where
  offers_none : offered plan (world_after s) ≡ []
  offers_none = ap (λ p. offered p (world_after s)) (sym so.plan_so) ∙ none_offered (offered s.plan (world_after s)) (sym many ∙ zero_so)

  pub is_schedule : Schedule plan seed s.events
  is_schedule = subst (Schedule plan seed) (append-nil s.events) (so.schedule [] (stops offers_none))

  pub stuck_so : (b : Bool) → b ≡ not (is_empty (unfinished_calls (world_after s))) → b ≡ is_stuck plan (world_after s)
  stuck_so b e = e ∙ ap (λ os. is_empty os && not (is_empty (unfinished_calls (world_after s)))) (sym offers_none)

-- an event that may stand is not refused
pub not_refused : (w : World) (e : Event) (f : StepFault) (reason : Why) → why w e ≡ None → f ≡ fault.NotEnabled reason → Refuses w e f → ⊥
not_refused w e f reason free is h = let said : why w e ≡ Some reason = subst (Refuses w e) is h in let no : ⊥ = cc in no
