-- What a Faaslet tells, with the bytes of its question beside the machine, and that it can be told again.
use Rattle.std.proofs.Common.{◌≡◌, ℕ, List, Some, ap, refl, sym, ◌∙◌, subst}
use Rattle.std.proofs.lemmas.Option.{same_Some}
use Rattle.faaslet_meaning.specs.CallState.{Invocation, State}
use Rattle.faaslet_meaning.specs.Channels.{Transcript}
use Rattle.faaslet_run.specs.Places.{IsAsking, StandsAt}
use Rattle.faaslet_run.specs.Turns.{IsAskedAt, IsReady, IsToldAgain, GoesOn, Tells, turn_of}
use Rattle.faaslet_run.specs.declared.faaslet.Faaslet.{Faaslet}
use Rattle.faaslet_run.specs.declared.faaslet.Stage.{Stage}
use Rattle.faaslet_run.specs.declared.faaslet.Stage.TheVariants as stages
use Rattle.faaslet_run.specs.declared.faaslet.Turn.{Turn}
use Rattle.region_map.specs.Segments.{Segmented}
use Rattle.wasm_interp.specs.declared.machine.Machine.{Machine}
use Rattle.faaslet_run.proofs.Standing.{at_asks, at_over, kept_stands}

pub told_at : (f : Faaslet) (j : Invocation) (start : State) (t : Transcript) (turn : Turn) → turn_of f.stage ≡ Some turn → GoesOn f j start t → (let new : Faaslet = record f { scratch = f.machine.scratch } in Tells turn new j start t)
told_at f j start t turn e g = by f.stage refl e
  where
    new : Faaslet
    new = record f { scratch = f.machine.scratch }

    by : (x : Stage) → f.stage ≡ x → turn_of x ≡ Some turn → Tells turn new j start t
    by stages.Runs h k = absurd (cc)
    by (stages.Asks w a) h k =
        let at = at_asks f j start.config.fuel g.progress w a h g.at.stage in
        let ready = subst (IsReady f j) at.is g.ready in
        subst (λ (y : Turn). Tells y new j start t) (same_Some _ _ k) (record {
          state = at.state;
          question = at.question;
          at = kept_stands f j start t _ f.machine.scratch (subst (StandsAt f j start t) at.is g.at);
          waits = subst IsAsking (sym h) tt;
          is = subst (λ (y : Stage). IsAskedAt y f.machine.scratch j at.question) h ready;
          told = ap turn_of h;
          kept = refl;
          ready = ready;
        })
    by (stages.Over o) h k =
        let at = at_over f j start.config.fuel g.progress o h g.at.stage in
        subst (λ (y : Turn). Tells y new j start t) (same_Some _ _ k) (record { state = at.state; at = kept_stands f j start t _ f.machine.scratch (subst (StandsAt f j start t) at.is g.at); told = ap turn_of h })

-- ---- Told again.

-- where it was told it doesn't run
pub not_told : (f old : Faaslet) (turn : Turn) → f ≡ old → turn_of old.stage ≡ Some turn → f.stage ≡ stages.Runs → ⊥
not_told f old turn same told runs =
    let here : turn_of stages.Runs ≡ Some turn = subst (λ (y : Stage). turn_of y ≡ Some turn) runs (subst (λ (x : Faaslet). turn_of x.stage ≡ Some turn) (sym same) told) in
    absurd (cc)

-- what did not run tells what it told, and has the bytes of its machine in the scratch
pub told_again : (f old : Faaslet) (turn result : Turn) (machine : Machine Segmented) (bytes : List ℕ) → f ≡ old → turn_of old.stage ≡ Some turn → turn_of f.stage ≡ Some result → machine ≡ f.machine → bytes ≡ f.machine.scratch → (let new : Faaslet = record f { machine = machine; scratch = bytes } in (result ≡ turn) × IsToldAgain old new)
told_again f old turn result machine bytes same told now by_machine by_bytes = (
  same_Some _ _ (sym now ∙ ap (λ (x : Faaslet). turn_of x.stage) same ∙ told),
  ap (λ (m : Machine Segmented). (let x : Faaslet = record f { machine = m; scratch = bytes } in x)) by_machine ∙ ap (λ (b : List ℕ). (let x : Faaslet = record f { scratch = b } in x)) by_bytes ∙ ap (λ (x : Faaslet). (let y : Faaslet = record x { scratch = x.machine.scratch } in y)) same,
)
