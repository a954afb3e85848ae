-- An open call that is through may be finished, and one that asks may not.
use Rattle.std.proofs.Common.{◌≡◌, ℕ, ◌<◌, true, false, All, List, Option, Some, None, length, sym, ap, ◌∙◌, slice_get, slice_index_or, subst}
use Rattle.std.specs.Prelude.{◌==◌, position}
use Rattle.std.proofs.lemmas.Option.{get_or_from_slice_get, slice_get-get_or, slice_get_within}
use Rattle.faaslet_meaning.specs.declared.outcome.Broken.{Broken}
use Rattle.faaslet_meaning.specs.declared.outcome.Outcome.{Outcome}
use Rattle.faaslet_run.specs.declared.faaslet.Faaslet.{Faaslet}
use Rattle.faaslet_run.specs.declared.faaslet.Turn.TheVariants as turns
use Rattle.session_meaning.specs.declared.event.Event.TheVariants.{End}
use Rattle.session_meaning.specs.declared.event.Why.{Why}
use Rattle.session_meaning.specs.declared.event.Why.TheVariants.{NotEnded}
use Rattle.session_meaning.specs.Events.{open_at, why, why_end}
use Rattle.session_meaning.specs.OpenCall.{Open, ended_by, is_broken}
use Rattle.session_meaning.specs.World.{World}
use Rattle.world_core.specs.Ending.{is_through}
use Rattle.world_core.specs.Opened.{AtEnd}
use Rattle.world_core.specs.Played.{IsAt, Plays}
use Rattle.world_core.specs.declared.player.Place.{Place}
use Rattle.world_core.specs.declared.player.Place.TheVariants as place
use Rattle.world_core.specs.declared.player.Player.{Player}
use Rattle.world_core.proofs.Reasons.{end_is}
use Rattle.world_core.proofs.Whys.{found}

through_free : (o : Open) (f : Faaslet) (p : Place) → IsAt o f p → is_through p ≡ true → why_end o ≡ None
through_free o f (place.Told (turns.Ended x)) at h = ap (λ m. elim (ended_by o.fuel m) as (λ e. Option Why) [ None ↦ Some NotEnded | Some e ↦ None ]) at.machine
through_free o f (place.Told (turns.Asks a)) at h = let bad : ⊥ = cc in absurd bad
through_free o f (place.Broken kind) at h = ap (λ m. elim (ended_by o.fuel m) as (λ e. Option Why) [ None ↦ Some NotEnded | Some e ↦ None ]) at

asks_still : (o : Open) (f : Faaslet) (p : Place) → IsAt o f p → is_through p ≡ false → why_end o ≡ Some NotEnded
asks_still o f (place.Told (turns.Ended x)) at h = let bad : ⊥ = cc in absurd bad
asks_still o f (place.Told (turns.Asks a)) at h = ap (λ m. elim (ended_by o.fuel m) as (λ e. Option Why) [ None ↦ Some NotEnded | Some e ↦ None ]) at.machine
asks_still o f (place.Broken kind) at h = let bad : ⊥ = cc in absurd bad

-- who is at the place at which a call is found
module _ (w : World) (players : List Player) (all : All (Plays w) players) (call seat : ℕ) (at : position (λ p. p.call == call) players ≡ Some seat) where
  pub player_there : (d : Player) → (slice_get players seat ≡ Some (slice_index_or players seat d)) × ((slice_index_or players seat d).call ≡ call) × Plays w (slice_index_or players seat d)
  player_there d =
      let f = found (λ p. p.call) call seat players at in
      let same = get_or_from_slice_get players seat f.item d f.here in
      (f.here ∙ ap (λ p. Some p) (sym same), ap (λ p. p.call) same ∙ f.is, all seat d (slice_get_within players seat f.item f.here))

  pub may_end : (d : Player) → call < length w.table.records → is_through (slice_index_or players seat d).place ≡ true → why w (End call) ≡ None
  may_end d l h =
      let there = player_there d in
      let o = there.2.o in
      end_is w call o l (ap (open_at w) (sym there.1) ∙ there.2.open_so) ∙ through_free o (slice_index_or players seat d).faaslet (slice_index_or players seat d).place there.2.stands h

  pub may_not_end : (d : Player) → call < length w.table.records → is_through (slice_index_or players seat d).place ≡ false → why w (End call) ≡ Some NotEnded
  may_not_end d l h =
      let there = player_there d in
      let o = there.2.o in
      end_is w call o l (ap (open_at w) (sym there.1) ∙ there.2.open_so) ∙ asks_still o (slice_index_or players seat d).faaslet (slice_index_or players seat d).place there.2.stands h

pub at_seat : (w : World) (players : List Player) (seat : ℕ) (d : Player) → All (Plays w) players → seat < length players → d ≡ slice_index_or players seat d → (slice_get players seat ≡ Some d) × Plays w d
at_seat w players seat d all l is = (slice_get-get_or players seat d l ∙ ap (λ p. Some p) (sym is), subst (Plays w) (sym is) (all seat d l))

pub told_end : (w : World) (p : Player) (outcome : Outcome) (plays : Plays w p) → p.place ≡ place.Told (turns.Ended outcome) → AtEnd plays.o p.faaslet outcome
told_end w p outcome plays is = subst (IsAt plays.o p.faaslet) is plays.stands

pub told_broken : (w : World) (p : Player) (kind : Broken) (plays : Plays w p) → p.place ≡ place.Broken kind → plays.o.machine ≡ is_broken kind
told_broken w p kind plays is = subst (IsAt plays.o p.faaslet) is plays.stands
