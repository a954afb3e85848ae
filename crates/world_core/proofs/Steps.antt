-- What a Take, an Ask and an End do to the calls that are queued and those that are open.
use Rattle.std.proofs.Common.{◌≡◌, ℕ, zero, suc, ◌-◌, ◌<◌, Bool, false, List, [], ◌∷◌, ◌++◌, Option, Some, None, length, replicate, refl, sym, ap, ◌∙◌, slice_get, slice_set, option_map, unwrap_or, arith}
use Rattle.std.specs.Prelude.{is_some, ◌==◌}
use Rattle.std.proofs.lemmas.Option.{slice_get_within}
use Rattle.faaslet_meaning.specs.declared.call.CallRecord.{CallRecord}
use Rattle.faaslet_meaning.specs.declared.call.CallState.{CallState}
use Rattle.faaslet_meaning.specs.declared.call.CallState.TheVariants.{Queued, Taken, Finished}
use Rattle.faaslet_meaning.specs.declared.outcome.Outcome.{Outcome}
use Rattle.faaslet_meaning.specs.Lists.{changed, first, places}
use Rattle.faaslet_meaning.specs.Records.{child_of, is_child, is_open, is_queued, queued_calls, takes}
use Rattle.faaslet_meaning.specs.Table.{finish, finished_state, take_this}
use Rattle.session_meaning.specs.Events.{finished, open_at, open_of, took}
use Rattle.session_meaning.specs.Keeping.{CallsOpen}
use Rattle.session_meaning.specs.OpenCall.{Ended, Open, opened}
use Rattle.session_meaning.specs.Plan.{NamedFunction, Plan}
use Rattle.session_meaning.specs.Schedule.{open_calls}
use Rattle.session_meaning.specs.World.{World, filled, on_table}
use Rattle.session_meaning.proofs.CallsAlike.{put_apart}
use Rattle.session_meaning.proofs.LegalEntries.{get_here}
use Rattle.session_meaning.proofs.TableEntries.{table_opens}
use Rattle.world_core.proofs.Moves.{now_passes, open_as_before, passes_as_before, passes_no_more}
use Rattle.world_core.proofs.Places.{put, without, places_same}

-- ---- The place of a call among those that are open.

get_before : {A : Type 0} (xs ys : List A) (n : ℕ) (x : A) → slice_get xs n ≡ Some x → slice_get (xs ++ ys) n ≡ Some x
get_before [] ys n x e = let bad : ⊥ = cc in absurd bad
get_before (y ∷ xs) ys zero x e = e
get_before (y ∷ xs) ys (suc n) x e = get_before xs ys n x e

item_there : {A : Type 0} (xs : List A) (n : ℕ) → n < length xs → (x : A) × (slice_get xs n ≡ Some x)
item_there [] n h = let bad : ⊥ = omega (arith, h) in absurd bad
item_there (x ∷ xs) zero h = (x, refl)
item_there (x ∷ xs) (suc n) h = item_there xs n (omega (arith, h))

-- there is a place for each call
pub place_there : (plan : Plan) (w : World) (call more : ℕ) (r : CallRecord) → CallsOpen plan w → slice_get w.table.records call ≡ Some r → slice_get (filled more w.calls) call ≡ Some (open_at w call)
place_there plan w call more r opens here =
    let l = slice_get_within w.table.records call r here in
    let places = opens.places in
    let x = item_there w.calls call (omega (arith, l, places)) in
    let same : open_at w call ≡ x.0 = ap (λ g. unwrap_or g None) x.1 in
    get_before w.calls (replicate (more - length w.calls) None) call (open_at w call) (x.1 ∙ ap (λ y. Some y) (sym same))

pub passes_still : {A : Type 0} (test : A → Bool) (xs : List A) (n : ℕ) (f : A → A) (x : A) → slice_get xs n ≡ Some x → test (f x) ≡ test x → places test (changed xs n f) ≡ places test xs
passes_still {A} test xs n f x e same =
    ap (λ o. places test (elim o as (λ o. List A) [ None ↦ xs | Some y ↦ slice_set xs n (f y) ])) e
    ∙ places_same test 0 n xs x (f x) e same

-- whose child a call is, and of which function, is not changed by how far it is
pub same_child : (rs : List CallRecord) (n : ℕ) (f : CallRecord → CallRecord) (parent child : ℕ) → ((x : CallRecord) → is_child parent child (f x) ≡ is_child parent child x) → child_of (changed rs n f) parent child ≡ child_of rs parent child
same_child rs n f parent child same = ap first (passes_as_before (is_child parent child) rs n f same)

-- ---- A Take.

module _ (plan : Plan) (w : World) (call host : ℕ) (r : CallRecord) (here : slice_get w.table.records call ≡ Some r) (queued : r.state ≡ Queued) (opens : CallsOpen plan w) where
  taken_so : CallRecord → CallRecord
  taken_so y = record y { state = Taken host call (takes w.table.records) }

  pub not_open : open_at w call ≡ None
  not_open = by (open_at w call) (opens.opens call ∙ ap (λ o. elim o as (λ o. Bool) [ None ↦ false | Some r ↦ is_open r.state ]) here ∙ ap is_open queued)
    where
      by : (o : Option Open) → is_some o ≡ false → o ≡ None
      by None e = refl
      by (Some x) e = let bad : ⊥ = cc in absurd bad

  pub take_leaves_queued : queued_calls (took plan w call host r).table.records ≡ without call (queued_calls w.table.records)
  take_leaves_queued = passes_no_more (λ r. is_queued r.state) w.table.records call (λ y. record y { state = Taken host call (takes w.table.records) }) r here (ap is_queued queued) refl

  module _ (f : NamedFunction) (function_so : slice_get plan.functions r.function ≡ Some f) where
    open_is : open_of plan r host ≡ Some (opened f.function r.input host)
    open_is = ap (option_map (λ f. opened f.function r.input host)) function_so

    pub take_leaves_open : open_calls (took plan w call host r) ≡ put call (open_calls w)
    take_leaves_open =
        let n = length (changed w.table.records call (λ y. record y { state = Taken host call (takes w.table.records) })) in
        now_passes is_some (filled n w.calls) call (λ old. open_of plan r host) (open_at w call) (place_there plan w call n r opens here) (ap is_some not_open) (ap is_some open_is)
        ∙ ap (put call) (open_as_before n w.calls)

    pub take_opens : open_at (took plan w call host r) call ≡ Some (opened f.function r.input host)
    take_opens =
        let n = length (changed w.table.records call (λ y. record y { state = Taken host call (takes w.table.records) })) in
        ap (λ g. unwrap_or g None) (get_here (filled n w.calls) call (λ old. open_of plan r host) ∙ ap (option_map {T = Option Open} (λ old. open_of plan r host)) (place_there plan w call n r opens here))
        ∙ open_is

  pub take_leaves_others : (c : ℕ) → (call == c) ≡ false → open_at (took plan w call host r) c ≡ open_at w c
  take_leaves_others c e = put_apart (on_table w call (take_this call host call)) call c (open_of plan r host) e ∙ table_opens w call (take_this call host call) c

  pub take_leaves_children : (parent child : ℕ) → child_of (took plan w call host r).table.records parent child ≡ child_of w.table.records parent child
  take_leaves_children parent child = same_child w.table.records call (λ y. record y { state = Taken host call (takes w.table.records) }) parent child (λ x. refl)

-- ---- An End.

still_queued : (s : CallState) (o : Outcome) (used : ℕ) (output counts : List ℕ) → is_queued (finished_state s o used output counts) ≡ is_queued s
still_queued Queued o used output counts = refl
still_queued (Taken h b n) o used output counts = refl
still_queued (Finished h b n p u out ns) o used output counts = refl

module _ (plan : Plan) (w : World) (call : ℕ) (r : CallRecord) (here : slice_get w.table.records call ≡ Some r) (o : Open) (at : open_at w call ≡ Some o) (e : Ended) (opens : CallsOpen plan w) where
  pub end_leaves_queued : queued_calls (finished w call o e).table.records ≡ queued_calls w.table.records
  end_leaves_queued = passes_as_before (λ r. is_queued r.state) w.table.records call (λ y. record y { state = finished_state y.state e.outcome e.used e.output o.counts }) (λ y. still_queued y.state e.outcome e.used e.output o.counts)

  pub end_leaves_open : open_calls (finished w call o e) ≡ without call (open_calls w)
  end_leaves_open =
      let n = length (changed w.table.records call (λ y. record y { state = finished_state y.state e.outcome e.used e.output o.counts })) in
      passes_no_more is_some (filled n w.calls) call (λ old. None) (open_at w call) (place_there plan w call n r opens here) (ap is_some at) refl
      ∙ ap (without call) (open_as_before n w.calls)

  pub end_leaves_others : (c : ℕ) → (call == c) ≡ false → open_at (finished w call o e) c ≡ open_at w c
  end_leaves_others c ne = put_apart (on_table w call (finish call e.outcome e.used e.output o.counts)) call c None ne ∙ table_opens w call (finish call e.outcome e.used e.output o.counts) c

  pub end_leaves_children : (parent child : ℕ) → child_of (finished w call o e).table.records parent child ≡ child_of w.table.records parent child
  end_leaves_children parent child = same_child w.table.records call (λ y. record y { state = finished_state y.state e.outcome e.used e.output o.counts }) parent child (λ x. refl)
