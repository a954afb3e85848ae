-- What keeps a question back, read off what is kept; and which world an event makes.
use Rattle.std.proofs.Common.{◌≡◌, ℕ, Bool, false, cond, List, [], ◌∷◌, ◌++◌, Option, Some, None, refl, ap, ◌∙◌, length, slice_get, subst}
use Rattle.std.specs.Prelude.{filter_map, option_map, unwrap_or}
use Rattle.faaslet_meaning.specs.declared.call.CallRecord.{CallRecord}
use Rattle.faaslet_meaning.specs.declared.grant.Channel.TheVariants.{Local, Global, Table as OnTable}
use Rattle.session_meaning.specs.declared.event.Event.{Event}
use Rattle.session_meaning.specs.declared.event.Event.TheVariants.{Take, Ask, End}
use Rattle.session_meaning.specs.declared.event.Why.{Why}
use Rattle.session_meaning.specs.declared.event.Why.TheVariants.{HasEnded}
use Rattle.faaslet_meaning.specs.CallState.{State, asks}
use Rattle.faaslet_meaning.specs.Channels.{Operation, Question, ask, fills, pulls, pushes}
use Rattle.faaslet_meaning.specs.Lists.{first, passes_at}
use Rattle.faaslet_meaning.specs.Records.{child_of, is_finished}
use Rattle.faaslet_meaning.specs.Region.{halves}
use Rattle.session_meaning.specs.Events.{Worlds, asked, finished, lock_on, obstacle, open_at, step, took, unfinished, why, why_ask, why_of}
use Rattle.session_meaning.specs.OpenCall.{Ended, Open, asking, ended, stands}
use Rattle.session_meaning.specs.Plan.{Plan}
use Rattle.session_meaning.specs.World.{World}
use Rattle.session_meaning.proofs.CallsAlike.{WorldOk}
use Rattle.session_meaning.proofs.CallsRan.{look_stands, worlds_more}
use Rattle.session_meaning.proofs.OneQuestion.{LookStands}
use Rattle.session_meaning.proofs.OneStep.{asked_at, asked_of, finished_at, finished_of, taken_by}
use Rattle.session_meaning.proofs.Worlds.{histories_lead}
use Rattle.world_core.proofs.Serving.{IsOffTable}

-- ---- The world that an event makes.

pub take_step : (plan : Plan) (w : World) (call host : ℕ) (r : CallRecord) → slice_get w.table.records call ≡ Some r → step plan w (Take call host) ≡ took plan w call host r
take_step plan w call host r here = ap (taken_by plan w call host) here

pub ask_step : (plan : Plan) (w : World) (call : ℕ) (o : Open) (s : State) (q : Question) → open_at w call ≡ Some o → o.machine ≡ stands (asks s q) → step plan w (Ask call) ≡ asked w call o s q
ask_step plan w call o s q at is = ap (asked_at w call) at ∙ ap (λ m. asked_of w call o (asking m)) is

pub end_step : (plan : Plan) (w : World) (call : ℕ) (o : Open) (e : Ended) → open_at w call ≡ Some o → ended o ≡ Some e → step plan w (End call) ≡ finished w call o e
end_step plan w call o e at is = ap (finished_at w call) at ∙ ap (finished_of w call o) is

-- ---- What keeps a question back.

pub ask_reason : (w : World) (call : ℕ) (o : Open) (s : State) (q : Question) → o.machine ≡ stands (asks s q) → why_ask w call o ≡ option_map why_of (obstacle w call o.host q)
ask_reason w call o s q is = ap (λ m. elim (asking m) as (λ a. Option Why) [ None ↦ Some HasEnded | Some a ↦ option_map why_of (obstacle w call o.host a.1) ]) is

pub locks_alone : (w : World) (call host : ℕ) (q : Question) → IsOffTable q → obstacle w call host q ≡ first (filter_map (λ half. lock_on w call host half.0 half.1) (halves q))
locks_alone w call host (ask (Local key) op) off = refl
locks_alone w call host (ask (Global key) op) off = refl
locks_alone w call host (ask OnTable op) off = absurd off
locks_alone w call host (fills key size) off = refl
locks_alone w call host (pulls key from len) off = refl
locks_alone w call host (pushes key from len) off = refl

-- a Submit is never kept back
pub submit_free : (w : World) (call host f : ℕ) (input : List ℕ) → obstacle w call host (ask OnTable (Operation.submit f input)) ≡ None
submit_free w call host f input = refl

-- a Look waits for its child
pub look_waits : (w : World) (call host c k : ℕ) (r : CallRecord) → child_of w.table.records call c ≡ Some k → slice_get w.table.records k ≡ Some r → obstacle w call host (ask OnTable (Operation.look c)) ≡ cond (is_finished r.state) None (Some (unfinished k))
look_waits w call host c k r child here =
    ap (λ n. cond (passes_at (λ r. is_finished r.state) w.table.records n) None (Some (unfinished n))) (ap (λ o. unwrap_or o (length w.table.records)) child)
    ∙ ap (λ o. cond (elim o as (λ o. Bool) [ None ↦ false | Some r ↦ is_finished r.state ]) None (Some (unfinished k))) here

-- a Look that is not kept back may stand
pub look_free : (plan : Plan) (events : List Event) (w : World) (call : ℕ) (o : Open) (s : State) (q : Question) → Worlds plan events w → WorldOk plan w → why w (Ask call) ≡ None → open_at w call ≡ Some o → o.machine ≡ stands (asks s q) → LookStands w call q
look_free plan events w call o s q made ok free at is =
    let next = worlds_more plan events w (Ask call) made free in
    look_stands plan w call o s q ok.regions (histories_lead plan (events ++ Ask call ∷ []) (asked w call o s q) (subst (Worlds plan (events ++ Ask call ∷ [])) (ask_step plan w call o s q at is) next))
