-- What is known of an open call at its question: what it asks lies in the plan, and the reply of the world fits it.
use Rattle.std.proofs.Common.{◌≡◌, Bool, true, false, List, Option, Some, None, refl, sym, ◌∙◌, subst, option_map}
use Rattle.std.specs.Prelude.{IsTrue, ◌&&◌}
use Rattle.std.proofs.lemmas.Option.{slice_get_within}
use Rattle.faaslet_meaning.specs.declared.ask.Ask.{Ask}
use Rattle.faaslet_meaning.specs.CallState.{asks}
use Rattle.faaslet_meaning.specs.Call.{comes, fits}
use Rattle.faaslet_meaning.specs.Channels.{has_form}
use Rattle.faaslet_meaning.specs.Runs.{invocation}
use Rattle.session_meaning.specs.declared.event.Event.{Event}
use Rattle.session_meaning.specs.declared.event.Event.TheVariants.{Ask as AskEvent}
use Rattle.session_meaning.specs.Events.{Obstacle, Worlds, obstacle, why, why_of}
use Rattle.session_meaning.specs.OpenCall.{stands as stands_at}
use Rattle.session_meaning.specs.Plan.{Plan}
use Rattle.session_meaning.specs.WellFormed.{WellFormed}
use Rattle.session_meaning.specs.World.{World}
use Rattle.session_meaning.specs.WorldTold.{told_at}
use Rattle.session_meaning.proofs.CallsAlike.{Came, MachineOk, OpenOk}
use Rattle.session_meaning.proofs.CallsRan.{functions_fit, world_ok}
use Rattle.session_meaning.proofs.GrantedAsks.{Asked}
use Rattle.session_meaning.proofs.OneEntry.{RegionsOk}
use Rattle.session_meaning.proofs.OneQuestion.{KidsOk, LookStands, question_served}
use Rattle.session_meaning.proofs.WellFits.{calls_fit}
use Rattle.granted_asks.specs.LiesIn.{LiesIn}
use Rattle.granted_asks.proofs.Within.{asks_within}
use Rattle.world_core.specs.Asking.{AsksAt, Asker, answer_to}
use Rattle.world_core.specs.Played.{IsAt, Plays}
use Rattle.world_core.specs.declared.player.Player.{Player}
use Rattle.world_core.proofs.Reasons.{ask_is}
use Rattle.world_core.proofs.Standing.{ask_reason, look_free}

pub asker_of : (w : World) (p : Player) (a : Ask) → Plays w p → AsksAt p a → Asker w p a
asker_of w p a h e = record { o = h.o; open_so = h.open_so; host = h.host; at = subst (IsAt h.o p.faaslet) e h.stands }

-- of one whose question may stand
pub record Known (plan : Plan) (w : World) (p : Player) (a : Ask) (h : Asker w p a) : Type 0 where
  pub opens : OpenOk plan w p.call h.o
  pub regions : RegionsOk plan w
  pub asked_so : Asked (invocation opens.function.function opens.r.input) h.at.asked.question
  pub lies : LiesIn plan opens.function.function h.at.asked.state h.at.asked.question
  pub stands : LookStands w p.call h.at.asked.question
  pub free : obstacle w p.call h.o.host h.at.asked.question ≡ None
  pub form : has_form h.at.asked.question (answer_to w p a h) ≡ true
  pub fits_so : IsTrue (fits h.at.asked.state h.at.asked.question (answer_to w p a h))

both_true : (a b : Bool) → a ≡ true → b ≡ true → (a && b) ≡ true
both_true true b h k = k
both_true false b h k = h

no_reason : (o : Option Obstacle) → option_map why_of o ≡ None → o ≡ None
no_reason None e = refl
no_reason (Some x) e = let bad : ⊥ = cc in absurd bad

pub known : (plan : Plan) (events : List Event) (w : World) (p : Player) (a : Ask) (h : Asker w p a) → WellFormed plan → Worlds plan events w → why w (AskEvent p.call) ≡ None → Known plan w p a h
known plan events w p a h fine made free =
    let fit = calls_fit plan fine in
    let ok = world_ok plan events w fit made in
    let opens = (ok.calls p.call).opens h.o h.open_so in
    let s = h.at.asked.state in
    let q = h.at.asked.question in
    let f = opens.function.function in
    let ran : MachineOk f opens.r.input (told_at plan w h.o.host p.call) w.table.records p.call opens.r.children (stands_at (asks s q)) = subst (MachineOk f opens.r.input (told_at plan w h.o.host p.call) w.table.records p.call opens.r.children) h.at.machine opens.machine in
    let came : Came f opens.r.input (told_at plan w h.o.host p.call) w.table.records p.call opens.r.children (asks s q) = ran in
    let stands = look_free plan events w p.call h.o s q made ok free h.open_so h.at.machine in
    let kids = subst (KidsOk w.table.records p.call opens.r.children) (sym came.ok.0.2) came.kids_ok in
    let served = question_served plan w p.call h.o.host s opens.r ok.regions ok.records opens.within opens.here kids f opens.r.input q (functions_fit plan fit opens.r.function opens.function opens.function_so) came.ok.2 stands in
    record {
      opens = opens;
      regions = ok.regions;
      asked_so = came.ok.2;
      lies = asks_within plan opens.r.function opens.function opens.r.input came.config came.transcript s q fine opens.function_so came.made_so came.goes;
      stands = stands;
      free = no_reason (obstacle w p.call h.o.host q) (sym (ask_is w p.call h.o (slice_get_within w.table.records p.call opens.r opens.here) h.open_so ∙ ask_reason w p.call h.o s q h.at.machine) ∙ free);
      form = served.form;
      fits_so = both_true (has_form q (answer_to w p a h)) (comes s q (answer_to w p a h)) served.form served.comes_so;
    }
