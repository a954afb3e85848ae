-- What is written of a trace, and what some functions and keys have in it.
use Rattle.std.proofs.Common.{◌≡◌, ◌≢◌, ℕ, ◌<◌, ◌≤◌, ◌⊎◌, inl, inr, Bool, true, false, List, Option, Some, None, Result, Ok, Err, refl, sym, ap, subst, ◌∙◌, arith}
use Rattle.std.specs.Prelude.{IfOk}
use Rattle.std.specs.String.{string_bytes}
use Rattle.fa_outside.specs.Appended.{Appends, AppendsPart}
use Rattle.fa_outside.specs.Files.{Files}
use Rattle.session_meaning.specs.declared.event.Event.{Event}
use Rattle.session_meaning.specs.Cut.{CutWorld, plan_cut}
use Rattle.session_meaning.specs.CutReport.{all_lines, joined, lines_of}
use Rattle.session_meaning.specs.Draft.{Draft, plan_of}
use Rattle.session_meaning.specs.Events.{Worlds, world}
use Rattle.session_meaning.specs.Plan.{Closed, Names, Plan}
use Rattle.session_meaning.specs.Schedule.{Schedule, is_stuck}
use Rattle.session_meaning.specs.SessionReport as report
use Rattle.session_meaning.specs.SessionReport.{world_report}
use Rattle.session_meaning.specs.World.{World}
use Rattle.session_meaning.proofs.AsksGranted.{cut_is_world}
use Rattle.session_meaning.proofs.CutReports.{cut_report, report_is_lines}
use Rattle.session_meaning.proofs.Schedules.{one_schedule, schedule_stands}
use Rattle.session_report.specs.Told.{blocked_lines, AreBlocked}
use Rattle.session_report.specs.declared.reported.Blocked.{Blocked}
use Rattle.session_report.proofs.Worlds.{same_blocked}
use Rattle.faasm_top.specs.Traced.{EndsWell, HasPart, HasParts, IsEndStatus, TracesTo}

-- ---- Its parts.

pub has_parts : (draft : Draft) (seed status : ℕ) (text : List ℕ) (t : TracesTo draft seed status text) → HasParts t.plan t.events text
has_parts draft seed status text t =
    let w = world t.plan t.events in
    let made = schedule_stands t.plan seed t.events t.schedule in
    record {
      lines = t.is_text ∙ report_is_lines t.plan w;
      parts = λ functions keys closed. (
          let cut : CutWorld t.plan functions keys t.events w = cut_is_world t.plan functions keys t.events w closed made in
          let lines = cut_report t.plan functions keys t.events w cut.small closed made cut.made in
          record { small = cut.small; made = cut.made; lines = lines; report_so = report_is_lines (plan_cut t.plan functions keys) cut.small ∙ ap joined lines }
          );
    }

-- ---- One text.

one_status : (s t : ℕ) (plan : Plan) (w : World) (stuck : Bool) → IsEndStatus s plan w.table.records stuck → IsEndStatus t plan w.table.records stuck → s ≡ t
one_status s t plan w stuck (inl a) (inl b) = a.0 ∙ sym b.0
one_status s t plan w stuck (inl a) (inr b) = absurd (b.1 a.1)
one_status s t plan w stuck (inr a) (inl b) = absurd (a.1 b.1)
one_status s t plan w stuck (inr a) (inr b) = a.0 ∙ sym b.0

-- a session comes to one text and one status under a seed
pub one_trace : (draft : Draft) (seed s t : ℕ) (l m : List ℕ) → TracesTo draft seed s l → TracesTo draft seed t m → (s ≡ t) × (l ≡ m)
one_trace draft seed s t l m p q =
    let plan : p.plan ≡ q.plan = cc (p.is_plan, q.is_plan) in
    let events : p.events ≡ q.events = one_schedule p.plan seed p.events q.events p.schedule (subst (λ x. Schedule x seed q.events) (sym plan) q.schedule) in
    let worlds : world q.plan q.events ≡ world p.plan p.events = ap (λ x. world x q.events) (sym plan) ∙ ap (world p.plan) (sym events) in
    let texts : world_report q.plan (world q.plan q.events) ≡ world_report p.plan (world p.plan p.events) = ap (λ x. world_report x (world q.plan q.events)) (sym plan) ∙ ap (world_report p.plan) worlds in
    let status : IsEndStatus t p.plan (world p.plan p.events).table.records (is_stuck p.plan (world p.plan p.events)) =
    subst (λ w. IsEndStatus t p.plan w.table.records (is_stuck p.plan w)) worlds (subst (λ x. IsEndStatus t x (world q.plan q.events).table.records (is_stuck x (world q.plan q.events))) (sym plan) q.is_status) in
    (one_status s t p.plan (world p.plan p.events) (is_stuck p.plan (world p.plan p.events)) p.is_status status, p.is_text ∙ sym texts ∙ sym q.is_text)

-- ---- What is written.

-- what is written of a world under a schedule is what its session comes to
pub comes_to : (draft : Draft) (plan : Plan) (seed status : ℕ) (events : List Event) (all : List Blocked) → plan_of draft ≡ Some plan → Schedule plan seed events → AreBlocked (world plan events) all
    → IsEndStatus status plan (world plan events).table.records (is_stuck plan (world plan events))
    → TracesTo draft seed status (report.report plan (world plan events).table.records (report.values (world plan events)) (blocked_lines plan (world plan events).table.records all))
comes_to draft plan seed status events all is_plan schedule blocked ends =
    record {
      plan = plan;
      is_plan = is_plan;
      events = events;
      schedule = schedule;
      is_text = let w = world plan events in ap (λ z. report.report plan w.table.records (report.values w) z) (same_blocked plan w all blocked);
      is_status = ends;
    }

pub few_statuses : (draft : Draft) (seed status : ℕ) (text : List ℕ) → TracesTo draft seed status text → status ≤ 1
few_statuses draft seed status text t = by t.is_status
  where
    by : IsEndStatus status t.plan (world t.plan t.events).table.records (is_stuck t.plan (world t.plan t.events)) → status ≤ 1
    by (inl a) = omega (arith, a.0)
    by (inr a) = omega (arith, a.0)

-- the same of what the parts ensure
pub traced_so : (draft : Draft) (told plan : Plan) (seed status : ℕ) (events : List Event) (stuck : Bool) (all : List Blocked) → plan_of draft ≡ Some told → plan ≡ told → Schedule told seed events → stuck ≡ is_stuck told (world plan events)
    → AreBlocked (world plan events) all → IsEndStatus status plan (world plan events).table.records stuck
    → TracesTo draft seed status (report.report plan (world plan events).table.records (report.values (world plan events)) (blocked_lines plan (world plan events).table.records all))
traced_so draft told plan seed status events stuck all is_plan same schedule is_stuck_so blocked ends =
    let w = world plan events in
    comes_to draft plan seed status events all (is_plan ∙ ap (λ p. Some p) (sym same)) (subst (λ p. Schedule p seed events) (sym same) schedule) blocked
    (subst (IsEndStatus status plan w.table.records) (is_stuck_so ∙ ap (λ p. is_stuck p w) (sym same)) ends)
