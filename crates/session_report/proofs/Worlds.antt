-- What is printed of all blocked calls of a world is what its report has of them.
use Rattle.std.proofs.Common.{◌≡◌, ℕ, List, [], ◌∷◌, ◌++◌, Option, Some, None, option_map, refl, sym, ap, ◌∙◌}
use Rattle.std.specs.Prelude.{filter_map, codes}
use Rattle.std.specs.List.{cons_option, flat_map}
use Rattle.std.proofs.lemmas.List.Folds.{flat_map-map}
use Rattle.faaslet_meaning.specs.Report.{line}
use Rattle.session_meaning.specs.Events.{Obstacle}
use Rattle.session_meaning.specs.Plan.{Plan}
use Rattle.session_meaning.specs.Schedule.{open_calls}
use Rattle.session_meaning.specs.SessionReport as report
use Rattle.session_meaning.specs.SessionReport.{path, obstacle_text}
use Rattle.session_meaning.specs.World.{World}
use Rattle.session_report.specs.Told.{blocked_at, blocked_lines, told_of, AreBlocked}
use Rattle.session_report.specs.declared.reported.Blocked.{Blocked}

abbrev text : Plan → World → ℕ × Obstacle → List ℕ
text plan w b = line (codes "blocked " ++ path plan w.table.records b.0 ++ codes " " ++ obstacle_text plan w.table.records b.1)

of_calls : (plan : Plan) (w : World) (calls : List ℕ) → flat_map (text plan w) (filter_map (blocked_at w) calls) ≡ flat_map (report.blocked_line plan w) calls
of_calls plan w [] = refl
of_calls plan w (call ∷ calls) = by (report.obstacle_of w call) (of_calls plan w calls)
  where
    by : (o : Option Obstacle) → flat_map (text plan w) (filter_map (blocked_at w) calls) ≡ flat_map (report.blocked_line plan w) calls → flat_map (text plan w) (cons_option (option_map (λ x. (call, x)) o) (filter_map (blocked_at w) calls)) ≡ elim o as (λ _. List ℕ) [ None ↦ [] | Some x ↦ text plan w (call, x) ] ++ flat_map (report.blocked_line plan w) calls
    by None h = h
    by (Some x) h = ap (λ z. text plan w (call, x) ++ z) h

pub same_blocked : (plan : Plan) (w : World) (all : List Blocked) → AreBlocked w all → blocked_lines plan w.table.records all ≡ report.blocked plan w
same_blocked plan w all h = sym (flat_map-map (text plan w) told_of all) ∙ ap (flat_map (text plan w)) h ∙ of_calls plan w (open_calls w)
