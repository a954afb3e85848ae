-- Blocked calls as the code tells them, and their lines. This project's own.
use Rattle.std.specs.Prelude.{◌≡◌, ℕ, List, [], ◌∷◌, ◌++◌, Option, Some, None, Result, OnOk, map, filter_map, option_map, slice_get, codes, String, string_bytes}
use Rattle.std.specs.Fmt.{decimal}
use Rattle.std.specs.List.{flat_map}
use Rattle.faaslet_meaning.specs.declared.call.CallRecord.{CallRecord}
use Rattle.faaslet_meaning.specs.Report.{line}
use Rattle.session_meaning.specs.Events as events
use Rattle.session_meaning.specs.Events.{held, unfinished}
use Rattle.session_meaning.specs.Plan.{Plan}
use Rattle.session_meaning.specs.Schedule.{open_calls}
use Rattle.session_meaning.specs.SessionReport as report
use Rattle.session_meaning.specs.SessionReport.{label_of, path, obstacle_text, state_text}
use Rattle.session_meaning.specs.World.{World}
use Rattle.session_report.specs.declared.reported.Blocked.{Blocked}
use Rattle.session_report.specs.declared.reported.Obstacle.{Obstacle}
use Rattle.session_report.specs.declared.reported.Obstacle.TheVariants as obstacle

-- where there was memory the text is the old one and this behind it
abbrev pub Grows : {T E A : Type 0} → Result T E → String A → String A → List ℕ → Type 0
Grows result old new text = OnOk result (string_bytes new ≡ string_bytes old ++ text)

-- ---- Paths.

-- the label of the request that a way up leads to, where it leads to one
abbrev pub root_text : Plan → Option ℕ → List ℕ
root_text plan request = elim request [ None ↦ [] | Some r ↦ label_of plan r ]

-- a point and the number of each call on a way, of which the lowest call comes first and is written last
abbrev pub steps_text : List ℕ → List ℕ
steps_text [] = []
steps_text (step ∷ steps) = steps_text steps ++ codes "." ++ decimal step

-- ---- Lines.

-- how far the call of a request is
abbrev pub request_state : List CallRecord → ℕ → List ℕ
request_state records n = elim (slice_get records n) [ None ↦ codes "stuck" | Some c ↦ state_text c.state ]

abbrev pub obstacle_of : Obstacle → events.Obstacle
obstacle_of (obstacle.Held channel holder) = held channel holder
obstacle_of (obstacle.Unfinished child) = unfinished child

abbrev pub blocked_line : Plan → List CallRecord → Blocked → List ℕ
blocked_line plan records b = line (codes "blocked " ++ path plan records b.call ++ codes " " ++ obstacle_text plan records (obstacle_of b.by))

abbrev pub blocked_lines : Plan → List CallRecord → List Blocked → List ℕ
blocked_lines plan records all = flat_map (blocked_line plan records) all

-- ---- The blocked calls of a world, by rising call.

abbrev pub told_of : Blocked → ℕ × events.Obstacle
told_of b = (b.call, obstacle_of b.by)

-- an open call that something keeps from its next question
abbrev pub blocked_at : World → ℕ → Option (ℕ × events.Obstacle)
blocked_at w call = option_map (λ o. (call, o)) (report.obstacle_of w call)

-- these are all of them
abbrev pub AreBlocked : World → List Blocked → Type 0
AreBlocked w all = map told_of all ≡ filter_map (blocked_at w) (open_calls w)
