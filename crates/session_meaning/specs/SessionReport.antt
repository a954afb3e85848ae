-- What is printed of a session: its requests, its blocked calls, its global values. This project's own.
use Rattle.std.specs.Prelude.{ℕ, zero, suc, Bool, true, false, List, [], ◌∷◌, ◌++◌, Option, Some, None, map, filter, filter_map, length, take, slice_get, option_and_then, codes}
use Rattle.std.specs.Fmt.{decimal}
use Rattle.std.specs.List.{flat_map}
use Rattle.faaslet_meaning.specs.declared.call.CallRecord.{CallRecord}
use Rattle.faaslet_meaning.specs.declared.call.CallState.{CallState}
use Rattle.faaslet_meaning.specs.declared.call.CallState.TheVariants.{Finished}
use Rattle.faaslet_meaning.specs.declared.grant.Channel.{Channel}
use Rattle.faaslet_meaning.specs.declared.grant.Channel.TheVariants.{Local, Global, Table as OnTable}
use Rattle.faaslet_meaning.specs.declared.outcome.Outcome.{Outcome}
use Rattle.faaslet_meaning.specs.declared.outcome.Outcome.TheVariants as outcome
use Rattle.faaslet_meaning.specs.Report.{hex, outcome_text, line}
use Rattle.session_meaning.specs.Plan.{Key, Request, Plan}
use Rattle.session_meaning.specs.OpenCall.{asking}
use Rattle.session_meaning.specs.World.{World}
use Rattle.session_meaning.specs.Events.{Obstacle, held, unfinished, obstacle, open_at}
use Rattle.session_meaning.specs.Schedule.{open_calls}

-- The path of a call: the label of its request and, for each child step, a point and the child's number. A call has at most as many
-- steps as its depth.
abbrev pub label_of : Plan → ℕ → List ℕ
label_of plan request = elim (slice_get plan.requests request) [ None ↦ [] | Some r ↦ r.label ]

abbrev pub path_by : Plan → List CallRecord → ℕ → ℕ → List ℕ
path_by plan records zero call = []
path_by plan records (suc depth) call = elim (slice_get records call) [ None ↦ [] | Some r ↦ elim r.parent [ None ↦ label_of plan r.request | Some parent ↦ path_by plan records depth parent ++ codes "." ++ decimal r.child ] ]

abbrev pub path : Plan → List CallRecord → ℕ → List ℕ
path plan records call = elim (slice_get records call) [ None ↦ [] | Some r ↦ path_by plan records r.depth call ]

-- the line of a request
abbrev pub state_text : CallState → List ℕ
state_text (Finished host bench order outcome used output counts) = outcome_text outcome output used
state_text s = codes "stuck"

abbrev pub request_line : List CallRecord → ℕ → Request → List ℕ
request_line records n r = line (r.label ++ codes " " ++ elim (slice_get records n) [ None ↦ codes "stuck" | Some c ↦ state_text c.state ])

abbrev pub request_lines : List CallRecord → ℕ → List Request → List ℕ
request_lines records n [] = []
request_lines records n (r ∷ rs) = request_line records n r ++ request_lines records (suc n) rs

-- the line of a global value
abbrev pub state_line : Key → List ℕ → List ℕ
state_line k value = line (codes "state " ++ k.name ++ codes " " ++ hex value)

abbrev pub state_lines : List Key → List (List ℕ) → List ℕ
state_lines (k ∷ ks) (v ∷ vs) = state_line k v ++ state_lines ks vs
state_lines _ _ = []

-- a report: the requests in order, the blocked lines, the global values in the order of the keys
abbrev pub report : Plan → List CallRecord → List (List ℕ) → List ℕ → List ℕ
report plan records values blocked = request_lines records 0 plan.requests ++ blocked ++ state_lines plan.keys values

-- ---- Blocked lines, by rising call.

abbrev pub key_name : Plan → ℕ → List ℕ
key_name plan key = elim (slice_get plan.keys key) [ None ↦ [] | Some k ↦ k.name ]

abbrev pub channel_text : Plan → Channel → List ℕ
channel_text plan (Local key) = codes "local " ++ key_name plan key
channel_text plan (Global key) = codes "global " ++ key_name plan key
channel_text plan OnTable = []

abbrev pub obstacle_text : Plan → List CallRecord → Obstacle → List ℕ
obstacle_text plan records (held channel holder) = channel_text plan channel ++ codes " holder " ++ path plan records holder
obstacle_text plan records (unfinished child) = codes "child " ++ path plan records child

-- what keeps an open call from its next question
abbrev pub obstacle_of : World → ℕ → Option Obstacle
obstacle_of w call = option_and_then (λ o. option_and_then (λ a. obstacle w call o.host a.1) (asking o.machine)) (open_at w call)

abbrev pub blocked_line : Plan → World → ℕ → List ℕ
blocked_line plan w call =
    elim (obstacle_of w call) [ None ↦ [] | Some x ↦ line (codes "blocked " ++ path plan w.table.records call ++ codes " " ++ obstacle_text plan w.table.records x) ]

abbrev pub blocked : Plan → World → List ℕ
blocked plan w = flat_map (blocked_line plan w) (open_calls w)

-- the report of a world
abbrev pub values : World → List (List ℕ)
values w = map (λ o. o.region.bytes) w.globals

abbrev pub world_report : Plan → World → List ℕ
world_report plan w = report plan w.table.records (values w) (blocked plan w)

-- ---- The report of a generated session of n requests: how many of them ended in each way, then the global values.

abbrev pub outcome_of : CallState → Option Outcome
outcome_of (Finished host bench order outcome used output counts) = Some outcome
outcome_of s = None

abbrev pub is_done : Outcome → Bool
is_done (outcome.Done code) = true
is_done _ = false

abbrev pub is_trap : Outcome → Bool
is_trap (outcome.Trap kind) = true
is_trap _ = false

abbrev pub is_fuel : Outcome → Bool
is_fuel outcome.FuelOut = true
is_fuel _ = false

abbrev pub is_broken : Outcome → Bool
is_broken (outcome.Broken kind) = true
is_broken _ = false

abbrev pub is_want : Outcome → Bool
is_want outcome.Want = true
is_want _ = false

-- the requests' records come first
abbrev pub how_many : (Outcome → Bool) → ℕ → List CallRecord → ℕ
how_many test n records = length (filter test (filter_map (λ r. outcome_of r.state) (take n records)))

abbrev pub load_line : ℕ → List CallRecord → List ℕ
load_line n records =
    line (codes "load " ++ decimal n ++ codes " done " ++ decimal (how_many is_done n records) ++ codes " trap " ++ decimal (how_many is_trap n records) ++ codes " fuel " ++ decimal (how_many is_fuel n records) ++ codes " broken " ++ decimal (how_many is_broken n records) ++ codes " want " ++ decimal (how_many is_want n records))

abbrev pub load_report : Plan → List CallRecord → List (List ℕ) → List ℕ
load_report plan records values = load_line (length plan.requests) records ++ state_lines plan.keys values
