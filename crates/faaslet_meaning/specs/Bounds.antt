-- How far a run can go: a number that each step lowers and no reply raises, and a bound on the questions that may still
-- come. This project's own.
use Rattle.std.specs.Prelude.{ℕ, suc, ◌+◌, ◌*◌, length, max}
use Rattle.faaslet_meaning.specs.declared.outcome.Outcome.{Outcome}
use Rattle.faaslet_meaning.specs.Lists.{total}
use Rattle.faaslet_meaning.specs.Memory.{Access, reads, writes}
use Rattle.faaslet_meaning.specs.ControlRules.{buffer_limit}
use Rattle.faaslet_meaning.specs.Configuration.{Configuration, Begun, load, store, labels_held}
use Rattle.faaslet_meaning.specs.CallState.{Invocation, Act, presence, buffer_in, buffer_out, passing, map, take_input, give_output, gives, Stage, running, touching, calling, releasing, State, Progress, runs, asks, over, lost}
use Rattle.faaslet_meaning.specs.Channels.{Transcript}
use Rattle.faaslet_meaning.specs.Runs.{Run, ended, went_on, asked}

abbrev pub weight : Configuration → ℕ
weight c = 2 * c.fuel + labels_held c

-- One instruction asks at most for presence, one more operation, and each byte of a buffer.
abbrev pub call_questions : ℕ
call_questions = buffer_limit + 3

-- what a begun access and what a begun host call may still ask
abbrev pub left_of : Access → ℕ
left_of (reads at n left copy) = length left
left_of (writes left bytes) = length left

abbrev pub access_asks : Access → ℕ
access_asks a = max 1 (left_of a)

abbrev pub begun_asks : Begun → ℕ
begun_asks (load l a) = access_asks a
begun_asks (store a) = access_asks a

abbrev pub act_asks : Act → ℕ
act_asks (presence k) = 2
act_asks (buffer_in ptr len) = len
act_asks (buffer_out ptr len) = len
act_asks (passing a) = access_asks a
act_asks (map k) = 0
act_asks (take_input off len) = 0
act_asks give_output = 0
act_asks (gives n) = 0
act_asks _ = 1

abbrev pub stage_asks : Stage → ℕ
stage_asks running = 1
stage_asks (touching b) = begun_asks b
stage_asks (calling w) = max 1 (total act_asks w.acts)
stage_asks (releasing ls o) = max 1 (length ls)

-- what the fuel still buys
abbrev pub fuel_asks : Configuration → ℕ
fuel_asks c = c.fuel * call_questions

-- two releases for each grant
abbrev pub releases : Invocation → ℕ
releases j = 2 * length j.program.grants

abbrev pub asks_left : Invocation → State → Stage → ℕ
asks_left j s (releasing ls o) = stage_asks (releasing ls o)
asks_left j s stage = stage_asks stage + fuel_asks s.config + releases j

-- the bound of a call, wherever it is
abbrev pub bound : Invocation → Progress → ℕ
bound j (runs s) = fuel_asks s.config + releases j
bound j (asks s q) = asks_left j s s.stage
bound j (over s o) = 0
bound j lost = 0

-- How many steps may still come: the machine's weight, where it goes on or stops. In the releases it makes no step.
abbrev pub stage_steps : State → Stage → ℕ
stage_steps s (releasing ls o) = 0
stage_steps s stage = weight s.config

abbrev pub steps_left : Progress → ℕ
steps_left (runs s) = weight s.config
steps_left (asks s q) = stage_steps s s.stage
steps_left (over s o) = 0
steps_left lost = 0

-- how many steps a run makes, its questions and their replies aside
abbrev pub steps_of : {j : Invocation} {p : Progress} {transcript : Transcript} {s : State} {o : Outcome} → Run j p transcript s o → ℕ
steps_of ended = 0
steps_of (went_on run) = suc (steps_of run)
steps_of (asked fit run) = steps_of run
