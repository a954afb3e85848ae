-- The steps of a call: those of its machine, its host calls with their checks and operations, the replies that it gets,
-- and the releases once `main` has ended. This project's own.
use Rattle.std.specs.Prelude.{ℕ, zero, suc, ◌+◌, Bool, true, List, [], ◌∷◌, ◌++◌, Option, Some, None, Err, length, nat_lt, nat_le, ◌==◌, ◌&&◌, if◌then◌else◌}
use Rattle.faaslet_meaning.specs.declared.outcome.Outcome.{Outcome}
use Rattle.faaslet_meaning.specs.declared.outcome.Outcome.TheVariants as outcome
use Rattle.faaslet_meaning.specs.Memory.{Touch, touch_of}
use Rattle.faaslet_meaning.specs.HostCalls.{HostCall}
use Rattle.faaslet_meaning.specs.Configuration.{Begun, load, store, Next, goes, ends, touches, calls, stuck}
use Rattle.faaslet_meaning.specs.MemoryRules.{resumed}
use Rattle.faaslet_meaning.specs.Step.{step, finished}
use Rattle.faaslet_meaning.specs.Channels.{RegionOperation, Operation, on_region, Reply, Question, ask, has_form}
use Rattle.faaslet_meaning.specs.CallState.{Invocation, Tier, local, global, Lock, Work, Stage, running, touching, calling, releasing, State, Progress, runs, asks, over, lost, without_lock}
use Rattle.faaslet_meaning.specs.Checks.{checks, first_trap, holds, noted}
use Rattle.faaslet_meaning.specs.Operations.{operations}
use Rattle.faaslet_meaning.specs.Serve.{Served, waits, through, no_memory, misfit, channel, touch_question, go_on, reply_to}

-- the locks held, by rising place, the local one before the global one: those of n places from k on
abbrev pub lock_at : State → Tier → ℕ → List Lock
lock_at s t k = if holds s t k then record { tier = t; place = k } ∷ [] else []

abbrev pub locks_from : State → ℕ → ℕ → List Lock
locks_from s zero k = []
locks_from s (suc n) k = lock_at s local k ++ (lock_at s global k ++ locks_from s n (k + 1))

-- one Unlock for each lock still held; they cost no fuel
abbrev pub release : Invocation → State → Outcome → List Lock → Progress
release j s o [] = over s o
release j s o (l ∷ ls) = asks (record s { stage = releasing (l ∷ ls) o }) (ask (channel j l.tier l.place) (on_region RegionOperation.unlock))

abbrev pub ended : Invocation → State → Outcome → Progress
ended j s o = release j s o (locks_from s (length j.program.grants) 0)

-- what the machine came to
abbrev pub begun_touch : Begun → Option Touch
begun_touch (load l a) = touch_of a
begun_touch (store a) = touch_of a

abbrev pub settled : Invocation → State → Next → Progress
settled j s (goes c) = runs (record s { config = c; stage = running })
settled j s (ends c o) = ended j (record s { config = c; stage = running }) o
settled j s (touches c b) = elim (begun_touch b) [ None ↦ lost | Some t ↦ asks (record s { config = c; stage = touching b }) (touch_question j t) ]
settled j s (calls c h) = lost
settled j s stuck = lost

-- what a host call came to
abbrev pub served : Invocation → Served → Progress
served j (waits s q) = asks s q
served j (through s r) = settled j s (finished s.config r)
served j (no_memory s) = ended j s outcome.Want
served j misfit = lost

-- a host call: its checks, then its operations
abbrev pub serve : Invocation → State → HostCall → Progress
serve j s h = elim (first_trap j s (checks h)) [ Some t ↦ served j (through s (Err t)) | None ↦ served j (go_on j (operations j s h) (record { held = []; result = None; state = s })) ]

abbrev pub progress : Invocation → State → Next → Progress
progress j s (calls c h) = serve j (record s { config = c }) h
progress j s n = settled j s n

-- one step of a call that waits for nothing
abbrev pub call_step : Invocation → State → Progress
call_step j s = progress j s (step j.program s.config)

-- after a reply: one that does not belong to what is waited for leads nowhere
abbrev pub reply_work : Invocation → State → Work → Reply → Progress
reply_work j s w r = elim w.acts [ [] ↦ lost | a ∷ acts ↦ served j (reply_to j a acts (record { held = w.held; result = w.result; state = s }) r) ]

abbrev pub reply_release : Invocation → State → List Lock → Outcome → Progress
reply_release j s [] o = lost
reply_release j s (l ∷ ls) o = release j (without_lock s l) o ls

abbrev pub reply_at : Invocation → State → Stage → Reply → Progress
reply_at j s (touching b) (Reply.bytes bs) = settled j s (resumed s.config b bs)
reply_at j s (touching b) Reply.done = settled j s (resumed s.config b [])
reply_at j s (calling w) r = reply_work j s w r
reply_at j s (releasing ls o) Reply.done = reply_release j s ls o
reply_at j s _ r = lost

abbrev pub replied : Invocation → State → Reply → Progress
replied j s r = reply_at j s s.stage r

-- the calls of a request, less the first
abbrev pub child_limit : ℕ
child_limit = 1023

abbrev pub output_limit : ℕ
output_limit = 65536

abbrev pub same_length : Option ℕ → ℕ → Bool
same_length None n = true
same_length (Some m) n = m == n

abbrev pub comes : State → Question → Reply → Bool
comes s q (Reply.child n) = nat_lt (length s.children) child_limit
comes s (ask ch (Operation.look c)) (Reply.finished o bs) = nat_le (length bs) output_limit && same_length (noted s c) (length bs)
comes s q r = true

-- A reply that may come: it has the form of its question, a child comes only while there are few, and the output of a child is
-- within its limit and, where the child was awaited before, as long as it was.
abbrev pub fits : State → Question → Reply → Bool
fits s q r = has_form q r && comes s q r
