-- A call asks operations on a region of its regions, and Submit and Look of the table.
use Rattle.std.proofs.Common.{◌≡◌, ℕ, zero, suc, List, [], ◌∷◌, refl, subst, Bool, true, false, cond, Option, Some, None, Err}
use Rattle.std.specs.Prelude.{IsTrue, unwrap_or, slice_get, take}
use Rattle.faaslet_meaning.specs.declared.grant.Channel.{Channel}
use Rattle.faaslet_meaning.specs.declared.grant.Channel.TheVariants.{Local, Global, Table as OnTable}
use Rattle.faaslet_meaning.specs.declared.outcome.Outcome.{Outcome}
use Rattle.faaslet_meaning.specs.declared.outcome.Outcome.TheVariants as outcome
use Rattle.faaslet_meaning.specs.declared.outcome.Trap.{Trap}
use Rattle.faaslet_meaning.specs.Memory.{Touch, reads_piece, writes_piece, touch_of, Written, reading, writing}
use Rattle.faaslet_meaning.specs.HostCalls.{HostCall}
use Rattle.faaslet_meaning.specs.Configuration.{Next, goes, ends, touches, calls, stuck}
use Rattle.faaslet_meaning.specs.Step.{step, finished}
use Rattle.faaslet_meaning.specs.MemoryRules.{resumed}
use Rattle.faaslet_meaning.specs.Channels.{RegionOperation, Operation, on_region, is_on_region, Reply, Question, ask, fills, pulls, pushes}
use Rattle.faaslet_meaning.specs.CallState.{Invocation, Tier, local, global, Act, presence, fill, buffer_in, buffer_out, passing, local_read, local_write, push, pull, used, append, lock_read, lock_write, unlock, submit, await, look, Lock, Work, Stage, running, touching, calling, releasing, State, Progress, runs, asks, over, lost, without_lock}
use Rattle.faaslet_meaning.specs.Checks.{checks, first_trap, key_size}
use Rattle.faaslet_meaning.specs.Operations.{operations}
use Rattle.faaslet_meaning.specs.Serve.{Served, waits, through, no_memory, misfit, key_at, channel, touch_question, Carried, is_present, question_of, passed, stands, kept, with_memory, does, go_on, After, next, instead, piece, fails, wants, unfit, after, came_after, reply_to}
use Rattle.faaslet_meaning.specs.Call.{release, begun_touch, settled, served, serve, progress, call_step, reply_work, reply_release, reply_at, replied}
use Rattle.faaslet_meaning.specs.Bounds.{steps_left}
use Rattle.session_meaning.specs.OpenCall.{steps, quiet}

-- the operation belongs on the channel
abbrev pub Belongs : Channel → Operation → Type 0
Belongs (Local key) op = IsTrue (is_on_region op)
Belongs (Global key) op = IsTrue (is_on_region op)
Belongs OnTable (Operation.submit function input) = Unit {0}
Belongs OnTable (Operation.look child) = Unit {0}
Belongs OnTable op = ⊥

abbrev pub Proper : Question → Type 0
Proper (ask ch op) = Belongs ch op
Proper _ = Unit {0}

abbrev pub AsksProper : Progress → Type 0
AsksProper (asks s q) = Proper q
AsksProper _ = Unit {0}

abbrev WaitsProper : Served → Type 0
WaitsProper (waits s q) = Proper q
WaitsProper _ = Unit {0}

on_tier : (j : Invocation) (t : Tier) (k : ℕ) (op : Operation) → IsTrue (is_on_region op) → Belongs (channel j t k) op
on_tier j local k op h = h
on_tier j global k op h = h

touches_proper : (j : Invocation) (t : Touch) → Proper (touch_question j t)
touches_proper j (reads_piece k off n) = refl
touches_proper j (writes_piece k off bs) = refl

-- ---- What a host call asks.

asked_proper : (j : Invocation) (x : Carried) (a : Act) (q : Question) → question_of j x a ≡ Some q → Proper q
asked_proper j x (presence k) q e = by (is_present x.state k) e
  where
    by : (b : Bool) → cond b None (Some (ask (channel j local k) (on_region RegionOperation.probe))) ≡ Some q → Proper q
    by true e = let no : ⊥ = cc in absurd no
    by false e = let same : ask (channel j local k) (on_region RegionOperation.probe) ≡ q = cc in subst Proper same refl
asked_proper j x (fill k) q e = let same : fills (key_at j k) (key_size j k) ≡ q = cc in subst Proper same tt
asked_proper j x (local_read k off len) q e = let same : ask (channel j local k) (on_region (RegionOperation.read off len)) ≡ q = cc in subst Proper same refl
asked_proper j x (local_write k off) q e = let same : ask (channel j local k) (on_region (RegionOperation.write off x.held)) ≡ q = cc in subst Proper same refl
asked_proper j x (push k off len) q e = let same : pushes (key_at j k) off len ≡ q = cc in subst Proper same tt
asked_proper j x (pull k off len) q e = let same : pulls (key_at j k) off len ≡ q = cc in subst Proper same tt
asked_proper j x (used k) q e = let same : ask (channel j global k) (on_region RegionOperation.size) ≡ q = cc in subst Proper same refl
asked_proper j x (append k) q e = let same : ask (channel j global k) (on_region (RegionOperation.append x.held)) ≡ q = cc in subst Proper same refl
asked_proper j x (lock_read t k) q e = let same : ask (channel j t k) (on_region RegionOperation.lock_read) ≡ q = cc in subst Proper same (on_tier j t k (on_region RegionOperation.lock_read) refl)
asked_proper j x (lock_write t k) q e = let same : ask (channel j t k) (on_region RegionOperation.lock_write) ≡ q = cc in subst Proper same (on_tier j t k (on_region RegionOperation.lock_write) refl)
asked_proper j x (unlock t k) q e = let same : ask (channel j t k) (on_region RegionOperation.unlock) ≡ q = cc in subst Proper same (on_tier j t k (on_region RegionOperation.unlock) refl)
asked_proper j x (submit f) q e = let same : ask OnTable (Operation.submit (unwrap_or (slice_get j.callees f) 0) x.held) ≡ q = cc in subst Proper same tt
asked_proper j x (await c) q e = let same : ask OnTable (Operation.look c) ≡ q = cc in subst Proper same tt
asked_proper j x (look c off len) q e = let same : ask OnTable (Operation.look c) ≡ q = cc in subst Proper same tt
asked_proper j x a q e = let no : ⊥ = cc in absurd no

passed_proper : (j : Invocation) (acts : List Act) (go : Carried → Served) (x : Carried) (w : Written) → ((y : Carried) → WaitsProper (go y)) → WaitsProper (passed j acts go x w)
passed_proper j acts go x w h = by (touch_of w.access)
  where
    by : (t : Option Touch) → WaitsProper (elim t [ None ↦ go (record (with_memory x w.memory) { held = kept x.held w.access }) | Some t ↦ stands (passing w.access ∷ acts) (with_memory x w.memory) (touch_question j t) ])
    by None = h (record (with_memory x w.memory) { held = kept x.held w.access })
    by (Some t) = touches_proper j t

does_proper : (j : Invocation) (a : Act) (acts : List Act) (go : Carried → Served) (x : Carried) → ((y : Carried) → WaitsProper (go y)) → WaitsProper (does j a acts go x)
does_proper j (buffer_in ptr len) acts go x h = passed_proper j acts go x (record { memory = x.state.config.memory; access = reading x.state.config.memory ptr len }) h
does_proper j (buffer_out ptr len) acts go x h = passed_proper j acts go x (writing x.state.config.memory ptr (take len x.held)) h
does_proper j (passing a) acts go x h = passed_proper j acts go x (record { memory = x.state.config.memory; access = a }) h
does_proper j a acts go x h = h _

goes_on_proper : (j : Invocation) (acts : List Act) (x : Carried) → WaitsProper (go_on j acts x)
goes_on_proper j [] x = tt
goes_on_proper j (a ∷ acts) x = by (question_of j x a) refl (does_proper j a acts (go_on j acts) x (goes_on_proper j acts))
  where
    by : (o : Option Question) → question_of j x a ≡ o → WaitsProper (does j a acts (go_on j acts) x) → WaitsProper (elim o [ Some q ↦ stands (a ∷ acts) x q | None ↦ does j a acts (go_on j acts) x ])
    by None e h = h
    by (Some q) e h = asked_proper j x a q e

came_proper : (j : Invocation) (acts : List Act) (x : Carried) (r : After) → WaitsProper (came_after j acts x r)
came_proper j acts x (next y) = goes_on_proper j acts y
came_proper j acts x (instead b) = goes_on_proper j (b ∷ acts) x
came_proper j acts x (piece w) = passed_proper j acts (go_on j acts) x w (goes_on_proper j acts)
came_proper j acts x (fails t) = tt
came_proper j acts x wants = tt
came_proper j acts x unfit = tt

-- ---- What a call asks, after a step and after a reply.

release_proper : (j : Invocation) (s : State) (o : Outcome) (ls : List Lock) → AsksProper (release j s o ls)
release_proper j s o [] = tt
release_proper j s o (l ∷ ls) = on_tier j l.tier l.place (on_region RegionOperation.unlock) refl

settled_proper : (j : Invocation) (s : State) (n : Next) → AsksProper (settled j s n)
settled_proper j s (goes c) = tt
settled_proper j s (ends c o) = release_proper j (record s { config = c; stage = running }) o _
settled_proper j s (touches c b) = by (begun_touch b)
  where
    by : (t : Option Touch) → AsksProper (elim t [ None ↦ lost | Some t ↦ asks (record s { config = c; stage = touching b }) (touch_question j t) ])
    by None = tt
    by (Some t) = touches_proper j t
settled_proper j s (calls c h) = tt
settled_proper j s stuck = tt

served_proper : (j : Invocation) (r : Served) → WaitsProper r → AsksProper (served j r)
served_proper j (waits s q) h = h
served_proper j (through s r) h = settled_proper j s (finished s.config r)
served_proper j (no_memory s) h = release_proper j s outcome.Want _
served_proper j misfit h = tt

serve_proper : (j : Invocation) (s : State) (h : HostCall) → AsksProper (serve j s h)
serve_proper j s h = by (first_trap j s (checks h))
  where
    by : (t : Option Trap) → AsksProper (elim t [ Some t ↦ served j (through s (Err t)) | None ↦ served j (go_on j (operations j s h) (record { held = []; result = None; state = s })) ])
    by None = served_proper j (go_on j (operations j s h) (record { held = []; result = None; state = s })) (goes_on_proper j (operations j s h) (record { held = []; result = None; state = s }))
    by (Some t) = served_proper j (through s (Err t)) tt

progress_proper : (j : Invocation) (s : State) (n : Next) → AsksProper (progress j s n)
progress_proper j s (calls c h) = serve_proper j (record s { config = c }) h
progress_proper j s (goes c) = settled_proper j s (goes c)
progress_proper j s (ends c o) = settled_proper j s (ends c o)
progress_proper j s (touches c b) = settled_proper j s (touches c b)
progress_proper j s stuck = settled_proper j s stuck

pub step_proper : (j : Invocation) (s : State) → AsksProper (call_step j s)
step_proper j s = progress_proper j s (step j.program s.config)

work_proper : (j : Invocation) (s : State) (w : Work) (r : Reply) → AsksProper (reply_work j s w r)
work_proper j s w r = by w.acts
  where
    by : (l : List Act) → AsksProper (elim l [ [] ↦ lost | a ∷ acts ↦ served j (reply_to j a acts (record { held = w.held; result = w.result; state = s }) r) ])
    by [] = tt
    by (a ∷ acts) = served_proper j (reply_to j a acts (record { held = w.held; result = w.result; state = s }) r) (came_proper j acts (record { held = w.held; result = w.result; state = s }) (after a (record { held = w.held; result = w.result; state = s }) r))

rest_proper : (j : Invocation) (s : State) (ls : List Lock) (o : Outcome) → AsksProper (reply_release j s ls o)
rest_proper j s [] o = tt
rest_proper j s (l ∷ ls) o = release_proper j (without_lock s l) o ls

at_proper : (j : Invocation) (s : State) (stage : Stage) (r : Reply) → AsksProper (reply_at j s stage r)
at_proper j s (touching b) (Reply.bytes bs) = settled_proper j s (resumed s.config b bs)
at_proper j s (touching b) Reply.done = settled_proper j s (resumed s.config b [])
at_proper j s (calling w) r = work_proper j s w r
at_proper j s (releasing ls o) Reply.done = rest_proper j s ls o
at_proper j s stage r = tt

pub reply_proper : (j : Invocation) (s : State) (r : Reply) → AsksProper (replied j s r)
reply_proper j s r = at_proper j s s.stage r

-- ---- So at rest.

steps_proper : (j : Invocation) (n : ℕ) (p : Progress) → AsksProper p → AsksProper (steps j n p)
steps_proper j zero p h = h
steps_proper j (suc n) (runs s) h = steps_proper j n (call_step j s) (step_proper j s)
steps_proper j (suc n) (asks s q) h = h
steps_proper j (suc n) (over s o) h = h
steps_proper j (suc n) lost h = h

pub quiet_proper : (j : Invocation) (p : Progress) → AsksProper p → AsksProper (quiet j p)
quiet_proper j p h = steps_proper j (steps_left p) p h
