-- The law on one call, and the theorem on two worlds without it as a premise.
use Rattle.std.specs.Prelude.{option_and_then, option_map, codes}
use Rattle.std.proofs.Common.{◌+◌, ◌*◌, ◌≤◌, arith, refl, slice_get, subst, ◌≡◌, ℕ, zero, suc, List, [], Option, Some, None, Bool, true, false}
use Rattle.session_meaning.specs.declared.event.Event.{Event}
use Rattle.faaslet_meaning.specs.declared.grant.Channel.TheVariants.{Local, Global, Table as OnTable}
use Rattle.faaslet_meaning.specs.declared.grant.Grant.{Grant}
use Rattle.faaslet_meaning.specs.Channels.{RegionOperation, Operation, on_region, Question, ask, fills, pulls, pushes}
use Rattle.faaslet_meaning.specs.CallState.{Invocation, Progress, runs, asks, fresh_state}
use Rattle.faaslet_meaning.specs.Configuration.{Configuration, Program, Func, hosted, defined, Next, goes, ends, touches, calls, stuck}
use Rattle.faaslet_meaning.specs.declared.outcome.Broken.{Broken}
use Rattle.faaslet_meaning.specs.declared.outcome.Outcome.TheVariants as outcome
use Rattle.faaslet_meaning.specs.Memory.{size_of}
use Rattle.faaslet_meaning.specs.Step.{step}
use Rattle.faaslet_meaning.specs.declared.outcome.Broken.TheVariants as broken
use Rattle.std.specs.Prelude.{◌&&◌, nat_le, replicate}
use Rattle.faaslet_meaning.specs.Fresh.{Function, Store, Made, makes, breaks, nothing, then_make, made, unless, instantiated, segments_written, through, steps, then_go, after, entry, entry_by, fresh, program, element_at, segment_at, all_of, all_fit, all_over}
use Rattle.faaslet_meaning.specs.Program.{globals_from, first_memory, memory_limits, table_size, export_of}
use Rattle.faaslet_meaning.specs.Runs.{invocation}
use Rattle.session_meaning.specs.Plan.{Plan, Names, Closed}
use Rattle.session_meaning.specs.World.{World}
use Rattle.session_meaning.specs.Events.{Worlds, why}
use Rattle.session_meaning.proofs.Granted.{Given, ConfigOk, MemoryOk, NextOk, step_ok}
use Rattle.session_meaning.proofs.GrantedAsks.{given, HasGrant, AsksLocal, AsksGlobal, Asked, kids_after}
use Rattle.session_meaning.proofs.GrantedCalls.{ProgressOk, call_step_ok, replied_ok}
use Rattle.session_meaning.proofs.Invariants.{Comes, begun, stepped, replying, HasKey, Granted, AsksGranted}
use Rattle.session_meaning.proofs.TwoWorlds.{cut_by_names, two_worlds_by_names}
use Rattle.session_meaning.proofs.CutSteps.{event_by_names, reason_by_names}
use Rattle.session_meaning.specs.Cut.{CutWorld, CutStep, call_of, calls_of, cut_event, cut_why, plan_cut, events_cut, world_cut}

-- ---- At first no place is mapped.

-- what is made is fine
abbrev MadeOk : {A : Type 0} → (A → Type 0) → Made A → Type 0
MadeOk P (makes a) = P a
MadeOk P (breaks k) = Unit {0}
MadeOk P nothing = Unit {0}

then_ok : {A B : Type 0} (P : A → Type 0) (Q : B → Type 0) (m : Made A) (go : A → Made B) → MadeOk P m → ((a : A) → P a → MadeOk Q (go a)) → MadeOk Q (then_make m go)
then_ok P Q (makes a) go h g = g a h
then_ok P Q (breaks k) go h g = tt
then_ok P Q nothing go h g = tt

unless_ok : {A : Type 0} (P : A → Type 0) (b : Bool) (k : Broken) (m : Made A) → MadeOk P m → MadeOk P (unless k b m)
unless_ok P true k m h = h
unless_ok P false k m h = tt

abbrev StoreOk : Given → Store → Type 0
StoreOk j s = MemoryOk j s.memory

abbrev Anything : {A : Type 0} → A → Type 0
Anything a = Unit {0}

made_ok : {A : Type 0} (o : Option A) → MadeOk Anything (made o)
made_ok None = tt
made_ok (Some a) = tt

segments_ok : (j : Given) (f : Function) (globals : List ℕ) (es : List (ℕ × List (Option ℕ))) (ss : List (ℕ × List ℕ)) → MadeOk (StoreOk j) (segments_written f globals es ss)
segments_ok j f globals es ss = by (all_fit (table_size f.code) es && all_fit (size_of (first_memory f.code f.quota)) ss)
  where
    by : (b : Bool) → MadeOk (StoreOk j) (unless broken.Segment b (makes (record { globals = globals; table = all_over (replicate (table_size f.code) None) es; memory = record (first_memory f.code f.quota) { bytes = all_over (first_memory f.code f.quota).bytes ss } })))
    by true = (tt, tt)
    by false = tt

instantiated_ok : (j : Given) (f : Function) → MadeOk (StoreOk j) (instantiated f)
instantiated_ok j f =
    unless_ok (StoreOk j) (nat_le (memory_limits f.code).min f.quota) broken.Quota _
    (then_ok Anything (StoreOk j) (made (globals_from [] f.code.globals)) _ (made_ok (globals_from [] f.code.globals)) λ globals k.
    then_ok Anything (StoreOk j) (made (all_of (element_at globals) f.code.elements)) _ (made_ok (all_of (element_at globals) f.code.elements)) λ es k.
    then_ok Anything (StoreOk j) (made (all_of (segment_at globals) f.code.segments)) _ (made_ok (all_of (segment_at globals) f.code.segments)) λ ss k. segments_ok j f globals es ss)

entry_by_ok : (j : Given) (f : Function) (s : Store) (o : Option Func) → f.fuel ≤ j.fuel → StoreOk j s → MadeOk (ConfigOk j) (entry_by f s o)
entry_by_ok j f s (Some (defined t locals body)) l h = (h, l)
entry_by_ok j f s (Some (hosted n t)) l h = tt
entry_by_ok j f s None l h = tt

entry_ok : (j : Given) (f : Function) (s : Store) (i : Option ℕ) → f.fuel ≤ j.fuel → StoreOk j s → MadeOk (ConfigOk j) (entry f s i)
entry_ok j f s i l h = entry_by_ok j f s (option_and_then (slice_get (program f).functions) i) l h

machine_ok : (j : Given) (p : Program) (n : ℕ) (c : Configuration) → ConfigOk j c → NextOk j (steps p n c)
machine_ok j p zero c h = record { is = h }
machine_ok j p (suc n) c h = by (step p c) (step_ok j p c h) (λ d k. machine_ok j p n d k)
  where
    by : (x : Next) → NextOk j x → ((d : Configuration) → ConfigOk j d → NextOk j (steps p n d)) → NextOk j (then_go x (steps p n))
    by (goes d) k g = g d k.is
    by (ends d o) k g = k
    by (touches d b) k g = k
    by (calls d x) k g = k
    by stuck k g = k

made_after_ok : (j : Given) (x : Next) → NextOk j x → MadeOk (StoreOk j) (after x)
made_after_ok j (ends c (outcome.Done n)) h = h.is.0
made_after_ok j (ends c (outcome.Trap t)) h = tt
made_after_ok j (ends c outcome.FuelOut) h = tt
made_after_ok j (calls c x) h = tt
made_after_ok j x h = tt

through_ok : (j : Given) (f : Function) (i : Option ℕ) (s : Store) → f.fuel ≤ j.fuel → StoreOk j s → MadeOk (StoreOk j) (through f i s)
through_ok j f None s l h = h
through_ok j f (Some i) s l h = then_ok (ConfigOk j) (StoreOk j) (entry f s (Some i)) _ (entry_ok j f s (Some i) l h) λ c k. made_after_ok j (steps (program f) (2 * f.fuel + 1) c) (machine_ok j (program f) (2 * f.fuel + 1) c k)

fresh_ok : (j : Given) (f : Function) → f.fuel ≤ j.fuel → MadeOk (ConfigOk j) (fresh f)
fresh_ok j f few =
    then_ok (StoreOk j) (ConfigOk j) (instantiated f) _ (instantiated_ok j f) λ s h.
    then_ok (StoreOk j) (ConfigOk j) (through f f.code.start s) _ (through_ok j f f.code.start s few h) λ t k.
    then_ok (StoreOk j) (ConfigOk j) (through f (export_of f.code (codes "init")) t) _ (through_ok j f (export_of f.code (codes "init")) t few k) λ u l. entry_ok j f u (export_of f.code (codes "main")) few l

-- what is made at first is fine, and so is where a call goes from there
pub first_ok : (f : Function) (input : List ℕ) (c : Configuration) → fresh f ≡ makes c → ProgressOk (invocation f input) f.fuel [] (runs (fresh_state c))
first_ok f input c made_so =
    let j = given (invocation f input) f.fuel in
    (subst (λ m. MadeOk (ConfigOk j) m) made_so (fresh_ok j f (omega arith)), omega arith, refl)

abbrev SomeOk : Invocation → ℕ → Progress → Type 0
SomeOk j fuel p = (kids : List (Option ℕ)) × ProgressOk j fuel kids p

comes_ok : (j : Invocation) (fuel : ℕ) (c : Configuration) (p : Progress) → ProgressOk j fuel [] (runs (fresh_state c)) → Comes j c p → SomeOk j fuel p
comes_ok j fuel c p h begun = ([], h)
comes_ok j fuel c p h (stepped {s = s} k) = let l = comes_ok j fuel c (runs s) h k in (l.0, call_step_ok j fuel l.0 s l.1)
comes_ok j fuel c p h (replying {s = s} {q = q} r k) = let l = comes_ok j fuel c (asks s q) h k in (kids_after l.0 q r, replied_ok j fuel l.0 s q r l.1)

-- what it asks is of its grants
has_key : (j : Invocation) (key : ℕ) (P : Grant → Type 0) → HasGrant j key P → HasKey j key
has_key j key P h = (h.0, h.1, h.2, h.3)

local_granted : (j : Invocation) (key : ℕ) (op : RegionOperation) → AsksLocal j key op → HasKey j key
local_granted j key RegionOperation.probe h = has_key j key _ h
local_granted j key (RegionOperation.read off len) h = has_key j key _ h
local_granted j key (RegionOperation.write off bs) h = has_key j key _ h
local_granted j key RegionOperation.lock_read h = has_key j key _ h
local_granted j key RegionOperation.lock_write h = has_key j key _ h
local_granted j key RegionOperation.unlock h = has_key j key _ h
local_granted j key op h = absurd h

global_granted : (j : Invocation) (key : ℕ) (op : RegionOperation) → AsksGlobal j key op → HasKey j key
global_granted j key RegionOperation.size h = has_key j key _ h
global_granted j key (RegionOperation.append bs) h = has_key j key _ h
global_granted j key RegionOperation.lock_read h = has_key j key _ h
global_granted j key RegionOperation.lock_write h = has_key j key _ h
global_granted j key RegionOperation.unlock h = has_key j key _ h
global_granted j key op h = absurd h

is_granted : (j : Invocation) (q : Question) → Asked j q → Granted j q
is_granted j (ask (Local key) (on_region op)) h = (local_granted j key op h, refl)
is_granted j (ask (Global key) (on_region op)) h = (global_granted j key op h, refl)
is_granted j (ask OnTable (Operation.submit f input)) h = h
is_granted j (ask OnTable (Operation.look c)) h = tt
is_granted j (ask OnTable (on_region op)) h = absurd h
is_granted j (ask (Local key) (Operation.submit f input)) h = absurd h
is_granted j (ask (Local key) (Operation.look c)) h = absurd h
is_granted j (ask (Global key) (Operation.submit f input)) h = absurd h
is_granted j (ask (Global key) (Operation.look c)) h = absurd h
is_granted j (fills key n) h = has_key j key _ h
is_granted j (pulls key off len) h = has_key j key _ h
is_granted j (pushes key off len) h = has_key j key _ h

pub asks_granted : AsksGranted
asks_granted f input c s q made_so k =
    let j = invocation f input in
    is_granted j q (comes_ok j f.fuel c (asks s q) (first_ok f input c made_so) k).1.2

-- For every closed set of functions with their keys, and every list of events that may stand: the cut of the world is the world of
-- the cut plan under the cut events, which may stand there, but for what is blank.
pub cut_is_world : (plan : Plan) (functions keys : Names) (events : List Event) (w : World) → Closed plan functions keys → Worlds plan events w → CutWorld plan functions keys events w
cut_is_world plan functions keys events w closed made_so = cut_by_names plan functions keys events w asks_granted closed made_so

-- Two plans with one cut, and two lists of events with one cut, make two worlds with one cut.
pub one_cut : (plan other : Plan) (functions keys : Names) (events fs : List Event) (w v : World) → Closed plan functions keys → Closed other functions keys → Worlds plan events w → Worlds other fs v → plan_cut plan functions keys ≡ plan_cut other functions keys → events_cut plan functions w events ≡ events_cut other functions v fs → world_cut plan functions keys w ≡ world_cut other functions keys v
one_cut plan other functions keys events fs w v closed closed' made_so made_too p e = two_worlds_by_names plan other functions keys events fs w v asks_granted closed closed' made_so made_too p e

pub one_event : (plan : Plan) (functions keys : Names) (events : List Event) (w : World) (e : Event) → Closed plan functions keys → Worlds plan events w → CutStep plan functions keys w e
one_event plan functions keys events w e closed made_so = event_by_names plan functions keys events w e asks_granted closed made_so

pub one_reason : (plan : Plan) (functions keys : Names) (events : List Event) (w : World) (e : Event) → Closed plan functions keys → Worlds plan events w → calls_of plan functions w (call_of e) ≡ true → why (world_cut plan functions keys w) (cut_event (calls_of plan functions w) e) ≡ option_map (cut_why (calls_of plan functions w)) (why w e)
one_reason plan functions keys events w e closed made_so i = reason_by_names plan functions keys events w e asks_granted closed made_so i
