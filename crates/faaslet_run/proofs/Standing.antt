-- Where a Faaslet is while its machine runs on, and what does not change that.
use Rattle.std.proofs.Common.{◌≡◌, ℕ, ◌+◌, ◌-◌, ◌^◌, ◌<◌, ◌≤◌, Bool, true, false, List, [], ◌∷◌, Option, Some, None, length, refl, ap, sym, ◌∙◌, subst, arith}
use Rattle.std.proofs.lemmas.Bool.{leb-true}
use Rattle.std.proofs.lemmas.Option.{same_Some}
use Rattle.faaslet_meaning.specs.declared.ask.Ask.{Ask}
use Rattle.faaslet_meaning.specs.declared.grant.Grant.{Grant}
use Rattle.faaslet_meaning.specs.declared.module.Module.{Module}
use Rattle.faaslet_meaning.specs.declared.outcome.Outcome.{Outcome}
use Rattle.faaslet_meaning.specs.Call.{begun_touch, locks_from, release, settled, progress}
use Rattle.faaslet_meaning.specs.CallState.{Invocation, Lock, State, Progress, runs, asks, lost, calling, touching}
use Rattle.faaslet_meaning.specs.Channels.{Transcript}
use Rattle.faaslet_meaning.specs.Configuration.{Program, Configuration, Begun, Next, goes, ends, touches, calls, stuck, load, store}
use Rattle.faaslet_meaning.specs.Formed.{FormedAt}
use Rattle.faaslet_meaning.specs.Fresh.{steps}
use Rattle.faaslet_meaning.specs.Goes.{Goes}
use Rattle.faaslet_meaning.specs.HostCalls.{HostCall}
use Rattle.faaslet_meaning.specs.Memory.{Backing, Memory, Touch, page_limit, pages_of, reads, reads_piece, size_of, writes, writes_piece}
use Rattle.faaslet_meaning.specs.Program.{program_of}
use Rattle.faaslet_meaning.specs.Serve.{touch_question}
use Rattle.faaslet_meaning.proofs.CallAsks.{stays_formed}
use Rattle.faaslet_meaning.proofs.CallMemory.{PieceFits, cut_fits}
use Rattle.faaslet_meaning.proofs.CallParts.{Each}
use Rattle.host_calls.specs.Calls.{Here, work_of}
use Rattle.host_calls.specs.States as on_state
use Rattle.host_calls.specs.declared.call_call.CallStage.{CallStage}
use Rattle.host_calls.specs.declared.call_call.CallStage.TheVariants as stage
use Rattle.host_calls.specs.declared.state_call.StateStage.{StateStage}
use Rattle.host_calls.specs.declared.state_call.StateStage.TheVariants as state_stage
use Rattle.region_map.specs.Segments.{Segmented, backing_of}
use Rattle.wasm_interp.specs.Goes.{SameRun}
use Rattle.wasm_interp.specs.Parts.{AtPiece, Within}
use Rattle.wasm_interp.specs.StandsFor.{AsksPiece, PendingIs, PendingStands, PieceIs, StageStands, StandsFor, Comes, EventIs, AsksHost, config_of}
use Rattle.wasm_interp.specs.declared.machine.Event.{Event}
use Rattle.wasm_interp.specs.declared.machine.Event.TheVariants as event
use Rattle.wasm_interp.specs.declared.machine.HostAsk.{HostAsk}
use Rattle.wasm_interp.specs.declared.machine.Pending.{Pending}
use Rattle.wasm_interp.specs.declared.machine.PieceAsk.{PieceAsk}
use Rattle.wasm_interp.specs.declared.machine.Machine.{Machine}
use Rattle.wasm_interp.specs.declared.machine.Stage as machine_stage
use Rattle.wasm_interp.specs.declared.machine.Stage.TheVariants as at_stage
use Rattle.wasm_interp.specs.declared.thread.Thread.{Thread}
use Rattle.wasm_interp.proofs.Replaced.{scratch_replaced}
use Rattle.wasm_interp.proofs.Standing.{kept_at, memory_stands}
use Rattle.faaslet_run.specs.Hosts.{HasEnded, HasStopped, AtHost, AsksThat}
use Rattle.faaslet_run.specs.Places.{shape, here_of, state_here_of, IsAsking, Stands, StandsBy, IsPlain, RunsOn, WorkIs, Waits, IsOver, StageIs, StandsAt, state_of}
use Rattle.faaslet_run.specs.Turns.{SameRoom, left_at, runs_left}
use Rattle.faaslet_run.specs.declared.faaslet.Faaslet.{Faaslet}
use Rattle.faaslet_run.specs.declared.faaslet.Stage.{Stage}
use Rattle.faaslet_run.specs.declared.faaslet.Stage.TheVariants as stages
use Rattle.faaslet_run.specs.declared.faaslet.Work.{Work}
use Rattle.faaslet_run.specs.declared.faaslet.Work.TheVariants as works
use Rattle.faaslet_run.proofs.Arguments.{stops_small}
use Rattle.faaslet_run.proofs.Stepping.{went, Stops, run_at, runs_go, stops_paid, steps_tied}

-- ---- What a run tells.

pub told_end : (e : Event) (scratch : List ℕ) (next : Next) (o : Outcome) → e ≡ event.Ended o → EventIs e scratch next → (d : Configuration) × (next ≡ ends d o)
told_end (event.Ended p) scratch (ends d q) o is h =
    let same : p ≡ o = cc in
    (d, ap (ends d) (sym h ∙ same))
told_end (event.Ended p) scratch (goes d) o is h = absurd h
told_end (event.Ended p) scratch (touches d b) o is h = absurd h
told_end (event.Ended p) scratch (calls d b) o is h = absurd h
told_end (event.Ended p) scratch stuck o is h = absurd h
told_end (event.Piece a) scratch next o is h = absurd (cc)
told_end (event.Host a) scratch next o is h = absurd (cc)

pub told_host : (e : Event) (scratch : List ℕ) (next : Next) (a : HostAsk) → e ≡ event.Host a → EventIs e scratch next → (d : Configuration) × (h : HostCall) × (next ≡ calls d h) × AsksHost a h
told_host (event.Host b) scratch (calls d k) a is h = let same : b ≡ a = cc in (d, k, refl, subst (λ x. AsksHost x k) same h)
told_host (event.Host b) scratch (goes d) a is h = absurd h
told_host (event.Host b) scratch (ends d q) a is h = absurd h
told_host (event.Host b) scratch (touches d c) a is h = absurd h
told_host (event.Host b) scratch stuck a is h = absurd h
told_host (event.Piece b) scratch next a is h = absurd (cc)
told_host (event.Ended q) scratch next a is h = absurd (cc)

pub told_piece : (e : Event) (scratch : List ℕ) (next : Next) (a : PieceAsk) → e ≡ event.Piece a → EventIs e scratch next → (d : Configuration) × (b : Begun) × (next ≡ touches d b) × EventIs (event.Piece a) scratch (touches d b)
told_piece (event.Piece c) scratch (touches d b) a is h = let same : c ≡ a = cc in (d, b, refl, subst (λ x. EventIs (event.Piece x) scratch (touches d b)) same h)
told_piece (event.Piece c) scratch (goes d) a is h = absurd h
told_piece (event.Piece c) scratch (ends d q) a is h = absurd h
told_piece (event.Piece c) scratch (calls d k) a is h = absurd h
told_piece (event.Piece c) scratch stuck a is h = absurd h
told_piece (event.Host b) scratch next a is h = absurd (cc)
told_piece (event.Ended q) scratch next a is h = absurd (cc)

-- ---- Where a piece is in its replica.

-- a machine at a shared piece has this asked
at_pending : (memory : Memory) (t : Thread) (x : machine_stage.Stage) (c : Configuration) (b : Begun) → StageStands memory t x (touches c b) → (q : Pending) × PendingStands memory q c.frame.values b
at_pending memory t (at_stage.Piece q) c b s = (q, s.1)
at_pending memory t at_stage.Runs c b s = absurd s
at_pending memory t (at_stage.Host a) c b s = absurd s
at_pending memory t (at_stage.Over o) c b s = absurd s

first_near : (m : Memory) (at n : ℕ) (w : Bool) (ask : PieceAsk) → at + n ≤ 2 ^ 32 → n ≤ 65536 → AtPiece m at n w ask → ask.off < 2 ^ 32
first_near m at n w ask h l p =
    let f = subst (λ ps. Each PieceFits ps) p.cut (cut_fits m.segments 0 at n h l) in
    let e = f.0.ends in
    let s = f.0.some in
    let o = p.off in
    omega (arith, e, s, o)

range_near : (m : Memory) (addr size done : ℕ) (w : Bool) (ask : PieceAsk) → pages_of m.segments ≤ page_limit → Within m addr size done → AtPiece m (addr + done) (size - done) w ask → ask.off < 2 ^ 32
range_near m addr size done w ask few r p =
    let l = leb-true (addr + size) (size_of m) r.inside in
    let most = r.most in
    let small = r.few in
    first_near m (addr + done) (size - done) w ask (omega (arith, l, few, most)) (omega (arith, small)) p

pending_near : (m : Memory) (q : Pending) (b : Begun) → pages_of m.segments ≤ page_limit → PendingIs m q b → q.ask.off < 2 ^ 32
pending_near m q (load l (reads at n left copy)) few s = range_near m q.addr q.size q.done false q.ask few s.range s.piece
pending_near m q (load l (writes left bytes)) few s = absurd s
pending_near m q (store (writes left bytes)) few s = range_near m q.addr q.size q.done true q.ask few s.range s.piece
pending_near m q (store (reads at n left copy)) few s = absurd s

same_off : (a b : PieceAsk) (t : Touch) → PieceIs a t → PieceIs b t → a.off ≡ b.off
same_off a b (reads_piece place off size) x y = x.1 ∙ sym y.1
same_off a b (writes_piece place off bytes) x y = x.1 ∙ sym y.1

asked_near : (ask : PieceAsk) (q : Pending) (b : Begun) → AsksPiece ask b → AsksPiece q.ask b → q.ask.off < 2 ^ 32 → ask.off < 2 ^ 32
asked_near ask q b x y l =
    let t : y.touch ≡ x.touch = same_Some _ _ (sym y.touched ∙ x.touched) in
    let e = same_off ask q.ask x.touch x.is (subst (PieceIs q.ask) t y.is) in
    omega (arith, l, e)

-- ---- The machine runs on.

-- it has made steps from a configuration to where it stopped
pub record Stepped (p : Program) (from next : Next) : Type 0 where
  pub config : Configuration
  pub from_is : from ≡ goes config
  pub count : ℕ
  pub by : steps p count config ≡ next

stepped_call : (p : Program) (from : Next) (d : Configuration) (h : HostCall) → IsPlain from → Comes p from (calls d h) → Stepped p from (calls d h)
stepped_call p (goes c) d h plain comes = record { config = c; from_is = refl; count = comes.count; by = comes.by }
stepped_call p (ends c o) d h plain comes = absurd (let e = comes.by in cc)
stepped_call p (touches c b) d h plain comes = absurd (let e = comes.by in cc)
stepped_call p (calls c i) d h plain comes = absurd plain
stepped_call p stuck d h plain comes = absurd plain

-- a call that stands at a shared piece is not lost
touch_there : (b : Begun) (ask : PieceAsk) → (x : AsksPiece ask b) → begun_touch b ≡ Some x.touch
touch_there (load l a) ask x = x.touched
touch_there (store a) ask x = x.touched

-- the segments are few where a call is well formed
touches_few : (j : Invocation) (s : State) (d : Configuration) (b : Begun) (t : Touch) → begun_touch b ≡ Some t → FormedAt j (settled j s (touches d b)) → pages_of d.memory.segments ≤ page_limit
touches_few j s d b t e f =
    let g = subst (λ (o : Option Touch). FormedAt j (elim o as (λ _. Progress) [ None ↦ lost | Some x ↦ asks (record s { config = d; stage = touching b }) (touch_question j x) ])) e f in
    g.memory.few_pages

-- with the machine after a run
module _ (f : Faaslet) (j : Invocation) (start : State) (t : Transcript) (p : Progress) (a : StandsAt f j start t p) (r : RunsOn f j start.config.fuel p) (m : Machine Segmented) (next : Next) (comes : Comes (program_of r.stands.code j.program.grants) r.next next) (stands : StandsFor shape m r.stands.code j.program.grants start.config.fuel next) where
  own_comes : Comes j.program r.next next
  own_comes = subst (λ (q : Program). Comes q r.next next) (sym r.stands.program_is) comes

  way_to : Stops next → Goes j (runs start) t (progress j (run_at r.state r.state.config) next)
  way_to h = went (subst (Goes j (runs start) t) r.is a.way) (runs_go j r.state r.next next r.plain own_comes h)

  pub run_ended : (d : Configuration) (o : Outcome) → next ≡ ends d o → (let new : Faaslet = record f { machine = m } in HasEnded new j start t (settled j r.state (ends d o)) o)
  run_ended d o e =
      let s : State = run_at r.state d in
      record {
        amidst = record { formed = a.formed; way = subst (Goes j (runs start) t) (ap (progress j (run_at r.state r.state.config)) e) (way_to (subst Stops (sym e) tt)); called = a.called; counts = a.counts };
        state = s;
        left = locks_from s (length j.program.grants) 0;
        locks = refl;
        machine = record { next = next; config = d; stands = record { code = r.stands.code; program_is = r.stands.program_is; stands = stands }; config_is = ap config_of e; fuel = refl };
        keeps = record { children = r.keeps.children; keys_are = r.keeps.keys_are; output_is = r.keeps.output_is };
        is = refl;
      }

  stopped_call : (d : Configuration) (h : HostCall) → next ≡ calls d h → Stepped j.program r.next (calls d h)
  stopped_call d h e = stepped_call j.program r.next d h r.plain (subst (Comes j.program r.next) e own_comes)

  pub run_at_host : (d : Configuration) (h : HostCall) → next ≡ calls d h → (let new : Faaslet = record f { machine = m } in AtHost new j start t (run_at r.state d) h)
  run_at_host d h e =
      let s = stopped_call d h e in
      let formed = subst (FormedAt j) (r.is ∙ ap (settled j r.state) s.from_is) (stays_formed j start p a.formed a.way) in
      record {
        amidst = record {
          formed = a.formed;
          way = subst (Goes j (runs start) t) (ap (progress j (run_at r.state r.state.config)) e) (way_to (subst Stops (sym e) tt));
          called = a.called;
          counts = a.counts;
        };
        at = record {
          stands = record { code = r.stands.code; program_is = r.stands.program_is; stands = subst (StandsFor shape m r.stands.code j.program.grants start.config.fuel) e stands };
          memory = sym (memory_stands shape m r.stands.code j.program.grants start.config.fuel next d stands (ap config_of e));
          keeps = record { children = r.keeps.children; keys_are = r.keeps.keys_are; output_is = r.keeps.output_is };
        };
        tied = steps_tied r.state.mapped j.program s.count s.config d h formed.memory s.by;
      }

  pub run_asks : (ask : HostAsk) (d : Configuration) (h : HostCall) → next ≡ calls d h → AsksHost ask h → AsksThat ask h
  run_asks ask d h e asked =
      let s = stopped_call d h e in
      record { asks = asked; short = (stops_paid j.program s.count s.config d h s.by).1; small = stops_small j.program s.count s.config d h s.by }

  fuel_is : (n : Next) (c : Configuration) (x : Machine Segmented) → StandsFor shape x r.stands.code j.program.grants start.config.fuel n → config_of n ≡ Some c → x.thread.fuel ≡ c.fuel
  fuel_is n c x s e = (kept_at (shape x.memory) x.thread x.stage n c s.stage e).fuel_is

  pub run_paid : (d : Configuration) (h : HostCall) → next ≡ calls d h → m.thread.fuel < f.machine.thread.fuel
  run_paid d h e =
      let s = stopped_call d h e in
      let less = (stops_paid j.program s.count s.config d h s.by).0 in
      let before = fuel_is r.next s.config f.machine r.stands.stands (ap config_of s.from_is) in
      let after = fuel_is next d m stands (ap config_of e) in
      omega (arith, less, before, after)

  pub run_stopped : (piece : PieceAsk) (d : Configuration) (b : Begun) → next ≡ touches d b → EventIs (event.Piece piece) m.scratch (touches d b) → (let new : Faaslet = record f { machine = m } in HasStopped new j start t (settled j r.state (touches d b)) piece)
  run_stopped piece d b e told =
      let way : Goes j (runs start) t (settled j r.state (touches d b)) = subst (Goes j (runs start) t) (ap (progress j (run_at r.state r.state.config)) e) (way_to (subst Stops (sym e) tt)) in
      let at : StandsFor shape m r.stands.code j.program.grants start.config.fuel (touches d b) = subst (StandsFor shape m r.stands.code j.program.grants start.config.fuel) e stands in
      let few = touches_few j r.state d b told.0.touch (touch_there b piece told.0) (stays_formed j start (settled j r.state (touches d b)) a.formed way) in
      let (q, pending) = at_pending (shape m.memory) m.thread m.stage d b at.stage in
      let same = memory_stands shape m r.stands.code j.program.grants start.config.fuel (touches d b) d at refl in
      let near = pending_near (shape m.memory) q b (subst (λ (x : Memory). pages_of x.segments ≤ page_limit) (sym same) few) pending.is in
      record {
        amidst = record { formed = a.formed; way = way; called = a.called; counts = a.counts };
        state = run_at r.state d;
        begun = b;
        stands = record { code = r.stands.code; program_is = r.stands.program_is; stands = at };
        keeps = record { children = r.keeps.children; keys_are = r.keeps.keys_are; output_is = r.keeps.output_is };
        asks = told;
        near = asked_near piece q b told.0 pending.asks near;
        is = refl;
      }

-- ---- At a stage.

pub at_runs : (f : Faaslet) (j : Invocation) (given : ℕ) (p : Progress) → f.stage ≡ stages.Runs → StageIs f.stage f j given p → RunsOn f j given p
at_runs f j given p e h = subst (λ x. StageIs x f j given p) e h

pub at_asks : (f : Faaslet) (j : Invocation) (given : ℕ) (p : Progress) (w : Work) (a : Ask) → f.stage ≡ stages.Asks w a → StageIs f.stage f j given p → Waits f j given p w a
at_asks f j given p w a e h = subst (λ x. StageIs x f j given p) e h

pub at_over : (f : Faaslet) (j : Invocation) (given : ℕ) (p : Progress) (o : Outcome) → f.stage ≡ stages.Over o → StageIs f.stage f j given p → IsOver f j given p o
at_over f j given p o e h = subst (λ x. StageIs x f j given p) e h

-- ---- The scratch.

same_work : (t : CallStage) (h : Here) (bytes : List ℕ) → work_of t h ≡ work_of t (record h { scratch = bytes })
same_work (stage.Gives n) h bytes = refl
same_work (stage.TakesInput off b) h bytes = refl
same_work (stage.SendsOut b) h bytes = refl
same_work (stage.Writes b) h bytes = refl
same_work (stage.Chains g b) h bytes = refl
same_work (stage.Submits g len) h bytes = refl
same_work (stage.Awaits c) h bytes = refl
same_work (stage.Looks c off b) h bytes = refl

same_state_work : (t : StateStage) (h : on_state.Here) (bytes : List ℕ) → on_state.work_of t h ≡ on_state.work_of t (record h { scratch = bytes })
same_state_work (state_stage.Gives n) h bytes = refl
same_state_work (state_stage.Collects k q b) h bytes = refl
same_state_work (state_stage.Probes k a) h bytes = refl
same_state_work (state_stage.Fills k a) h bytes = refl
same_state_work (state_stage.Acts k a) h bytes = refl
same_state_work (state_stage.Sends b) h bytes = refl

stands_scratch : (m : Machine Segmented) (j : Invocation) (given : ℕ) (n : Next) (bytes : List ℕ) → Stands m j given n → Stands (record m { scratch = bytes }) j given n
stands_scratch m j given n bytes s = record { code = s.code; program_is = s.program_is; stands = scratch_replaced shape m s.code j.program.grants given n bytes s.stands }

by_scratch : (m : Machine Segmented) (j : Invocation) (given : ℕ) (s : State) (bytes : List ℕ) → StandsBy m j given s → StandsBy (record m { scratch = bytes }) j given s
by_scratch m j given s bytes b = record { next = b.next; config = b.config; stands = stands_scratch m j given b.next bytes b.stands; config_is = b.config_is; fuel = b.fuel }

-- other bytes in the scratch change nothing of where it is
pub scratch_stands : (f : Faaslet) (j : Invocation) (start : State) (t : Transcript) (p : Progress) (bytes : List ℕ) → StandsAt f j start t p → StandsAt (record f { machine = record f.machine { scratch = bytes } }) j start t p
scratch_stands f j start t p bytes a = record { formed = a.formed; way = a.way; called = a.called; counts = a.counts; stage = by f.stage a.stage }
  where
    given : ℕ
    given = start.config.fuel

    new : Faaslet
    new = record f { machine = record f.machine { scratch = bytes } }

    works_on : (w : Work) (s : State) → WorkIs w f j given s → WorkIs w new j given s
    works_on (works.Call call) s w = record {
      host = w.host;
      stands = stands_scratch f.machine j given (calls s.config w.host) bytes w.stands;
      memory = w.memory;
      amid = record { stage_is = w.amid.stage_is ∙ ap (λ y. calling y) (same_work call.stage (here_of f) bytes); allowed = w.amid.allowed };
      channel = w.channel;
      operation = w.operation;
      asked = w.asked;
      at = w.at;
      gives = w.gives;
      keeps = w.keeps;
    }
    works_on (works.State call) s w = record {
      host = w.host;
      stands = stands_scratch f.machine j given (calls s.config w.host) bytes w.stands;
      memory = w.memory;
      amid = record { stage_is = w.amid.stage_is ∙ ap (λ y. calling y) (same_state_work call.stage (state_here_of f) bytes) };
      at = w.at;
      gives = w.gives;
      keeps = w.keeps;
    }
    works_on works.Piece s w = record { begun = w.begun; stands = stands_scratch f.machine j given (touches s.config w.begun) bytes w.stands; stage_is = w.stage_is; keeps = w.keeps }
    works_on (works.Release place b o) s w = record { left = w.left; stage_is = w.stage_is; locks = w.locks; machine = by_scratch f.machine j given s bytes w.machine; keeps = w.keeps }

    by : (x : Stage) → StageIs x f j given p → StageIs x new j given p
    by stages.Runs r = record { state = r.state; next = r.next; stands = stands_scratch f.machine j given r.next bytes r.stands; plain = r.plain; keeps = r.keeps; is = r.is }
    by (stages.Asks x q) w = record { state = w.state; question = w.question; work = works_on x w.state w.work; kind = w.kind; is = w.is }
    by (stages.Over o) v = record { state = v.state; machine = by_scratch f.machine j given v.state bytes v.machine; keeps = v.keeps; is = v.is }

-- so do other bytes beside the machine
pub kept_stands : (f : Faaslet) (j : Invocation) (start : State) (t : Transcript) (p : Progress) (bytes : List ℕ) → StandsAt f j start t p → StandsAt (record f { scratch = bytes }) j start t p
kept_stands f j start t p bytes a = record { formed = a.formed; way = a.way; called = a.called; counts = a.counts; stage = by f.stage a.stage }
  where
    new : Faaslet
    new = record f { scratch = bytes }

    works_on : (w : Work) (s : State) → WorkIs w f j start.config.fuel s → WorkIs w new j start.config.fuel s
    works_on (works.Call call) s w = record { host = w.host; stands = w.stands; memory = w.memory; amid = w.amid; channel = w.channel; operation = w.operation; asked = w.asked; at = w.at; gives = w.gives; keeps = w.keeps }
    works_on (works.State call) s w = record { host = w.host; stands = w.stands; memory = w.memory; amid = w.amid; at = w.at; gives = w.gives; keeps = w.keeps }
    works_on works.Piece s w = record { begun = w.begun; stands = w.stands; stage_is = w.stage_is; keeps = w.keeps }
    works_on (works.Release place b o) s w = record { left = w.left; stage_is = w.stage_is; locks = w.locks; machine = w.machine; keeps = w.keeps }

    by : (x : Stage) → StageIs x f j start.config.fuel p → StageIs x new j start.config.fuel p
    by stages.Runs r = record { state = r.state; next = r.next; stands = r.stands; plain = r.plain; keeps = r.keeps; is = r.is }
    by (stages.Asks x q) w = record { state = w.state; question = w.question; work = works_on x w.state w.work; kind = w.kind; is = w.is }
    by (stages.Over o) v = record { state = v.state; machine = v.machine; keeps = v.keeps; is = v.is }

-- ---- What is read off it.

-- the state where it stands, with its output and its fuel
pub record Read (f : Faaslet) (given : ℕ) (s : State) : Type 0 where
  pub output : s.output ≡ f.output
  pub fuel : (code : Module) × (grants : List Grant) × (next : Next) × (c : Configuration) × StandsFor shape f.machine code grants given next × (config_of next ≡ Some c) × (c.fuel ≡ s.config.fuel)

read_by : (f : Faaslet) (j : Invocation) (given : ℕ) (s : State) → StandsBy f.machine j given s → s.output ≡ f.output → Read f given s
read_by f j given s b o = record { output = o; fuel = (b.stands.code, j.program.grants, b.next, b.config, b.stands.stands, b.config_is, b.fuel) }

-- where locks are still to be released the state is as it was, but for what it waits for
released_read : (f : Faaslet) (j : Invocation) (given : ℕ) (s t : State) (o : Outcome) (ls : List Lock) → Read f given t → state_of (release j t o ls) ≡ Some s → Read f given s
released_read f j given s t o [] r e = subst (Read f given) (same_Some _ _ e) r
released_read f j given s t o (l ∷ ls) r e = subst (Read f given) (same_Some _ _ e) (record { output = r.output; fuel = r.fuel })

plain_read : (f : Faaslet) (j : Invocation) (given : ℕ) (s t : State) (n : Next) → IsPlain n → Stands f.machine j given n → t.output ≡ f.output → state_of (settled j t n) ≡ Some s → Read f given s
plain_read f j given s t (goes c) i k out e = subst (Read f given) (same_Some _ _ e) (record { output = out; fuel = (k.code, j.program.grants, goes c, c, k.stands, refl, refl) })
plain_read f j given s t (ends c o) i k out e = released_read f j given s (run_at t c) o (locks_from (run_at t c) (length j.program.grants) 0) (record { output = out; fuel = (k.code, j.program.grants, ends c o, c, k.stands, refl, refl) }) e
plain_read f j given s t (touches c b) i k out e = by (begun_touch b) e
  where
    by : (o : Option Touch) → state_of (elim o as (λ _. Progress) [ None ↦ lost | Some x ↦ asks (record t { config = c; stage = touching b }) (touch_question j x) ]) ≡ Some s → Read f given s
    by None g = absurd (cc)
    by (Some x) g = subst (Read f given) (same_Some _ _ g) (record { output = out; fuel = (k.code, j.program.grants, touches c b, c, k.stands, refl, refl) })
plain_read f j given s t (calls c h) i k out e = absurd i
plain_read f j given s t stuck i k out e = absurd i

pub read_at : (f : Faaslet) (j : Invocation) (start : State) (t : Transcript) (p : Progress) (s : State) → StandsAt f j start t p → state_of p ≡ Some s → Read f start.config.fuel s
read_at f j start t p s a e = by f.stage a.stage
  where
    given : ℕ
    given = start.config.fuel

    work_read : (w : Work) (u : State) → WorkIs w f j given u → Read f given u
    work_read (works.Call call) u w = record { output = w.keeps.output_is; fuel = (w.stands.code, j.program.grants, calls u.config w.host, u.config, w.stands.stands, refl, refl) }
    work_read (works.State call) u w = record { output = w.keeps.output_is; fuel = (w.stands.code, j.program.grants, calls u.config w.host, u.config, w.stands.stands, refl, refl) }
    work_read works.Piece u w = record { output = w.keeps.output_is; fuel = (w.stands.code, j.program.grants, touches u.config w.begun, u.config, w.stands.stands, refl, refl) }
    work_read (works.Release place b o) u w = read_by f j given u w.machine w.keeps.output_is

    by : (x : Stage) → StageIs x f j given p → Read f given s
    by stages.Runs r = plain_read f j given s r.state r.next r.plain r.stands r.keeps.output_is (ap state_of (sym r.is) ∙ e)
    by (stages.Asks x q) w = subst (Read f given) (same_Some _ _ (ap state_of (sym w.is) ∙ e)) (work_read x w.state w.work)
    by (stages.Over o) v = subst (Read f given) (same_Some _ _ (ap state_of (sym v.is) ∙ e)) (read_by f j given v.state v.machine v.keeps.output_is)

-- ---- What is left, and what stays.

pub left_less : (x : Stage) (n old : ℕ) → (x ≡ stages.Runs → n < old) → left_at x n < left_at stages.Runs old
left_less stages.Runs n old h = let l = h refl in omega (arith, l)
left_less (stages.Asks w a) n old h = omega arith
left_less (stages.Over o) n old h = omega arith

pub was_running : (f : Faaslet) → f.stage ≡ stages.Runs → runs_left f ≡ left_at stages.Runs f.machine.thread.fuel
was_running f e = ap (λ x. left_at x f.machine.thread.fuel) e

-- a run leaves how much room there is
pub run_rooms : (f new : Faaslet) → SameRun (λ (m : Segmented). backing_of m) f.machine new.machine → SameRoom f new
run_rooms f new s = record { globals = s.rooms.globals; table = s.rooms.table; pages = ap (λ (b : Backing). b.room) s.backing }

pub same_rooms : (f : Faaslet) → SameRoom f f
same_rooms f = record { globals = refl; table = refl; pages = refl }

pub rooms_then : (f g h : Faaslet) → SameRoom f g → SameRoom g h → SameRoom f h
rooms_then f g h a b = record { globals = b.globals ∙ a.globals; table = b.table ∙ a.table; pages = b.pages ∙ a.pages }

-- ---- The stage at which it stands at a question.

pub not_running : (x : Stage) → IsAsking x → x ≡ stages.Runs → ⊥
not_running x h e = subst IsAsking e h

pub not_over : (x : Stage) (o : Outcome) → IsAsking x → x ≡ stages.Over o → ⊥
not_over x o h e = subst IsAsking e h
