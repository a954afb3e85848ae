-- Where a Faaslet is after a step of a host call: at a question, to run on, or at its end.
use Rattle.std.proofs.Common.{◌≡◌, ℕ, ◌+◌, ◌≤◌, Bool, true, false, List, [], ◌∷◌, ◌++◌, Option, Some, None, Result, Ok, length, take, refl, ap, sym, ◌∙◌, subst, arith, cond, length-append}
use Rattle.std.specs.Prelude.{is_some, option_map, nat_lt, slice_get}
use Rattle.std.proofs.lemmas.List.{append-nil}
use Rattle.std.proofs.lemmas.Option.{same_Some}
use Rattle.faaslet_meaning.specs.declared.ask.Ask.{Ask}
use Rattle.faaslet_meaning.specs.declared.ask.Ask.TheVariants as an_ask
use Rattle.faaslet_meaning.specs.declared.ask.Move.TheVariants as move
use Rattle.faaslet_meaning.specs.declared.grant.Channel.{Channel}
use Rattle.faaslet_meaning.specs.declared.grant.Channel.TheVariants.{Table}
use Rattle.faaslet_meaning.specs.declared.grant.Grant.{Grant}
use Rattle.faaslet_meaning.specs.declared.module.Module.{Module}
use Rattle.faaslet_meaning.specs.declared.outcome.Outcome.TheVariants as outcome
use Rattle.faaslet_meaning.specs.declared.outcome.Trap.{Trap}
use Rattle.faaslet_meaning.specs.declared.outcome.Trap.TheVariants.{StackExhausted}
use Rattle.faaslet_meaning.specs.Asks.{front, operation_of, size_of_key, submit_of, question_of_ask}
use Rattle.faaslet_meaning.specs.Call.{locks_from, settled, serve, served}
use Rattle.faaslet_meaning.specs.Checks.{checks, first_trap}
use Rattle.faaslet_meaning.specs.CallState.{Invocation, State, Progress, running, runs, asks, over, lost, calling}
use Rattle.faaslet_meaning.specs.Channels.{Operation, Question, ask, fills, pulls, pushes, Transcript}
use Rattle.faaslet_meaning.specs.Configuration.{Configuration, goes, calls, values_held}
use Rattle.faaslet_meaning.specs.Fine.{has_result}
use Rattle.faaslet_meaning.specs.Formed.{FormedAt}
use Rattle.faaslet_meaning.specs.Goes.{Goes}
use Rattle.faaslet_meaning.specs.HostCalls.{HostCall}
use Rattle.faaslet_meaning.specs.Limits.{traps, value_limit, with_values}
use Rattle.faaslet_meaning.specs.Step.{finished}
use Rattle.faaslet_meaning.proofs.CallAsks.{question_known, stays_formed}
use Rattle.host_calls.specs.States as on_state
use Rattle.host_calls.specs.declared.state_call.StateCall.{StateCall}
use Rattle.host_calls.specs.declared.state_call.StateStep.TheVariants as state_told
use Rattle.host_calls.specs.declared.call_call.CallCall.{CallCall}
use Rattle.host_calls.specs.declared.call_call.CallStage.{CallStage}
use Rattle.host_calls.specs.declared.call_call.CallStage.TheVariants as stage
use Rattle.host_calls.specs.declared.call_call.CallStep.TheVariants as told_as
use Rattle.host_calls.specs.Calls.{Here, with_here, work_of, output_after, added_by}
use Rattle.region_map.specs.Segments.{Segmented}
use Rattle.wasm_interp.specs.StandsFor.{StandsFor, config_of}
use Rattle.wasm_interp.specs.declared.machine.Machine.{Machine}
use Rattle.wasm_interp.proofs.Standing.{kept_at}
use Rattle.wasm_interp.proofs.Replaced.{scratch_replaced, aside_replaced, memory_replaced}
use Rattle.faaslet_run.specs.Counted.{channels_asked, channels_of}
use Rattle.faaslet_run.specs.Hosts.{AtHost, HasCome, StateHasCome, HasEnded, HasResult}
use Rattle.faaslet_run.specs.Places.{shape, here_of, state_here_of, Stands, StandsAt}
use Rattle.faaslet_run.specs.Turns.{IsAskedAt, IsReady}
use Rattle.faaslet_run.specs.declared.faaslet.Faaslet.{Faaslet}
use Rattle.faaslet_run.specs.declared.faaslet.Stage.{Stage}
use Rattle.faaslet_run.specs.declared.faaslet.Stage.TheVariants as stages
use Rattle.faaslet_run.specs.declared.faaslet.Work.TheVariants as works
use Rattle.faaslet_run.proofs.Releasing.{release_room}
use Rattle.faaslet_run.proofs.Serving.{plain_finished, refused_serves}

-- ---- The question.

same_question : (p q : Question) (cs : List Channel) → (let o : Option Question = Some p in o ≡ Some q) → channels_asked p ≡ cs → channels_asked q ≡ cs
same_question p q cs e h = subst (λ (x : Question). channels_asked x ≡ cs) (same_Some _ _ e) h

-- a question is on the channels on which it is asked
pub asked_kind : (j : Invocation) (a : Ask) (scratch : List ℕ) (q : Question) → question_of_ask j a scratch ≡ Some q → channels_asked q ≡ channels_of a
asked_kind j (an_ask.Region c o) scratch q e = by (operation_of o scratch) e
  where
    by : (x : Option Operation) → option_map (λ operation. ask c operation) x ≡ Some q → channels_asked q ≡ c ∷ []
    by None f = absurd (cc)
    by (Some x) f = same_question (ask c x) q (c ∷ []) f refl
asked_kind j (an_ask.Move key move.Fill) scratch q e = by (size_of_key j.program.grants key) e
  where
    by : (x : Option ℕ) → option_map (λ size. fills key size) x ≡ Some q → channels_asked q ≡ channels_of (an_ask.Move key move.Fill)
    by None f = absurd (cc)
    by (Some x) f = same_question (fills key x) q _ f refl
asked_kind j (an_ask.Move key (move.Pull off len)) scratch q e = same_question (pulls key off len) q _ e refl
asked_kind j (an_ask.Move key (move.Push off len)) scratch q e = same_question (pushes key off len) q _ e refl
asked_kind j (an_ask.Submit f len) scratch q e = by (slice_get j.callees f) (front len scratch) e
  where
    by : (x : Option ℕ) (y : Option (List ℕ)) → submit_of x y ≡ Some q → channels_asked q ≡ Table ∷ []
    by (Some k) (Some bs) g = same_question (ask Table (Operation.submit k bs)) q _ g refl
    by (Some k) None g = absurd (cc)
    by None y g = absurd (cc)
asked_kind j (an_ask.Look child) scratch q e = same_question (ask Table (Operation.look child)) q _ e refl

-- ---- What a step of a host call on calls comes to.

-- after a trap the machine runs no more
abbrev after_trap : State → State
after_trap s = record s { stage = running }

module _ (f : Faaslet) (j : Invocation) (start : State) (t : Transcript) (p : Progress) (call : CallCall) where
  here_now : Here
  here_now = here_of f

  pub come_trap : (x : Trap) → HasCome f j start t p (told_as.Trap x) call.stage → HasEnded f j start t p (outcome.Trap x)
  come_trap x h =
      let s = h.state in
      let w = with_here s (here_of f) s.output in
      record {
        amidst = h.amidst;
        state = after_trap w;
        left = locks_from (after_trap w) (length j.program.grants) 0;
        locks = refl;
        machine = record { next = calls (record s.config { memory = f.machine.memory.memory }) h.host; config = record s.config { memory = f.machine.memory.memory }; stands = h.stands; config_is = refl; fuel = refl };
        keeps = record { children = refl; keys_are = h.keys; output_is = h.output };
        is = h.comes.comes ∙ ap (served j) h.comes.shows;
      }

  pub come_want : HasCome f j start t p told_as.Want call.stage → HasEnded f j start t p outcome.Want
  come_want h =
      let s = h.state in
      let w = with_here s (here_of f) s.output in
      record {
        amidst = h.amidst;
        state = w;
        left = locks_from w (length j.program.grants) 0;
        locks = refl;
        machine = record { next = calls (record s.config { memory = f.machine.memory.memory }) h.host; config = record s.config { memory = f.machine.memory.memory }; stands = h.stands; config_is = refl; fuel = refl };
        keeps = record { children = refl; keys_are = h.keys; output_is = h.output };
        is = h.comes.comes ∙ ap (served j) h.comes.shows;
      }

  pub come_ask : (a : Ask) → HasCome f j start t p (told_as.Ask a) call.stage → (let new : Faaslet = record f { stage = stages.Asks (works.Call call) a } in StandsAt new j start t p × IsReady new j p)
  come_ask a h =
      let s = h.state in
      let shows = h.comes.shows in
      let w : State = record (with_here s (here_of f) s.output) { stage = calling (work_of call.stage (here_of f)) } in
      let q : Question = ask shows.channel shows.operation in
      let e : p ≡ asks w q = h.comes.comes ∙ ap (served j) shows.comes in
      let new : Faaslet = record f { stage = stages.Asks (works.Call call) a } in (
        record {
          formed = h.amidst.formed;
          way = h.amidst.way;
          called = h.amidst.called;
          counts = h.amidst.counts;
          stage = record {
            state = w;
            question = q;
            work = record {
              host = h.host;
              stands = h.stands;
              memory = refl;
              amid = record { stage_is = refl; allowed = h.comes.allowed };
              channel = shows.channel;
              operation = shows.operation;
              asked = question_known j start w q h.amidst.formed (subst (Goes j (runs start) t) e h.amidst.way);
              at = shows.at;
              gives = h.gives.1;
              keeps = record { children = refl; keys_are = h.keys; output_is = h.output };
            };
            kind = asked_kind j a f.machine.scratch q shows.asked;
            is = e;
          };
        },
        subst (IsReady new j) (sym e) shows.asked,
      )

-- ---- What a step of a host call on state comes to.

-- the state has the memory of the machine, and all else but keys and locks is as it was
now_config : (s t : State) (h : on_state.Here) → on_state.IsNow s t h → t.config ≡ record s.config { memory = h.memory }
now_config s t h n = ap (λ (x : State). x.config) n.only

now_children : (s t : State) (h : on_state.Here) → on_state.IsNow s t h → t.children ≡ s.children
now_children s t h n = ap (λ (x : State). x.children) n.only

now_output : (s t : State) (h : on_state.Here) → on_state.IsNow s t h → t.output ≡ s.output
now_output s t h n = ap (λ (x : State). x.output) n.only

module _ (f : Faaslet) (j : Invocation) (start : State) (t : Transcript) (p : Progress) (call : StateCall) where
  pub state_trap : (x : Trap) → StateHasCome f j start t p (state_told.Trap x) call.stage → HasEnded f j start t p (outcome.Trap x)
  state_trap x h =
      let s = h.state in
      let ended = h.comes.shows in
      let w = ended.state in
      record {
        amidst = h.amidst;
        state = after_trap w;
        left = locks_from (after_trap w) (length j.program.grants) 0;
        locks = refl;
        machine = record {
          next = calls (record s.config { memory = f.machine.memory.memory }) h.host;
          config = record s.config { memory = f.machine.memory.memory };
          stands = h.stands;
          config_is = refl;
          fuel = ap (λ (c : Configuration). c.fuel) (sym (now_config s w (state_here_of f) ended.now));
        };
        keeps = record { children = now_children s w (state_here_of f) ended.now ∙ h.children; keys_are = ended.now.keeps; output_is = now_output s w (state_here_of f) ended.now ∙ h.output };
        is = h.comes.comes ∙ ap (served j) ended.comes;
      }

  pub state_done : (value : Option ℕ) → StateHasCome f j start t p (state_told.Done value) call.stage → HasResult f j start t p value
  state_done value h =
      let s = h.state in
      let ended = h.comes.shows in
      let w = ended.state in
      record {
        amidst = h.amidst;
        state = w;
        host = h.host;
        stands = subst (λ (c : Configuration). Stands f.machine j start.config.fuel (calls c h.host)) (sym (now_config s w (state_here_of f) ended.now)) h.stands;
        keeps = record { children = now_children s w (state_here_of f) ended.now ∙ h.children; keys_are = ended.now.keeps; output_is = now_output s w (state_here_of f) ended.now ∙ h.output };
        gives = h.gives;
        is = h.comes.comes ∙ ap (served j) ended.comes;
      }

  pub state_ask : (a : Ask) → StateHasCome f j start t p (state_told.Ask a) call.stage → (let new : Faaslet = record f { stage = stages.Asks (works.State call) a } in StandsAt new j start t p × IsReady new j p)
  state_ask a h =
      let s = h.state in
      let shows = h.comes.shows in
      let u = shows.state in
      let w : State = record u { stage = calling (on_state.work_of call.stage (state_here_of f)) } in
      let e : p ≡ asks w shows.question = h.comes.comes ∙ ap (served j) shows.comes in
      let config = now_config s u (state_here_of f) shows.now in
      let new : Faaslet = record f { stage = stages.Asks (works.State call) a } in (
        record {
          formed = h.amidst.formed;
          way = h.amidst.way;
          called = h.amidst.called;
          counts = h.amidst.counts;
          stage = record {
            state = w;
            question = shows.question;
            work = record {
              host = h.host;
              stands = subst (λ (c : Configuration). Stands f.machine j start.config.fuel (calls c h.host)) (sym config) h.stands;
              memory = ap (λ (c : Configuration). c.memory) config;
              amid = record { stage_is = refl };
              at = shows.at;
              gives = h.gives;
              keeps = record { children = now_children s u (state_here_of f) shows.now ∙ h.children; keys_are = shows.now.keeps; output_is = now_output s u (state_here_of f) shows.now ∙ h.output };
            };
            kind = asked_kind j a f.machine.scratch shows.question shows.asked;
            is = e;
          };
        },
        subst (IsReady new j) (sym e) shows.asked,
      )

-- ---- A host call that is done.

-- the output with what the call adds
pub output_so : (t : CallStage) (h : Here) (out : List ℕ) → out ++ take (added_by t) h.scratch ≡ output_after t h out
output_so (stage.Gives n) h out = append-nil out
output_so (stage.TakesInput off b) h out = append-nil out
output_so (stage.SendsOut b) h out = append-nil out
output_so (stage.Writes b) h out = refl
output_so (stage.Chains g b) h out = append-nil out
output_so (stage.Submits g len) h out = append-nil out
output_so (stage.Awaits c) h out = append-nil out
output_so (stage.Looks c off b) h out = append-nil out

-- the output is within its room where the call is well formed
finished_room : (j : Invocation) (s : State) (c : Configuration) (o : Option ℕ) → (let r : Result (Option ℕ) Trap = Ok o in FormedAt j (settled j s (finished c r))) → length s.output ≤ j.room
finished_room j s c None f = f.in_room
finished_room j s c (Some v) f = by (nat_lt (values_held c) value_limit) f
  where
    by : (b : Bool) → FormedAt j (settled j s (cond b (goes (with_values c (v ∷ c.frame.values))) (traps c StackExhausted))) → length s.output ≤ j.room
    by true g = g.in_room
    by false g =
        let w : State = record s { config = c; stage = running } in
        release_room j w (outcome.Trap StackExhausted) (locks_from w (length j.program.grants) 0) g

module _ (f : Faaslet) (j : Invocation) (start : State) (t : Transcript) (p : Progress) (x : CallStage) (value : Option ℕ) (h : HasCome f j start t p (told_as.Done value) x) where
  abbrev after_done : State
  after_done = with_here h.state (here_of f) (output_after x (here_of f) h.state.output)

  abbrev result_done : Result (Option ℕ) Trap
  result_done = Ok value

  done_is : p ≡ settled j after_done (finished after_done.config result_done)
  done_is = h.comes.comes ∙ ap (served j) h.comes.shows

  -- there is room for what is appended
  pub done_fits : length f.output + length (take (added_by x) f.machine.scratch) ≤ 65536
  done_fits =
      let formed = subst (FormedAt j) done_is (stays_formed j start p h.amidst.formed h.amidst.way) in
      let room = finished_room j after_done after_done.config value formed in
      let out : f.output ++ take (added_by x) f.machine.scratch ≡ after_done.output = ap (λ ys. ys ++ take (added_by x) f.machine.scratch) (sym h.output) ∙ output_so x (here_of f) h.state.output in
      let long : length f.output + length (take (added_by x) f.machine.scratch) ≡ length after_done.output = sym (length-append f.output (take (added_by x) f.machine.scratch)) ∙ ap length out in
      omega (arith, room, long, h.amidst.called.small_room)

  -- with the output appended, it has its result
  pub done_result : (output : List ℕ) → output ≡ f.output ++ take (added_by x) f.machine.scratch → (let new : Faaslet = record f { output = output } in HasResult new j start t p value)
  done_result output out = record {
    amidst = record { formed = h.amidst.formed; way = h.amidst.way; called = h.amidst.called; counts = h.amidst.counts };
    state = after_done;
    host = h.host;
    stands = h.stands;
    keeps = record { children = refl; keys_are = h.keys; output_is = sym (output_so x (here_of f) h.state.output) ∙ ap (λ ys. ys ++ take (added_by x) f.machine.scratch) h.output ∙ sym out };
    gives = h.gives.0;
    is = done_is;
  }

-- ---- The machine goes on with the result.

-- what is to run on is told nothing before
pub running_ready : (f : Faaslet) (j : Invocation) (p : Progress) → f.stage ≡ stages.Runs → IsReady f j p
running_ready f j (runs u) e = tt
running_ready f j (asks u q) e = subst (λ (x : Stage). IsAskedAt x f.machine.scratch j q) (sym e) tt
running_ready f j (over u o) e = tt
running_ready f j lost e = tt

module _ (f : Faaslet) (j : Invocation) (start : State) (t : Transcript) (p : Progress) (value : Option ℕ) (h : HasResult f j start t p value) where
  abbrev with_result : Result (Option ℕ) Trap
  with_result = Ok value

  pub placed_result : (machine : Machine Segmented) → StandsFor shape machine h.stands.code j.program.grants start.config.fuel (finished h.state.config with_result) → (let new : Faaslet = record f { machine = machine; stage = stages.Runs } in StandsAt new j start t p × IsReady new j p)
  placed_result machine stands =
      let new : Faaslet = record f { machine = machine; stage = stages.Runs } in (
        record {
          formed = h.amidst.formed;
          way = h.amidst.way;
          called = h.amidst.called;
          counts = h.amidst.counts;
          stage = record {
            state = h.state;
            next = finished h.state.config with_result;
            stands = record { code = h.stands.code; program_is = h.stands.program_is; stands = stands };
            plain = plain_finished h.state.config value;
            keeps = record { children = h.keeps.children; keys_are = h.keeps.keys_are; output_is = h.keeps.output_is };
            is = h.is;
          };
        },
        running_ready new j p refl,
      )

-- ---- A machine that a step of a host call has changed.

pub step_stands : (m new : Machine Segmented) (code : Module) (grants : List Grant) (given : ℕ) (c : Configuration) (h : HostCall) → new ≡ record m { memory = new.memory; aside = new.aside; scratch = new.scratch } → StandsFor shape m code grants given (calls c h) → StandsFor shape new code grants given (calls (record c { memory = new.memory.memory }) h)
step_stands m new code grants given c h only s =
    let a = memory_replaced shape m code grants given (calls c h) new.memory (λ d b e. cc) s in
    let b = aside_replaced shape (record m { memory = new.memory }) code grants given _ new.aside a in
    let d = scratch_replaced shape (record m { memory = new.memory; aside = new.aside }) code grants given _ new.scratch b in
    subst (λ (x : Machine Segmented). StandsFor shape x code grants given (calls (record c { memory = new.memory.memory }) h)) (sym only) d

-- ---- The result of a host call, and the fuel after it.

pub value_given : (value : Option ℕ) (h : HostCall) → is_some value ≡ has_result h → (o : Option ℕ) → (let r : Result (Option ℕ) Trap = Ok value in r ≡ Ok o) → is_some o ≡ has_result h
value_given value h e o same = subst (λ x. is_some x ≡ has_result h) (same_value value o same) e
  where
    same_value : (a b : Option ℕ) → (let r : Result (Option ℕ) Trap = Ok a in r ≡ Ok b) → a ≡ b
    same_value a b k = cc

finished_fuel : (c : Configuration) (value : Option ℕ) (fuel : ℕ) (F : (d : Configuration) → config_of (finished c (Ok value)) ≡ Some d → fuel ≡ d.fuel) → fuel ≡ c.fuel
finished_fuel c None fuel F = F c refl
finished_fuel c (Some v) fuel F = by (nat_lt (values_held c) value_limit) F
  where
    by : (b : Bool) → ((d : Configuration) → config_of (cond b (goes (with_values c (v ∷ c.frame.values))) (traps c StackExhausted)) ≡ Some d → fuel ≡ d.fuel) → fuel ≡ c.fuel
    by true k = k (with_values c (v ∷ c.frame.values)) refl
    by false k = k c refl

-- a host call that is done has spent nothing more
pub done_fuel : (m new : Machine Segmented) (code : Module) (grants : List Grant) (given : ℕ) (c : Configuration) (h : HostCall) (value : Option ℕ) → StandsFor shape m code grants given (calls c h) → (let r : Result (Option ℕ) Trap = Ok value in StandsFor shape new code grants given (finished c r)) → new.thread.fuel ≡ m.thread.fuel
done_fuel m new code grants given c h value before after =
    let old = (kept_at (shape m.memory) m.thread m.stage (calls c h) c before.stage refl).fuel_is in
    let now = finished_fuel c value new.thread.fuel (λ d e. (kept_at (shape new.memory) new.thread new.stage (finished c (Ok value)) d after.stage e).fuel_is) in
    now ∙ sym old

-- ---- A host call that a check refuses.

pub refused_at : (f : Faaslet) (j : Invocation) (start : State) (t : Transcript) (s : State) (h : HostCall) (x : Trap) → AtHost f j start t s h → first_trap j s (checks h) ≡ Some x → HasEnded f j start t (serve j s h) (outcome.Trap x)
refused_at f j start t s h x a e = record {
  amidst = a.amidst;
  state = after_trap s;
  left = locks_from (after_trap s) (length j.program.grants) 0;
  locks = refl;
  machine = record { next = calls s.config h; config = s.config; stands = a.at.stands; config_is = refl; fuel = refl };
  keeps = record { children = a.at.keeps.children; keys_are = a.at.keeps.keys_are; output_is = a.at.keeps.output_is };
  is = refused_serves j s h x e;
}
