-- A step of a host call, at first and after a reply, and what is known where one stands at a question.
use Rattle.std.proofs.Common.{◌≡◌, ℕ, ◌+◌, ◌*◌, ◌≤◌, List, [], ◌∷◌, ◌++◌, Option, Some, None, length, take, ap, sym, ◌∙◌, subst}
use Rattle.std.specs.Prelude.{IsTrue}
use Rattle.std.proofs.lemmas.Bool.{and_parts}
use Rattle.std.proofs.lemmas.Option.{same_Some}
use Rattle.faaslet_meaning.specs.declared.ask.Ask.{Ask}
use Rattle.faaslet_meaning.specs.declared.ask.Reply.{Reply}
use Rattle.faaslet_meaning.specs.declared.grant.Grant.{Grant}
use Rattle.faaslet_meaning.specs.Asked.{question_at}
use Rattle.faaslet_meaning.specs.Asks.{RepliesAs, reply_of}
use Rattle.faaslet_meaning.specs.Call.{fits, replied}
use Rattle.faaslet_meaning.specs.CallState.{Invocation, State, Progress, runs, asks}
use Rattle.faaslet_meaning.specs.Channels.{Question, Transcript, Reply as Answer}
use Rattle.faaslet_meaning.specs.Fine.{has_result}
use Rattle.faaslet_meaning.specs.Formed.{KeysDiffer}
use Rattle.faaslet_meaning.specs.Goes.{Goes, here, answered}
use Rattle.faaslet_meaning.specs.HostCalls.{HostCall}
use Rattle.faaslet_meaning.specs.Memory.{Backing, mappings}
use Rattle.faaslet_meaning.proofs.CallAsks.{question_known, stays_formed}
use Rattle.faaslet_meaning.proofs.Ways.{joined}
use Rattle.host_calls.specs.declared.call_call.CallStage.{CallStage}
use Rattle.host_calls.specs.declared.call_call.CallStep.{CallStep}
use Rattle.host_calls.specs.declared.state_call.StateStage.{StateStage}
use Rattle.host_calls.specs.declared.state_call.StateStep.{StateStep}
use Rattle.host_calls.specs.declared.state_known.Known.{Known}
use Rattle.host_calls.specs.CallHosts.{Knows}
use Rattle.host_calls.specs.Calls.{here as here_in, IsOf, Belongs, Comes, GivesSo, gives_result}
use Rattle.host_calls.specs.States as on_state
use Rattle.host_calls.proofs.Fitting.{belongs}
use Rattle.host_calls.proofs.Keeping.{tied_mappings}
use Rattle.host_calls.proofs.StateForms as state_forms
use Rattle.region_map.specs.Segments.{Segmented, backing_of}
use Rattle.wasm_interp.specs.declared.machine.Machine.{Machine}
use Rattle.faaslet_run.specs.Allowed.{AreGrants}
use Rattle.faaslet_run.specs.Counted.{counted, counted_on, channels_asked, channels_of}
use Rattle.faaslet_run.specs.Hosts.{IsAmidst, StandsHost, AtHost, HasCome, HasReply, StateHasCome}
use Rattle.faaslet_run.specs.Places.{shape, here_of, state_here_of, CallWaits, StateWaits, IsCalled, Waits, WorkIs, StandsAt}
use Rattle.faaslet_run.specs.Turns.{SameRoom}
use Rattle.faaslet_run.specs.declared.faaslet.Called.{Called}
use Rattle.faaslet_run.specs.declared.faaslet.Faaslet.{Faaslet}
use Rattle.faaslet_run.specs.declared.faaslet.Work.{Work}
use Rattle.faaslet_run.specs.declared.faaslet.Work.TheVariants as works
use Rattle.faaslet_run.proofs.Counting.{counted_long, counted_next}
use Rattle.faaslet_run.proofs.Placing.{step_stands}

-- ---- What is known of itself.

pub knows : (f : Faaslet) (j : Invocation) (start : State) (t : Transcript) (s : State) (h : HostCall) (a : AtHost f j start t s h) (callees len output room : ℕ) → callees ≡ length a.amidst.called.called.callees.now → len ≡ a.amidst.called.called.len → output ≡ length f.output → room ≡ a.amidst.called.called.room → Knows j s f.known (record { callees = callees; input = len; output = output; room = room })
knows f j start t s h a callees len output room c l o r =
    let k = a.amidst.called in
    record {
      children = a.at.keeps.children;
      callees = ap length (sym k.callees) ∙ sym c;
      input = k.long ∙ sym l;
      output = ap length a.at.keeps.output_is ∙ sym o;
      room = sym k.room ∙ sym r;
    }

pub own : (f : Faaslet) (j : Invocation) (given : ℕ) (s : State) (h : HostCall) → StandsHost f j given s h → IsOf (here_of f) s
own f j given s h a = record { memory = a.memory; children = a.keeps.children }

pub state_own : (f : Faaslet) (j : Invocation) (given : ℕ) (s : State) (h : HostCall) → StandsHost f j given s h → on_state.IsOf (state_here_of f) s
state_own f j given s h a = record { memory = a.memory; keeps = a.keeps.keys_are }

-- ---- A step.

-- what the code has after a step, where the definition came to this
pub has_come : (f : Faaslet) (j : Invocation) (start : State) (t : Transcript) (s : State) (h : HostCall) (p : Progress) (old new : CallStage) (told : CallStep) (known : List (Option ℕ)) (machine : Machine Segmented) → IsAmidst f j start t p → StandsHost f j start.config.fuel s h → gives_result old ≡ has_result h → machine ≡ record f.machine { memory = machine.memory; aside = machine.aside; scratch = machine.scratch } → GivesSo (gives_result old) told new → Comes j s p told new (here_in shape machine known) → (let x : Faaslet = record f { known = known; machine = machine } in HasCome x j start t p told new)
has_come f j start t s h p old new told known machine a at gives only g comes = record {
  amidst = record { formed = a.formed; way = a.way; called = a.called; counts = a.counts };
  state = s;
  host = h;
  stands = record { code = at.stands.code; program_is = at.stands.program_is; stands = step_stands f.machine machine at.stands.code j.program.grants start.config.fuel s.config h only at.stands.stands };
  keys = at.keeps.keys_are;
  output = at.keeps.output_is;
  comes = comes;
  gives = subst (λ b. GivesSo b told new) gives g;
}

pub state_come : (f : Faaslet) (j : Invocation) (start : State) (t : Transcript) (s : State) (h : HostCall) (p : Progress) (old new : StateStage) (told : StateStep) (keys : Known) (machine : Machine Segmented) → IsAmidst f j start t p → StandsHost f j start.config.fuel s h → on_state.gives_result old ≡ has_result h → machine ≡ record f.machine { memory = machine.memory; aside = machine.aside; scratch = machine.scratch } → on_state.GivesSo (on_state.gives_result old) told new → on_state.Comes j s p told new (on_state.here shape machine keys) → (let x : Faaslet = record f { keys = keys; machine = machine } in StateHasCome x j start t p told new)
state_come f j start t s h p old new told keys machine a at gives only g comes = record {
  amidst = record { formed = a.formed; way = a.way; called = a.called; counts = a.counts };
  state = s;
  host = h;
  stands = record { code = at.stands.code; program_is = at.stands.program_is; stands = step_stands f.machine machine at.stands.code j.program.grants start.config.fuel s.config h only at.stands.stands };
  children = at.keeps.children;
  output = at.keeps.output_is;
  comes = comes;
  gives = subst (λ b. on_state.GivesSo b told new) gives g;
}

-- as many replicas are mapped as the call keeps
pub tied_keys : (f : Faaslet) (j : Invocation) (start : State) (t : Transcript) (s : State) (h : HostCall) → AtHost f j start t s h → f.keys.mappings ≡ mappings f.machine.memory.memory
tied_keys f j start t s h a = a.at.keeps.keys_are.mappings ∙ tied_mappings s.config.memory s.mapped a.tied ∙ ap mappings a.at.memory

-- ---- Where it waits.

same_state : (s t : State) (q p : Question) → asks s q ≡ asks t p → t ≡ s
same_state s t q p e = cc

same_question : (s t : State) (q p : Question) → asks s q ≡ asks t p → p ≡ q
same_question s t q p e = cc

-- a reply that fits is one entry more of the way
pub way_on : {j : Invocation} {start : State} {t : Transcript} (s : State) (q : Question) (r : Answer) → Goes j (runs start) t (asks s q) → IsTrue (fits s q r) → Goes j (runs start) (t ++ (q, r) ∷ []) (replied j s r)
way_on s q r g fit = joined g (answered fit here)

-- other counts change nothing of what stands at a question
counted_work : (f : Faaslet) (j : Invocation) (given : ℕ) (x : Work) (s : State) (counts : List ℕ) → WorkIs x f j given s → (let y : Faaslet = record f { counts = counts } in WorkIs x y j given s)
counted_work f j given (works.Call call) s counts w = record { host = w.host; stands = w.stands; memory = w.memory; amid = w.amid; channel = w.channel; operation = w.operation; asked = w.asked; at = w.at; gives = w.gives; keeps = w.keeps }
counted_work f j given (works.State call) s counts w = record { host = w.host; stands = w.stands; memory = w.memory; amid = w.amid; at = w.at; gives = w.gives; keeps = w.keeps }
counted_work f j given works.Piece s counts w = record { begun = w.begun; stands = w.stands; stage_is = w.stage_is; keeps = w.keeps }
counted_work f j given (works.Release place b o) s counts w = record { left = w.left; stage_is = w.stage_is; locks = w.locks; machine = w.machine; keeps = w.keeps }

module _ (f : Faaslet) (j : Invocation) (start : State) (t : Transcript) (s : State) (q : Question) (r : Answer) (x : Work) (a : Ask) (reply : Reply) (at : StandsAt f j start t (asks s q)) (w : Waits f j start.config.fuel (asks s q) x a) (rep : RepliesAs q reply f.machine.scratch r) (fit : IsTrue (fits s q r)) where
  own_work : (counts : List ℕ) → (let y : Faaslet = record f { counts = counts } in WorkIs x y j start.config.fuel s)
  own_work counts = subst (λ (z : State). (let y : Faaslet = record f { counts = counts } in WorkIs x y j start.config.fuel z)) (same_state s w.state q w.question w.is) (counted_work f j start.config.fuel x w.state counts w.work)

  -- the counts after the reply
  pub reply_counted : (counts : List ℕ) → counts ≡ counted_on j.program.grants a reply f.counts → counts ≡ counted j.program.grants (t ++ (q, r) ∷ [])
  reply_counted counts e =
      counted_next j.program.grants t q a reply r f.machine.scratch f.counts counts at.called.allowed.differ (subst (λ (p : Question). channels_asked p ≡ channels_of a) (same_question s w.state q w.question w.is) w.kind) rep (and_parts _ _ fit).0 at.counts e

  pub has_reply : (counts : List ℕ) → counts ≡ counted_on j.program.grants a reply f.counts → (let y : Faaslet = record f { counts = counts } in HasReply y j start (t ++ (q, r) ∷ []) s q r x reply)
  has_reply counts e = record {
    amidst = record { formed = at.formed; way = way_on s q r at.way fit; called = at.called; counts = reply_counted counts e };
    was = stays_formed j start (asks s q) at.formed at.way;
    work = own_work counts;
    asked = question_known j start s q at.formed at.way;
    replies = rep;
    fit = fit;
  }

-- ---- What a reply to a host call belongs to.

module _ (f : Faaslet) (j : Invocation) (start : State) (t : Transcript) (s : State) (q : Question) (r : Answer) (call : CallStage) (reply : Reply) (w : CallWaits f j start.config.fuel s call) (asked : question_at j s ≡ Some q) (rep : RepliesAs q reply f.machine.scratch r) (fit : IsTrue (fits s q r)) where
  pub call_belongs : Belongs call f.known reply
  call_belongs = belongs call (here_of f) j s q reply r w.amid.stage_is w.amid.allowed w.keeps.children w.at asked fit rep

  pub call_reply : reply_of reply f.machine.scratch ≡ Some r
  call_reply = subst (λ (p : Question). RepliesAs p reply f.machine.scratch r) (same_Some _ _ (sym asked ∙ w.asked)) rep

module _ (f : Faaslet) (j : Invocation) (start : State) (t : Transcript) (s : State) (q : Question) (r : Answer) (call : StateStage) (reply : Reply) (w : StateWaits f j start.config.fuel s call) (asked : question_at j s ≡ Some q) (rep : RepliesAs q reply f.machine.scratch r) (fit : IsTrue (fits s q r)) where
  pub state_belongs : on_state.Belongs call reply
  state_belongs = state_forms.belongs call (state_here_of f) j s q reply r w.amid w.at asked rep (and_parts _ _ fit).0

pub call_stands : (f : Faaslet) (j : Invocation) (given : ℕ) (s : State) (call : CallStage) → (w : CallWaits f j given s call) → StandsHost f j given s w.host
call_stands f j given s call w = record { stands = w.stands; memory = w.memory; keeps = w.keeps }

pub state_stands : (f : Faaslet) (j : Invocation) (given : ℕ) (s : State) (call : StateStage) → (w : StateWaits f j given s call) → StandsHost f j given s w.host
state_stands f j given s call w = record { stands = w.stands; memory = w.memory; keeps = w.keeps }

-- ---- What it was started with.

pub same_called : (kept : Option Called) (bytes : List ℕ) (j : Invocation) (x : Called) → (k : IsCalled kept bytes j) → kept ≡ Some x → k.called ≡ x
same_called kept bytes j x k e = same_Some _ _ (sym k.is_called ∙ e)

pub own_grants : (kept : Option Called) (bytes : List ℕ) (j : Invocation) (x : Called) → IsCalled kept bytes j → kept ≡ Some x → j.program.grants ≡ x.grants.now
own_grants kept bytes j x k e = sym k.grants ∙ ap (λ (y : Called). y.grants.now) (same_called kept bytes j x k e)

pub own_allowed : (kept : Option Called) (bytes : List ℕ) (j : Invocation) (x : Called) → IsCalled kept bytes j → kept ≡ Some x → AreGrants x.grants.now
own_allowed kept bytes j x k e = subst (λ (gs : List Grant). AreGrants gs) (own_grants kept bytes j x k e) k.allowed

-- grants are on different keys
pub keys_differ : (kept : Option Called) (bytes : List ℕ) (j : Invocation) → IsCalled kept bytes j → KeysDiffer j
keys_differ kept bytes j k = k.allowed.differ

-- one number for each channel
pub counts_long : (f : Faaslet) (j : Invocation) (start : State) (t : Transcript) (p : Progress) (x : Called) → StandsAt f j start t p → f.called ≡ Some x → length f.counts ≡ 2 * length x.grants.now + 1
counts_long f j start t p x a e = ap length a.counts ∙ counted_long j.program.grants t ∙ ap (λ (gs : List Grant). 2 * length gs + 1) (own_grants f.called f.input j x a.called e)

pub own_input : (kept : Option Called) (bytes : List ℕ) (j : Invocation) (x : Called) → IsCalled kept bytes j → kept ≡ Some x → j.input ≡ take x.len bytes
own_input kept bytes j x k e = sym k.input ∙ ap (λ (y : Called). take y.len bytes) (same_called kept bytes j x k e)

pub own_len : (kept : Option Called) (bytes : List ℕ) (j : Invocation) (x : Called) → IsCalled kept bytes j → kept ≡ Some x → x.len ≤ 65536
own_len kept bytes j x k e = subst (λ (y : Called). y.len ≤ 65536) (same_called kept bytes j x k e) k.few_bytes

pub own_callees : (kept : Option Called) (bytes : List ℕ) (j : Invocation) (x : Called) → IsCalled kept bytes j → kept ≡ Some x → length x.callees.now ≤ 256
own_callees kept bytes j x k e = subst (λ (y : Called). length y.callees.now ≤ 256) (same_called kept bytes j x k e) (subst (λ (xs : List ℕ). length xs ≤ 256) (sym k.callees) k.few_callees)

pub was_called : (kept : Option Called) (bytes : List ℕ) (j : Invocation) → IsCalled kept bytes j → kept ≡ None → ⊥
was_called kept bytes j k e = let is = k.is_called in cc

-- what it knows of itself, by what it was started with
pub knows_by : (f : Faaslet) (j : Invocation) (start : State) (t : Transcript) (s : State) (h : HostCall) (a : AtHost f j start t s h) (x : Called) (output : ℕ) → f.called ≡ Some x → output ≡ length f.output → Knows j s f.known (record { callees = length x.callees.now; input = x.len; output = output; room = x.room })
knows_by f j start t s h a x output e o =
    let same = sym (same_called f.called f.input j x a.amidst.called e) in
    knows f j start t s h a (length x.callees.now) x.len output x.room (ap (λ (y : Called). length y.callees.now) same) (ap (λ (y : Called). y.len) same) o (ap (λ (y : Called). y.room) same)

-- a step leaves how much room there is
pub step_rooms : (f : Faaslet) (known : List (Option ℕ)) (machine : Machine Segmented) → machine ≡ record f.machine { memory = machine.memory; aside = machine.aside; scratch = machine.scratch } → backing_of machine.memory ≡ backing_of f.machine.memory → (let new : Faaslet = record f { known = known; machine = machine } in SameRoom f new)
step_rooms f known machine only behind = record {
  globals = ap (λ (m : Machine Segmented). m.thread.globals.room) only;
  table = ap (λ (m : Machine Segmented). m.thread.table.room) only;
  pages = ap (λ (b : Backing). b.room) behind;
}

pub state_rooms : (f : Faaslet) (keys : Known) (machine : Machine Segmented) → machine ≡ record f.machine { memory = machine.memory; aside = machine.aside; scratch = machine.scratch } → backing_of machine.memory ≡ backing_of f.machine.memory → (let new : Faaslet = record f { keys = keys; machine = machine } in SameRoom f new)
state_rooms f keys machine only behind = record {
  globals = ap (λ (m : Machine Segmented). m.thread.globals.room) only;
  table = ap (λ (m : Machine Segmented). m.thread.table.room) only;
  pages = ap (λ (b : Backing). b.room) behind;
}
