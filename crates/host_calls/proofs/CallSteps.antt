-- What a step of a host call on calls tells is what the definition comes to.
use Rattle.std.proofs.Common.{◌≡◌, ℕ, zero, suc, ◌+◌, ◌<◌, ◌≤◌, Bool, true, false, List, [], ◌∷◌, ◌++◌, Option, Some, None, length, take, drop, refl, ap, arith, ◌∙◌, sym, subst}
use Rattle.std.specs.Prelude.{Ok, Err, if◌then◌else◌, nat_le, option_map, slice_get, unwrap_or}
use Rattle.std.proofs.lemmas.Bool.{le-leb}
use Rattle.std.proofs.lemmas.List.{length-append, length-take-le}
use Rattle.faaslet_meaning.specs.declared.ask.Ask.{Ask}
use Rattle.faaslet_meaning.specs.declared.ask.Ask.TheVariants as an_ask
use Rattle.faaslet_meaning.specs.declared.grant.Channel.TheVariants.{Local, Table}
use Rattle.faaslet_meaning.specs.declared.grant.Grant.{Grant}
use Rattle.faaslet_meaning.specs.declared.outcome.Trap.{Trap}
use Rattle.faaslet_meaning.specs.Memory.{Memory, IsMemory, over}
use Rattle.faaslet_meaning.specs.HostCalls.{HostCall}
use Rattle.faaslet_meaning.specs.Channels.{RegionOperation, Operation, on_region, Question, ask}
use Rattle.faaslet_meaning.specs.CallState.{Invocation, Act, give_output, submit, State, calling, Progress}
use Rattle.faaslet_meaning.specs.Checks.{Check, checks, first_trap, limit_checks, memory_checks, passes, trap_of}
use Rattle.faaslet_meaning.specs.Operations.{operations}
use Rattle.faaslet_meaning.specs.Serve.{Served, waits, through, go_on, passed}
use Rattle.faaslet_meaning.specs.Call.{served, serve}
use Rattle.faaslet_meaning.specs.Asks.{front, submit_of}
use Rattle.wasm_interp.specs.declared.machine.Machine.{Machine}
use Rattle.host_calls.specs.declared.span.Span.{Span}
use Rattle.host_calls.specs.declared.span.Shared.{Shared}
use Rattle.host_calls.specs.declared.call_call.CallStage.{CallStage}
use Rattle.host_calls.specs.declared.call_call.CallStage.TheVariants as stage
use Rattle.host_calls.specs.declared.call_call.CallStep.TheVariants as step
use Rattle.host_calls.specs.Buffers.{IsWithin, AtShared, reading_on, written_on}
use Rattle.host_calls.specs.Calls.{Here, here, IsOf, with_here, carried, acts_at, trap_at, work_of, IsBegun, Shows, sends, reads_then, writes, chains}
use Rattle.host_calls.specs.Parts.{reading_ask, writing_ask}
use Rattle.host_calls.specs.Reads.{key_of}
use Rattle.host_calls.proofs.Buffers.{next_few}
use Rattle.host_calls.proofs.Loops.{brought}
use Rattle.host_calls.proofs.Passing.{reading_stands, writing_stands, reading_through, writing_through}

pub front_is : (len : ℕ) (scratch : List ℕ) → len ≤ length scratch → front len scratch ≡ Some (take len scratch)
front_is len scratch h =
    let e : nat_le len (length scratch) ≡ true = le-leb _ _ h in
    rw e refl

-- the state has what the code has
pub has_here : (h : Here) (s : State) → IsOf h s → s ≡ with_here s h s.output
has_here h s i =
    ap (λ (m : Memory). record s { config = record s.config { memory = m } }) i.memory
    ∙ ap (λ (cs : List (Option ℕ)). record s { config = record s.config { memory = h.memory }; children = cs }) i.children

-- ---- a buffer out

pub sent_asks : (j : Invocation) (s : State) (h : Here) (b c : Span) (m : Memory) (scratch : List ℕ) (piece : Shared) → written_on m c h.aside ≡ written_on h.memory b h.aside → c.len ≡ b.len → IsWithin m c → AtShared m c piece → take piece.len scratch ≡ take piece.len (drop c.done h.aside) → piece.len ≤ length scratch → Shows j s (sends j s h b) (step.Ask (writing_ask (key_of j.program.grants piece.place) piece)) (stage.SendsOut c) (record h { memory = m; scratch = scratch })
sent_asks j s h b c m scratch piece same len w at bytes few =
    let x = carried s h (take b.len h.aside) None in
    let k = key_of j.program.grants piece.place in
    let bs = take piece.len (drop c.done h.aside) in
    let q : Question = ask (Local k) (on_region (RegionOperation.write piece.off bs)) in
    let h1 : Here = record h { memory = m; scratch = scratch } in
    let Waits : ℕ → Served = λ n. waits (record (with_here s h1 s.output) { stage = calling (record (work_of (stage.SendsOut c) h1) { held = take n h.aside }) }) q in
    record {
      channel = Local k;
      operation = on_region (RegionOperation.write piece.off bs);
      asked = ap (λ o. option_map (λ operation. ask (Local k) operation) (option_map (λ bytes. on_region (RegionOperation.write piece.off bytes)) o)) (front_is piece.len scratch few ∙ ap (λ (ys : List ℕ). Some ys) bytes);
      comes = ap (passed j [] (go_on j []) x) (sym same) ∙ writing_stands j [] (go_on j []) x m c h.aside piece at ∙ ap Waits (sym len);
      at = record { within = w; piece = piece; at = at };
    }

pub sent_done : (j : Invocation) (s : State) (h : Here) (b c : Span) (m : Memory) (scratch : List ℕ) → written_on m c h.aside ≡ written_on h.memory b h.aside → c.done ≡ c.len → Shows j s (sends j s h b) (step.Done None) (stage.SendsOut c) (record h { memory = m; scratch = scratch })
sent_done j s h b c m scratch same end =
    let x = carried s h (take b.len h.aside) None in
    ap (passed j [] (go_on j []) x) (sym same) ∙ writing_through j [] (go_on j []) x m c h.aside end

pub send_asks : {M : Type 0} (shape : M → Memory) (a d : Machine M) (j : Invocation) (s : State) (children : List (Option ℕ)) (b c : Span) (piece : Shared) (grants : List Grant) (told : Ask) → d ≡ record a { memory = d.memory; scratch = d.scratch } → written_on (shape d.memory) c a.aside ≡ written_on (shape a.memory) b a.aside → c.len ≡ b.len → IsWithin (shape d.memory) c → AtShared (shape d.memory) c piece → take piece.len d.scratch ≡ take piece.len (drop c.done a.aside) → length d.scratch ≡ 65536 → j.program.grants ≡ grants → told ≡ writing_ask (key_of grants piece.place) piece → Shows j s (sends j s (here shape a children) b) (step.Ask told) (stage.SendsOut c) (here shape d children)
send_asks {M} shape a d j s children b c piece grants told only same len w at bytes long has is =
    let few = next_few (shape d.memory) c piece at in
    let room : piece.len ≤ length d.scratch = omega (arith, few, at.next, w.few, w.most) in
    let r = sent_asks j s (here shape a children) b c (shape d.memory) d.scratch piece same len w at bytes room in
    let q = subst (λ (x : Ask). Shows j s (sends j s (here shape a children) b) (step.Ask x) (stage.SendsOut c) (record (here shape a children) { memory = shape d.memory; scratch = d.scratch })) (ap (λ gs. writing_ask (key_of gs piece.place) piece) has ∙ sym told_is) r in
    subst (λ (h : Here). Shows j s (sends j s (here shape a children) b) (step.Ask told) (stage.SendsOut c) h) (sym (ap (λ (z : Machine M). here shape z children) only)) q
  where
    told_is : told ≡ writing_ask (key_of grants piece.place) piece
    told_is = is

pub send_done : {M : Type 0} (shape : M → Memory) (a d : Machine M) (j : Invocation) (s : State) (children : List (Option ℕ)) (b c : Span) → d ≡ record a { memory = d.memory; scratch = d.scratch } → written_on (shape d.memory) c a.aside ≡ written_on (shape a.memory) b a.aside → c.done ≡ c.len → Shows j s (sends j s (here shape a children) b) (step.Done None) (stage.SendsOut c) (here shape d children)
send_done {M} shape a d j s children b c only same end =
    subst (λ (h : Here). Shows j s (sends j s (here shape a children) b) (step.Done None) (stage.SendsOut c) h) (sym (ap (λ (z : Machine M). here shape z children) only))
    (sent_done j s (here shape a children) b c (shape d.memory) d.scratch same end)

-- ---- a buffer in

read_comes : (acts : List Act) (j : Invocation) (s : State) (h : Here) (b c : Span) (aside scratch : List ℕ) (piece : Shared) → reading_on h.memory c aside ≡ reading_on h.memory b h.aside → AtShared h.memory c piece → reads_then acts j s h b ≡ waits (record (with_here s h s.output) { stage = calling (record { acts = Act.passing (reading_on h.memory c aside) ∷ acts; held = []; result = None }) }) (ask (Local (key_of j.program.grants piece.place)) (on_region (RegionOperation.read piece.off piece.len)))
read_comes acts j s h b c aside scratch piece same at =
    let x = carried s h [] None in
    ap (λ a. passed j acts (go_on j acts) x (record { memory = h.memory; access = a })) (sym same) ∙ reading_stands j acts (go_on j acts) x h.memory c aside piece at

pub wrote_asks : (j : Invocation) (s : State) (h : Here) (b c : Span) (aside scratch : List ℕ) (piece : Shared) → reading_on h.memory c aside ≡ reading_on h.memory b h.aside → IsWithin h.memory c → AtShared h.memory c piece → Shows j s (writes j s h b) (step.Ask (reading_ask (key_of j.program.grants piece.place) piece)) (stage.Writes c) (record h { aside = aside; scratch = scratch })
wrote_asks j s h b c aside scratch piece same w at =
    record {
      channel = Local (key_of j.program.grants piece.place);
      operation = on_region (RegionOperation.read piece.off piece.len);
      asked = refl;
      comes = read_comes (give_output ∷ []) j s h b c aside scratch piece same at;
      at = record { within = w; piece = piece; at = at };
    }

pub chain_asks : (j : Invocation) (s : State) (h : Here) (f : ℕ) (b c : Span) (aside scratch : List ℕ) (piece : Shared) → reading_on h.memory c aside ≡ reading_on h.memory b h.aside → IsWithin h.memory c → AtShared h.memory c piece → Shows j s (chains j s h f b) (step.Ask (reading_ask (key_of j.program.grants piece.place) piece)) (stage.Chains f c) (record h { aside = aside; scratch = scratch })
chain_asks j s h f b c aside scratch piece same w at =
    record {
      channel = Local (key_of j.program.grants piece.place);
      operation = on_region (RegionOperation.read piece.off piece.len);
      asked = refl;
      comes = read_comes (submit f ∷ []) j s h b c aside scratch piece same at;
      at = record { within = w; piece = piece; at = at };
    }

read_all : (acts : List Act) (j : Invocation) (s : State) (h : Here) (b c : Span) (aside : List ℕ) → reading_on h.memory c aside ≡ reading_on h.memory b h.aside → IsWithin h.memory c → IsMemory h.memory → length aside ≡ 65536 → c.done ≡ c.len → reads_then acts j s h b ≡ go_on j acts (carried s h (take c.len aside) None)
read_all acts j s h b c aside same w sound long end =
    let x = carried s h [] None in
    ap (λ a. passed j acts (go_on j acts) x (record { memory = h.memory; access = a })) (sym same) ∙ reading_through j acts (go_on j acts) x h.memory c aside w sound long end

pub wrote_done : (j : Invocation) (s : State) (h : Here) (b c : Span) (aside scratch : List ℕ) → reading_on h.memory c aside ≡ reading_on h.memory b h.aside → IsWithin h.memory c → IsMemory h.memory → length aside ≡ 65536 → c.done ≡ c.len → take c.len scratch ≡ take c.len aside → Shows j s (writes j s h b) (step.Done None) (stage.Writes c) (record h { aside = aside; scratch = scratch })
wrote_done j s h b c aside scratch same w sound long end bytes =
    read_all (give_output ∷ []) j s h b c aside same w sound long end
    ∙ ap (λ ys. through (with_here s h (s.output ++ ys)) (Ok None)) (sym bytes)

submitted : (j : Invocation) (f : ℕ) (bs : List ℕ) → f < length j.callees → submit_of (slice_get j.callees f) (Some bs) ≡ Some (ask Table (Operation.submit (unwrap_or (slice_get j.callees f) 0) bs))
submitted j f bs h = by j.callees f h
  where
    by : (xs : List ℕ) (k : ℕ) → k < length xs → submit_of (slice_get xs k) (Some bs) ≡ Some (ask Table (Operation.submit (unwrap_or (slice_get xs k) 0) bs))
    by [] k h = absurd (omega arith)
    by (x ∷ xs) zero h = refl
    by (x ∷ xs) (suc k) h = by xs k (omega arith)

pub chain_submits : (j : Invocation) (s : State) (h : Here) (f : ℕ) (b c : Span) (aside scratch : List ℕ) → reading_on h.memory c aside ≡ reading_on h.memory b h.aside → IsWithin h.memory c → IsMemory h.memory → length aside ≡ 65536 → c.done ≡ c.len → take c.len scratch ≡ take c.len aside → c.len ≤ length scratch → f < length j.callees → Shows j s (chains j s h f b) (step.Ask (an_ask.Submit f c.len)) (stage.Submits f c.len) (record h { aside = aside; scratch = scratch })
chain_submits j s h f b c aside scratch same w sound long end bytes room callee =
    let bs = take c.len aside in
    record {
      channel = Table;
      operation = Operation.submit (unwrap_or (slice_get j.callees f) 0) bs;
      asked = ap (λ o. submit_of (slice_get j.callees f) o) (front_is c.len scratch room ∙ ap (λ (ys : List ℕ). Some ys) bytes) ∙ submitted j f bs callee;
      comes = read_all (submit f ∷ []) j s h b c aside same w sound long end;
      at = w.few;
    }

-- bytes of the second buffer at the front of the scratch
pub front_bytes : (scratch aside : List ℕ) (n : ℕ) → n ≤ length aside → take n (over scratch 0 (take n (drop 0 aside))) ≡ take n aside
front_bytes scratch aside n h = brought scratch (take n aside) n (length-take-le n aside h)

pub front_room : (scratch aside : List ℕ) (n : ℕ) → n ≤ length aside → n ≤ length (over scratch 0 (take n (drop 0 aside)))
front_room scratch aside n h =
    let t = take n aside in
    let rest = drop (0 + length t) scratch in
    omega (arith, length-append (take 0 scratch) (t ++ rest), length-append t rest, length-take-le n aside h)

pub wrote_end : {M : Type 0} (shape : M → Memory) (a f d : Machine M) (j : Invocation) (s : State) (children : List (Option ℕ)) (b c : Span) → f ≡ record a { aside = f.aside } → d ≡ record f { scratch = over f.scratch 0 (take b.len (drop 0 f.aside)) } → c.len ≡ b.len → reading_on (shape a.memory) c f.aside ≡ reading_on (shape a.memory) b a.aside → IsWithin (shape a.memory) c → IsMemory (shape a.memory) → length f.aside ≡ 65536 → c.done ≡ c.len → Shows j s (writes j s (here shape a children) b) (step.Done None) (stage.Writes c) (here shape d children)
wrote_end {M} shape a f d j s children b c only bring len same w sound long end =
    let scratch = over f.scratch 0 (take b.len (drop 0 f.aside)) in
    let e : d ≡ record a { aside = f.aside; scratch = scratch } = bring ∙ ap (λ (z : Machine M). record z { scratch = scratch }) only in
    let bytes : take c.len scratch ≡ take c.len f.aside =
    ap (λ n. take n scratch) len ∙ front_bytes f.scratch f.aside b.len (omega (arith, w.few)) ∙ sym (ap (λ n. take n f.aside) len) in
    subst (λ (h : Here). Shows j s (writes j s (here shape a children) b) (step.Done None) (stage.Writes c) h) (sym (ap (λ (z : Machine M). here shape z children) e))
    (wrote_done j s (here shape a children) b c f.aside scratch same w sound long end bytes)

pub chain_end : {M : Type 0} (shape : M → Memory) (a f d : Machine M) (j : Invocation) (s : State) (children : List (Option ℕ)) (k : ℕ) (b c : Span) → f ≡ record a { aside = f.aside } → d ≡ record f { scratch = over f.scratch 0 (take b.len (drop 0 f.aside)) } → c.len ≡ b.len → reading_on (shape a.memory) c f.aside ≡ reading_on (shape a.memory) b a.aside → IsWithin (shape a.memory) c → IsMemory (shape a.memory) → length f.aside ≡ 65536 → c.done ≡ c.len → k < length j.callees → Shows j s (chains j s (here shape a children) k b) (step.Ask (an_ask.Submit k b.len)) (stage.Submits k b.len) (here shape d children)
chain_end {M} shape a f d j s children k b c only bring len same w sound long end callee =
    let scratch = over f.scratch 0 (take b.len (drop 0 f.aside)) in
    let e : d ≡ record a { aside = f.aside; scratch = scratch } = bring ∙ ap (λ (z : Machine M). record z { scratch = scratch }) only in
    let bytes : take c.len scratch ≡ take c.len f.aside =
    ap (λ n. take n scratch) len ∙ front_bytes f.scratch f.aside b.len (omega (arith, w.few)) ∙ sym (ap (λ n. take n f.aside) len) in
    let room : c.len ≤ length scratch = omega (arith, front_room f.scratch f.aside b.len (omega (arith, w.few))) in
    let h1 : Here = record (here shape a children) { aside = f.aside; scratch = scratch } in
    let r = chain_submits j s (here shape a children) k b c f.aside scratch same w sound long end bytes room callee in
    let q = subst (λ n. Shows j s (chains j s (here shape a children) k b) (step.Ask (an_ask.Submit k n)) (stage.Submits k n) h1) len r in
    subst (λ (h : Here). Shows j s (chains j s (here shape a children) k b) (step.Ask (an_ask.Submit k b.len)) (stage.Submits k b.len) h) (sym (ap (λ (z : Machine M). here shape z children) e)) q

-- ---- the first step

pub first_append : (j : Invocation) (s : State) (cs bs : List Check) → first_trap j s cs ≡ None → first_trap j s (cs ++ bs) ≡ first_trap j s bs
first_append j s [] bs e = refl
first_append j s (a ∷ cs) bs e = by (passes j s a) (first_append j s cs bs) e
  where
    by : (b : Bool) → (first_trap j s cs ≡ None → first_trap j s (cs ++ bs) ≡ first_trap j s bs) → (if b then first_trap j s cs else Some (trap_of a)) ≡ None → (if b then first_trap j s (cs ++ bs) else Some (trap_of a)) ≡ first_trap j s bs
    by true ih e = ih e
    by false ih e = absurd (cc)

pub first_is : (t : CallStage) (j : Invocation) (s : State) (h : HostCall) → IsBegun t j s h → first_trap j s (checks h) ≡ trap_at t j.program.grants s.config.memory
first_is t j s h b = first_append j s (limit_checks h) (memory_checks h) b.passed ∙ b.memory

serve_by : Invocation → State → List Act → Option Trap → Progress
serve_by j s acts None = served j (go_on j acts (record { held = []; result = None; state = s }))
serve_by j s acts (Some x) = served j (through s (Err x))

pub serve_traps : (t : CallStage) (j : Invocation) (s : State) (h : HostCall) (x : Trap) → IsBegun t j s h → trap_at t j.program.grants s.config.memory ≡ Some x → serve j s h ≡ served j (through s (Err x))
serve_traps t j s h x b e =
    ap (λ (o : Option Trap). elim o as (λ _. Progress) [ Some t ↦ served j (through s (Err t)) | None ↦ served j (go_on j (operations j s h) (record { held = []; result = None; state = s })) ]) (first_is t j s h b ∙ e)

pub serve_goes : (t : CallStage) (j : Invocation) (s : State) (h : HostCall) → IsBegun t j s h → trap_at t j.program.grants s.config.memory ≡ None → serve j s h ≡ served j (go_on j (acts_at t) (record { held = []; result = None; state = s }))
serve_goes t j s h b e =
    ap (λ (o : Option Trap). elim o as (λ _. Progress) [ Some t ↦ served j (through s (Err t)) | None ↦ served j (go_on j (operations j s h) (record { held = []; result = None; state = s })) ]) (first_is t j s h b ∙ e)
    ∙ ap (λ acts. served j (go_on j acts (record { held = []; result = None; state = s }))) b.acts
