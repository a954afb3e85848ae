-- The parts of a step of a host call on state, over a machine.
use Rattle.std.proofs.Common.{◌≡◌, ℕ, zero, suc, ◌*◌, ◌<◌, ◌≤◌, Bool, true, false, List, [], ◌∷◌, Some, None, length, take, drop, refl, ap, arith, ◌∙◌, sym, subst}
use Rattle.std.specs.Prelude.{Ok, All, IsTrue, if◌then◌else◌}
use Rattle.faaslet_meaning.specs.declared.ask.Ask.{Ask}
use Rattle.faaslet_meaning.specs.declared.grant.Grant.{Grant}
use Rattle.faaslet_meaning.specs.declared.grant.Mode.{Mode}
use Rattle.faaslet_meaning.specs.declared.grant.Mode.TheVariants as mode
use Rattle.faaslet_meaning.specs.declared.outcome.Trap.TheVariants.{OutOfBounds, Denied, MapFull}
use Rattle.faaslet_meaning.specs.Memory.{Memory, IsMemory, over, grant_limit, page_size, pages_of, with_map, may_map, mappings, key_pages, lies_in, shared_pieces}
use Rattle.faaslet_meaning.specs.MemoryRules.{all_granted}
use Rattle.faaslet_meaning.specs.CallState.{Invocation, State}
use Rattle.wasm_interp.specs.declared.machine.Machine.{Machine}
use Rattle.host_calls.specs.declared.span.Span.{Span}
use Rattle.host_calls.specs.declared.span.Shared.{Shared}
use Rattle.host_calls.specs.declared.state_act.Put.{Put}
use Rattle.host_calls.specs.declared.state_act.Put.TheVariants as put
use Rattle.host_calls.specs.declared.state_act.StateAct.{StateAct}
use Rattle.host_calls.specs.declared.state_act.StateAct.TheVariants as act
use Rattle.host_calls.specs.declared.state_call.StateStage.{StateStage}
use Rattle.host_calls.specs.declared.state_call.StateStage.TheVariants as stage
use Rattle.host_calls.specs.declared.state_call.StateStep.TheVariants as step
use Rattle.host_calls.specs.declared.state_known.Known.{Known}
use Rattle.faaslet_meaning.specs.Asks.{front}
use Rattle.host_calls.specs.Acts.{acts_of, whole_acts, carried_by, held_for, act_put, ask_of, IsShortAct}
use Rattle.host_calls.specs.Buffers.{IsWithin, AtShared, reading_on, written_on}
use Rattle.host_calls.specs.Calls.{IsFreshSpan}
use Rattle.host_calls.specs.Known.{mapped_at}
use Rattle.host_calls.specs.Parts.{reading_ask, writing_ask}
use Rattle.host_calls.specs.Reads.{key_of, size_of, buffer_trap}
use Rattle.host_calls.specs.States.{Here, here, IsOf, act_trap, IsFreshAct, IsFresh, is_map, IsShortStage, IsReady, IsAct, AsksIt, EndsIt, Shows, goes, sends, collecting}
use Rattle.host_calls.proofs.Buffers.{next_few}
use Rattle.host_calls.proofs.CallSteps.{front_is, front_bytes, front_room}
use Rattle.host_calls.proofs.StateSteps.{act_asks, map_ends, sent_asks, sent_done, collect_asks, collected}

-- ---- what is done with a key

pub carried_few : (a : StateAct) (k : ℕ) (grants : List Grant) (known : Known) (m : Memory) → IsAct a k grants known m → carried_by a ≤ 65536
carried_few act.Map k grants known m h = omega arith
carried_few (act.Read off b) k grants known m h = omega arith
carried_few (act.Write off len) k grants known m h = h.ready
carried_few (act.Push off len) k grants known m h = omega arith
carried_few (act.Pull off len) k grants known m h = omega arith
carried_few act.Used k grants known m h = omega arith
carried_few (act.Append len) k grants known m h = h.ready
carried_few (act.Lock t o) k grants known m h = omega arith
carried_few (act.Unlock t) k grants known m h = omega arith

pub act_told : {M : Type 0} (shape : M → Memory) (a d : Machine M) (j : Invocation) (s : State) (known : Known) (k : ℕ) (x : StateAct) (told : Ask) (n : ℕ) → d ≡ record a { scratch = over a.scratch 0 (take n (drop 0 a.aside)) } → n ≡ carried_by x → length a.aside ≡ 65536 → ask_of (key_of j.program.grants k) x ≡ Some told → IsOf (here shape a known) s → IsAct x k j.program.grants known (shape a.memory) → AsksIt j s (goes j s (here shape a known) (acts_of k x) x) told (stage.Acts k x) (here shape d known)
act_told {M} shape a d j s known k x told n bring ne long asked i at =
    let sc = over a.scratch 0 (take n (drop 0 a.aside)) in
    let few : n ≤ length a.aside = omega (arith, ne, long, carried_few x k j.program.grants known (shape a.memory) at) in
    let f : front (carried_by x) sc ≡ Some (held_for x a.aside) =
    ap (λ (y : ℕ). front y sc) (sym ne) ∙ front_is n sc (front_room a.scratch a.aside n few)
    ∙ ap (λ (ys : List ℕ). Some ys) (front_bytes a.scratch a.aside n few ∙ ap (λ (y : ℕ). take y a.aside) ne) in
    subst (λ (h : Here). AsksIt j s (goes j s (here shape a known) (acts_of k x) x) told (stage.Acts k x) h) (sym (ap (λ (z : Machine M). here shape z known) bring))
    (act_asks j s (here shape a known) k x sc told i asked f at)

pub act_mapped : {M : Type 0} (shape : M → Memory) (a d : Machine M) (j : Invocation) (s : State) (known new : Known) (k n : ℕ) (x : StateAct) → d ≡ record a { memory = d.memory } → new ≡ mapped_at known k n → shape d.memory ≡ with_map (shape a.memory) k (key_pages (size_of j.program.grants k)) → n ≡ pages_of (shape a.memory).segments * page_size → x ≡ act.Map → k < grant_limit → IsOf (here shape a known) s → EndsIt s (goes j s (here shape a known) (acts_of k x) x) (Ok (Some n)) (here shape d new)
act_mapped {M} shape a d j s known new k n x only knows mapped address is few i =
    let r = map_ends j s (here shape a known) k n (shape d.memory) a.scratch i few address mapped in
    let h : here shape d new ≡ record { memory = shape d.memory; aside = a.aside; scratch = a.scratch; known = mapped_at known k n } =
    ap (λ (z : Machine M). here shape z new) only ∙ ap (λ (y : Known). record { memory = shape d.memory; aside = a.aside; scratch = a.scratch; known = y }) knows in
    subst (λ (y : StateAct). EndsIt s (goes j s (here shape a known) (acts_of k y) y) (Ok (Some n)) (here shape d new)) (sym is)
    (subst (λ (y : Here). EndsIt s (goes j s (here shape a known) (acts_of k act.Map) act.Map) (Ok (Some n)) y) (sym h) r)

-- a key that was granted has a page at least
pub some_size : (grants : List Grant) (k : ℕ) → All (λ g. 1 ≤ g.size) grants → k < length grants → 1 ≤ size_of grants k
some_size [] k h l = absurd (omega (arith, l))
some_size (g ∷ gs) zero h l = h 0 g (omega arith)
some_size (g ∷ gs) (suc k) h l = some_size gs k (λ i d m. h (suc i) d (omega (arith, m))) (omega (arith, l))

-- ---- buffers

pub send_asks : {M : Type 0} (shape : M → Memory) (a d : Machine M) (j : Invocation) (s : State) (known : Known) (b c : Span) (piece : Shared) (grants : List Grant) (told : Ask) → d ≡ record a { memory = d.memory; scratch = d.scratch } → written_on (shape d.memory) c a.aside ≡ written_on (shape a.memory) b a.aside → c.len ≡ b.len → IsWithin (shape d.memory) c → AtShared (shape d.memory) c piece → take piece.len d.scratch ≡ take piece.len (drop c.done a.aside) → length d.scratch ≡ 65536 → j.program.grants ≡ grants → told ≡ writing_ask (key_of grants piece.place) piece → IsOf (here shape a known) s → Shows j s (sends j s (here shape a known) b) (step.Ask told) (stage.Sends c) (here shape d known)
send_asks {M} shape a d j s known b c piece grants told only same len w at bytes long has is i =
    let few = next_few (shape d.memory) c piece at in
    let room : piece.len ≤ length d.scratch = omega (arith, few, at.next, w.few, w.most) in
    let r = sent_asks j s (here shape a known) b c (shape d.memory) d.scratch piece i same len w at bytes room in
    let q = subst (λ (x : Ask). Shows j s (sends j s (here shape a known) b) (step.Ask x) (stage.Sends c) (record (here shape a known) { memory = shape d.memory; scratch = d.scratch })) (ap (λ gs. writing_ask (key_of gs piece.place) piece) has ∙ sym is) r in
    subst (λ (h : Here). Shows j s (sends j s (here shape a known) b) (step.Ask told) (stage.Sends c) h) (sym (ap (λ (z : Machine M). here shape z known) only)) q

pub send_done : {M : Type 0} (shape : M → Memory) (a d : Machine M) (j : Invocation) (s : State) (known : Known) (b c : Span) → d ≡ record a { memory = d.memory; scratch = d.scratch } → written_on (shape d.memory) c a.aside ≡ written_on (shape a.memory) b a.aside → c.done ≡ c.len → IsOf (here shape a known) s → Shows j s (sends j s (here shape a known) b) (step.Done None) (stage.Sends c) (here shape d known)
send_done {M} shape a d j s known b c only same end i =
    subst (λ (h : Here). Shows j s (sends j s (here shape a known) b) (step.Done None) (stage.Sends c) h) (sym (ap (λ (z : Machine M). here shape z known) only))
    (sent_done j s (here shape a known) b c (shape d.memory) d.scratch i same end)

pub collect_told : {M : Type 0} (shape : M → Memory) (a d : Machine M) (j : Invocation) (s : State) (known : Known) (k : ℕ) (p : Put) (b c : Span) (piece : Shared) (grants : List Grant) (told : Ask) → d ≡ record a { aside = d.aside } → reading_on (shape a.memory) c d.aside ≡ reading_on (shape a.memory) b a.aside → c.len ≡ b.len → IsWithin (shape a.memory) c → AtShared (shape a.memory) c piece → j.program.grants ≡ grants → k < length grants → told ≡ reading_ask (key_of grants piece.place) piece → IsOf (here shape a known) s → Shows j s (collecting j s (here shape a known) k p b) (step.Ask told) (stage.Collects k p c) (here shape d known)
collect_told {M} shape a d j s known k p b c piece grants told only same len w at has l is i =
    let r = collect_asks j s (here shape a known) k p b c d.aside piece i (omega (arith, l, ap length has)) same len w at in
    let q = subst (λ (x : Ask). Shows j s (collecting j s (here shape a known) k p b) (step.Ask x) (stage.Collects k p c) (record (here shape a known) { aside = d.aside })) (ap (λ gs. reading_ask (key_of gs piece.place) piece) has ∙ sym is) r in
    subst (λ (h : Here). Shows j s (collecting j s (here shape a known) k p b) (step.Ask told) (stage.Collects k p c) h) (sym (ap (λ (z : Machine M). here shape z known) only)) q

pub collect_end : {M : Type 0} (shape : M → Memory) (a d : Machine M) (j : Invocation) (s : State) (known : Known) (k : ℕ) (p : Put) (b c : Span) → d ≡ record a { aside = d.aside } → reading_on (shape a.memory) c d.aside ≡ reading_on (shape a.memory) b a.aside → c.len ≡ b.len → IsWithin (shape a.memory) c → IsMemory (shape a.memory) → length d.aside ≡ 65536 → c.done ≡ c.len → IsOf (here shape a known) s → collecting j s (here shape a known) k p b ≡ goes j s (here shape d known) (whole_acts k (act_put p b.len)) (act_put p b.len)
collect_end {M} shape a d j s known k p b c only same len w sound long end i =
    collected j s (here shape a known) k p b c d.aside i same len w sound long end
    ∙ ap (λ (h : Here). goes j s h (whole_acts k (act_put p b.len)) (act_put p b.len)) (sym (ap (λ (z : Machine M). here shape z known) only))

-- ---- the first step

lies_so : (grants : List Grant) (m : Memory) (needs : Mode) (ptr len : ℕ) → buffer_trap grants m needs ptr len ≡ None → IsTrue (lies_in m ptr len)
lies_so grants m needs ptr len e = by (lies_in m ptr len) e
  where
    by : (b : Bool) → (if b then (if all_granted grants needs (shared_pieces m ptr len) then None else Some Denied) else Some OutOfBounds) ≡ None → b ≡ true
    by true e = refl
    by false e = absurd (cc)

may_so : (b : Bool) → (if b then None else Some MapFull) ≡ None → b ≡ true
may_so true e = refl
may_so false e = absurd (cc)

pub fresh_within : (grants : List Grant) (m : Memory) (needs : Mode) (b : Span) → buffer_trap grants m needs b.ptr b.len ≡ None → IsFreshSpan b → IsWithin m b
fresh_within grants m needs b e f = record { inside = lies_so grants m needs b.ptr b.len e; few = f.short; most = omega (arith, f.none) }

-- where nothing is refused it may be done
pub ready_at : (a : StateAct) (k : ℕ) (grants : List Grant) (known : Known) (m : Memory) → All (λ g. 1 ≤ g.size) grants → k < length grants → IsFreshAct a k known → (is_map a ≡ true → known.mappings ≡ mappings m) → act_trap k a grants m ≡ None → IsAct a k grants known m
ready_at a k grants known m sizes l f w e = record { place = l; ready = by a f w e }
  where
    by : (a : StateAct) → IsFreshAct a k known → (is_map a ≡ true → known.mappings ≡ mappings m) → act_trap k a grants m ≡ None → IsReady a k grants known m
    by act.Map f w e = let tied = w refl in (f, omega (arith, f, tied), some_size grants k sizes l, may_so (may_map m (key_pages (size_of grants k))) e)
    by (act.Read off b) f w e = (f, fresh_within grants m mode.Write b e f)
    by (act.Write off len) f w e = absurd f
    by (act.Push off len) f w e = tt
    by (act.Pull off len) f w e = tt
    by act.Used f w e = tt
    by (act.Append len) f w e = absurd f
    by (act.Lock t o) f w e = f
    by (act.Unlock t) f w e = f

pub short_act : (a : StateAct) (k : ℕ) (known : Known) → IsFreshAct a k known → IsShortAct a
short_act act.Map k known f = tt
short_act (act.Read off b) k known f = f
short_act (act.Write off len) k known f = tt
short_act (act.Push off len) k known f = tt
short_act (act.Pull off len) k known f = tt
short_act act.Used k known f = tt
short_act (act.Append len) k known f = tt
short_act (act.Lock t o) k known f = tt
short_act (act.Unlock t) k known f = tt

pub short_stage : (t : StateStage) (n : ℕ) (known : Known) → IsFresh t n known → IsShortStage t
short_stage (stage.Gives x) n known f = tt
short_stage (stage.Collects k p b) n known f = f.1
short_stage (stage.Probes k a) n known f = tt
short_stage (stage.Fills k a) n known f = tt
short_stage (stage.Acts k a) n known f = short_act a k known f.1
short_stage (stage.Sends b) n known f = tt

-- nothing is held at first
pub fresh_empty : (a : StateAct) (k : ℕ) (known : Known) (aside : List ℕ) → IsFreshAct a k known → held_for a aside ≡ []
fresh_empty act.Map k known aside f = refl
fresh_empty (act.Read off b) k known aside f = refl
fresh_empty (act.Write off len) k known aside f = absurd f
fresh_empty (act.Push off len) k known aside f = refl
fresh_empty (act.Pull off len) k known aside f = refl
fresh_empty act.Used k known aside f = refl
fresh_empty (act.Append len) k known aside f = absurd f
fresh_empty (act.Lock t o) k known aside f = refl
fresh_empty (act.Unlock t) k known aside f = refl

-- bytes that were collected may be put
pub put_ready : (p : Put) (n k : ℕ) (grants : List Grant) (known : Known) (m : Memory) → k < length grants → n ≤ 65536 → IsAct (act_put p n) k grants known m
put_ready (put.At off) n k grants known m l few = record { place = l; ready = few }
put_ready put.Behind n k grants known m l few = record { place = l; ready = few }
