-- A host call on calls goes on after a reply, and begins.
use Rattle.std.proofs.Common.{◌≡◌, ℕ, ◌+◌, ◌-◌, ◌≤◌, List, [], ◌∷◌, Option, Some, None, length, take, drop, refl, ap, arith, ◌∙◌, sym, subst}
use Rattle.std.specs.Prelude.{Bool, true, false, IsTrue, if◌then◌else◌, option_map, slice_range, slice_set}
use Rattle.std.proofs.lemmas.List.{length-take-le, take-take, drop-take}
use Rattle.std.proofs.lemmas.Option.{same_Some}
use Rattle.faaslet_meaning.specs.declared.ask.Reply.{Reply}
use Rattle.faaslet_meaning.specs.declared.ask.Reply.TheVariants as reply
use Rattle.faaslet_meaning.specs.declared.outcome.Outcome.{Outcome}
use Rattle.faaslet_meaning.specs.declared.ask.Ask.TheVariants as an_ask
use Rattle.faaslet_meaning.specs.declared.grant.Channel.TheVariants.{Table}
use Rattle.faaslet_meaning.specs.declared.grant.Grant.{Grant}
use Rattle.faaslet_meaning.specs.declared.grant.Mode.{Mode}
use Rattle.faaslet_meaning.specs.declared.grant.Mode.TheVariants as mode
use Rattle.faaslet_meaning.specs.declared.outcome.Trap.{Trap}
use Rattle.faaslet_meaning.specs.declared.outcome.Trap.TheVariants.{OutOfBounds, Denied}
use Rattle.faaslet_meaning.specs.Memory.{Memory, IsMemory, over, writing, lies_in, shared_pieces}
use Rattle.faaslet_meaning.specs.MemoryRules.{all_granted}
use Rattle.host_calls.specs.Reads.{buffer_trap}
use Rattle.faaslet_meaning.specs.HostCalls.{HostCall}
use Rattle.faaslet_meaning.specs.Channels.{Operation, Reply as Answer}
use Rattle.faaslet_meaning.specs.CallState.{Invocation, Act, passing, State, Work, Stage, calling}
use Rattle.faaslet_meaning.specs.Serve.{Served, Carried, go_on, passed}
use Rattle.faaslet_meaning.specs.Call.{served, serve, replied, reply_at}
use Rattle.faaslet_meaning.specs.Asks.{reply_of}
use Rattle.wasm_interp.specs.declared.machine.Machine.{Machine}
use Rattle.host_calls.specs.declared.span.Span.{Span}
use Rattle.host_calls.specs.declared.call_call.CallStage.{CallStage}
use Rattle.host_calls.specs.declared.call_call.CallStage.TheVariants as stage
use Rattle.host_calls.specs.Buffers.{IsWithin, reading_on}
use Rattle.host_calls.specs.Calls.{Here, here, IsOf, with_here, carried, acts_at, trap_at, work_of, AtPiece, AtQuestion, Belongs, IsFresh, IsFreshSpan, IsAllowed, IsBegun, IsAmid, AsksIt, sends, reads_then}
use Rattle.host_calls.proofs.Buffers.{next_few, within_further, reading_reply, writing_reply}
use Rattle.host_calls.proofs.CallSteps.{front_is, has_here, serve_goes}
use Rattle.host_calls.proofs.Passing.{reading_first, writing_first}

-- ---- what is known where it stands

pub at_sends : (t : CallStage) (m : Memory) (b : Span) → AtQuestion t m → t ≡ stage.SendsOut b → AtPiece m b
at_sends t m b h e = subst (λ x. AtQuestion x m) e h

pub at_writes : (t : CallStage) (m : Memory) (b : Span) → AtQuestion t m → t ≡ stage.Writes b → AtPiece m b
at_writes t m b h e = subst (λ x. AtQuestion x m) e h

pub at_chains : (t : CallStage) (m : Memory) (f : ℕ) (b : Span) → AtQuestion t m → t ≡ stage.Chains f b → AtPiece m b
at_chains t m f b h e = subst (λ x. AtQuestion x m) e h

pub at_looks : (t : CallStage) (m : Memory) (c off : ℕ) (b : Span) → AtQuestion t m → t ≡ stage.Looks c off b → IsFreshSpan b × IsWithin m b
at_looks t m c off b h e = subst (λ x. AtQuestion x m) e h

pub writes_bytes : (t : CallStage) (cs : List (Option ℕ)) (r : Reply) (b : Span) (n : ℕ) → Belongs t cs r → t ≡ stage.Writes b → r ≡ reply.Bytes n → n ≡ b.next
writes_bytes t cs r b n h e f = subst (λ x. Belongs (stage.Writes b) cs x) f (subst (λ x. Belongs x cs r) e h)

pub chains_bytes : (t : CallStage) (cs : List (Option ℕ)) (r : Reply) (k : ℕ) (b : Span) (n : ℕ) → Belongs t cs r → t ≡ stage.Chains k b → r ≡ reply.Bytes n → n ≡ b.next
chains_bytes t cs r k b n h e f = subst (λ x. Belongs (stage.Chains k b) cs x) f (subst (λ x. Belongs x cs r) e h)

pub looks_finished : (t : CallStage) (cs : List (Option ℕ)) (r : Reply) (c off : ℕ) (b : Span) (o : Outcome) (n : ℕ) → Belongs t cs r → t ≡ stage.Looks c off b → r ≡ reply.Finished o n → (off + b.len ≤ n) × (n ≤ 65536)
looks_finished t cs r c off b o n h e f = subst (λ x. Belongs (stage.Looks c off b) cs x) f (subst (λ x. Belongs x cs r) e h)

pub piece_room : (m : Memory) (b : Span) → AtPiece m b → b.done + b.next ≤ 65536
piece_room m b p = omega (arith, next_few m b p.piece p.at, p.within.few, p.within.most)

pub piece_passed : (m : Memory) (b c : Span) → AtPiece m b → c ≡ record b { done = b.done + b.next } → IsWithin m c
piece_passed m b c p e = subst (IsWithin m) (sym e) (within_further m b b.next p.within (next_few m b p.piece p.at))

-- ---- after a reply

pub amid : (t x : CallStage) (h : Here) (j : Invocation) (s : State) → IsAmid t h j s → t ≡ x → s.stage ≡ calling (work_of x h)
amid t x h j s a e = a.stage_is ∙ ap (λ y. calling (work_of y h)) e

-- what is waited for, and the answer
replied_at : (j : Invocation) (s : State) (h : Here) (x : Stage) (answer : Answer) → IsOf h s → s.stage ≡ x → replied j s answer ≡ reply_at j (with_here s h s.output) x answer
replied_at j s h x answer i e = ap (λ y. reply_at j s y answer) e ∙ ap (λ z. reply_at j z x answer) (has_here h s i)

bytes_answer : (n : ℕ) (scratch : List ℕ) (r : Reply) (answer : Answer) → n ≤ length scratch → r ≡ reply.Bytes n → reply_of r scratch ≡ Some answer → answer ≡ Answer.bytes (take n scratch)
bytes_answer n scratch r answer few e a =
    same_Some _ _ (sym a ∙ ap (λ x. reply_of x scratch) e ∙ ap (λ o. option_map (λ content. Answer.bytes content) o) (front_is n scratch few))

done_answer : (scratch : List ℕ) (r : Reply) (answer : Answer) → r ≡ reply.Done → reply_of r scratch ≡ Some answer → answer ≡ Answer.done
done_answer scratch r answer e a = same_Some _ _ (sym a ∙ ap (λ x. reply_of x scratch) e)

finished_answer : (o : Outcome) (n : ℕ) (scratch : List ℕ) (r : Reply) (answer : Answer) → n ≤ length scratch → r ≡ reply.Finished o n → reply_of r scratch ≡ Some answer → answer ≡ Answer.finished o (take n scratch)
finished_answer o n scratch r answer few e a =
    same_Some _ _ (sym a ∙ ap (λ x. reply_of x scratch) e ∙ ap (λ x. option_map (λ output. Answer.finished o output) x) (front_is n scratch few))

pub sends_replied : {M : Type 0} (shape : M → Memory) (a d : Machine M) (j : Invocation) (s : State) (cs : List (Option ℕ)) (t : CallStage) (r : Reply) (answer : Answer) (b c : Span) → d ≡ a → t ≡ stage.SendsOut b → r ≡ reply.Done → c ≡ record b { done = b.done + b.next } → AtPiece (shape a.memory) b → IsOf (here shape a cs) s → IsAmid t (here shape a cs) j s → reply_of r a.scratch ≡ Some answer → replied j s answer ≡ served j (sends j s (here shape d cs) c)
sends_replied {M} shape a d j s cs t r answer b c same te re ce p i m ae =
    let h = here shape a cs in
    let x = carried s h (take b.len h.aside) None in
    replied_at j s h (calling (work_of (stage.SendsOut b) h)) answer i (amid t (stage.SendsOut b) h j s m te)
    ∙ ap (λ y. reply_at j (with_here s h s.output) (calling (work_of (stage.SendsOut b) h)) y) (done_answer a.scratch r answer re ae)
    ∙ ap (λ w. served j (passed j [] (go_on j []) x w)) (writing_reply h.memory b h.aside [] p.piece p.at)
    ∙ ap (λ y. served j (sends j s h y)) (sym ce) ∙ ap (λ (z : Machine M). served j (sends j s (here shape z cs) c)) (sym same)

pub reads_replied : {M : Type 0} (shape : M → Memory) (a e d : Machine M) (acts : List Act) (j : Invocation) (s : State) (cs : List (Option ℕ)) (x : CallStage) (r : Reply) (answer : Answer) (b c : Span) (n : ℕ) → e ≡ a → d ≡ record e { aside = over e.aside b.done (take n e.scratch) } → work_of x (here shape a cs) ≡ record { acts = passing (reading_on (shape a.memory) b a.aside) ∷ acts; held = []; result = None } → r ≡ reply.Bytes n → n ≡ b.next → c ≡ record b { done = b.done + b.next } → AtPiece (shape a.memory) b → IsMemory (shape a.memory) → length a.aside ≡ 65536 → length a.scratch ≡ 65536 → IsOf (here shape a cs) s → s.stage ≡ calling (work_of x (here shape a cs)) → reply_of r a.scratch ≡ Some answer → replied j s answer ≡ served j (reads_then acts j s (here shape d cs) c)
reads_replied {M} shape a e d acts j s cs x r answer b c n same put we re ne ce p sound la ls i se ae =
    let h = here shape a cs in
    let w : Work = record { acts = passing (reading_on (shape a.memory) b a.aside) ∷ acts; held = []; result = None } in
    let bs = take n a.scratch in
    let few : n ≤ length a.scratch = omega (arith, piece_room (shape a.memory) b p) in
    let long : length bs ≡ b.next = length-take-le n a.scratch few ∙ ne in
    let di : d ≡ record a { aside = over a.aside b.done bs } = put ∙ ap (λ (z : Machine M). record z { aside = over z.aside b.done (take n z.scratch) }) same in
    replied_at j s h (calling w) answer i (se ∙ ap (λ y. calling y) we)
    ∙ ap (λ y. reply_at j (with_here s h s.output) (calling w) y) (bytes_answer n a.scratch r answer few re ae)
    ∙ ap (λ y. served j (passed j acts (go_on j acts) (carried s h [] None) y)) (reading_reply h.memory b h.aside bs p.piece p.within sound la p.at long)
    ∙ ap (λ y. served j (reads_then acts j s (here shape (record a { aside = over a.aside b.done bs }) cs) y)) (sym ce)
    ∙ ap (λ (z : Machine M). served j (reads_then acts j s (here shape z cs) c)) (sym di)

-- bytes of the output from a place on
part_of : (scratch : List ℕ) (n off len : ℕ) → off + len ≤ n → slice_range (take n scratch) off (off + len) ≡ take len (drop off scratch)
part_of scratch n off len h =
    let e : n ≡ off + (n - off) = omega arith in
    let l : off + len - off ≡ len = omega arith in
    ap (λ k. take k (drop off (take n scratch))) l ∙ ap (λ k. take len (drop off (take k scratch))) e
    ∙ ap (take len) (drop-take off (n - off) scratch) ∙ take-take len (n - off) (drop off scratch) (omega arith)

pub looks_replied : {M : Type 0} (shape : M → Memory) (a e d : Machine M) (j : Invocation) (s : State) (cs ds : List (Option ℕ)) (t : CallStage) (r : Reply) (answer : Answer) (c off : ℕ) (b : Span) (o : Outcome) (n : ℕ) → e ≡ a → d ≡ record e { aside = d.aside; scratch = d.scratch } → take b.len d.aside ≡ take b.len (drop off e.scratch) → length d.aside ≡ 65536 → length a.scratch ≡ 65536 → ds ≡ slice_set cs c (Some n) → t ≡ stage.Looks c off b → r ≡ reply.Finished o n → (off + b.len ≤ n) × (n ≤ 65536) → IsFreshSpan b → IsOf (here shape a cs) s → IsAmid t (here shape a cs) j s → reply_of r a.scratch ≡ Some answer → replied j s answer ≡ served j (sends j s (here shape d ds) b)
looks_replied {M} shape a e d j s cs ds t r answer c off b o n same only held long ls note te re few fresh i m ae =
    let h = here shape a cs in
    let w = work_of (stage.Looks c off b) h in
    let bs = take n a.scratch in
    let room : n ≤ length a.scratch = omega (arith, few.1) in
    let nb : length bs ≡ n = length-take-le n a.scratch room in
    let hd : slice_range bs off (off + b.len) ≡ take b.len d.aside = part_of a.scratch n off b.len few.0 ∙ sym (held ∙ ap (λ (z : Machine M). take b.len (drop off z.scratch)) same) in
    let h1 : Here = record { memory = shape a.memory; aside = d.aside; scratch = d.scratch; children = slice_set cs c (Some n) } in
    let Out : List ℕ → ℕ → Served = λ ys k. passed j [] (go_on j []) (record { held = ys; result = None; state = with_here s (record h1 { children = slice_set cs c (Some k) }) s.output }) (writing h.memory b.ptr (take b.len ys)) in
    let short : b.len ≤ length d.aside = omega (arith, fresh.short) in
    let X : Carried = carried s h1 (take b.len d.aside) None in
    let da : here shape d ds ≡ h1 = ap (λ (z : Machine M). here shape z ds) only ∙ ap (λ (z : Machine M). record { memory = shape z.memory; aside = d.aside; scratch = d.scratch; children = ds }) same ∙ ap (λ (ks : List (Option ℕ)). record h1 { children = ks }) note in
    replied_at j s h (calling w) answer i (amid t (stage.Looks c off b) h j s m te)
    ∙ ap (λ y. reply_at j (with_here s h s.output) (calling w) y) (finished_answer o n a.scratch r answer room re ae)
    ∙ ap (λ k. served j (Out (slice_range bs off (off + b.len)) k)) nb
    ∙ ap (λ ys. served j (Out ys n)) hd
    ∙ ap (λ y. served j (passed j [] (go_on j []) X y)) (writing_first h.memory b d.aside (take b.len d.aside) fresh.none short refl)
    ∙ ap (λ y. served j (sends j s y b)) (sym da)

-- ---- the first step

pub begun_allowed : (t x : CallStage) (j : Invocation) (s : State) (k : HostCall) (h : Here) → IsBegun t j s k → IsOf h s → t ≡ x → IsAllowed j h.children x
begun_allowed t x j s k h b i e = subst (λ y. IsAllowed j h.children y) e (subst (λ cs. IsAllowed j cs t) i.children b.allowed)

pub first_goes : (t x : CallStage) (j : Invocation) (s : State) (k : HostCall) (h : Here) (grants : List Grant) (o : Option Trap) → IsBegun t j s k → IsOf h s → j.program.grants ≡ grants → t ≡ x → o ≡ trap_at t grants h.memory → o ≡ None → serve j s k ≡ served j (go_on j (acts_at x) (carried s h [] None))
first_goes t x j s k h grants o b i g e to on =
    serve_goes t j s k b (ap (λ gs. trap_at t gs s.config.memory) g ∙ ap (λ m. trap_at t grants m) i.memory ∙ sym to ∙ on)
    ∙ ap (λ y. served j (go_on j (acts_at y) (record { held = []; result = None; state = s }))) e
    ∙ ap (λ z. served j (go_on j (acts_at x) (record { held = []; result = None; state = z }))) (has_here h s i)

pub takes_first : {M : Type 0} (shape : M → Memory) (a e d : Machine M) (j : Invocation) (s : State) (cs : List (Option ℕ)) (off : ℕ) (b : Span) (input : List ℕ) → e ≡ a → d ≡ record e { aside = d.aside } → take b.len d.aside ≡ slice_range input off (off + b.len) → length d.aside ≡ 65536 → j.input ≡ input → IsFreshSpan b → go_on j (acts_at (stage.TakesInput off b)) (carried s (here shape a cs) [] None) ≡ sends j s (here shape d cs) b
takes_first {M} shape a e d j s cs off b input same only held long is fresh =
    let h = here shape a cs in
    let h1 : Here = record h { aside = d.aside } in
    let hd : slice_range j.input off (off + b.len) ≡ take b.len d.aside = ap (λ ys. slice_range ys off (off + b.len)) is ∙ sym held in
    let short : b.len ≤ length d.aside = omega (arith, fresh.short) in
    let da : here shape d cs ≡ h1 = ap (λ (z : Machine M). here shape z cs) only ∙ ap (λ (z : Machine M). here shape (record z { aside = d.aside }) cs) same in
    ap (λ ys. passed j [] (go_on j []) (carried s h ys None) (writing h.memory b.ptr (take b.len ys))) hd
    ∙ ap (λ y. passed j [] (go_on j []) (carried s h (take b.len d.aside) None) y) (writing_first h.memory b d.aside (take b.len d.aside) fresh.none short refl)
    ∙ ap (λ y. sends j s y b) (sym da)

pub reads_first : {M : Type 0} (shape : M → Memory) (a e : Machine M) (acts : List Act) (j : Invocation) (s : State) (cs : List (Option ℕ)) (b : Span) → e ≡ a → b.done ≡ 0 → go_on j (Act.buffer_in b.ptr b.len ∷ acts) (carried s (here shape a cs) [] None) ≡ reads_then acts j s (here shape e cs) b
reads_first {M} shape a e acts j s cs b same none =
    let h = here shape a cs in
    ap (λ y. passed j acts (go_on j acts) (carried s h [] None) (record { memory = h.memory; access = y })) (sym (reading_first h.memory b h.aside none))
    ∙ ap (λ (z : Machine M). reads_then acts j s (here shape z cs) b) (sym same)

lies_so : (grants : List Grant) (m : Memory) (needs : Mode) (ptr len : ℕ) → buffer_trap grants m needs ptr len ≡ None → IsTrue (lies_in m ptr len)
lies_so grants m needs ptr len e = by (lies_in m ptr len) e
  where
    by : (b : Bool) → (if b then (if all_granted grants needs (shared_pieces m ptr len) then None else Some Denied) else Some OutOfBounds) ≡ None → b ≡ true
    by true e = refl
    by false e = absurd (cc)

pub looks_first : (t : CallStage) (j : Invocation) (s : State) (h : Here) (grants : List Grant) (o : Option Trap) (c off : ℕ) (b : Span) → o ≡ trap_at t grants h.memory → o ≡ None → t ≡ stage.Looks c off b → IsFreshSpan b → AsksIt j s (go_on j (acts_at (stage.Looks c off b)) (carried s h [] None)) (an_ask.Look c) (stage.Looks c off b) h
looks_first t j s h grants o c off b to on te fresh =
    let none : trap_at (stage.Looks c off b) grants h.memory ≡ None = sym (to ∙ ap (λ y. trap_at y grants h.memory) te) ∙ on in
    record {
      channel = Table;
      operation = Operation.look c;
      asked = refl;
      comes = refl;
      at = (fresh, record { inside = lies_so grants h.memory mode.Write b.ptr b.len none; few = fresh.short; most = omega (arith, fresh.none) });
    }

pub awaits_first : (j : Invocation) (s : State) (h : Here) (c : ℕ) → AsksIt j s (go_on j (acts_at (stage.Awaits c)) (carried s h [] None)) (an_ask.Look c) (stage.Awaits c) h
awaits_first j s h c = record { channel = Table; operation = Operation.look c; asked = refl; comes = refl; at = tt }

pub fresh_takes : (t : CallStage) (off : ℕ) (b : Span) → IsFresh t → t ≡ stage.TakesInput off b → IsFreshSpan b
fresh_takes t off b h e = subst IsFresh e h

pub fresh_writes : (t : CallStage) (b : Span) → IsFresh t → t ≡ stage.Writes b → IsFreshSpan b
fresh_writes t b h e = subst IsFresh e h

pub fresh_chains : (t : CallStage) (f : ℕ) (b : Span) → IsFresh t → t ≡ stage.Chains f b → IsFreshSpan b
fresh_chains t f b h e = subst IsFresh e h

pub fresh_looks : (t : CallStage) (c off : ℕ) (b : Span) → IsFresh t → t ≡ stage.Looks c off b → IsFreshSpan b
fresh_looks t c off b h e = subst IsFresh e h
