-- A call without grants, without functions that it may call, and so without children asks nothing, and never wants memory.
use Rattle.std.proofs.Common.{◌≡◌, ℕ, List, [], ◌∷◌, Option, Some, None, Result, Ok, Err, Bool, true, false, cond, length, refl, ap, sym, ◌∙◌, subst, arith}
use Rattle.std.specs.Prelude.{is_some, nat_lt, slice_get}
use Rattle.std.proofs.lemmas.Bool.{le-ltb}
use Rattle.faaslet_meaning.specs.declared.grant.Grant.{Grant}
use Rattle.faaslet_meaning.specs.declared.outcome.Outcome.{Outcome}
use Rattle.faaslet_meaning.specs.declared.outcome.Trap.{Trap}
use Rattle.faaslet_meaning.specs.declared.outcome.Trap.TheVariants.{StackExhausted}
use Rattle.faaslet_meaning.specs.Call.{call_step, ended, locks_from, progress, release, serve, served, settled}
use Rattle.faaslet_meaning.specs.CallState.{Act, give_output, Invocation, State, Progress, running, runs, asks, over, lost}
use Rattle.faaslet_meaning.specs.Channels.{Transcript}
use Rattle.faaslet_meaning.specs.Checks.{Check, is_key, is_callee, is_child, checks, first_trap, passes, trap_of}
use Rattle.faaslet_meaning.specs.Configuration.{Configuration, Next, goes, ends, touches, calls, stuck, values_held}
use Rattle.faaslet_meaning.specs.Goes.{Goes, here, stepped, answered}
use Rattle.faaslet_meaning.specs.HostCalls.{HostCall, state_size, state_used, get_state, read_state, set_state, push_state, pull_state, push_state_offset, pull_state_offset, append_state, lock_state_read, lock_state_write, unlock_state, lock_global_read, lock_global_write, unlock_global, input_size, read_input, write_output, chain_call, await_call, output_size, read_output}
use Rattle.faaslet_meaning.specs.Limits.{traps, value_limit, with_values}
use Rattle.faaslet_meaning.specs.Memory.{Piece, reading, reads, Access, writing}
use Rattle.faaslet_meaning.specs.Operations.{operations}
use Rattle.faaslet_meaning.specs.Serve.{Served, waits, through, no_memory, misfit, Carried, go_on, passed}
use Rattle.faaslet_meaning.specs.Step.{finished, step}
use Rattle.faaslet_meaning.proofs.Quiet.{Private}
use Rattle.faaslet_meaning.proofs.StepWalk.{IsEnd}
use Rattle.faasm_top.proofs.OwnMemory.{OwnMemory, none_shared, step_own, written_out}

-- its memory is private, and it has no children
abbrev pub IsStill : State → Type 0
IsStill s = Private s.config × (s.children ≡ [])

-- where it comes to
abbrev pub Silent : Progress → Type 0
Silent (runs s) = IsStill s
Silent (asks s q) = ⊥
Silent (over s o) = IsEnd o
Silent lost = Unit {0}

module _ (j : Invocation) (no_grants : j.program.grants ≡ []) (no_callees : j.callees ≡ []) where
  -- ---- What the machine comes to

  ended_silent : (s : State) (o : Outcome) → IsEnd o → Silent (ended j s o)
  ended_silent s o h = subst (λ (gs : List Grant). Silent (release j s o (locks_from s (length gs) 0))) (sym no_grants) h

  settled_silent : (s : State) (x : Next) → s.children ≡ [] → OwnMemory x → Silent (settled j s x)
  settled_silent s (goes c) e h = (h, e)
  settled_silent s (ends c o) e h = ended_silent (record s { config = c; stage = running }) o h.1
  settled_silent s (touches c b) e h = absurd h
  settled_silent s (calls c h) e k = tt
  settled_silent s stuck e h = tt

  -- ---- What a host call comes to

  finished_own : (c : Configuration) (r : Result (Option ℕ) Trap) → Private c → OwnMemory (finished c r)
  finished_own c (Ok None) h = h
  finished_own c (Ok (Some v)) h = by (nat_lt (values_held c) value_limit)
    where
      by : (b : Bool) → OwnMemory (cond b (goes (with_values c (v ∷ c.frame.values))) (traps c StackExhausted))
      by true = h
      by false = (h, tt)
  finished_own c (Err t) h = (h, tt)

  abbrev ServedSilent : Served → Type 0
  ServedSilent (waits s q) = ⊥
  ServedSilent (through s r) = IsStill s
  ServedSilent (no_memory s) = ⊥
  ServedSilent misfit = Unit {0}

  served_silent : (x : Served) → ServedSilent x → Silent (served j x)
  served_silent (waits s q) h = absurd h
  served_silent (through s r) h = settled_silent s (finished s.config r) h.1 (finished_own s.config r h.0)
  served_silent (no_memory s) h = absurd h
  served_silent misfit h = tt

  -- by the first check that fails, and by what is done where none does
  serve_by : (s : State) (h : HostCall) (o : Option Trap) → IsStill s → (o ≡ None → ServedSilent (go_on j (operations j s h) (record { held = []; result = None; state = s })))
      → Silent (elim o as (λ _. Progress) [ Some t ↦ served j (through s (Err t)) | None ↦ served j (go_on j (operations j s h) (record { held = []; result = None; state = s })) ])
  serve_by s h None k does = served_silent _ (does refl)
  serve_by s h (Some t) k does = served_silent (through s (Err t)) k

  -- its first check fails
  refused : (s : State) (h : HostCall) (c : Check) (cs : List Check) → checks h ≡ c ∷ cs → passes j s c ≡ false → IsStill s → Silent (serve j s h)
  refused s h c cs first fails k =
      let trap : first_trap j s (checks h) ≡ Some (trap_of c) = ap (first_trap j s) first ∙ ap (λ b. cond b (first_trap j s cs) (Some (trap_of c))) fails in
      serve_by s h (first_trap j s (checks h)) k (λ none. absurd (let clash : Some (trap_of c) ≡ None = sym trap ∙ none in cc))

  no_key : (s : State) (k : ℕ) → passes j s (is_key k) ≡ false
  no_key s k = ap (λ (gs : List Grant). is_some (slice_get gs k)) no_grants

  no_callee : (s : State) (f : ℕ) → passes j s (is_callee f) ≡ false
  no_callee s f = ap (λ (fs : List ℕ). nat_lt f (length fs)) no_callees ∙ le-ltb f 0 (omega arith)

  no_child : (s : State) (c : ℕ) → IsStill s → passes j s (is_child c) ≡ false
  no_child s c k = ap (λ (xs : List (Option ℕ)). nat_lt c (length xs)) k.1 ∙ le-ltb c 0 (omega arith)

  on_key : (s : State) (h : HostCall) (k : ℕ) (cs : List Check) → checks h ≡ is_key k ∷ cs → IsStill s → Silent (serve j s h)
  on_key s h k cs first i = refused s h (is_key k) cs first (no_key s k) i

  -- a buffer is through at once
  reads_through : (s : State) (ptr len : ℕ) (held : List ℕ) (result : Option ℕ) (acts : List Act) (go : Carried → Served) → IsStill s → ((x : Carried) → IsStill x.state → ServedSilent (go x))
      → ServedSilent (passed j acts go (record { held = held; result = result; state = s }) (record { memory = s.config.memory; access = reading s.config.memory ptr len }))
  reads_through s ptr len held result acts go k then =
      let none = none_shared s.config.memory ptr len k.0 in
      subst (λ (ps : List Piece). ServedSilent (passed j acts go (record { held = held; result = result; state = s }) (record { memory = s.config.memory; access = reads ptr len ps s.config.memory.bytes }))) (sym none) (then _ k)

  writes_through : (s : State) (ptr : ℕ) (bytes held : List ℕ) (result : Option ℕ) (acts : List Act) (go : Carried → Served) → IsStill s → ((x : Carried) → IsStill x.state → ServedSilent (go x))
      → ServedSilent (passed j acts go (record { held = held; result = result; state = s }) (writing s.config.memory ptr bytes))
  writes_through s ptr bytes held result acts go k then =
      let w = writing s.config.memory ptr bytes in
      let out = written_out s.config.memory ptr bytes k.0 in
      subst (λ (a : Access). ServedSilent (passed j acts go (record { held = held; result = result; state = s }) (record { memory = w.memory; access = a }))) (sym out.0) (then _ (out.1, k.1))

  serve_silent : (s : State) (h : HostCall) → IsStill s → Silent (serve j s h)
  serve_silent s (state_size k) i = on_key s (state_size k) k _ refl i
  serve_silent s (state_used k) i = on_key s (state_used k) k _ refl i
  serve_silent s (get_state k) i = on_key s (get_state k) k _ refl i
  serve_silent s (read_state k off ptr len) i = on_key s (read_state k off ptr len) k _ refl i
  serve_silent s (set_state k off ptr len) i = on_key s (set_state k off ptr len) k _ refl i
  serve_silent s (push_state k) i = on_key s (push_state k) k _ refl i
  serve_silent s (pull_state k) i = on_key s (pull_state k) k _ refl i
  serve_silent s (push_state_offset k off len) i = on_key s (push_state_offset k off len) k _ refl i
  serve_silent s (pull_state_offset k off len) i = on_key s (pull_state_offset k off len) k _ refl i
  serve_silent s (append_state k ptr len) i = on_key s (append_state k ptr len) k _ refl i
  serve_silent s (lock_state_read k) i = on_key s (lock_state_read k) k _ refl i
  serve_silent s (lock_state_write k) i = on_key s (lock_state_write k) k _ refl i
  serve_silent s (unlock_state k) i = on_key s (unlock_state k) k _ refl i
  serve_silent s (lock_global_read k) i = on_key s (lock_global_read k) k _ refl i
  serve_silent s (lock_global_write k) i = on_key s (lock_global_write k) k _ refl i
  serve_silent s (unlock_global k) i = on_key s (unlock_global k) k _ refl i
  serve_silent s input_size i = serve_by s input_size (first_trap j s (checks input_size)) i (λ _. i)
  serve_silent s (read_input off ptr len) i =
      serve_by s (read_input off ptr len) (first_trap j s (checks (read_input off ptr len))) i (λ _. writes_through s ptr _ _ _ [] (go_on j []) i (λ x k. k))
  serve_silent s (write_output ptr len) i =
      serve_by s (write_output ptr len) (first_trap j s (checks (write_output ptr len))) i (λ _. reads_through s ptr len _ _ (give_output ∷ []) (go_on j (give_output ∷ [])) i (λ x k. k))
  serve_silent s (chain_call f ptr len) i = refused s (chain_call f ptr len) (is_callee f) _ refl (no_callee s f) i
  serve_silent s (await_call c) i = refused s (await_call c) (is_child c) _ refl (no_child s c i) i
  serve_silent s (output_size c) i = refused s (output_size c) (is_child c) _ refl (no_child s c i) i
  serve_silent s (read_output c off ptr len) i = refused s (read_output c off ptr len) (is_child c) _ refl (no_child s c i) i

  -- ---- What the call comes to

  progress_silent : (s : State) (x : Next) → s.children ≡ [] → OwnMemory x → Silent (progress j s x)
  progress_silent s (goes c) e h = (h, e)
  progress_silent s (ends c o) e h = settled_silent s (ends c o) e h
  progress_silent s (touches c b) e h = absurd h
  progress_silent s (calls c call) e h = serve_silent (record s { config = c }) call (h, e)
  progress_silent s stuck e h = tt

  step_silent : (s : State) → IsStill s → Silent (call_step j s)
  step_silent s h = progress_silent s (step j.program s.config) h.1 (step_own j.program s.config h.0)

  -- by its own steps, without a reply
  pub stays_silent : {p y : Progress} {transcript : Transcript} → Goes j p transcript y → Silent p → Silent y
  stays_silent here h = h
  stays_silent (stepped {s = s} g) h = stays_silent g (step_silent s h)
  stays_silent (answered fit g) h = absurd h
