-- What a call asks that a grant to read doesn't allow is of a place that was granted Write: by all steps and replies.
use Rattle.std.proofs.Common.{◌≡◌, ℕ, zero, suc, ◌+◌, ◌*◌, Bool, true, false, cond, List, [], ◌∷◌, ◌++◌, Option, Some, None, Err, refl, subst, length, slice_get, slice_range, unwrap_or, take}
use Rattle.faaslet_meaning.specs.declared.grant.Channel.TheVariants.{Local, Global, Table as OnTable}
use Rattle.faaslet_meaning.specs.declared.grant.Grant.{Grant}
use Rattle.faaslet_meaning.specs.declared.grant.Mode.TheVariants.{Write}
use Rattle.faaslet_meaning.specs.declared.outcome.Outcome.{Outcome}
use Rattle.faaslet_meaning.specs.declared.outcome.Outcome.TheVariants as outcome
use Rattle.faaslet_meaning.specs.declared.outcome.Trap.{Trap}
use Rattle.faaslet_meaning.specs.Memory.{Home, private, mapped, Memory, Access, reads, writes, Written, Touch, reads_piece, writes_piece, touch_of, reading, writing, pieces, key_pages, page_size, pages_of}
use Rattle.faaslet_meaning.specs.HostCalls.{HostCall, get_state, read_state, set_state, push_state, pull_state, push_state_offset, pull_state_offset, append_state, lock_state_write, lock_global_write, chain_call, read_input, write_output, read_output}
use Rattle.faaslet_meaning.specs.Configuration.{Begun, load, store, Next, goes, ends, touches, calls, stuck}
use Rattle.faaslet_meaning.specs.Step.{step, finished}
use Rattle.faaslet_meaning.specs.MemoryRules.{resumed, includes}
use Rattle.faaslet_meaning.specs.Channels.{RegionOperation, Operation, on_region, Reply, Question, ask, fills, pulls, pushes}
use Rattle.faaslet_meaning.specs.CallState.{Invocation, Tier, local, global, Lock, Act, presence, fill, buffer_in, buffer_out, passing, local_read, local_write, push, pull, used, append, lock_read, lock_write, unlock, submit, await, look, take_input, give_output, gives, Stage, running, touching, calling, releasing, State, Progress, asks, lost, without_lock, address_of}
use Rattle.faaslet_meaning.specs.CallState.{map as mapping}
use Rattle.faaslet_meaning.specs.Checks.{Check, checks, first_trap, passes, key_size}
use Rattle.faaslet_meaning.specs.Operations.{operations, address_or_map}
use Rattle.faaslet_meaning.specs.Serve.{Served, waits, through, no_memory, misfit, key_at, channel, touch_question, Carried, is_present, question_of, stands, kept, with_memory, passed, mapped_at, does, go_on, After, next, instead, piece, fails, wants, unfit, after, came_after, reply_to}
use Rattle.faaslet_meaning.specs.Call.{locks_from, release, begun_touch, settled, served, serve, progress, call_step, reply_work, reply_release, reply_at, replied}
use Rattle.session_meaning.specs.Ran.{needs_write}
use Rattle.session_meaning.proofs.GrantedAsks.{HasGrant, key_of, first_passes, less_long}
use Rattle.bench_parts.proofs.Stores.{MayWrite, HomeMay, AccessMay, PiecesMay, BegunMay, NextMay, may_write, pieces_may, prefix_may, write_on_may, answered_may, resumed_may, finished_may, step_may}

-- a check passes where no check traps
nth_passes : (j : Invocation) (s : State) (cs : List Check) (n : ℕ) (c : Check) → slice_get cs n ≡ Some c → first_trap j s cs ≡ None → passes j s c ≡ true
nth_passes j s [] n c at e = let no : ⊥ = cc in absurd no
nth_passes j s (d ∷ cs) zero c at e = let same : d ≡ c = cc in subst (λ c. passes j s c ≡ true) same (first_passes j s d cs e).0
nth_passes j s (d ∷ cs) (suc n) c at e = nth_passes j s cs n c at (first_passes j s d cs e).1

module _ (j : Invocation) where
  abbrev gs : List Grant
  gs = j.program.grants

  -- a grant on this key is to write
  abbrev pub KeyMay : ℕ → Type 0
  KeyMay key = HasGrant j key (λ g. includes g.mode Write ≡ true)

  abbrev pub AskMay : ℕ → Operation → Type 0
  AskMay key op = needs_write op ≡ true → KeyMay key

  abbrev pub QuestionMay : Question → Type 0
  QuestionMay (ask (Local key) op) = AskMay key op
  QuestionMay (ask (Global key) op) = AskMay key op
  QuestionMay (ask OnTable op) = Unit {0}
  QuestionMay (fills key n) = Unit {0}
  QuestionMay (pulls key off len) = KeyMay key
  QuestionMay (pushes key off len) = KeyMay key

  key_may : (k : ℕ) → MayWrite gs k → KeyMay (key_at j k)
  key_may k h = (k, h.0, h.1, key_of j k h.0 h.1, h.2)

  -- ---- Acts.

  abbrev ActNeeds : Act → Type 0
  ActNeeds (local_write k off) = MayWrite gs k
  ActNeeds (push k off len) = MayWrite gs k
  ActNeeds (pull k off len) = MayWrite gs k
  ActNeeds (append k) = MayWrite gs k
  ActNeeds (lock_write t k) = MayWrite gs k
  ActNeeds a = Unit {0}

  -- acts that hold whatever memory is; one that fills a buffer has to find it as it was when it was checked
  abbrev ActPlain : Act → Type 0
  ActPlain (passing a) = AccessMay gs a
  ActPlain (buffer_out ptr len) = ⊥
  ActPlain a = ActNeeds a

  abbrev Plain : List Act → Type 0
  Plain [] = Unit {0}
  Plain (a ∷ acts) = ActPlain a × Plain acts

  abbrev ActsMay : Memory → List Act → Type 0
  ActsMay m [] = Unit {0}
  ActsMay m (buffer_out ptr len ∷ acts) = PiecesMay gs (pieces m ptr len) × Plain acts
  ActsMay m (presence k ∷ acts) = ActsMay m acts
  ActsMay m (fill k ∷ acts) = ActsMay m acts
  ActsMay m (local_read k off len ∷ acts) = ActsMay m acts
  ActsMay m (take_input off len ∷ acts) = ActsMay m acts
  ActsMay m (look c off len ∷ acts) = ActsMay m acts
  ActsMay m (a ∷ acts) = ActPlain a × Plain acts

  plain_any : (m : Memory) (acts : List Act) → Plain acts → ActsMay m acts
  plain_any m [] h = tt
  plain_any m (buffer_out ptr len ∷ acts) h = absurd h.0
  plain_any m (presence k ∷ acts) h = plain_any m acts h.1
  plain_any m (fill k ∷ acts) h = plain_any m acts h.1
  plain_any m (local_read k off len ∷ acts) h = plain_any m acts h.1
  plain_any m (take_input off len ∷ acts) h = plain_any m acts h.1
  plain_any m (look c off len ∷ acts) h = plain_any m acts h.1
  plain_any m (a ∷ acts) h = h

  needs : (m : Memory) (a : Act) (acts : List Act) → ActsMay m (a ∷ acts) → ActNeeds a
  needs m (local_write k off) acts h = h.0
  needs m (push k off len) acts h = h.0
  needs m (pull k off len) acts h = h.0
  needs m (append k) acts h = h.0
  needs m (lock_write t k) acts h = h.0
  needs m a acts h = tt

  abbrev StageMay : Memory → Stage → Type 0
  StageMay m running = Unit {0}
  StageMay m (touching b) = BegunMay gs b
  StageMay m (calling w) = ActsMay m w.acts
  StageMay m (releasing ls o) = Unit {0}

  abbrev pub ProgressMay : Progress → Type 0
  ProgressMay (asks s q) = StageMay s.config.memory s.stage × QuestionMay q
  ProgressMay p = Unit {0}

  abbrev ServedMay : Served → Type 0
  ServedMay (waits s q) = StageMay s.config.memory s.stage × QuestionMay q
  ServedMay v = Unit {0}

  -- ---- Questions.

  on_tier : (t : Tier) (k : ℕ) (op : Operation) → AskMay (key_at j k) op → QuestionMay (ask (channel j t k) op)
  on_tier local k op h = h
  on_tier global k op h = h

  none_needed : (k : ℕ) (op : Operation) → needs_write op ≡ false → AskMay k op
  none_needed k op e f = let no : ⊥ = cc in absurd no

  touch_may : (a : Access) (t : Touch) → AccessMay gs a → touch_of a ≡ Some t → QuestionMay (touch_question j t)
  touch_may (reads at n [] copy) t h e = let no : ⊥ = cc in absurd no
  touch_may (reads at n (p ∷ ps) copy) t h e = by p.home e
    where
      by : (x : Home) → elim x [ private ↦ None | mapped k ↦ Some (reads_piece k p.off p.size) ] ≡ Some t → QuestionMay (touch_question j t)
      by private e = let no : ⊥ = cc in absurd no
      by (mapped k) e = let same : reads_piece k p.off p.size ≡ t = cc in subst (λ t. QuestionMay (touch_question j t)) same (none_needed (key_at j k) (on_region (RegionOperation.read p.off p.size)) refl)
  touch_may (writes [] bytes) t h e = let no : ⊥ = cc in absurd no
  touch_may (writes (p ∷ ps) bytes) t h e = by p.home h.0 e
    where
      by : (x : Home) → HomeMay gs x → elim x [ private ↦ None | mapped k ↦ Some (writes_piece k p.off (take p.size bytes)) ] ≡ Some t → QuestionMay (touch_question j t)
      by private k e = let no : ⊥ = cc in absurd no
      by (mapped i) k e = let same : writes_piece i p.off (take p.size bytes) ≡ t = cc in subst (λ t. QuestionMay (touch_question j t)) same (λ needed. key_may i k)

  asked_may : (x : Carried) (a : Act) (q : Question) → ActNeeds a → question_of j x a ≡ Some q → QuestionMay q
  asked_may x (presence k) q h e = by (is_present x.state k) e
    where
      by : (b : Bool) → cond b None (Some (ask (channel j local k) (on_region RegionOperation.probe))) ≡ Some q → QuestionMay q
      by true e = let no : ⊥ = cc in absurd no
      by false e = let same : ask (channel j local k) (on_region RegionOperation.probe) ≡ q = cc in subst QuestionMay same (none_needed (key_at j k) (on_region RegionOperation.probe) refl)
  asked_may x (fill k) q h e = let same : fills (key_at j k) (key_size j k) ≡ q = cc in subst QuestionMay same tt
  asked_may x (local_read k off len) q h e = let same : ask (channel j local k) (on_region (RegionOperation.read off len)) ≡ q = cc in subst QuestionMay same (none_needed (key_at j k) (on_region (RegionOperation.read off len)) refl)
  asked_may x (local_write k off) q h e = let same : ask (channel j local k) (on_region (RegionOperation.write off x.held)) ≡ q = cc in subst QuestionMay same (λ needed. key_may k h)
  asked_may x (push k off len) q h e = let same : pushes (key_at j k) off len ≡ q = cc in subst QuestionMay same (key_may k h)
  asked_may x (pull k off len) q h e = let same : pulls (key_at j k) off len ≡ q = cc in subst QuestionMay same (key_may k h)
  asked_may x (used k) q h e = let same : ask (channel j global k) (on_region RegionOperation.size) ≡ q = cc in subst QuestionMay same (none_needed (key_at j k) (on_region RegionOperation.size) refl)
  asked_may x (append k) q h e = let same : ask (channel j global k) (on_region (RegionOperation.append x.held)) ≡ q = cc in subst QuestionMay same (λ needed. key_may k h)
  asked_may x (lock_read t k) q h e = let same : ask (channel j t k) (on_region RegionOperation.lock_read) ≡ q = cc in subst QuestionMay same (on_tier t k (on_region RegionOperation.lock_read) (none_needed (key_at j k) (on_region RegionOperation.lock_read) refl))
  asked_may x (lock_write t k) q h e = let same : ask (channel j t k) (on_region RegionOperation.lock_write) ≡ q = cc in subst QuestionMay same (on_tier t k (on_region RegionOperation.lock_write) (λ needed. key_may k h))
  asked_may x (unlock t k) q h e = let same : ask (channel j t k) (on_region RegionOperation.unlock) ≡ q = cc in subst QuestionMay same (on_tier t k (on_region RegionOperation.unlock) (none_needed (key_at j k) (on_region RegionOperation.unlock) refl))
  asked_may x (submit f) q h e = let same : ask OnTable (Operation.submit (unwrap_or (slice_get j.callees f) 0) x.held) ≡ q = cc in subst QuestionMay same tt
  asked_may x (await c) q h e = let same : ask OnTable (Operation.look c) ≡ q = cc in subst QuestionMay same tt
  asked_may x (look c off len) q h e = let same : ask OnTable (Operation.look c) ≡ q = cc in subst QuestionMay same tt
  asked_may x a q h e = let no : ⊥ = cc in absurd no

  -- ---- How a host call goes on.

  -- its acts behind one that changes memory, and behind one that doesn't
  abbrev GoesOn : List Act → (Carried → Served) → Type 0
  GoesOn acts go = (y : Carried) → ActsMay y.state.config.memory acts → ServedMay (go y)

  passed_may : (acts : List Act) (go : Carried → Served) (x : Carried) (w : Written) → Plain acts → AccessMay gs w.access → GoesOn acts go → ServedMay (passed j acts go x w)
  passed_may acts go x w h k on = by (touch_of w.access) refl
    where
      by : (t : Option Touch) → touch_of w.access ≡ t → ServedMay (elim t [ None ↦ go (record (with_memory x w.memory) { held = kept x.held w.access }) | Some t ↦ stands (passing w.access ∷ acts) (with_memory x w.memory) (touch_question j t) ])
      by None e = on (record (with_memory x w.memory) { held = kept x.held w.access }) (plain_any w.memory acts h)
      by (Some t) e = ((k, h), touch_may w.access t k e)

  does_may : (a : Act) (acts : List Act) (go : Carried → Served) (x : Carried) → ActsMay x.state.config.memory (a ∷ acts) → GoesOn acts go → ServedMay (does j a acts go x)
  does_may (buffer_in ptr len) acts go x h on = passed_may acts go x (record { memory = x.state.config.memory; access = reading x.state.config.memory ptr len }) h.1 tt on
  does_may (buffer_out ptr len) acts go x h on =
      let m = x.state.config.memory in
      let bs = take len x.held in
      passed_may acts go x (writing m ptr bs) h.1 (write_on_may gs (pieces m ptr (length bs)) m bs (prefix_may gs m ptr (length bs) len (less_long 0 len x.held) h.0)) on
  does_may (passing a) acts go x h on = passed_may acts go x (record { memory = x.state.config.memory; access = a }) h.1 h.0 on
  does_may (mapping n) acts go x h on =
      let y = mapped_at x n (key_pages (key_size j n)) (pages_of x.state.config.memory.segments * page_size) in
      on y (plain_any y.state.config.memory acts h.1)
  does_may (take_input off len) acts go x h on = on (record x { held = slice_range j.input off (off + len) }) h
  does_may give_output acts go x h on = on (record x { state = record x.state { output = x.state.output ++ x.held } }) (plain_any x.state.config.memory acts h.1)
  does_may (gives n) acts go x h on = on (record x { result = Some n }) (plain_any x.state.config.memory acts h.1)
  does_may (presence k) acts go x h on = on x h
  does_may (fill k) acts go x h on = on x h
  does_may (local_read k off len) acts go x h on = on x h
  does_may (look c off len) acts go x h on = on x h
  does_may a acts go x h on = on x (plain_any x.state.config.memory acts h.1)

  go_on_may : (acts : List Act) (x : Carried) → ActsMay x.state.config.memory acts → ServedMay (go_on j acts x)
  go_on_may [] x h = tt
  go_on_may (a ∷ acts) x h = by (question_of j x a) refl (does_may a acts (go_on j acts) x h (go_on_may acts))
    where
      by : (o : Option Question) → question_of j x a ≡ o → ServedMay (does j a acts (go_on j acts) x) → ServedMay (elim o [ Some q ↦ stands (a ∷ acts) x q | None ↦ does j a acts (go_on j acts) x ])
      by None e k = k
      by (Some q) e k = (h, asked_may x a q (needs x.state.config.memory a acts h) e)

  -- ---- Replies.

  abbrev AfterMay : List Act → Carried → After → Type 0
  AfterMay acts x (next y) = ActsMay y.state.config.memory acts
  AfterMay acts x (instead b) = ActsMay x.state.config.memory (b ∷ acts)
  AfterMay acts x (piece w) = AccessMay gs w.access × Plain acts
  AfterMay acts x r = Unit {0}

  came_may : (acts : List Act) (x : Carried) (r : After) → AfterMay acts x r → ServedMay (came_after j acts x r)
  came_may acts x (next y) h = go_on_may acts y h
  came_may acts x (instead b) h = go_on_may (b ∷ acts) x h
  came_may acts x (piece w) h = passed_may acts (go_on j acts) x w h.1 h.0 (go_on_may acts)
  came_may acts x (fails t) h = tt
  came_may acts x wants h = tt
  came_may acts x unfit h = tt

  after_may : (a : Act) (acts : List Act) (x : Carried) (r : Reply) → ActsMay x.state.config.memory (a ∷ acts) → AfterMay acts x (after a x r)
  after_may (presence k) acts x (Reply.present true) h = h
  after_may (presence k) acts x (Reply.present false) h = h
  after_may (fill k) acts x (Reply.bytes bs) h = h
  after_may (passing a) acts x (Reply.bytes bs) h = (answered_may gs x.state.config.memory a bs h.0, h.1)
  after_may (passing a) acts x Reply.done h = (answered_may gs x.state.config.memory a [] h.0, h.1)
  after_may (local_read k off len) acts x (Reply.bytes bs) h = h
  after_may (local_write k off) acts x Reply.done h = plain_any x.state.config.memory acts h.1
  after_may (push k off len) acts x (Reply.bytes bs) h = plain_any x.state.config.memory acts h.1
  after_may (pull k off len) acts x (Reply.bytes bs) h = plain_any x.state.config.memory acts h.1
  after_may (used k) acts x (Reply.number n) h = plain_any x.state.config.memory acts h.1
  after_may (append k) acts x (Reply.number n) h = plain_any x.state.config.memory acts h.1
  after_may (append k) acts x Reply.full h = tt
  after_may (lock_read t k) acts x Reply.done h = plain_any x.state.config.memory acts h.1
  after_may (lock_write t k) acts x Reply.done h = plain_any x.state.config.memory acts h.1
  after_may (unlock t k) acts x Reply.done h = plain_any x.state.config.memory acts h.1
  after_may (submit n) acts x (Reply.child c) h = plain_any x.state.config.memory acts h.1
  after_may (submit n) acts x Reply.chain_full h = tt
  after_may (submit n) acts x Reply.want h = tt
  after_may (await c) acts x (Reply.finished o bs) h = plain_any x.state.config.memory acts h.1
  after_may (look c off len) acts x (Reply.finished o bs) h = h
  after_may a acts x r h = tt

  -- ---- Steps.

  release_may : (s : State) (o : Outcome) (ls : List Lock) → ProgressMay (release j s o ls)
  release_may s o [] = tt
  release_may s o (l ∷ ls) = (tt, on_tier l.tier l.place (on_region RegionOperation.unlock) (none_needed (key_at j l.place) (on_region RegionOperation.unlock) refl))

  begun_may : (b : Begun) (t : Touch) → BegunMay gs b → begun_touch b ≡ Some t → QuestionMay (touch_question j t)
  begun_may (load l a) t h e = touch_may a t h e
  begun_may (store a) t h e = touch_may a t h e

  settled_may : (s : State) (n : Next) → NextMay gs n → ProgressMay (settled j s n)
  settled_may s (goes c) h = tt
  settled_may s (ends c o) h = release_may (record s { config = c; stage = running }) o (locks_from (record s { config = c; stage = running }) (length j.program.grants) 0)
  settled_may s (touches c b) h = by (begun_touch b) refl
    where
      by : (t : Option Touch) → begun_touch b ≡ t → ProgressMay (elim t [ None ↦ lost | Some t ↦ asks (record s { config = c; stage = touching b }) (touch_question j t) ])
      by None e = tt
      by (Some t) e = (h, begun_may b t h e)
  settled_may s (calls c x) h = tt
  settled_may s stuck h = tt

  served_may : (v : Served) → ServedMay v → ProgressMay (served j v)
  served_may (waits s q) h = h
  served_may (through s r) h = settled_may s (finished s.config r) (finished_may gs s.config r)
  served_may (no_memory s) h = release_may s outcome.Want (locks_from s (length j.program.grants) 0)
  served_may misfit h = tt

  -- what a host call does once its checks have passed
  operations_may : (s : State) (h : HostCall) → first_trap j s (checks h) ≡ None → ActsMay s.config.memory (operations j s h)
  operations_may s (get_state k) e = by (address_of s k)
    where
      by : (o : Option ℕ) → ActsMay s.config.memory (address_or_map k o)
      by None = (tt, tt)
      by (Some a) = (tt, tt)
  operations_may s (read_state k off ptr len) e = (pieces_may gs (pieces s.config.memory ptr len) (nth_passes j s (checks (read_state k off ptr len)) 4 _ refl e), tt)
  operations_may s (set_state k off ptr len) e = (tt, (tt, (may_write gs k _ refl (nth_passes j s (checks (set_state k off ptr len)) 1 _ refl e), tt)))
  operations_may s (push_state k) e = (may_write gs k _ refl (nth_passes j s (checks (push_state k)) 1 _ refl e), tt)
  operations_may s (pull_state k) e = (may_write gs k _ refl (nth_passes j s (checks (pull_state k)) 1 _ refl e), tt)
  operations_may s (push_state_offset k off len) e = (may_write gs k _ refl (nth_passes j s (checks (push_state_offset k off len)) 1 _ refl e), tt)
  operations_may s (pull_state_offset k off len) e = (may_write gs k _ refl (nth_passes j s (checks (pull_state_offset k off len)) 1 _ refl e), tt)
  operations_may s (append_state k ptr len) e = (tt, (may_write gs k _ refl (nth_passes j s (checks (append_state k ptr len)) 1 _ refl e), tt))
  operations_may s (lock_state_write k) e = (may_write gs k _ refl (nth_passes j s (checks (lock_state_write k)) 1 _ refl e), tt)
  operations_may s (lock_global_write k) e = (may_write gs k _ refl (nth_passes j s (checks (lock_global_write k)) 1 _ refl e), tt)
  operations_may s (read_input off ptr len) e = (pieces_may gs (pieces s.config.memory ptr len) (nth_passes j s (checks (read_input off ptr len)) 2 _ refl e), tt)
  operations_may s (read_output c off ptr len) e = (pieces_may gs (pieces s.config.memory ptr len) (nth_passes j s (checks (read_output c off ptr len)) 4 _ refl e), tt)
  operations_may s (write_output ptr len) e = (tt, (tt, tt))
  operations_may s (chain_call f ptr len) e = (tt, (tt, tt))
  operations_may s h e = (tt, tt)

  serve_may : (s : State) (x : HostCall) → ProgressMay (serve j s x)
  serve_may s x = by (first_trap j s (checks x)) refl
    where
      by : (t : Option Trap) → first_trap j s (checks x) ≡ t → ProgressMay (elim t [ Some t ↦ served j (through s (Err t)) | None ↦ served j (go_on j (operations j s x) (record { held = []; result = None; state = s })) ])
      by None e = served_may (go_on j (operations j s x) (record { held = []; result = None; state = s })) (go_on_may (operations j s x) (record { held = []; result = None; state = s }) (operations_may s x e))
      by (Some t) e = served_may (through s (Err t)) tt

  progress_may : (s : State) (n : Next) → NextMay gs n → ProgressMay (progress j s n)
  progress_may s (calls c x) h = serve_may (record s { config = c }) x
  progress_may s (goes c) h = tt
  progress_may s (ends c o) h = settled_may s (ends c o) h
  progress_may s (touches c b) h = settled_may s (touches c b) h
  progress_may s stuck h = tt

  pub call_step_may : (s : State) → ProgressMay (call_step j s)
  call_step_may s = progress_may s (step j.program s.config) (step_may j.program s.config)

  work_may : (s : State) (acts : List Act) (held : List ℕ) (result : Option ℕ) (r : Reply) → ActsMay s.config.memory acts → ProgressMay (reply_work j s (record { acts = acts; held = held; result = result }) r)
  work_may s [] held result r h = tt
  work_may s (a ∷ acts) held result r h =
      let x : Carried = record { held = held; result = result; state = s } in
      served_may (reply_to j a acts x r) (came_may acts x (after a x r) (after_may a acts x r h))

  left_may : (s : State) (ls : List Lock) (o : Outcome) → ProgressMay (reply_release j s ls o)
  left_may s [] o = tt
  left_may s (l ∷ ls) o = release_may (without_lock s l) o ls

  stage_may : (s : State) (st : Stage) (r : Reply) → StageMay s.config.memory st → ProgressMay (reply_at j s st r)
  stage_may s (touching b) (Reply.bytes bs) h = settled_may s (resumed s.config b bs) (resumed_may gs s.config b bs h)
  stage_may s (touching b) Reply.done h = settled_may s (resumed s.config b []) (resumed_may gs s.config b [] h)
  stage_may s (calling w) r h = work_may s w.acts w.held w.result r h
  stage_may s (releasing ls o) Reply.done h = left_may s ls o
  stage_may s st r h = tt

  pub replied_may : (s : State) (q : Question) (r : Reply) → ProgressMay (asks s q) → ProgressMay (replied j s r)
  replied_may s q r h = stage_may s s.stage r h.0
