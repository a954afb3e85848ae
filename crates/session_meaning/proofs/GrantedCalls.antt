-- What a call keeps after any step and any reply: it asks of what it was granted alone and within its size, its output
-- stays within its room, and its children are those that it was told of.
use Rattle.std.proofs.Common.{◌≡◌, ℕ, zero, suc, ◌+◌, ◌*◌, ◌≤◌, Bool, true, false, cond, List, [], ◌∷◌, ◌++◌, Option, Some, None, Err, refl, sym, ap, ◌∙◌, length, slice_get, slice_set, slice_range, unwrap_or, subst, arith, take, drop}
use Rattle.std.proofs.lemmas.Bool.{ltb-true, leb-true}
use Rattle.std.proofs.lemmas.List.{length-append}
use Rattle.faaslet_meaning.specs.declared.grant.Channel.TheVariants.{Table as OnTable}
use Rattle.faaslet_meaning.specs.declared.grant.Mode.TheVariants.{Read, Write}
use Rattle.faaslet_meaning.specs.declared.outcome.Outcome.{Outcome}
use Rattle.faaslet_meaning.specs.declared.outcome.Outcome.TheVariants as outcome
use Rattle.faaslet_meaning.specs.declared.outcome.Trap.{Trap}
use Rattle.faaslet_meaning.specs.Memory.{Memory, Piece, Access, reads, writes, Home, private, mapped, Written, Touch, reads_piece, writes_piece, touch_of, reading, writing, write_on, pieces, answered, put, key_pages, page_size, pages_of}
use Rattle.faaslet_meaning.specs.HostCalls.{HostCall, state_size, state_used, get_state, read_state, set_state, push_state, pull_state, push_state_offset, pull_state_offset, append_state, lock_state_read, lock_state_write, unlock_state, lock_global_read, lock_global_write, unlock_global, chain_call, read_input, write_output, await_call, read_output}
use Rattle.faaslet_meaning.specs.Configuration.{Begun, load, store, Next, goes, ends, touches, calls, stuck}
use Rattle.faaslet_meaning.specs.Step.{step, finished}
use Rattle.faaslet_meaning.specs.MemoryRules.{resumed}
use Rattle.faaslet_meaning.specs.Channels.{RegionOperation, Operation, on_region, Reply, Question, ask, fills, pulls, pushes}
use Rattle.faaslet_meaning.specs.CallState.{Invocation, Tier, local, global, Lock, Act, presence, fill, buffer_in, buffer_out, passing, local_read, local_write, push, pull, used, append, lock_read, lock_write, unlock, submit, await, look, take_input, give_output, gives, Stage, running, touching, calling, releasing, State, Progress, runs, asks, over, lost, without_lock, address_of}
use Rattle.faaslet_meaning.specs.CallState.{map as mapping}
use Rattle.faaslet_meaning.specs.Checks.{has_mode, is_callee, in_room, checks, first_trap, key_size, holds}
use Rattle.faaslet_meaning.specs.Operations.{operations, address_or_map}
use Rattle.faaslet_meaning.specs.Serve.{Served, waits, through, no_memory, misfit, key_at, channel, touch_question, Carried, is_present, question_of, stands, kept, with_memory, passed, mapped_at, does, go_on, After, next, instead, piece, fails, wants, unfit, after, came_after}
use Rattle.faaslet_meaning.specs.Call.{lock_at, locks_from, release, ended, begun_touch, settled, served, serve, progress, call_step, reply_work, reply_release, reply_at, replied}
use Rattle.session_meaning.proofs.Granted.{Given, Place, HomeOk, AccessOk, WrittenOk, BegunOk, ConfigOk, NextOk, reading_ok, writing_ok, answered_ok, more_ok, step_ok, resumed_ok, finished_ok}
use Rattle.session_meaning.proofs.GrantedAsks.{given, Asked, kids_after, Within, key_of, has_grant, size_of, in_size, in_pages, held_pages, lock_asked, less_long, first_passes, whole, get_below, first_key, third_within}

module _ (j : Invocation) (fuel : ℕ) where
  abbrev g : Given
  g = given j fuel

  abbrev ActOk : Act → Type 0
  ActOk (presence k) = Place g k
  ActOk (fill k) = Place g k
  ActOk (passing a) = AccessOk g a
  ActOk (local_read k off len) = Within j k off len
  ActOk (local_write k off) = Place g k
  ActOk (push k off len) = Within j k off len
  ActOk (pull k off len) = Within j k off len
  ActOk (used k) = Place g k
  ActOk (append k) = Place g k
  ActOk (mapping k) = Place g k
  ActOk (lock_read t k) = Place g k
  ActOk (lock_write t k) = Place g k
  ActOk (unlock t k) = Place g k
  ActOk (submit f) = (n : ℕ) × (slice_get j.callees f ≡ Some n)
  ActOk a = Unit {0}

  abbrev ActsOk : List Act → Type 0
  ActsOk [] = Unit {0}
  ActsOk (a ∷ acts) = ActOk a × ActsOk acts

  -- what is held suits what is done with it: so many bytes are held, and there are so many of output
  abbrev Held : ℕ → List Act → ℕ → Type 0
  Held out [] n = Unit {0}
  Held out (local_write k off ∷ acts) n = Within j k off n × Held out acts n
  Held out (give_output ∷ acts) n = (out + n ≤ j.room) × (acts ≡ [])
  Held out (buffer_in ptr len ∷ acts) n = (m : ℕ) → m ≤ len → Held out acts m
  Held out (passing (reads at len left copy) ∷ acts) n = (m : ℕ) → m ≤ len → Held out acts m
  Held out (local_read k off len ∷ acts) n = (m : ℕ) → Held out acts m
  Held out (look c off len ∷ acts) n = (m : ℕ) → Held out acts m
  Held out (take_input off len ∷ acts) n = (m : ℕ) → Held out acts m
  Held out (a ∷ acts) n = Held out acts n

  abbrev LocksOk : List Lock → Type 0
  LocksOk [] = Unit {0}
  LocksOk (l ∷ ls) = Place g l.place × LocksOk ls

  -- an act that looks at a child asks for it
  abbrev FirstAsks : List Act → Question → Type 0
  FirstAsks (await c ∷ acts) q = q ≡ ask OnTable (Operation.look c)
  FirstAsks (look c off len ∷ acts) q = q ≡ ask OnTable (Operation.look c)
  FirstAsks acts q = Unit {0}

  abbrev WorkOk : ℕ → List Act → ℕ → Question → Type 0
  WorkOk out acts n q = ActsOk acts × Held out acts n × FirstAsks acts q

  abbrev StageOk : ℕ → Stage → Question → Type 0
  StageOk out running q = Unit {0}
  StageOk out (touching b) q = BegunOk g b
  StageOk out (calling w) q = WorkOk out w.acts (length w.held) q
  StageOk out (releasing ls o) q = LocksOk ls

  module _ (kids : List (Option ℕ)) where
    abbrev pub StateOk : State → Type 0
    StateOk s = ConfigOk g s.config × (length s.output ≤ j.room) × (s.children ≡ kids)

    abbrev pub ProgressOk : Progress → Type 0
    ProgressOk (runs s) = StateOk s
    ProgressOk (asks s q) = StateOk s × StageOk (length s.output) s.stage q × Asked j q
    ProgressOk (over s o) = StateOk s
    ProgressOk lost = Unit {0}

    abbrev ServedOk : Served → Type 0
    ServedOk (waits s q) = StateOk s × StageOk (length s.output) s.stage q × Asked j q
    ServedOk (through s r) = StateOk s
    ServedOk (no_memory s) = StateOk s
    ServedOk misfit = Unit {0}

  touch_ok : (a : Access) (t : Touch) → AccessOk g a → touch_of a ≡ Some t → Asked j (touch_question j t)
  touch_ok (reads at n [] copy) t h e = let no : ⊥ = cc in absurd no
  touch_ok (reads at n (p ∷ ps) copy) t h e = by p.home h.0 e
    where
      by : (x : Home) → HomeOk g x (p.off + p.size) → elim x [ private ↦ None | mapped k ↦ Some (reads_piece k p.off p.size) ] ≡ Some t → Asked j (touch_question j t)
      by private h e = let no : ⊥ = cc in absurd no
      by (mapped k) h e = let same : reads_piece k p.off p.size ≡ t = cc in subst (λ t. Asked j (touch_question j t)) same (held_pages j k (p.off + p.size) h)
  touch_ok (writes [] bytes) t h e = let no : ⊥ = cc in absurd no
  touch_ok (writes (p ∷ ps) bytes) t h e = by p.home h.0 e
    where
      by : (x : Home) → HomeOk g x (p.off + p.size) → elim x [ private ↦ None | mapped k ↦ Some (writes_piece k p.off (take p.size bytes)) ] ≡ Some t → Asked j (touch_question j t)
      by private h e = let no : ⊥ = cc in absurd no
      by (mapped k) h e =
          let same : writes_piece k p.off (take p.size bytes) ≡ t = cc in
          let few = less_long 0 p.size bytes in
          let l = h.2 in
          subst (λ t. Asked j (touch_question j t)) same (held_pages j k (p.off + length (take p.size bytes)) (h.0, h.1, omega (arith, l, few)))

  -- what a host call does, with nothing held
  operations_ok : (s : State) (h : HostCall) → first_trap j s (checks h) ≡ None → ActsOk (operations j s h) × Held (length s.output) (operations j s h) 0
  operations_ok s (state_used k) e = ((first_key j s k (drop 1 (checks (state_used k))) e, tt), tt)
  operations_ok s (get_state k) e = by (address_of s k) (first_key j s k (drop 1 (checks (get_state k))) e)
    where
      by : (o : Option ℕ) → Place g k → ActsOk (address_or_map k o) × Held (length s.output) (address_or_map k o) 0
      by None p = ((p, (p, tt)), tt)
      by (Some a) p = ((tt, tt), tt)
  operations_ok s (read_state k off ptr len) e =
      let p = first_key j s k (drop 1 (checks (read_state k off ptr len))) e in
      let w = third_within j s k off len (has_mode k Read) (drop 3 (checks (read_state k off ptr len))) e in
      ((p, (w, (tt, tt))), λ m. tt)
  operations_ok s (set_state k off ptr len) e =
      let p = first_key j s k (drop 1 (checks (set_state k off ptr len))) e in
      let w = third_within j s k off len (has_mode k Write) (drop 3 (checks (set_state k off ptr len))) e in
      let l = w.2 in
      ((tt, (p, (p, tt))), λ m f. ((w.0, w.1, omega (arith, l, f)), tt))
  operations_ok s (push_state k) e = let p = first_key j s k (drop 1 (checks (push_state k))) e in ((p, (whole j k p, tt)), tt)
  operations_ok s (pull_state k) e = let p = first_key j s k (drop 1 (checks (pull_state k))) e in ((p, (whole j k p, tt)), tt)
  operations_ok s (push_state_offset k off len) e =
      let p = first_key j s k (drop 1 (checks (push_state_offset k off len))) e in
      ((p, (third_within j s k off len (has_mode k Write) (drop 3 (checks (push_state_offset k off len))) e, tt)), tt)
  operations_ok s (pull_state_offset k off len) e =
      let p = first_key j s k (drop 1 (checks (pull_state_offset k off len))) e in
      ((p, (third_within j s k off len (has_mode k Write) (drop 3 (checks (pull_state_offset k off len))) e, tt)), tt)
  operations_ok s (append_state k ptr len) e = ((tt, (first_key j s k (drop 1 (checks (append_state k ptr len))) e, tt)), λ m f. tt)
  operations_ok s (lock_state_read k) e = ((first_key j s k (drop 1 (checks (lock_state_read k))) e, tt), tt)
  operations_ok s (lock_state_write k) e = ((first_key j s k (drop 1 (checks (lock_state_write k))) e, tt), tt)
  operations_ok s (unlock_state k) e = ((first_key j s k (drop 1 (checks (unlock_state k))) e, tt), tt)
  operations_ok s (lock_global_read k) e = ((first_key j s k (drop 1 (checks (lock_global_read k))) e, tt), tt)
  operations_ok s (lock_global_write k) e = ((first_key j s k (drop 1 (checks (lock_global_write k))) e, tt), tt)
  operations_ok s (unlock_global k) e = ((first_key j s k (drop 1 (checks (unlock_global k))) e, tt), tt)
  operations_ok s (chain_call f ptr len) e =
      ((tt, (get_below j.callees f (ltb-true f (length j.callees) (first_passes j s (is_callee f) (drop 1 (checks (chain_call f ptr len))) e).0), tt)), λ m l. tt)
  operations_ok s (state_size k) e = ((tt, tt), tt)
  operations_ok s (read_input off ptr len) e = ((tt, (tt, tt)), λ m. tt)
  operations_ok s (write_output ptr len) e =
      let room = leb-true (length s.output + len) j.room (first_passes j s (in_room len) (drop 1 (checks (write_output ptr len))) e).0 in
      ((tt, (tt, tt)), λ m l. (omega (arith, room, l), refl))
  operations_ok s (await_call c) e = ((tt, tt), tt)
  operations_ok s (read_output c off ptr len) e = ((tt, (tt, tt)), λ m. tt)
  operations_ok s h e = ((tt, tt), tt)

  -- ---- Acts.

  asked_ok : (acts : List Act) (x : Carried) (a : Act) (q : Question) → ActOk a → Held (length x.state.output) (a ∷ acts) (length x.held) → question_of j x a ≡ Some q → Asked j q × FirstAsks (a ∷ acts) q
  asked_ok acts x (presence k) q p h e = by (is_present x.state k) e
    where
      by : (b : Bool) → cond b None (Some (ask (channel j local k) (on_region RegionOperation.probe))) ≡ Some q → Asked j q × FirstAsks (presence k ∷ acts) q
      by true e = let no : ⊥ = cc in absurd no
      by false e = let same : ask (channel j local k) (on_region RegionOperation.probe) ≡ q = cc in (subst (Asked j) same (has_grant j k p), tt)
  asked_ok acts x (fill k) q p h e = let same : fills (key_at j k) (key_size j k) ≡ q = cc in (subst (Asked j) same (k, p.0, p.1, key_of j k p.0 p.1, size_of j k p.0 p.1), tt)
  asked_ok acts x (local_read k off len) q p h e = let same : ask (channel j local k) (on_region (RegionOperation.read off len)) ≡ q = cc in (subst (Asked j) same (in_pages j k off len p), tt)
  asked_ok acts x (local_write k off) q p h e = let same : ask (channel j local k) (on_region (RegionOperation.write off x.held)) ≡ q = cc in (subst (Asked j) same (in_pages j k off (length x.held) h.0), tt)
  asked_ok acts x (push k off len) q p h e = let same : pushes (key_at j k) off len ≡ q = cc in (subst (Asked j) same (in_size j k off len p), tt)
  asked_ok acts x (pull k off len) q p h e = let same : pulls (key_at j k) off len ≡ q = cc in (subst (Asked j) same (in_size j k off len p), tt)
  asked_ok acts x (used k) q p h e = let same : ask (channel j global k) (on_region RegionOperation.size) ≡ q = cc in (subst (Asked j) same (has_grant j k p), tt)
  asked_ok acts x (append k) q p h e = let same : ask (channel j global k) (on_region (RegionOperation.append x.held)) ≡ q = cc in (subst (Asked j) same (has_grant j k p), tt)
  asked_ok acts x (lock_read t k) q p h e = let same : ask (channel j t k) (on_region RegionOperation.lock_read) ≡ q = cc in (subst (Asked j) same (lock_asked j t k p).0, tt)
  asked_ok acts x (lock_write t k) q p h e = let same : ask (channel j t k) (on_region RegionOperation.lock_write) ≡ q = cc in (subst (Asked j) same (lock_asked j t k p).1, tt)
  asked_ok acts x (unlock t k) q p h e = let same : ask (channel j t k) (on_region RegionOperation.unlock) ≡ q = cc in (subst (Asked j) same (lock_asked j t k p).2, tt)
  asked_ok acts x (submit f) q p h e =
      let same : ask OnTable (Operation.submit (unwrap_or (slice_get j.callees f) 0) x.held) ≡ q = cc in
      (subst (Asked j) same (f, p.1 ∙ ap (λ n. Some n) (sym (ap (λ o. unwrap_or o 0) p.1))), tt)
  asked_ok acts x (await c) q p h e = let same : ask OnTable (Operation.look c) ≡ q = cc in (subst (Asked j) same tt, sym same)
  asked_ok acts x (look c off len) q p h e = let same : ask OnTable (Operation.look c) ≡ q = cc in (subst (Asked j) same tt, sym same)
  asked_ok acts x a q p h e = let no : ⊥ = cc in absurd no

  -- what a buffer holds in the end
  kept_held : (out : ℕ) (acts : List Act) (held : List ℕ) (a : Access) → Held out (passing a ∷ acts) (length held) → Held out acts (length (kept held a))
  kept_held out acts held (reads at n left copy) h = h (length (take n (drop at copy))) (less_long 0 n (drop at copy))
  kept_held out acts held (writes left bytes) h = h

  write_held : (out : ℕ) (acts : List Act) (n : ℕ) (ps : List Piece) (m : Memory) (bytes : List ℕ) → Held out acts n → Held out (passing (write_on ps m bytes).access ∷ acts) n
  write_held out acts n [] m bytes h = h
  write_held out acts n (p ∷ ps) m bytes h = by p.home (write_held out acts n ps (put m p.at (take p.size bytes)) (drop p.size bytes) h)
    where
      by : (x : Home) → Held out (passing (write_on ps (put m p.at (take p.size bytes)) (drop p.size bytes)).access ∷ acts) n → Held out (passing (elim x as (λ x. Written) [ private ↦ write_on ps (put m p.at (take p.size bytes)) (drop p.size bytes) | mapped k ↦ record { memory = m; access = writes (p ∷ ps) bytes } ]).access ∷ acts) n
      by private w = w
      by (mapped k) w = h

  answered_held : (out : ℕ) (acts : List Act) (n : ℕ) (m : Memory) (a : Access) (bytes : List ℕ) → Held out (passing a ∷ acts) n → Held out (passing (answered m a bytes).access ∷ acts) n
  answered_held out acts n m (reads at len [] copy) bytes h = h
  answered_held out acts n m (reads at len (p ∷ ps) copy) bytes h = h
  answered_held out acts n m (writes [] left) bytes h = h
  answered_held out acts n m (writes (p ∷ ps) left) bytes h = write_held out acts n ps m (drop p.size left) h

  module _ (kids : List (Option ℕ)) where
    -- how a host call goes on from here
    abbrev GoesOn : List Act → (Carried → Served) → Type 0
    GoesOn acts go = (y : Carried) → Held (length y.state.output) acts (length y.held) → StateOk kids y.state → ServedOk kids (go y)

    passed_ok : (acts : List Act) (go : Carried → Served) (x : Carried) (w : Written) → ActsOk acts → Held (length x.state.output) (passing w.access ∷ acts) (length x.held) → WrittenOk g w → StateOk kids x.state → GoesOn acts go → ServedOk kids (passed j acts go x w)
    passed_ok acts go x w h held k s on = by (touch_of w.access) refl
      where
        by : (t : Option Touch) → touch_of w.access ≡ t → ServedOk kids (elim t [ None ↦ go (record (with_memory x w.memory) { held = kept x.held w.access }) | Some t ↦ stands (passing w.access ∷ acts) (with_memory x w.memory) (touch_question j t) ])
        by None e = on (record (with_memory x w.memory) { held = kept x.held w.access }) (kept_held (length x.state.output) acts x.held w.access held) ((k.0, s.0.1), s.1, s.2)
        by (Some t) e = (((k.0, s.0.1), s.1, s.2), ((k.1, h), held, tt), touch_ok w.access t k.1 e)

    does_ok : (a : Act) (acts : List Act) (go : Carried → Served) (x : Carried) → ActOk a → ActsOk acts → Held (length x.state.output) (a ∷ acts) (length x.held) → StateOk kids x.state → question_of j x a ≡ None → GoesOn acts go → ServedOk kids (does j a acts go x)
    does_ok (buffer_in ptr len) acts go x p h held k e on = passed_ok acts go x (record { memory = x.state.config.memory; access = reading x.state.config.memory ptr len }) h held (k.0.0, reading_ok g x.state.config.memory ptr len k.0.0) k on
    does_ok (buffer_out ptr len) acts go x p h held k e on =
        passed_ok acts go x (writing x.state.config.memory ptr (take len x.held)) h (write_held (length x.state.output) acts (length x.held) (pieces x.state.config.memory ptr (length (take len x.held))) x.state.config.memory (take len x.held) held) (writing_ok g x.state.config.memory ptr (take len x.held) k.0.0) k on
    does_ok (passing a) acts go x p h held k e on = passed_ok acts go x (record { memory = x.state.config.memory; access = a }) h held (k.0.0, p) k on
    does_ok (mapping n) acts go x p h held k e on =
        let same = size_of j n p.0 p.1 in
        let fits = ap (λ size. key_pages size * page_size) same in
        on (mapped_at x n (key_pages (key_size j n)) (pages_of x.state.config.memory.segments * page_size)) held
        ((more_ok g x.state.config.memory.segments (record { home = mapped n; pages = key_pages (key_size j n) }) k.0.0 (p.0, p.1, omega (arith, fits)), k.0.1), k.1, k.2)
    does_ok (take_input off len) acts go x p h held k e on = on (record x { held = slice_range j.input off (off + len) }) (held _) k
    does_ok give_output acts go x p h held k e on =
        let long = length-append x.state.output x.held in
        let room = held.0 in
        on (record x { state = record x.state { output = x.state.output ++ x.held } }) (subst (λ l. Held (length (x.state.output ++ x.held)) l (length x.held)) (sym held.1) tt) (k.0, omega (arith, long, room), k.2)
    does_ok (gives n) acts go x p h held k e on = on (record x { result = Some n }) held k
    does_ok (presence n) acts go x p h held k e on = on x held k
    does_ok a acts go x p h held k e on = let no : ⊥ = cc in absurd no

    go_on_ok : (acts : List Act) (x : Carried) → ActsOk acts → Held (length x.state.output) acts (length x.held) → StateOk kids x.state → ServedOk kids (go_on j acts x)
    go_on_ok [] x h held k = k
    go_on_ok (a ∷ acts) x h held k = by (question_of j x a) refl (λ y n l. go_on_ok acts y h.1 n l)
      where
        by : (o : Option Question) → question_of j x a ≡ o → GoesOn acts (go_on j acts) → ServedOk kids (elim o [ Some q ↦ stands (a ∷ acts) x q | None ↦ does j a acts (go_on j acts) x ])
        by None e on = does_ok a acts (go_on j acts) x h.0 h.1 held k e on
        by (Some q) e on = let asked = asked_ok acts x a q h.0 held e in (k, (h, held, asked.1), asked.0)

    abbrev AfterOk : List Act → Carried → After → Type 0
    AfterOk acts x (next y) = StateOk kids y.state × Held (length y.state.output) acts (length y.held)
    AfterOk acts x (instead b) = ActOk b × Held (length x.state.output) (b ∷ acts) (length x.held) × StateOk kids x.state
    AfterOk acts x (piece w) = WrittenOk g w × Held (length x.state.output) (passing w.access ∷ acts) (length x.held) × StateOk kids x.state
    AfterOk acts x unfit = Unit {0}
    AfterOk acts x r = StateOk kids x.state

    came_after_ok : (acts : List Act) (x : Carried) (r : After) → ActsOk acts → AfterOk acts x r → ServedOk kids (came_after j acts x r)
    came_after_ok acts x (next y) h k = go_on_ok acts y h k.1 k.0
    came_after_ok acts x (instead b) h k = go_on_ok (b ∷ acts) x (k.0, h) k.1 k.2
    came_after_ok acts x (piece w) h k = passed_ok acts (go_on j acts) x w h k.1 k.0 k.2 (λ y n l. go_on_ok acts y h n l)
    came_after_ok acts x (fails t) h k = k
    came_after_ok acts x wants h k = k
    came_after_ok acts x unfit h k = tt

  after_ok : (kids : List (Option ℕ)) (a : Act) (acts : List Act) (x : Carried) (q : Question) (r : Reply) → ActOk a → Held (length x.state.output) (a ∷ acts) (length x.held) → FirstAsks (a ∷ acts) q → StateOk kids x.state → AfterOk (kids_after kids q r) acts x (after a x r)
  after_ok kids (presence k) acts x q (Reply.present true) p held f h = (h, held)
  after_ok kids (presence k) acts x q (Reply.present false) p held f h = (p, held, h)
  after_ok kids (fill k) acts x q (Reply.bytes bs) p held f h = (h, held)
  after_ok kids (passing a) acts x q (Reply.bytes bs) p held f h = (answered_ok g x.state.config.memory a bs h.0.0 p, answered_held (length x.state.output) acts (length x.held) x.state.config.memory a bs held, h)
  after_ok kids (passing a) acts x q Reply.done p held f h = (answered_ok g x.state.config.memory a [] h.0.0 p, answered_held (length x.state.output) acts (length x.held) x.state.config.memory a [] held, h)
  after_ok kids (local_read k off len) acts x q (Reply.bytes bs) p held f h = (h, held (length bs))
  after_ok kids (local_write k off) acts x q Reply.done p held f h = (h, held.1)
  after_ok kids (push k off len) acts x q (Reply.bytes bs) p held f h = (h, held)
  after_ok kids (pull k off len) acts x q (Reply.bytes bs) p held f h = (h, held)
  after_ok kids (used k) acts x q (Reply.number n) p held f h = (h, held)
  after_ok kids (append k) acts x q (Reply.number n) p held f h = (h, held)
  after_ok kids (append k) acts x q Reply.full p held f h = h
  after_ok kids (lock_read t k) acts x q Reply.done p held f h = (h, held)
  after_ok kids (lock_write t k) acts x q Reply.done p held f h = (h, held)
  after_ok kids (unlock t k) acts x q Reply.done p held f h = (h, held)
  after_ok kids (submit n) acts x q (Reply.child c) p held f h = ((h.0, h.1, ap (λ l. l ++ None ∷ []) h.2), held)
  after_ok kids (submit n) acts x q Reply.chain_full p held f h = h
  after_ok kids (submit n) acts x q Reply.want p held f h = h
  after_ok kids (await c) acts x q (Reply.finished o bs) p held f h =
      ((h.0, h.1, ap (λ l. slice_set l c (Some (length bs))) h.2 ∙ ap (λ q. kids_after kids q (Reply.finished o bs)) (sym f)), held)
  after_ok kids (look c off len) acts x q (Reply.finished o bs) p held f h =
      ((h.0, h.1, ap (λ l. slice_set l c (Some (length bs))) h.2 ∙ ap (λ q. kids_after kids q (Reply.finished o bs)) (sym f)), held (length (slice_range bs off (off + len))))
  after_ok kids a acts x q r p held f h = tt

  module _ (kids : List (Option ℕ)) where
    -- ---- Releases: of places of the grants alone.

    lock_at_ok : (s : State) (t : Tier) (k : ℕ) (ls : List Lock) → Place g k → LocksOk ls → LocksOk (lock_at s t k ++ ls)
    lock_at_ok s t k ls p h = by (holds s t k)
      where
        by : (b : Bool) → LocksOk (cond b (record { tier = t; place = k } ∷ []) [] ++ ls)
        by true = (p, h)
        by false = h

    locks_ok : (s : State) (n k : ℕ) → k + n ≡ length j.program.grants → LocksOk (locks_from s n k)
    locks_ok s zero k e = tt
    locks_ok s (suc n) k e =
        let p = get_below j.program.grants k (omega (arith, e)) in
        lock_at_ok s local k (lock_at s global k ++ locks_from s n (k + 1)) p (lock_at_ok s global k (locks_from s n (k + 1)) p (locks_ok s n (k + 1) (omega (arith, e))))

    release_ok : (s : State) (o : Outcome) (ls : List Lock) → StateOk kids s → LocksOk ls → ProgressOk kids (release j s o ls)
    release_ok s o [] h k = h
    release_ok s o (l ∷ ls) h k = (h, k, (lock_asked j l.tier l.place k.0).2)

    ended_ok : (s : State) (o : Outcome) → StateOk kids s → ProgressOk kids (ended j s o)
    ended_ok s o h = release_ok s o (locks_from s (length j.program.grants) 0) h (locks_ok s (length j.program.grants) 0 (omega arith))

    -- ---- Steps and replies.

    begun_ok : (b : Begun) (t : Touch) → BegunOk g b → begun_touch b ≡ Some t → Asked j (touch_question j t)
    begun_ok (load l a) t h e = touch_ok a t h e
    begun_ok (store a) t h e = touch_ok a t h e

    settled_ok : (s : State) (n : Next) → length s.output ≤ j.room → s.children ≡ kids → NextOk g n → ProgressOk kids (settled j s n)
    settled_ok s (goes c) room so h = (h.is, room, so)
    settled_ok s (ends c o) room so h = ended_ok (record s { config = c; stage = running }) o (h.is, room, so)
    settled_ok s (touches c b) room so h = by (begun_touch b) refl
      where
        granted : (t : Touch) → begun_touch b ≡ Some t → Asked j (touch_question j t)
        granted t e = begun_ok b t h.is.1 e

        by : (t : Option Touch) → begun_touch b ≡ t → ProgressOk kids (elim t [ None ↦ lost | Some t ↦ asks (record s { config = c; stage = touching b }) (touch_question j t) ])
        by None e = tt
        by (Some t) e = ((h.is.0, room, so), h.is.1, granted t e)
    settled_ok s (calls c x) room so h = tt
    settled_ok s stuck room so h = tt

    served_ok : (v : Served) → ServedOk kids v → ProgressOk kids (served j v)
    served_ok (waits s q) h = h
    served_ok (through s r) h = settled_ok s (finished s.config r) h.1 h.2 (finished_ok g s.config r h.0)
    served_ok (no_memory s) h = ended_ok s outcome.Want h
    served_ok misfit h = tt

    serve_ok : (s : State) (x : HostCall) → StateOk kids s → ProgressOk kids (serve j s x)
    serve_ok s x h = by (first_trap j s (checks x)) refl
      where
        by : (t : Option Trap) → first_trap j s (checks x) ≡ t → ProgressOk kids (elim t [ Some t ↦ served j (through s (Err t)) | None ↦ served j (go_on j (operations j s x) (record { held = []; result = None; state = s })) ])
        by None e = let done = operations_ok s x e in served_ok (go_on j (operations j s x) (record { held = []; result = None; state = s })) (go_on_ok kids (operations j s x) (record { held = []; result = None; state = s }) done.0 done.1 h)
        by (Some t) e = served_ok (through s (Err t)) h

    progress_ok : (s : State) (n : Next) → length s.output ≤ j.room → s.children ≡ kids → NextOk g n → ProgressOk kids (progress j s n)
    progress_ok s (calls c x) room so h = serve_ok (record s { config = c }) x (h.is, room, so)
    progress_ok s (goes c) room so h = settled_ok s (goes c) room so h
    progress_ok s (ends c o) room so h = settled_ok s (ends c o) room so h
    progress_ok s (touches c b) room so h = settled_ok s (touches c b) room so h
    progress_ok s stuck room so h = tt

    pub call_step_ok : (s : State) → ProgressOk kids (runs s) → ProgressOk kids (call_step j s)
    call_step_ok s h = progress_ok s (step j.program s.config) h.1 h.2 (step_ok g j.program s.config h.0)

  module _ (kids : List (Option ℕ)) where
    work_ok : (s : State) (acts : List Act) (held : List ℕ) (result : Option ℕ) (q : Question) (r : Reply) → StateOk kids s → WorkOk (length s.output) acts (length held) q → ProgressOk (kids_after kids q r) (reply_work j s (record { acts = acts; held = held; result = result }) r)
    work_ok s [] held result q r h k = tt
    work_ok s (a ∷ acts) held result q r h k =
        let x : Carried = record { held = held; result = result; state = s } in
        served_ok (kids_after kids q r) (came_after j acts x (after a x r)) (came_after_ok (kids_after kids q r) acts x (after a x r) k.0.1 (after_ok kids a acts x q r k.0.0 k.1 k.2 h))

    rest_ok : (s : State) (ls : List Lock) (o : Outcome) → StateOk kids s → LocksOk ls → ProgressOk kids (reply_release j s ls o)
    rest_ok s [] o h k = tt
    rest_ok s (l ∷ ls) o h k = release_ok kids (without_lock s l) o ls h k.1

    at_ok : (s : State) (st : Stage) (q : Question) (r : Reply) → StateOk kids s → StageOk (length s.output) st q → ProgressOk (kids_after kids q r) (reply_at j s st r)
    at_ok s (touching b) q (Reply.bytes bs) h k = settled_ok kids s (resumed s.config b bs) h.1 h.2 (resumed_ok g s.config b bs h.0 k)
    at_ok s (touching b) q Reply.done h k = settled_ok kids s (resumed s.config b []) h.1 h.2 (resumed_ok g s.config b [] h.0 k)
    at_ok s (calling w) q r h k = work_ok s w.acts w.held w.result q r h k
    at_ok s (releasing ls o) q Reply.done h k = rest_ok s ls o h k
    at_ok s st q r h k = tt

    pub replied_ok : (s : State) (q : Question) (r : Reply) → ProgressOk kids (asks s q) → ProgressOk (kids_after kids q r) (replied j s r)
    replied_ok s q r h = at_ok s s.stage q r h.0 h.1
