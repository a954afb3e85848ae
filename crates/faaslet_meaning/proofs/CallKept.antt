-- A call that is well formed stays so, by its steps and by replies that fit.
use Rattle.std.proofs.Common.{◌≡◌, ℕ, zero, suc, ◌+◌, ◌*◌, ◌^◌, ◌<◌, ◌≤◌, List, [], ◌∷◌, ◌++◌, length, refl, sym, ap, ◌∙◌, subst, arith, None, Some, Option, Bool, true, false, cond, not, take, drop, Err, length-append, eqb-true, ne_eqb}
use Rattle.std.specs.Prelude.{IsTrue, find, is_some, filter, option_map, slice_range, ◌==◌, ◌&&◌}
use Rattle.std.proofs.lemmas.Bool.{leb-true, ltb-true, and_parts}
use Rattle.faaslet_meaning.specs.declared.outcome.Outcome.{Outcome}
use Rattle.faaslet_meaning.specs.declared.outcome.Outcome.TheVariants as outcome
use Rattle.faaslet_meaning.specs.declared.outcome.Trap.{Trap}
use Rattle.faaslet_meaning.specs.declared.grant.Channel.TheVariants.{Table}
use Rattle.faaslet_meaning.specs.Memory.{Home, private, mapped, Segment, Memory, Piece, pieces, key_pages, page_size, pages_of, Access, reads, writes, Written, Touch, touch_of, reading, writing, write_on, put, answered}
use Rattle.faaslet_meaning.specs.HostCalls.{HostCall, buffer_of}
use Rattle.faaslet_meaning.specs.Configuration.{Next, goes, ends, touches, calls, stuck}
use Rattle.faaslet_meaning.specs.MemoryRules.{resumed}
use Rattle.faaslet_meaning.specs.Step.{step, finished}
use Rattle.faaslet_meaning.specs.Channels.{RegionOperation, Operation, on_region, Reply, Question, ask}
use Rattle.faaslet_meaning.specs.CallState.{Invocation, Tier, local, global, Lock, Act, presence, fill, buffer_in, buffer_out, passing, local_read, local_write, push, pull, used, append, map, lock_read, lock_write, unlock, take_input, give_output, submit, await, look, gives, Work, Stage, running, touching, calling, releasing, State, Progress, runs, asks, over, lost, same_tier, is_lock, without_lock}
use Rattle.faaslet_meaning.specs.Checks.{checks, first_trap, key_size}
use Rattle.faaslet_meaning.specs.Operations.{operations}
use Rattle.faaslet_meaning.specs.Serve.{Served, waits, through, no_memory, misfit, Carried, question_of, does, go_on, After, next, instead, piece, fails, wants, unfit, after, came_after, reply_to, passed, kept, stands, with_memory, touch_question, channel, mapped_at}
use Rattle.faaslet_meaning.specs.Call.{lock_at, locks_from, begun_touch, progress, reply_work, reply_release, release, settled, served, serve, call_step, replied, reply_at, fits, comes, child_limit, output_limit}
use Rattle.faaslet_meaning.specs.Asked.{question_by, question_in, question_at}
use Rattle.faaslet_meaning.specs.Formed.{AllDiffer, same_lock, IsTied}
use Rattle.faaslet_meaning.proofs.StepWalk.{IsShort}
use Rattle.faaslet_meaning.proofs.CallParts.{Each, each_append, found_filtered, MappedOk, Others, Parts, mapped_seen, lock_taken, locks_less, child_more, child_noted, length_set}
use Rattle.faaslet_meaning.proofs.CallMemory.{AccessFits, reading_fits, writing_fits, answered_fits, tied_map, access_of, NextFits, step_fits, resumed_fits, finished_fits}
use Rattle.faaslet_meaning.proofs.CallActs.{Base, base_over, base, has, held_lock, held_after, ActsFit, seen_more, all_pass, operations_fit}

-- the acts that are left, over what is held
pub record WorkFits (j : Invocation) (b : Base) (present held : List ℕ) (acts : List Act) : Type 0 where
  pub most : ℕ
  pub few : length held ≤ most
  pub fit : ActsFit j b present most acts

-- the locks that are still to be released: each is held, and is released once
pub record ReleasesFit (locks left : List Lock) : Type 0 where
  pub held : Each (λ l. held_lock locks l.tier l.place ≡ true) left
  pub once : AllDiffer same_lock left

abbrev pub StageFits : Invocation → State → Stage → Type 0
StageFits j s running = Unit {0}
StageFits j s (touching b) = AccessFits (access_of b)
StageFits j s (calling w) = WorkFits j (base s) s.present w.held w.acts
StageFits j s (releasing left o) = ReleasesFit s.locks left

abbrev pub ProgressFits : Invocation → Progress → Type 0
ProgressFits j (runs s) = Parts j s
ProgressFits j (asks s q) = Parts j s × (question_at j s ≡ Some q) × StageFits j s s.stage
ProgressFits j (over s o) = Parts j s
ProgressFits j lost = Unit {0}

abbrev ServedFits : Invocation → Served → Type 0
ServedFits j (waits s q) = Parts j s × (question_at j s ≡ Some q) × StageFits j s s.stage
ServedFits j (through s r) = Parts j s
ServedFits j (no_memory s) = Parts j s
ServedFits j misfit = Unit {0}

-- ---- What is held after a buffer

read_short : (n : ℕ) (xs : List ℕ) → length (take n xs) ≤ n
read_short zero xs = omega arith
read_short (suc n) [] = omega arith
read_short (suc n) (x ∷ xs) = let r = read_short n xs in omega (arith, r)

kept_short : (held : List ℕ) (n : ℕ) (a : Access) → length held ≤ n → length (kept held a) ≤ held_after n a
kept_short held n (reads at m left copy) h = read_short m (drop at copy)
kept_short held n (writes left bs) h = h

write_holds : (n : ℕ) (ps : List Piece) (m : Memory) (bs : List ℕ) → held_after n (write_on ps m bs).access ≡ n
write_holds n [] m bs = refl
write_holds n (p ∷ ps) m bs = by p.home (write_holds n ps (put m p.at (take p.size bs)) (drop p.size bs))
  where
    by : (k : Home) → held_after n (write_on ps (put m p.at (take p.size bs)) (drop p.size bs)).access ≡ n → held_after n (elim k as (λ _. Written) [ private ↦ write_on ps (put m p.at (take p.size bs)) (drop p.size bs) | mapped i ↦ record { memory = m; access = writes (p ∷ ps) bs } ]).access ≡ n
    by private e = e
    by (mapped i) e = refl

answer_holds : (n : ℕ) (m : Memory) (a : Access) (bs : List ℕ) → held_after n (answered m a bs).access ≡ held_after n a
answer_holds n m (reads at i [] copy) bs = refl
answer_holds n m (reads at i (p ∷ ps) copy) bs = refl
answer_holds n m (writes [] left) bs = refl
answer_holds n m (writes (p ∷ ps) left) bs = write_holds n ps m (drop p.size left)

-- memory ends within 2 ^ 32
ends_within : (ss : List Segment) (ms : List (ℕ × ℕ)) (at n : ℕ) → at + n ≤ pages_of ss * page_size → IsTied ss ms → at + n ≤ 2 ^ 32
ends_within ss ms at n l h = let few = h.few_pages in omega (arith, l, few)

same_number : (k m : ℕ) (b : Bool) → (k == m) ≡ b → b ≡ true → k ≡ m
same_number k m b e f = eqb-true k m (e ∙ f)

-- what is there already adds nothing
seen_before : (k : ℕ) (ps : List ℕ) → has ps k ≡ true → (m : ℕ) → has (k ∷ ps) m ≡ true → has ps m ≡ true
seen_before k ps h m = by (k == m) refl
  where
    by : (b : Bool) → (k == m) ≡ b → is_some (cond b (Some k) (find (λ p. p == m) ps)) ≡ true → has ps m ≡ true
    by true e f = subst (λ i. has ps i ≡ true) (same_number k m true e refl) h
    by false e f = f

-- ---- Locks that are released

tier_same : (t u : Tier) → same_tier t u ≡ true → t ≡ u
tier_same local local e = refl
tier_same global global e = refl
tier_same local global e = absurd (cc)
tier_same global local e = absurd (cc)

lock_apart : (a b : Lock) → is_lock a.tier a.place b ≡ false → (l : Lock) → is_lock b.tier b.place l ≡ true → is_lock a.tier a.place l ≡ false
lock_apart a b e l f =
    let p = and_parts _ _ f in
    let t = tier_same b.tier l.tier p.0 in
    let k = eqb-true b.place l.place p.1 in
    subst (λ (u : Tier). (same_tier a.tier u && (a.place == l.place)) ≡ false) t (subst (λ (n : ℕ). (same_tier a.tier b.tier && (a.place == n)) ≡ false) k e)

not_first : (l a : Lock) (left : List Lock) → find (same_lock l) (a ∷ left) ≡ None → (same_lock l a ≡ false) × (find (same_lock l) left ≡ None)
not_first l a left e = by (same_lock l a) e
  where
    by : (b : Bool) → cond b (Some a) (find (same_lock l) left) ≡ None → (b ≡ false) × (find (same_lock l) left ≡ None)
    by true f = absurd (cc)
    by false f = (refl, f)

still_held : (locks : List Lock) (l : Lock) (left : List Lock) → find (same_lock l) left ≡ None → Each (λ a. held_lock locks a.tier a.place ≡ true) left → Each (λ a. held_lock (filter (λ h. not (is_lock l.tier l.place h)) locks) a.tier a.place ≡ true) left
still_held locks l [] e h = tt
still_held locks l (a ∷ left) e h =
    let n = not_first l a left e in
    (found_filtered (is_lock a.tier a.place) (is_lock l.tier l.place) locks (lock_apart l a n.0) h.0, still_held locks l left n.1 h.1)

none_append : {A : Type 0} (test : A → Bool) (xs ys : List A) → find test xs ≡ None → find test ys ≡ None → find test (xs ++ ys) ≡ None
none_append test [] ys e f = f
none_append test (x ∷ xs) ys e f = by (test x) e (λ g. none_append test xs ys g f)
  where
    by : (b : Bool) → cond b (Some x) (find test xs) ≡ None → (find test xs ≡ None → find test (xs ++ ys) ≡ None) → cond b (Some x) (find test (xs ++ ys)) ≡ None
    by true g r = absurd (cc)
    by false g r = r g

-- the locks held, by place and tier, are held, and each comes once
module _ (s : State) where
  at_held : (t : Tier) (k : ℕ) → Each (λ (l : Lock). held_lock s.locks l.tier l.place ≡ true) (lock_at s t k)
  at_held t k = by (held_lock s.locks t k) refl
    where
      by : (b : Bool) → held_lock s.locks t k ≡ b → Each (λ (l : Lock). held_lock s.locks l.tier l.place ≡ true) (cond b (record { tier = t; place = k } ∷ []) [])
      by true e = (e, tt)
      by false e = tt

  from_held : (n k : ℕ) → Each (λ (l : Lock). held_lock s.locks l.tier l.place ≡ true) (locks_from s n k)
  from_held zero k = tt
  from_held (suc n) k = each_append _ (lock_at s local k) _ (at_held local k) (each_append _ (lock_at s global k) _ (at_held global k) (from_held n (k + 1)))

  none_at : (t u : Tier) (i k : ℕ) → is_lock t i (record { tier = u; place = k }) ≡ false → find (same_lock (record { tier = t; place = i })) (lock_at s u k) ≡ None
  none_at t u i k e = by (held_lock s.locks u k)
    where
      by : (b : Bool) → find (same_lock (record { tier = t; place = i })) (cond b (record { tier = u; place = k } ∷ []) []) ≡ None
      by true = ap (λ b. cond b (Some (record { tier = u; place = k })) None) e
      by false = refl

  and_false : (b c : Bool) → c ≡ false → (b && c) ≡ false
  and_false true c e = e
  and_false false c e = refl

  later_none : (n k i : ℕ) (t : Tier) → i < k → find (same_lock (record { tier = t; place = i })) (locks_from s n k) ≡ None
  later_none zero k i t l = refl
  later_none (suc n) k i t l =
      let differ : (i == k) ≡ false = ne_eqb i k (λ e. omega (arith, l, e)) in
      none_append _ (lock_at s local k) _ (none_at t local i k (and_false (same_tier t local) (i == k) differ)) (none_append _ (lock_at s global k) _ (none_at t global i k (and_false (same_tier t global) (i == k) differ)) (later_none n (k + 1) i t (omega (arith, l))))

  at_once : (t : Tier) (k : ℕ) (ls : List Lock) → find (same_lock (record { tier = t; place = k })) ls ≡ None → AllDiffer same_lock ls → AllDiffer same_lock (lock_at s t k ++ ls)
  at_once t k ls e h = by (held_lock s.locks t k)
    where
      by : (b : Bool) → AllDiffer same_lock (cond b (record { tier = t; place = k } ∷ []) [] ++ ls)
      by true = (e, h)
      by false = h

  from_once : (n k : ℕ) → AllDiffer same_lock (locks_from s n k)
  from_once zero k = tt
  from_once (suc n) k =
      let later = later_none n (k + 1) k in
      let l : k < k + 1 = omega arith in
      at_once local k _ (none_append _ (lock_at s global k) _ (none_at local global k k refl) (later local l)) (at_once global k _ (later global l) (from_once n (k + 1)))

module _ (j : Invocation) where
  release_fits : (s : State) (o : Outcome) (left : List Lock) → Parts j s → ReleasesFit s.locks left → ProgressFits j (release j s o left)
  release_fits s o [] h f = h
  release_fits s o (l ∷ left) h f = (h, refl, f)

  locks_fit : (s : State) → ReleasesFit s.locks (locks_from s (length j.program.grants) 0)
  locks_fit s = record { held = from_held s (length j.program.grants) 0; once = from_once s (length j.program.grants) 0 }

  ended_fits : (s : State) (o : Outcome) → Parts j s → ProgressFits j (release j s o (locks_from s (length j.program.grants) 0))
  ended_fits s o h = release_fits s o (locks_from s (length j.program.grants) 0) h (locks_fit s)

  settled_fits : (s : State) (x : Next) → Others j s → NextFits s.mapped x → ProgressFits j (settled j s x)
  settled_fits s (goes c) o h = (h, o)
  settled_fits s (ends c r) o h = ended_fits (record s { config = c; stage = running }) r (h.0, o)
  settled_fits s (touches c b) o h = by (begun_touch b) refl
    where
      by : (t : Option Touch) → begun_touch b ≡ t → ProgressFits j (elim t [ None ↦ lost | Some q ↦ asks (record s { config = c; stage = touching b }) (touch_question j q) ])
      by None e = tt
      by (Some q) e = ((h.0, o), ap (option_map (touch_question j)) e, h.1)
  settled_fits s (calls c h) o k = tt
  settled_fits s stuck o h = tt

  served_fits : (x : Served) → ServedFits j x → ProgressFits j (served j x)
  served_fits (waits s q) h = h
  served_fits (through s r) h = settled_fits s (finished s.config r) h.1 (finished_fits s.mapped s.config r h.0)
  served_fits (no_memory s) h = ended_fits s outcome.Want h
  served_fits misfit h = tt

  -- ---- Acts

  abbrev CarriedFits : List Act → Carried → Type 0
  CarriedFits acts x = Parts j x.state × WorkFits j (base x.state) x.state.present x.held acts

  abbrev GoesFits : List Act → (Carried → Served) → Type 0
  GoesFits acts go = (x : Carried) → CarriedFits acts x → ServedFits j (go x)

  -- a buffer that goes on
  pub record PassFits (acts : List Act) (x : Carried) (w : Written) : Type 0 where
    pub parts : Parts j x.state
    pub same : w.memory.segments ≡ x.state.config.memory.segments
    pub access : AccessFits w.access
    pub most : ℕ
    pub few : length x.held ≤ most
    pub fit : ActsFit j (base x.state) x.state.present (held_after most w.access) acts

  passed_fits : (acts : List Act) (go : Carried → Served) → GoesFits acts go → (x : Carried) (w : Written) → PassFits acts x w → ServedFits j (passed j acts go x w)
  passed_fits acts go ok x w h = by (touch_of w.access) refl
    where
      parts : Parts j (with_memory x w.memory).state
      parts = (subst (λ ss. IsTied ss x.state.mapped) (sym h.same) h.parts.0, h.parts.1)

      fit : ActsFit j (base (with_memory x w.memory).state) x.state.present (held_after h.most w.access) acts
      fit = subst (λ ss. ActsFit j (base_over x.state ss (length x.state.children)) x.state.present (held_after h.most w.access) acts) (sym h.same) h.fit

      by : (o : Option Touch) → touch_of w.access ≡ o → ServedFits j (elim o [ None ↦ go (record (with_memory x w.memory) { held = kept x.held w.access }) | Some t ↦ stands (passing w.access ∷ acts) (with_memory x w.memory) (touch_question j t) ])
      by None e = ok (record (with_memory x w.memory) { held = kept x.held w.access }) (parts, record { most = held_after h.most w.access; few = kept_short x.held h.most w.access h.few; fit = fit })
      by (Some t) e = (parts, ap (option_map (touch_question j)) e, record { most = h.most; few = h.few; fit = (h.access, fit) })

  seen_none : (x : Carried) (k : ℕ) → question_of j x (presence k) ≡ None → has x.state.present k ≡ true
  seen_none x k e = by (has x.state.present k) e
    where
      by : (b : Bool) → cond b None (Some (ask (channel j local k) (on_region RegionOperation.probe))) ≡ None → b ≡ true
      by true f = refl
      by false f = absurd (cc)

  at_end : (b : Base) (ps : List ℕ) (n : ℕ) (acts : List Act) → acts ≡ [] → ActsFit j b ps n acts
  at_end b ps n acts e = subst (ActsFit j b ps n) (sym e) (tt {0})

  act_fits : (a : Act) (acts : List Act) (go : Carried → Served) → GoesFits acts go → (x : Carried) → question_of j x a ≡ None → CarriedFits (a ∷ acts) x → ServedFits j (does j a acts go x)
  act_fits (presence k) acts go ok x e h =
      let w = h.1 in
      ok x (h.0, record { most = w.most; few = w.few; fit = seen_more j (base x.state) acts (k ∷ x.state.present) x.state.present w.most (seen_before k x.state.present (seen_none x k e)) w.fit.1 })
  act_fits (buffer_in ptr len) acts go ok x e h =
      let w = h.1 in
      let b = w.fit.0 in
      passed_fits acts go ok x (record { memory = x.state.config.memory; access = reading x.state.config.memory ptr len }) (record { parts = h.0; same = refl; access = reading_fits x.state.config.memory ptr len (ends_within x.state.config.memory.segments x.state.mapped ptr len b.inside h.0.0) b.short; most = w.most; few = w.few; fit = w.fit.1 })
  act_fits (buffer_out ptr len) acts go ok x e h =
      let w = h.1 in
      let b = w.fit.0 in
      let m = x.state.config.memory in
      let n = read_short len x.held in
      let out = writing_fits m ptr (take len x.held) (ends_within m.segments x.state.mapped ptr (length (take len x.held)) (omega (arith, n, b.inside)) h.0.0) (omega (arith, n, b.short)) in
      passed_fits acts go ok x (writing m ptr (take len x.held)) (record { parts = h.0; same = out.same; access = out.access; most = w.most; few = w.few; fit = subst (λ i. ActsFit j (base x.state) x.state.present i acts) (sym (write_holds w.most (pieces m ptr (length (take len x.held))) m (take len x.held))) w.fit.1 })
  act_fits (passing a) acts go ok x e h =
      let w = h.1 in
      passed_fits acts go ok x (record { memory = x.state.config.memory; access = a }) (record { parts = h.0; same = refl; access = w.fit.0; most = w.most; few = w.few; fit = w.fit.1 })
  act_fits (map k) acts go ok x e h =
      let w = h.1 in
      let m = w.fit.1 in
      let segments = x.state.config.memory.segments in
      let others = h.0.1 in
      let old = others.0 in
      let tied = tied_map segments x.state.mapped k (key_pages (key_size j k)) m.pages h.0.0 in
      let few = m.few in
      let new : MappedOk j x.state.present ((k, pages_of segments * page_size) ∷ x.state.mapped) = record { once = (m.new, old.once); few = omega (arith, few); seen = (w.fit.2, old.seen); granted = (w.fit.0, old.granted) } in
      ok (mapped_at x k (key_pages (key_size j k)) (pages_of segments * page_size)) ((tied, (new, others.1, others.2, others.3, others.4)), record { most = w.most; few = w.few; fit = at_end _ _ _ acts w.fit.3 })
  act_fits (take_input off len) acts go ok x e h =
      let w = h.1 in
      ok (record x { held = slice_range j.input off (off + len) }) (h.0, record { most = length (slice_range j.input off (off + len)); few = omega arith; fit = w.fit (length (slice_range j.input off (off + len))) })
  act_fits give_output acts go ok x e h =
      let w = h.1 in
      let others = h.0.1 in
      let room = w.fit.0 in
      let few = w.few in
      ok (record x { state = record x.state { output = x.state.output ++ x.held } }) ((h.0.0, (others.0, others.1, others.2, omega (arith, room, few, length-append x.state.output x.held), others.4)), record { most = w.most; few = w.few; fit = at_end _ _ _ acts w.fit.1 })
  act_fits (gives n) acts go ok x e h = let w = h.1 in ok (record x { result = Some n }) (h.0, record { most = w.most; few = w.few; fit = w.fit })
  act_fits _ acts go ok x e h = absurd (cc)

  same_question : (x : Carried) (a : Act) (acts : List Act) (q : Question) → question_of j x a ≡ Some q → question_by j (record x.state { stage = calling (record { acts = a ∷ acts; held = x.held; result = x.result }) }) (record { acts = a ∷ acts; held = x.held; result = x.result }) (a ∷ acts) ≡ Some q
  same_question x (passing b) acts q e = absurd (cc)
  same_question x _ acts q e = e

  go_fits : (acts : List Act) → GoesFits acts (go_on j acts)
  go_fits [] x h = h.0
  go_fits (a ∷ acts) x h = asks_or (question_of j x a) refl (λ e. act_fits a acts (go_on j acts) (go_fits acts) x e h)
    where
      asks_or : (o : Option Question) → question_of j x a ≡ o → (question_of j x a ≡ None → ServedFits j (does j a acts (go_on j acts) x)) → ServedFits j (elim o [ Some q ↦ stands (a ∷ acts) x q | None ↦ does j a acts (go_on j acts) x ])
      asks_or None e k = k e
      asks_or (Some q) e k = (h.0, same_question x a acts q e, h.1)

  -- ---- Replies

  abbrev AfterFits : List Act → Carried → After → Type 0
  AfterFits acts x (next y) = CarriedFits acts y
  AfterFits acts x (instead b) = CarriedFits (b ∷ acts) x
  AfterFits acts x (piece w) = PassFits acts x w
  AfterFits acts x _ = Unit {0}

  came_fits : (acts : List Act) (x : Carried) (a : After) → AfterFits acts x a → Parts j x.state → ServedFits j (came_after j acts x a)
  came_fits acts x (next y) k h = go_fits acts y k
  came_fits acts x (instead b) k h = go_fits (b ∷ acts) x k
  came_fits acts x (piece w) k h = passed_fits acts (go_on j acts) (go_fits acts) x w k
  came_fits acts x (fails t) k h = h
  came_fits acts x wants k h = h
  came_fits acts x unfit k h = tt

  look_short : (c : ℕ) (q : Question) (s : State) (o : Outcome) (bs : List ℕ) → Some (ask Table (Operation.look c)) ≡ Some q → IsTrue (comes s q (Reply.finished o bs)) → length bs ≤ output_limit
  look_short c q s o bs e f =
      let same : ask Table (Operation.look c) ≡ q = cc in
      let g : IsTrue (comes s (ask Table (Operation.look c)) (Reply.finished o bs)) = subst (λ p. IsTrue (comes s p (Reply.finished o bs))) (sym same) f in
      leb-true (length bs) output_limit (and_parts _ _ g).0

  after_fits : (a : Act) (acts : List Act) (x : Carried) (r : Reply) (q : Question) (w : Work) → question_by j x.state w (a ∷ acts) ≡ Some q → IsTrue (comes x.state q r) → CarriedFits (a ∷ acts) x → AfterFits acts x (after a x r)
  after_fits (presence k) acts x (Reply.present true) q v e f h =
      let w = h.1 in
      let o = h.0.1 in
      ((h.0.0, (mapped_seen j k x.state.present x.state.mapped o.0, (w.fit.0, o.1), o.2, o.3, o.4)), record { most = w.most; few = w.few; fit = w.fit.1 })
  after_fits (presence k) acts x (Reply.present false) q v e f h = let w = h.1 in (h.0, record { most = w.most; few = w.few; fit = w.fit })
  after_fits (fill k) acts x (Reply.bytes bs) q v e f h =
      let w = h.1 in
      let o = h.0.1 in
      ((h.0.0, (mapped_seen j k x.state.present x.state.mapped o.0, (w.fit.0, o.1), o.2, o.3, o.4)), record { most = w.most; few = w.few; fit = w.fit.1 })
  after_fits (passing a) acts x (Reply.bytes bs) q v e f h =
      let w = h.1 in
      let m = x.state.config.memory in
      let g = answered_fits m a bs w.fit.0 in
      record { parts = h.0; same = g.same; access = g.access; most = w.most; few = w.few; fit = subst (λ n. ActsFit j (base x.state) x.state.present n acts) (sym (answer_holds w.most m a bs)) w.fit.1 }
  after_fits (passing a) acts x Reply.done q v e f h =
      let w = h.1 in
      let m = x.state.config.memory in
      let g = answered_fits m a [] w.fit.0 in
      record { parts = h.0; same = g.same; access = g.access; most = w.most; few = w.few; fit = subst (λ n. ActsFit j (base x.state) x.state.present n acts) (sym (answer_holds w.most m a [])) w.fit.1 }
  after_fits (local_read k off len) acts x (Reply.bytes bs) q v e f h = let w = h.1 in (h.0, record { most = length bs; few = omega arith; fit = w.fit.1 (length bs) })
  after_fits (local_write k off) acts x Reply.done q v e f h = let w = h.1 in (h.0, record { most = w.most; few = w.few; fit = w.fit.2 })
  after_fits (push k off len) acts x (Reply.bytes bs) q v e f h = let w = h.1 in (h.0, record { most = w.most; few = w.few; fit = w.fit.1 })
  after_fits (pull k off len) acts x (Reply.bytes bs) q v e f h = let w = h.1 in (h.0, record { most = w.most; few = w.few; fit = w.fit.1 })
  after_fits (used k) acts x (Reply.number n) q v e f h = let w = h.1 in (h.0, record { most = w.most; few = w.few; fit = w.fit })
  after_fits (append k) acts x (Reply.number n) q v e f h = let w = h.1 in (h.0, record { most = w.most; few = w.few; fit = w.fit.1 })
  after_fits (lock_read t k) acts x Reply.done q v e f h =
      let w = h.1 in
      let o = h.0.1 in
      let l = w.fit.0 in
      ((h.0.0, (o.0, o.1, lock_taken j t k x.state.locks l.granted l.new l.few o.2, o.3, o.4)), record { most = w.most; few = w.few; fit = at_end _ _ _ acts w.fit.1 })
  after_fits (lock_write t k) acts x Reply.done q v e f h =
      let w = h.1 in
      let o = h.0.1 in
      let l = w.fit.0 in
      ((h.0.0, (o.0, o.1, lock_taken j t k x.state.locks l.granted l.new l.few o.2, o.3, o.4)), record { most = w.most; few = w.few; fit = at_end _ _ _ acts w.fit.1 })
  after_fits (unlock t k) acts x Reply.done q v e f h =
      let w = h.1 in
      let o = h.0.1 in
      ((h.0.0, (o.0, o.1, locks_less j (λ l. not (is_lock t k l)) x.state.locks o.2, o.3, o.4)), record { most = w.most; few = w.few; fit = at_end _ _ _ acts w.fit.1 })
  after_fits (submit c) acts x (Reply.child n) q v e f h =
      let w = h.1 in
      let o = h.0.1 in
      ((h.0.0, (o.0, o.1, o.2, o.3, child_more x.state.children (ltb-true (length x.state.children) child_limit f) o.4)), record { most = w.most; few = w.few; fit = at_end _ _ _ acts w.fit.1 })
  after_fits (await c) acts x (Reply.finished r bs) q v e f h =
      let w = h.1 in
      let o = h.0.1 in
      ((h.0.0, (o.0, o.1, o.2, o.3, child_noted x.state.children c (length bs) (look_short c q x.state r bs e f) o.4)), record { most = w.most; few = w.few; fit = at_end _ _ _ acts w.fit.1 })
  after_fits (look c off len) acts x (Reply.finished r bs) q v e f h =
      let w = h.1 in
      let o = h.0.1 in
      let n = length (slice_range bs off (off + len)) in (
        (h.0.0, (o.0, o.1, o.2, o.3, child_noted x.state.children c (length bs) (look_short c q x.state r bs e f) o.4)),
        record { most = n; few = omega arith; fit = subst (λ i. ActsFit j (base_over x.state x.state.config.memory.segments i) x.state.present n acts) (sym (length_set x.state.children c (Some (length bs)))) (w.fit.1 n) },
      )
  after_fits (append k) acts x Reply.full q v e f h = tt
  after_fits (submit c) acts x Reply.chain_full q v e f h = tt
  after_fits (submit c) acts x Reply.want q v e f h = tt
  after_fits _ acts x r q v e f h = tt

  work_fits : (s : State) (w : Work) (acts : List Act) (held : List ℕ) (result : Option ℕ) (r : Reply) (q : Question) → Parts j s → question_by j s w acts ≡ Some q → IsTrue (comes s q r) → WorkFits j (base s) s.present held acts → ProgressFits j (reply_work j s (record { acts = acts; held = held; result = result }) r)
  work_fits s w [] held result r q h e f k = tt
  work_fits s w (a ∷ acts) held result r q h e f k =
      let x : Carried = record { held = held; result = result; state = s } in
      served_fits (reply_to j a acts x r) (came_fits acts x (after a x r) (after_fits a acts x r q w e f (h, k)) h)

  released_fits : (s : State) (left : List Lock) (o : Outcome) → Parts j s → ReleasesFit s.locks left → ProgressFits j (reply_release j s left o)
  released_fits s [] o h k = tt
  released_fits s (l ∷ left) o h k =
      let t = h.1 in
      release_fits (without_lock s l) o left (h.0, (t.0, t.1, locks_less j (λ a. not (is_lock l.tier l.place a)) s.locks t.2, t.3, t.4)) (record { held = still_held s.locks l left k.once.0 k.held.1; once = k.once.1 })

  stage_fits : (s : State) (st : Stage) (r : Reply) (q : Question) → Parts j s → question_in j s st ≡ Some q → IsTrue (comes s q r) → StageFits j s st → ProgressFits j (reply_at j s st r)
  stage_fits s (touching b) (Reply.bytes bs) q h e f k = settled_fits s (resumed s.config b bs) h.1 (resumed_fits s.mapped s.config b bs h.0 k)
  stage_fits s (touching b) Reply.done q h e f k = settled_fits s (resumed s.config b []) h.1 (resumed_fits s.mapped s.config b [] h.0 k)
  stage_fits s (calling w) r q h e f k = work_fits s w w.acts w.held w.result r q h e f k
  stage_fits s (releasing left o) Reply.done q h e f k = released_fits s left o h k
  stage_fits s st r q h e f k = tt

  -- a reply that fits keeps what a call keeps
  pub replied_fits : (s : State) (q : Question) (r : Reply) → ProgressFits j (asks s q) → IsTrue (fits s q r) → ProgressFits j (replied j s r)
  replied_fits s q r h f = stage_fits s s.stage r q h.0 h.1 (and_parts _ _ f).1 h.2

  serve_fits : (s : State) (h : HostCall) → Parts j s → IsShort (buffer_of h) → ProgressFits j (serve j s h)
  serve_fits s h p l = by (first_trap j s (checks h)) refl
    where
      x : Carried
      x = record { held = []; result = None; state = s }

      by : (o : Option Trap) → first_trap j s (checks h) ≡ o → ProgressFits j (elim o [ Some t ↦ served j (through s (Err t)) | None ↦ served j (go_on j (operations j s h) (record { held = []; result = None; state = s })) ])
      by (Some t) e = served_fits (through s (Err t)) p
      by None e = served_fits (go_on j (operations j s h) x) (go_fits (operations j s h) x (p, record { most = 0; few = omega arith; fit = operations_fit j s h (all_pass j s (checks h) e) l }))

  turn_fits : (s : State) (x : Next) → Others j s → NextFits s.mapped x → ProgressFits j (progress j s x)
  turn_fits s (goes c) o h = settled_fits s (goes c) o h
  turn_fits s (ends c r) o h = settled_fits s (ends c r) o h
  turn_fits s (touches c b) o h = settled_fits s (touches c b) o h
  turn_fits s (calls c k) o h = serve_fits (record s { config = c }) k (h.0, o) h.1
  turn_fits s stuck o h = tt

  -- and so does a step
  pub call_fits : (s : State) → Parts j s → ProgressFits j (call_step j s)
  call_fits s h = turn_fits s (step j.program s.config) h.1 (step_fits s.mapped j.program s.config h.0)
