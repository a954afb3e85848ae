-- A call that is over has no lock: what it held when it ended was released one by one.
use Rattle.std.proofs.Common.{◌≡◌, ℕ, zero, suc, ◌+◌, ◌<◌, ◌≤◌, List, [], ◌∷◌, ◌++◌, length, refl, sym, ap, ◌∙◌, subst, Option, Some, None, Bool, true, false, cond, not, Err, arith}
use Rattle.std.specs.Prelude.{find, is_some, filter, ◌==◌}
use Rattle.std.proofs.lemmas.Bool.{eqb-true, eqb-false}
use Rattle.faaslet_meaning.specs.declared.grant.Channel.{Channel}
use Rattle.faaslet_meaning.specs.declared.outcome.Outcome.{Outcome}
use Rattle.faaslet_meaning.specs.declared.outcome.Outcome.TheVariants as outcome
use Rattle.faaslet_meaning.specs.declared.outcome.Trap.{Trap}
use Rattle.faaslet_meaning.specs.Memory.{Written, Touch, touch_of, reading}
use Rattle.faaslet_meaning.specs.HostCalls.{HostCall}
use Rattle.faaslet_meaning.specs.Configuration.{Configuration, Next, goes, ends, touches, calls, stuck}
use Rattle.faaslet_meaning.specs.MemoryRules.{resumed}
use Rattle.faaslet_meaning.specs.Step.{step, finished}
use Rattle.faaslet_meaning.specs.Channels.{Reply, Question, Transcript, told_by}
use Rattle.faaslet_meaning.specs.CallState.{Invocation, Tier, local, global, Lock, Act, buffer_in, buffer_out, passing, map, take_input, give_output, gives, Stage, running, touching, calling, releasing, State, Progress, runs, asks, over, lost, is_lock, without_lock, fresh_state}
use Rattle.faaslet_meaning.specs.Checks.{checks, first_trap, holds}
use Rattle.faaslet_meaning.specs.Operations.{operations}
use Rattle.faaslet_meaning.specs.Serve.{Served, waits, through, no_memory, misfit, Carried, question_of, does, go_on, After, next, instead, piece, fails, wants, unfit, after, came_after, reply_to, passed, kept, stands, with_memory, touch_question}
use Rattle.faaslet_meaning.specs.Call.{locks_from, lock_at, begun_touch, progress, reply_work, release, settled, served, serve, call_step, reply_at}
use Rattle.faaslet_meaning.specs.Fresh.{Function, fresh, makes}
use Rattle.faaslet_meaning.specs.Goes.{Goes, here, stepped, answered}
use Rattle.faaslet_meaning.specs.Runs.{invocation}
use Rattle.faaslet_meaning.specs.Valid.{Valid}
use Rattle.faaslet_meaning.proofs.CallFresh.{fresh_formed}
use Rattle.faaslet_meaning.proofs.CallParts.{Each, formed_parts}
use Rattle.faaslet_meaning.proofs.CallActs.{held_lock}
use Rattle.faaslet_meaning.proofs.CallKept.{ProgressFits, call_fits, replied_fits}
use Rattle.told_asks.specs.Leaves.{leaves_lock}
use Rattle.told_asks.proofs.Free.{lock_same, lock_self, held_granted, none_told, has_left}

-- ---- Locks that are still to be released.

abbrev Granted : Invocation → List Lock → Type 0
Granted j locks = Each (λ l. l.place < length j.program.grants) locks

-- each lock of the first list is one of the second
abbrev Covers : List Lock → List Lock → Type 0
Covers locks left = (l : Lock) → held_lock locks l.tier l.place ≡ true → held_lock left l.tier l.place ≡ true

abbrev StageEnds : List Lock → Stage → Type 0
StageEnds locks (releasing left o) = Covers locks left
StageEnds locks st = Unit {0}

abbrev Ends : Invocation → Progress → Type 0
Ends j (runs s) = Unit {0}
Ends j (asks s q) = Granted j s.locks → StageEnds s.locks s.stage
Ends j (over s o) = Granted j s.locks → Covers s.locks []
Ends j lost = Unit {0}

release_ends : (j : Invocation) (s : State) (o : Outcome) (left : List Lock) → (Granted j s.locks → Covers s.locks left) → Ends j (release j s o left)
release_ends j s o [] h = h
release_ends j s o (l ∷ left) h = h

held_right : (l : Lock) (xs ys : List Lock) → held_lock ys l.tier l.place ≡ true → held_lock (xs ++ ys) l.tier l.place ≡ true
held_right l [] ys h = h
held_right l (x ∷ xs) ys h = by (is_lock l.tier l.place x) (held_right l xs ys h)
  where
    by : (b : Bool) → held_lock (xs ++ ys) l.tier l.place ≡ true → is_some (cond b (Some x) (find (is_lock l.tier l.place) (xs ++ ys))) ≡ true
    by true k = refl
    by false k = k

held_left : (l : Lock) (xs ys : List Lock) → held_lock xs l.tier l.place ≡ true → held_lock (xs ++ ys) l.tier l.place ≡ true
held_left l [] ys h = let no : ⊥ = cc in absurd no
held_left l (x ∷ xs) ys h = by (is_lock l.tier l.place x) (held_left l xs ys) h
  where
    by : (b : Bool) → (held_lock xs l.tier l.place ≡ true → held_lock (xs ++ ys) l.tier l.place ≡ true)
        → is_some (cond b (Some x) (find (is_lock l.tier l.place) xs)) ≡ true → is_some (cond b (Some x) (find (is_lock l.tier l.place) (xs ++ ys))) ≡ true
    by true more k = refl
    by false more k = more k

-- a lock that is held stands among those of its place
at_place : (s : State) (t : Tier) (k : ℕ) → holds s t k ≡ true → held_lock (lock_at s t k) t k ≡ true
at_place s t k h = ap (λ b. held_lock (cond b (record { tier = t; place = k } ∷ []) []) t k) h ∙ ap (λ (b : Bool). is_some {T = Lock} (cond b (Some (record { tier = t; place = k })) None)) (lock_self (record { tier = t; place = k }))

in_place : (s : State) (n k : ℕ) (t : Tier) → holds s t k ≡ true → held_lock (locks_from s (suc n) k) t k ≡ true
in_place s n k local h = held_left (record { tier = local; place = k }) (lock_at s local k) (lock_at s global k ++ locks_from s n (k + 1)) (at_place s local k h)
in_place s n k global h =
    held_right (record { tier = global; place = k }) (lock_at s local k) (lock_at s global k ++ locks_from s n (k + 1))
    (held_left (record { tier = global; place = k }) (lock_at s global k) (locks_from s n (k + 1)) (at_place s global k h))

from_places : (s : State) (n k : ℕ) (l : Lock) → k ≤ l.place → l.place < k + n → holds s l.tier l.place ≡ true → held_lock (locks_from s n k) l.tier l.place ≡ true
from_places s zero k l low high h = absurd (omega (arith, low, high))
from_places s (suc n) k l low high h = by (l.place == k) refl (λ first below. from_places s n (k + 1) l first below h)
  where
    by : (b : Bool) → (l.place == k) ≡ b → (k + 1 ≤ l.place → l.place < k + 1 + n → held_lock (locks_from s n (k + 1)) l.tier l.place ≡ true) → held_lock (locks_from s (suc n) k) l.tier l.place ≡ true
    by true e more =
        let same : l.place ≡ k = eqb-true l.place k e in
        subst (λ i. held_lock (locks_from s (suc n) k) l.tier i ≡ true) (sym same) (in_place s n k l.tier (subst (λ i. holds s l.tier i ≡ true) same h))
    by false e more =
        let apart = eqb-false l.place k e in
        held_right l (lock_at s local k) (lock_at s global k ++ locks_from s n (k + 1))
        (held_right l (lock_at s global k) (locks_from s n (k + 1)) (more (omega (arith, low, apart)) (omega (arith, high))))

all_covered : (j : Invocation) (s : State) → Granted j s.locks → Covers s.locks (locks_from s (length j.program.grants) 0)
all_covered j s g l h =
    let low = held_granted (λ x. x.place < length j.program.grants) l s.locks g h in
    from_places s (length j.program.grants) 0 l (omega arith) (omega (arith, low)) h

-- ---- One released.

back_held : (a l : Lock) (locks : List Lock) → held_lock (filter (λ h. not (is_lock l.tier l.place h)) locks) a.tier a.place ≡ true → (held_lock locks a.tier a.place ≡ true) × (is_lock a.tier a.place l ≡ false)
back_held a l [] h = let no : ⊥ = cc in absurd no
back_held a l (x ∷ xs) h = by (back_held a l xs) (is_lock l.tier l.place x) refl (is_lock a.tier a.place x) refl h
  where
    rest : List Lock
    rest = filter (λ h. not (is_lock l.tier l.place h)) xs

    apart : (b c : Bool) → is_lock l.tier l.place x ≡ false → is_lock a.tier a.place x ≡ true → (b : Bool) → is_lock a.tier a.place l ≡ b → b ≡ false
    apart u v e f true i =
        let one : a ≡ x = lock_same a x f in
        let two : a ≡ l = lock_same a l i in
        let no : false ≡ true = sym e ∙ (ap (λ (z : Lock). is_lock l.tier l.place z) (sym one ∙ two) ∙ lock_self l) in
        cc
    apart u v e f false i = refl

    by : (held_lock (filter (λ h. not (is_lock l.tier l.place h)) xs) a.tier a.place ≡ true → (held_lock xs a.tier a.place ≡ true) × (is_lock a.tier a.place l ≡ false)) → (b : Bool) → is_lock l.tier l.place x ≡ b → (c : Bool) → is_lock a.tier a.place x ≡ c → is_some (find (is_lock a.tier a.place) (cond (not b) (x ∷ filter (λ h. not (is_lock l.tier l.place h)) xs) (filter (λ h. not (is_lock l.tier l.place h)) xs))) ≡ true
        → (is_some (cond (is_lock a.tier a.place x) (Some x) (find (is_lock a.tier a.place) xs)) ≡ true) × (is_lock a.tier a.place l ≡ false)
    by later true e c f k =
        let more = later k in
        (held_right a (x ∷ []) xs more.0, more.1)
    by later false e true f k = (ap (λ b. is_some (cond b (Some x) (find (is_lock a.tier a.place) xs))) f, apart true true e f (is_lock a.tier a.place l) refl)
    by later false e false f k =
        let more = later (sym (ap (λ b. is_some (cond b (Some x) (find (is_lock a.tier a.place) (filter (λ h. not (is_lock l.tier l.place h)) xs)))) f) ∙ k) in
        (held_right a (x ∷ []) xs more.0, more.1)

one_less : (l : Lock) (locks left : List Lock) → Covers locks (l ∷ left) → Covers (filter (λ h. not (is_lock l.tier l.place h)) locks) left
one_less l locks left cover a h =
    let back = back_held a l locks h in
    sym (ap (λ b. is_some (cond b (Some l) (find (is_lock a.tier a.place) left))) back.1) ∙ cover a back.0

-- ---- Where a call goes on.

abbrev ServedEnds : Served → Type 0
ServedEnds (waits s q) = StageEnds s.locks s.stage
ServedEnds x = Unit {0}

module _ (j : Invocation) where
  settled_ends : (s : State) (x : Next) → Ends j (settled j s x)
  settled_ends s (goes c) = tt
  settled_ends s (ends c o) = let t : State = record s { config = c; stage = running } in release_ends j t o (locks_from t (length j.program.grants) 0) (λ g. all_covered j t g)
  settled_ends s (touches c b) = by (begun_touch b)
    where
      by : (t : Option Touch) → Ends j (elim t as (λ t. Progress) [ None ↦ lost | Some q ↦ asks (record s { config = c; stage = touching b }) (touch_question j q) ])
      by None = tt
      by (Some q) = λ g. tt
  settled_ends s (calls c k) = tt
  settled_ends s stuck = tt

  served_ends : (x : Served) → ServedEnds x → Ends j (served j x)
  served_ends (waits s q) h = λ g. h
  served_ends (through s r) h = settled_ends s (finished s.config r)
  served_ends (no_memory s) h = release_ends j s outcome.Want (locks_from s (length j.program.grants) 0) (λ g. all_covered j s g)
  served_ends misfit h = tt

  abbrev GoesEnds : (Carried → Served) → Type 0
  GoesEnds go = (x : Carried) → ServedEnds (go x)

  passed_ends : (acts : List Act) (go : Carried → Served) → GoesEnds go → (x : Carried) (w : Written) → ServedEnds (passed j acts go x w)
  passed_ends acts go ok x w = by (touch_of w.access)
    where
      by : (o : Option Touch) → ServedEnds (elim o as (λ o. Served) [ None ↦ go (record (with_memory x w.memory) { held = kept x.held w.access }) | Some t ↦ stands (passing w.access ∷ acts) (with_memory x w.memory) (touch_question j t) ])
      by None = ok (record (with_memory x w.memory) { held = kept x.held w.access })
      by (Some t) = tt

  does_ends : (a : Act) (acts : List Act) (go : Carried → Served) → GoesEnds go → (x : Carried) → ServedEnds (does j a acts go x)
  does_ends (buffer_in ptr len) acts go ok x = passed_ends acts go ok x (record { memory = x.state.config.memory; access = reading x.state.config.memory ptr len })
  does_ends (buffer_out ptr len) acts go ok x = passed_ends acts go ok x _
  does_ends (passing a) acts go ok x = passed_ends acts go ok x (record { memory = x.state.config.memory; access = a })
  does_ends (map k) acts go ok x = ok _
  does_ends (take_input off len) acts go ok x = ok _
  does_ends give_output acts go ok x = ok _
  does_ends (gives n) acts go ok x = ok _
  does_ends a acts go ok x = ok x

  go_ends : (acts : List Act) → GoesEnds (go_on j acts)
  go_ends [] x = tt
  go_ends (a ∷ acts) x = by (question_of j x a) (does_ends a acts (go_on j acts) (go_ends acts) x)
    where
      by : (o : Option Question) → ServedEnds (does j a acts (go_on j acts) x) → ServedEnds (elim o as (λ o. Served) [ Some q ↦ stands (a ∷ acts) x q | None ↦ does j a acts (go_on j acts) x ])
      by None k = k
      by (Some q) k = tt

  came_ends : (acts : List Act) (x : Carried) (a : After) → ServedEnds (came_after j acts x a)
  came_ends acts x (next y) = go_ends acts y
  came_ends acts x (instead b) = go_ends (b ∷ acts) x
  came_ends acts x (piece w) = passed_ends acts (go_on j acts) (go_ends acts) x w
  came_ends acts x (fails t) = tt
  came_ends acts x wants = tt
  came_ends acts x unfit = tt

  serve_ends : (s : State) (h : HostCall) → Ends j (serve j s h)
  serve_ends s h = by (first_trap j s (checks h))
    where
      by : (o : Option Trap) → Ends j (elim o as (λ o. Progress) [ Some t ↦ served j (through s (Err t)) | None ↦ served j (go_on j (operations j s h) (record { held = []; result = None; state = s })) ])
      by (Some t) = served_ends (through s (Err t)) tt
      by None = served_ends (go_on j (operations j s h) (record { held = []; result = None; state = s })) (go_ends (operations j s h) (record { held = []; result = None; state = s }))

  turn_ends : (s : State) (x : Next) → Ends j (progress j s x)
  turn_ends s (goes c) = tt
  turn_ends s (ends c o) = settled_ends s (ends c o)
  turn_ends s (touches c b) = settled_ends s (touches c b)
  turn_ends s (calls c h) = serve_ends (record s { config = c }) h
  turn_ends s stuck = tt

  step_ends : (s : State) → Ends j (call_step j s)
  step_ends s = turn_ends s (step j.program s.config)

  work_ends : (s : State) (acts : List Act) (held : List ℕ) (result : Option ℕ) (r : Reply) → Ends j (reply_work j s (record { acts = acts; held = held; result = result }) r)
  work_ends s [] held result r = tt
  work_ends s (a ∷ acts) held result r =
      let x : Carried = record { held = held; result = result; state = s } in
      served_ends (reply_to j a acts x r) (came_ends acts x (after a x r))

  stage_ends : (s : State) (st : Stage) (r : Reply) → Granted j s.locks → StageEnds s.locks st → Ends j (reply_at j s st r)
  stage_ends s running r g h = tt
  stage_ends s (touching b) (Reply.bytes bs) g h = settled_ends s (resumed s.config b bs)
  stage_ends s (touching b) Reply.done g h = settled_ends s (resumed s.config b [])
  stage_ends s (touching b) r g h = tt
  stage_ends s (calling w) r g h = work_ends s w.acts w.held w.result r
  stage_ends s (releasing [] o) Reply.done g h = tt
  stage_ends s (releasing (l ∷ left) o) Reply.done g h = release_ends j (without_lock s l) o left (λ k. one_less l s.locks left h)
  stage_ends s (releasing left o) r g h = tt

-- ---- Along a way.

goes_ends : {j : Invocation} {p y : Progress} {t : Transcript} → Goes j p t y → ProgressFits j p → Ends j p → Ends j y
goes_ends here h e = e
goes_ends {j} (stepped {s = s} g) h e = goes_ends g (call_fits j s h) (step_ends j s)
goes_ends {j} (answered {s = s} {q = q} {r = r} fit g) h e = goes_ends g (replied_fits j s q r h fit) (stage_ends j s s.stage r h.0.1.2.granted (e h.0.1.2.granted))

fits_on : {j : Invocation} {p y : Progress} {t : Transcript} → Goes j p t y → ProgressFits j p → ProgressFits j y
fits_on here h = h
fits_on {j} (stepped {s = s} g) h = fits_on g (call_fits j s h)
fits_on {j} (answered {s = s} {q = q} {r = r} fit g) h = fits_on g (replied_fits j s q r h fit)

pub ends_without : (f : Function) (input : List ℕ) (c : Configuration) (transcript : Transcript) (s : State) (o : Outcome) (channel : Channel) → Valid f.code → fresh f ≡ makes c
    → Goes (invocation f input) (runs (fresh_state c)) transcript (over s o) → leaves_lock false (told_by transcript channel) ≡ false
ends_without f input c transcript s o channel valid made g = by (leaves_lock false (told_by transcript channel)) refl
  where
    j : Invocation
    j = invocation f input

    fit : ProgressFits (invocation f input) (runs (fresh_state c))
    fit = formed_parts (invocation f input) (fresh_state c) (fresh_formed f input c valid made)

    by : (b : Bool) → leaves_lock false (told_by transcript channel) ≡ b → b ≡ false
    by true e =
        let had = has_left g [] fit (none_told (invocation f input)) channel e in
        let covered = goes_ends g fit tt (fits_on g fit).1.2.granted had.lock had.held in
        let no : false ≡ true = covered in
        cc
    by false e = refl
