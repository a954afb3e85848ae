-- What a call was told on a channel leaves a lock only where the call has one: so it locks what it doesn't have.
use Rattle.std.proofs.Common.{◌≡◌, ℕ, ◌<◌, List, [], ◌∷◌, ◌++◌, length, refl, sym, ap, ◌∙◌, subst, Some, Bool, true, false, cond, not, eqb-true, eq-eqb}
use Rattle.std.specs.Prelude.{find, is_some, filter, ◌==◌, ◌&&◌}
use Rattle.std.proofs.lemmas.Bool.{and_parts}
use Rattle.std.proofs.lemmas.List.{append-nil, append_assoc}
use Rattle.faaslet_meaning.specs.declared.grant.Channel.{Channel}
use Rattle.faaslet_meaning.specs.declared.grant.Channel.TheVariants.{Local, Global, Table}
use Rattle.faaslet_meaning.specs.Channels.{RegionOperation, Operation, on_region, Reply, Question, ask, fills, pulls, pushes, Transcript, entry, entries, on_channel, same_channel, told_by, has_form}
use Rattle.faaslet_meaning.specs.CallState.{Invocation, Tier, local, global, Lock, State, Progress, runs, asks, over, lost, fresh_state, is_lock, same_tier}
use Rattle.faaslet_meaning.specs.Configuration.{Configuration}
use Rattle.faaslet_meaning.specs.Fresh.{Function, fresh, makes}
use Rattle.faaslet_meaning.specs.Runs.{invocation}
use Rattle.faaslet_meaning.specs.Valid.{Valid}
use Rattle.faaslet_meaning.specs.Serve.{channel}
use Rattle.faaslet_meaning.specs.Call.{call_step, replied, comes}
use Rattle.faaslet_meaning.specs.Formed.{KeysDiffer}
use Rattle.faaslet_meaning.specs.Goes.{Goes, here, stepped, answered}
use Rattle.faaslet_meaning.proofs.CallFresh.{fresh_formed}
use Rattle.faaslet_meaning.proofs.CallParts.{Each, formed_parts, found_filtered}
use Rattle.faaslet_meaning.proofs.CallActs.{held_lock}
use Rattle.faaslet_meaning.proofs.CallAsks.{own_channels}
use Rattle.faaslet_meaning.proofs.CallKept.{ProgressFits, call_fits, replied_fits}
use Rattle.session_meaning.proofs.Goes.{told_more}
use Rattle.session_meaning.proofs.CallLocks.{channel_same}
use Rattle.session_meaning.proofs.LockSteps.{is_taking, is_freeing, LockStep, stays, takes, frees, LocksAre, step_locks, stage_step}
use Rattle.region_tier.specs.Holding.{LocksInTurn}
use Rattle.told_asks.specs.Leaves.{leaves_one, leaves_lock}
use Rattle.told_asks.proofs.LockTurns.{leaves_both, unlocks_in_turn}
use Rattle.told_asks.proofs.Taking.{stage_takes}

-- ---- Locks and channels that are one.

tier_same : (t u : Tier) → same_tier t u ≡ true → t ≡ u
tier_same local local e = refl
tier_same global global e = refl
tier_same local global e = let no : ⊥ = cc in absurd no
tier_same global local e = let no : ⊥ = cc in absurd no

pub lock_same : (a b : Lock) → is_lock a.tier a.place b ≡ true → a ≡ b
lock_same a b e =
    let p = and_parts (same_tier a.tier b.tier) (a.place == b.place) e in
    ap (λ t. record { tier = t; place = a.place }) (tier_same a.tier b.tier p.0) ∙ ap (λ n. record { tier = b.tier; place = n }) (eqb-true a.place b.place p.1)

tier_self : (t : Tier) → same_tier t t ≡ true
tier_self local = refl
tier_self global = refl

pub lock_self : (a : Lock) → is_lock a.tier a.place a ≡ true
lock_self a = ap (λ b. b && (a.place == a.place)) (tier_self a.tier) ∙ eq-eqb a.place a.place refl

same_self : (ch : Channel) → same_channel ch ch ≡ true
same_self (Local k) = eq-eqb k k refl
same_self (Global k) = eq-eqb k k refl
same_self Table = refl

pub held_granted : (P : Lock → Type 0) (l : Lock) (locks : List Lock) → Each P locks → held_lock locks l.tier l.place ≡ true → P l
held_granted P l [] h e = let no : ⊥ = cc in absurd no
held_granted P l (x ∷ xs) h e = by (is_lock l.tier l.place x) refl e (held_granted P l xs h.1)
  where
    by : (b : Bool) → is_lock l.tier l.place x ≡ b → is_some (cond b (Some x) (find (is_lock l.tier l.place) xs)) ≡ true → (held_lock xs l.tier l.place ≡ true → P l) → P l
    by true i e go = subst P (sym (lock_same l x i)) h.0
    by false i e go = go e

-- ---- The invariant.

-- the call has a lock on this channel
pub record Has (j : Invocation) (locks : List Lock) (ch : Channel) : Type 0 where
  pub lock : Lock
  pub held : held_lock locks lock.tier lock.place ≡ true
  pub on : ch ≡ channel j lock.tier lock.place

abbrev pub LeftOf : Invocation → Transcript → List Lock → Type 0
LeftOf j u locks = (ch : Channel) → leaves_lock false (told_by u ch) ≡ true → Has j locks ch

abbrev pub Left : Invocation → Transcript → Progress → Type 0
Left j u (runs s) = LeftOf j u s.locks
Left j u (asks s q) = LeftOf j u s.locks
Left j u (over s o) = LeftOf j u s.locks
Left j u lost = Unit {0}

left_as : (j : Invocation) (u : Transcript) (L : List Lock) (p : Progress) → LocksAre L p → LeftOf j u L → Left j u p
left_as j u L (runs s) h t = subst (LeftOf j u) (sym h) t
left_as j u L (asks s q) h t = subst (LeftOf j u) (sym h) t
left_as j u L (over s o) h t = subst (LeftOf j u) (sym h) t
left_as j u L lost h t = tt

-- ---- What a question leaves on a channel.

abbrev is_lock_question : Question → Bool
is_lock_question (ask ch (on_region op)) = is_taking op
is_lock_question q = false

quiet_one : (c b : Bool) (op : Operation) (r : Reply) (rest : List (Operation × Reply)) → ((d : Bool) → leaves_one op d ≡ d) → ((d : Bool) → leaves_lock d rest ≡ d) → leaves_lock b (cond c ((op, r) ∷ rest) rest) ≡ b
quiet_one true b op r rest o h = h (leaves_one op b) ∙ o b
quiet_one false b op r rest o h = h b

quiet_op : (op : Operation) (ch : Channel) → is_lock_question (ask ch op) ≡ false → is_freeing (ask ch op) ≡ false → (d : Bool) → leaves_one op d ≡ d
quiet_op (on_region RegionOperation.lock_read) ch h k d = let no : ⊥ = cc in absurd no
quiet_op (on_region RegionOperation.lock_write) ch h k d = let no : ⊥ = cc in absurd no
quiet_op (on_region RegionOperation.unlock) ch h k d = let no : ⊥ = cc in absurd no
quiet_op op ch h k d = refl

quiet : (q : Question) (r : Reply) (ch : Channel) (b : Bool) → is_lock_question q ≡ false → is_freeing q ≡ false → leaves_lock b (on_channel ch (entries q r)) ≡ b
quiet q Reply.want ch b h k = refl
quiet (ask c op) r ch b h k = quiet_one (same_channel ch c) b op r [] (quiet_op op c h k) (λ d. refl)
quiet (fills key n) (Reply.bytes bs) ch b h k = quiet_one (same_channel ch _) b _ _ (on_channel ch (entry _ (on_region (RegionOperation.fill bs)) Reply.done ∷ [])) (λ d. refl) (λ d. quiet_one (same_channel ch _) d _ _ [] (λ f. refl) (λ f. refl))
quiet (pulls key off len) (Reply.bytes bs) ch b h k = quiet_one (same_channel ch _) b _ _ (on_channel ch (entry _ (on_region (RegionOperation.take off bs)) Reply.done ∷ [])) (λ d. refl) (λ d. quiet_one (same_channel ch _) d _ _ [] (λ f. refl) (λ f. refl))
quiet (pushes key off len) (Reply.bytes bs) ch b h k = quiet_one (same_channel ch _) b _ _ (on_channel ch (entry _ (on_region (RegionOperation.put off bs)) Reply.done ∷ [])) (λ d. refl) (λ d. quiet_one (same_channel ch _) d _ _ [] (λ f. refl) (λ f. refl))
quiet q r ch b h k = refl

elsewhere : (ch c : Channel) (op : Operation) (r : Reply) (b : Bool) → same_channel ch c ≡ false → leaves_lock b (on_channel ch (entries (ask c op) r)) ≡ b
elsewhere ch c op Reply.want b e = refl
elsewhere ch c op r b e = ap (λ x. leaves_lock b (cond x ((op, r) ∷ []) [])) e

unlocked : (ch c : Channel) (r : Reply) (b : Bool) → has_form (ask c (on_region RegionOperation.unlock)) r ≡ true → same_channel ch c ≡ true → leaves_lock b (on_channel ch (entries (ask c (on_region RegionOperation.unlock)) r)) ≡ false
unlocked ch c Reply.done b f e = ap (λ x. leaves_lock b (cond x ((on_region RegionOperation.unlock, Reply.done) ∷ []) [])) e
unlocked ch c r b f e = let no : ⊥ = cc in absurd no

taking_done : (op : RegionOperation) (c : Channel) (r : Reply) → is_taking op ≡ true → has_form (ask c (on_region op)) r ≡ true → r ≡ Reply.done
taking_done RegionOperation.lock_read c Reply.done t f = refl
taking_done RegionOperation.lock_write c Reply.done t f = refl
taking_done op c r t f = let no : ⊥ = cc in absurd no

not_freeing : (op : RegionOperation) (c : Channel) → is_taking op ≡ true → is_freeing (ask c (on_region op)) ≡ false
not_freeing RegionOperation.lock_read c t = refl
not_freeing RegionOperation.lock_write c t = refl
not_freeing op c t = let no : ⊥ = cc in absurd no

-- ---- One question.

held_more : (l x : Lock) (locks : List Lock) → held_lock locks l.tier l.place ≡ true → held_lock (x ∷ locks) l.tier l.place ≡ true
held_more l x locks h = by (is_lock l.tier l.place x)
  where
    by : (b : Bool) → is_some (cond b (Some x) (find (is_lock l.tier l.place) locks)) ≡ true
    by true = refl
    by false = h

held_first : (l : Lock) (locks : List Lock) → held_lock (l ∷ locks) l.tier l.place ≡ true
held_first l locks = ap (λ b. is_some (cond b (Some l) (find (is_lock l.tier l.place) locks))) (lock_self l)

module _ (j : Invocation) (u : Transcript) (old : List Lock) (left : LeftOf j u old) where
  abbrev Next : Question → Reply → List Lock → Channel → Type 0
  Next q r new ch = leaves_lock false (told_by (u ++ (q, r) ∷ []) ch) ≡ true → Has j new ch

  whole : (q : Question) (r : Reply) (ch : Channel) → leaves_lock false (told_by (u ++ (q, r) ∷ []) ch) ≡ leaves_lock (leaves_lock false (told_by u ch)) (on_channel ch (entries q r))
  whole q r ch = ap (leaves_lock false) (told_more u q r ch) ∙ leaves_both false (told_by u ch) (on_channel ch (entries q r))

  quiet_left : (q : Question) (r : Reply) → is_lock_question q ≡ false → is_freeing q ≡ false → LeftOf j (u ++ (q, r) ∷ []) old
  quiet_left q r h k ch e = left ch (sym (quiet q r ch (leaves_lock false (told_by u ch)) h k) ∙ (sym (whole q r ch) ∙ e))

  taken_left : (c : Channel) (op : RegionOperation) (r : Reply) (l : Lock) → c ≡ channel j l.tier l.place → LeftOf j (u ++ (ask c (on_region op), r) ∷ []) (l ∷ old)
  taken_left c op r l on ch e = by (same_channel ch c) refl
    where
      by : (b : Bool) → same_channel ch c ≡ b → Has j (l ∷ old) ch
      by true i = record { lock = l; held = held_first l old; on = channel_same ch c i ∙ on }
      by false i =
          let had = left ch (sym (elsewhere ch c (on_region op) r (leaves_lock false (told_by u ch)) i) ∙ (sym (whole (ask c (on_region op)) r ch) ∙ e)) in
          record { lock = had.lock; held = held_more had.lock l old had.held; on = had.on }

  freed_left : (l : Lock) (r : Reply) → has_form (ask (channel j l.tier l.place) (on_region RegionOperation.unlock)) r ≡ true → LeftOf j (u ++ (ask (channel j l.tier l.place) (on_region RegionOperation.unlock), r) ∷ []) (filter (λ h. not (is_lock l.tier l.place h)) old)
  freed_left l r form ch e = by (same_channel ch (channel j l.tier l.place)) refl
    where
      c : Channel
      c = channel j l.tier l.place

      by : (b : Bool) → same_channel ch (channel j l.tier l.place) ≡ b → Has j (filter (λ h. not (is_lock l.tier l.place h)) old) ch
      by true i =
          let no : false ≡ true = sym (unlocked ch (channel j l.tier l.place) r (leaves_lock false (told_by u ch)) form i) ∙ (sym (whole (ask (channel j l.tier l.place) (on_region RegionOperation.unlock)) r ch) ∙ e) in
          let bad : ⊥ = cc in
          absurd bad
      by false i =
          let had = left ch (sym (elsewhere ch (channel j l.tier l.place) (on_region RegionOperation.unlock) r (leaves_lock false (told_by u ch)) i) ∙ (sym (whole (ask (channel j l.tier l.place) (on_region RegionOperation.unlock)) r ch) ∙ e)) in
          record { lock = had.lock; held = found_filtered (is_lock had.lock.tier had.lock.place) (is_lock l.tier l.place) old (λ x a. apart had x a (is_lock l.tier l.place x) refl) had.held; on = had.on }
        where
          apart : (had : Has j old ch) (x : Lock) → is_lock had.lock.tier had.lock.place x ≡ true → (b : Bool) → is_lock l.tier l.place x ≡ b → b ≡ false
          apart had x a true k =
              let one : had.lock ≡ l = lock_same had.lock x a ∙ sym (lock_same l x k) in
              let same : ch ≡ channel j l.tier l.place = had.on ∙ ap (λ (z : Lock). channel j z.tier z.place) one in
              let no : false ≡ true = sym i ∙ (ap (λ d. same_channel d (channel j l.tier l.place)) same ∙ same_self (channel j l.tier l.place)) in
              cc
          apart had x a false k = refl

-- ---- Any question.

record Locking (q : Question) : Type 0 where
  at : Channel
  op : RegionOperation
  is : q ≡ ask at (on_region op)
  taking : is_taking op ≡ true

locking : (q : Question) → is_lock_question q ≡ true → Locking q
locking (ask c (on_region op)) e = record { at = c; op = op; is = refl; taking = e }
locking q e = let no : ⊥ = cc in absurd no

step_left : (j : Invocation) (u : Transcript) (s : State) (q : Question) (r : Reply) → ProgressFits j (asks s q) → has_form q r ≡ true → LeftOf j u s.locks → Left j (u ++ (q, r) ∷ []) (replied j s r)
step_left j u s q r f form left = by (is_lock_question q) refl
  where
    takes_it : (x : Question) (l : Locking x) → x ≡ q → Left j (u ++ (q, r) ∷ []) (replied j s r)
    takes_it x l same =
        let is : q ≡ ask l.at (on_region l.op) = sym same ∙ l.is in
        let done : r ≡ Reply.done = taking_done l.op l.at r l.taking (subst (λ y. has_form y r ≡ true) is form) in
        let t = stage_takes j s l.at l.op l.taking s.stage (f.1 ∙ ap (λ y. Some y) is) f.2 in
        let more = subst (λ y. LeftOf j (u ++ (y, r) ∷ []) (t.lock ∷ s.locks)) (sym is) (taken_left j u s.locks left l.at l.op r t.lock t.on) in
        subst (λ y. Left j (u ++ (q, r) ∷ []) (replied j s y)) (sym done) (left_as j (u ++ (q, r) ∷ []) (t.lock ∷ s.locks) (replied j s Reply.done) t.then more)

    -- a question that takes no lock
    leaves_it : (new : List Lock) → is_lock_question q ≡ false → LockStep j s.locks q new → LeftOf j (u ++ (q, r) ∷ []) new
    leaves_it new plain (stays k e) = subst (LeftOf j (u ++ (q, r) ∷ [])) (sym e) (quiet_left j u s.locks left q r plain k)
    leaves_it new plain (takes l op t is e) = let no : false ≡ true = sym plain ∙ (ap is_lock_question is ∙ t) in let bad : ⊥ = cc in absurd bad
    leaves_it new plain (frees l held is e) =
        let form' : has_form (ask (channel j l.tier l.place) (on_region RegionOperation.unlock)) r ≡ true = subst (λ y. has_form y r ≡ true) is form in
        subst (LeftOf j (u ++ (q, r) ∷ [])) (sym e) (subst (λ y. LeftOf j (u ++ (y, r) ∷ []) (filter (λ h. not (is_lock l.tier l.place h)) s.locks)) (sym is) (freed_left j u s.locks left l r form'))

    by : (b : Bool) → is_lock_question q ≡ b → Left j (u ++ (q, r) ∷ []) (replied j s r)
    by true t = takes_it q (locking q t) refl
    by false t =
        let x = stage_step j s s.stage r q f.1 f.2 in
        left_as j (u ++ (q, r) ∷ []) x.0 (replied j s r) x.2 (leaves_it x.0 t x.1)

-- ---- Along a way.

fits_goes : {j : Invocation} {p y : Progress} {t : Transcript} → Goes j p t y → ProgressFits j p → ProgressFits j y
fits_goes here h = h
fits_goes {j} (stepped {s = s} g) h = fits_goes g (call_fits j s h)
fits_goes {j} (answered {s = s} {q = q} {r = r} fit g) h = fits_goes g (replied_fits j s q r h fit)

pub has_left : {j : Invocation} {p y : Progress} {t : Transcript} → Goes j p t y → (u : Transcript) → ProgressFits j p → Left j u p → Left j (u ++ t) y
has_left {j} {p} here u h left = subst (λ v. Left j v p) (sym (append-nil u)) left
has_left {j} (stepped {s = s} g) u h left = has_left g u (call_fits j s h) (left_as j u s.locks (call_step j s) (step_locks j s) left)
has_left {j} {y = y} (answered {s = s} {q = q} {r = r} {transcript = transcript} fit g) u h left =
    let form = (and_parts (has_form q r) (comes s q r) fit).0 in
    subst (λ v. Left j v y) (append_assoc u ((q, r) ∷ []) transcript) (has_left g (u ++ (q, r) ∷ []) (replied_fits j s q r h fit) (step_left j u s q r h form left))

pub none_told : (j : Invocation) → LeftOf j [] []
none_told j ch e = let no : ⊥ = cc in absurd no

-- ---- A call locks in turn.

free_there : (j : Invocation) (c : Configuration) (transcript : Transcript) (s : State) (ch : Channel) (op : RegionOperation) → KeysDiffer j → ProgressFits j (runs (fresh_state c)) → is_taking op ≡ true
    → Goes j (runs (fresh_state c)) transcript (asks s (ask ch (on_region op))) → leaves_lock false (told_by transcript ch) ≡ false
free_there j c transcript s ch op differ fit t g = by (leaves_lock false (told_by transcript ch)) refl
  where
    f : ProgressFits j (asks s (ask ch (on_region op)))
    f = fits_goes g fit

    by : (b : Bool) → leaves_lock false (told_by transcript ch) ≡ b → b ≡ false
    by true e =
        let takes_it = stage_takes j s ch op t s.stage f.1 f.2 in
        let had = has_left g [] fit (none_told j) ch e in
        let granted = held_granted (λ l. l.place < length j.program.grants) had.lock s.locks f.0.1.2.granted had.held in
        let one = own_channels j had.lock takes_it.lock differ granted takes_it.granted (sym had.on ∙ takes_it.on) in
        let no : true ≡ false = sym had.held ∙ (ap (λ (l : Lock). held_lock s.locks l.tier l.place) one ∙ takes_it.free) in
        cc
    by false e = refl

pub locks_in_turn : (f : Function) (input : List ℕ) (c : Configuration) (transcript : Transcript) (s : State) (channel : Channel) (op : RegionOperation) → Valid f.code → KeysDiffer (invocation f input) → fresh f ≡ makes c
    → Goes (invocation f input) (runs (fresh_state c)) transcript (asks s (ask channel (on_region op))) → LocksInTurn op (leaves_lock false (told_by transcript channel))
locks_in_turn f input c transcript s channel op valid differ made = by op
  where
    fit : ProgressFits (invocation f input) (runs (fresh_state c))
    fit = formed_parts (invocation f input) (fresh_state c) (fresh_formed f input c valid made)

    by : (o : RegionOperation) → Goes (invocation f input) (runs (fresh_state c)) transcript (asks s (ask channel (on_region o))) → LocksInTurn o (leaves_lock false (told_by transcript channel))
    by RegionOperation.lock_read g = free_there (invocation f input) c transcript s channel RegionOperation.lock_read differ fit refl g
    by RegionOperation.lock_write g = free_there (invocation f input) c transcript s channel RegionOperation.lock_write differ fit refl g
    by RegionOperation.unlock g = unlocks_in_turn f input c transcript s channel valid differ made g
    by o g = tt
