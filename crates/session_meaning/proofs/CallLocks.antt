-- A lock that a call holds is one that its own entries on the lock's channel left it: so it unlocks only what these left it.
use Rattle.std.proofs.Common.{◌≡◌, List, [], ◌∷◌, ◌++◌, refl, sym, ap, ◌∙◌, subst, Option, Some, Bool, true, false, cond, not, eqb-true, eq-eqb}
use Rattle.std.specs.Prelude.{find, is_some, filter, ◌==◌}
use Rattle.std.proofs.lemmas.Bool.{and_parts}
use Rattle.std.proofs.lemmas.List.{append-nil, append_assoc}
use Rattle.faaslet_meaning.specs.declared.grant.Channel.{Channel}
use Rattle.faaslet_meaning.specs.declared.grant.Channel.TheVariants.{Local, Global, Table}
use Rattle.faaslet_meaning.specs.Step.{step}
use Rattle.faaslet_meaning.specs.Channels.{RegionOperation, Operation, on_region, Reply, Question, ask, fills, pulls, pushes, Transcript, entry, entries, on_channel, same_channel, told_by, has_form}
use Rattle.faaslet_meaning.specs.CallState.{Invocation, Tier, local, global, Lock, State, Progress, runs, asks, over, lost, is_lock, same_tier}
use Rattle.faaslet_meaning.specs.Serve.{channel}
use Rattle.faaslet_meaning.specs.Call.{call_step, replied, comes}
use Rattle.faaslet_meaning.specs.Formed.{KeysDiffer}
use Rattle.faaslet_meaning.proofs.CallParts.{Each, LocksOk}
use Rattle.faaslet_meaning.proofs.CallActs.{held_lock}
use Rattle.faaslet_meaning.proofs.CallAsks.{own_channels}
use Rattle.faaslet_meaning.proofs.CallKept.{ProgressFits, call_fits, replied_fits}
use Rattle.faaslet_meaning.specs.Goes.{Goes, here, stepped, answered}
use Rattle.session_meaning.proofs.Goes.{told_more}
use Rattle.session_meaning.proofs.LockSteps.{is_taking, is_freeing, LockStep, stays, takes, frees, LocksAre, step_locks, stage_step}

-- ---- What entries on one channel leave: a lock, or none.

abbrev pub sets : Operation → Bool → Bool
sets (on_region RegionOperation.lock_read) b = true
sets (on_region RegionOperation.lock_write) b = true
sets (on_region RegionOperation.unlock) b = false
sets op b = b

abbrev pub keeps : Bool → List (Operation × Reply) → Bool
keeps b [] = b
keeps b (x ∷ xs) = keeps (sets x.0 b) xs

pub keeps_both : (b : Bool) (xs ys : List (Operation × Reply)) → keeps b (xs ++ ys) ≡ keeps (keeps b xs) ys
keeps_both b [] ys = refl
keeps_both b (x ∷ xs) ys = keeps_both (sets x.0 b) xs ys

-- ---- Each lock held is one that the entries on its channel left.

abbrev TellsOf : Invocation → Transcript → List Lock → Type 0
TellsOf j u locks = (l : Lock) → held_lock locks l.tier l.place ≡ true → keeps false (told_by u (channel j l.tier l.place)) ≡ true

abbrev Tells : Invocation → Transcript → Progress → Type 0
Tells j u (runs s) = TellsOf j u s.locks
Tells j u (asks s q) = TellsOf j u s.locks
Tells j u (over s o) = TellsOf j u s.locks
Tells j u lost = Unit {0}

tells_as : (j : Invocation) (u : Transcript) (L : List Lock) (p : Progress) → LocksAre L p → TellsOf j u L → Tells j u p
tells_as j u L (runs s) h t = subst (TellsOf j u) (sym h) t
tells_as j u L (asks s q) h t = subst (TellsOf j u) (sym h) t
tells_as j u L (over s o) h t = subst (TellsOf j u) (sym h) t
tells_as j u L lost h t = tt

same_self : (ch : Channel) → same_channel ch ch ≡ true
same_self (Local k) = eq-eqb k k refl
same_self (Global k) = eq-eqb k k refl
same_self Table = refl

pub channel_same : (a b : Channel) → same_channel a b ≡ true → a ≡ b
channel_same (Local a) (Local b) e = ap Local (eqb-true a b e)
channel_same (Global a) (Global b) e = ap Global (eqb-true a b e)
channel_same Table Table e = refl
channel_same a b e = let no : ⊥ = cc in absurd no

-- entries that unlock nothing
one_kept : (c : Bool) (op : Operation) (r : Reply) (rest : List (Operation × Reply)) → sets op true ≡ true → keeps true rest ≡ true → keeps true (cond c ((op, r) ∷ rest) rest) ≡ true
one_kept true op r rest e h = ap (λ b. keeps b rest) e ∙ h
one_kept false op r rest e h = h

freeing : (op : Operation) (ch : Channel) → is_freeing (ask ch op) ≡ false → sets op true ≡ true
freeing (on_region RegionOperation.unlock) ch h = let no : ⊥ = cc in absurd no
freeing op ch h = refl

stay_kept : (q : Question) (r : Reply) (ch : Channel) → is_freeing q ≡ false → keeps true (on_channel ch (entries q r)) ≡ true
stay_kept q Reply.want ch h = refl
stay_kept (ask c op) r ch h = one_kept (same_channel ch c) op r [] (freeing op c h) refl
stay_kept (fills key n) (Reply.bytes bs) ch h = one_kept (same_channel ch (Global key)) (on_region (RegionOperation.send 0 n)) (Reply.bytes bs) (on_channel ch (entry (Local key) (on_region (RegionOperation.fill bs)) Reply.done ∷ [])) refl (one_kept (same_channel ch (Local key)) (on_region (RegionOperation.fill bs)) Reply.done [] refl refl)
stay_kept (pulls key off len) (Reply.bytes bs) ch h = one_kept (same_channel ch (Global key)) (on_region (RegionOperation.send off len)) (Reply.bytes bs) (on_channel ch (entry (Local key) (on_region (RegionOperation.take off bs)) Reply.done ∷ [])) refl (one_kept (same_channel ch (Local key)) (on_region (RegionOperation.take off bs)) Reply.done [] refl refl)
stay_kept (pushes key off len) (Reply.bytes bs) ch h = one_kept (same_channel ch (Local key)) (on_region (RegionOperation.send off len)) (Reply.bytes bs) (on_channel ch (entry (Global key) (on_region (RegionOperation.put off bs)) Reply.done ∷ [])) refl (one_kept (same_channel ch (Global key)) (on_region (RegionOperation.put off bs)) Reply.done [] refl refl)
stay_kept q r ch h = refl

taken_kept : (op : RegionOperation) (r : Reply) (ch : Channel) (b : Bool) → is_taking op ≡ true → has_form (ask ch (on_region op)) r ≡ true → keeps b (on_channel ch (entries (ask ch (on_region op)) r)) ≡ true
taken_kept RegionOperation.lock_read Reply.done ch b i f = ap (λ c. keeps b (cond c ((on_region RegionOperation.lock_read, Reply.done) ∷ []) [])) (same_self ch)
taken_kept RegionOperation.lock_write Reply.done ch b i f = ap (λ c. keeps b (cond c ((on_region RegionOperation.lock_write, Reply.done) ∷ []) [])) (same_self ch)
taken_kept op r ch b i f = let no : ⊥ = cc in absurd no

taking_stays : (op : RegionOperation) (ch : Channel) → is_taking op ≡ true → is_freeing (ask ch (on_region op)) ≡ false
taking_stays RegionOperation.lock_read ch i = refl
taking_stays RegionOperation.lock_write ch i = refl
taking_stays op ch i = let no : ⊥ = cc in absurd no

other_kept : (ch c : Channel) (op : Operation) (r : Reply) (b : Bool) → same_channel ch c ≡ false → keeps b (on_channel ch (entries (ask c op) r)) ≡ b
other_kept ch c op Reply.want b e = refl
other_kept ch c op r b e = ap (λ x. keeps b (cond x ((op, r) ∷ []) [])) e

-- ---- Locks that stay.

tier_same : (t u : Tier) → same_tier t u ≡ true → t ≡ u
tier_same local local e = refl
tier_same global global e = refl
tier_same local global e = let no : ⊥ = cc in absurd no
tier_same global local e = let no : ⊥ = cc in absurd no

lock_same : (a b : Lock) → is_lock a.tier a.place b ≡ true → a ≡ b
lock_same a b e =
    let p = and_parts (same_tier a.tier b.tier) (a.place == b.place) e in
    ap (λ t. record { tier = t; place = a.place }) (tier_same a.tier b.tier p.0) ∙ ap (λ n. record { tier = b.tier; place = n }) (eqb-true a.place b.place p.1)

held_left : (a l : Lock) (locks : List Lock) → held_lock (filter (λ h. not (is_lock l.tier l.place h)) locks) a.tier a.place ≡ true → held_lock locks a.tier a.place ≡ true
held_left a l [] h = h
held_left a l (x ∷ xs) h = by (is_lock l.tier l.place x) (is_lock a.tier a.place x) refl h (held_left a l xs)
  where
    rest : List Lock
    rest = filter (λ h. not (is_lock l.tier l.place h)) xs

    found : Option Lock
    found = find (is_lock a.tier a.place) rest

    by : (b c : Bool) → is_lock a.tier a.place x ≡ c → is_some (find (is_lock a.tier a.place) (cond (not b) (x ∷ rest) rest)) ≡ true → (is_some (find (is_lock a.tier a.place) rest) ≡ true → is_some (find (is_lock a.tier a.place) xs) ≡ true) → is_some (cond c (Some x) (find (is_lock a.tier a.place) xs)) ≡ true
    by b true e k go = refl
    by true false e k go = go k
    by false false e k go = go (sym (ap (λ c. is_some (cond c (Some x) found)) e) ∙ k)

none_left : (l : Lock) (locks : List Lock) → held_lock (filter (λ h. not (is_lock l.tier l.place h)) locks) l.tier l.place ≡ false
none_left l [] = refl
none_left l (x ∷ xs) = by (is_lock l.tier l.place x) refl (none_left l xs)
  where
    rest : List Lock
    rest = filter (λ h. not (is_lock l.tier l.place h)) xs

    by : (b : Bool) → is_lock l.tier l.place x ≡ b → is_some (find (is_lock l.tier l.place) rest) ≡ false → is_some (find (is_lock l.tier l.place) (cond (not b) (x ∷ rest) rest)) ≡ false
    by true e h = h
    by false e h = ap (λ c. is_some (cond c (Some x) (find (is_lock l.tier l.place) rest))) e ∙ h

granted : (P : Lock → Type 0) (l : Lock) (locks : List Lock) → Each P locks → held_lock locks l.tier l.place ≡ true → P l
granted P l [] h e = let no : ⊥ = cc in absurd no
granted P l (x ∷ xs) h e = by (is_lock l.tier l.place x) refl e (granted P l xs h.1)
  where
    by : (b : Bool) → is_lock l.tier l.place x ≡ b → is_some (cond b (Some x) (find (is_lock l.tier l.place) xs)) ≡ true → (held_lock xs l.tier l.place ≡ true → P l) → P l
    by true i e go = subst P (sym (lock_same l x i)) h.0
    by false i e go = go e

tells_more : (j : Invocation) (u : Transcript) (old new : List Lock) (q : Question) (r : Reply) → KeysDiffer j → LocksOk j old → has_form q r ≡ true → LockStep j old q new → TellsOf j u old → TellsOf j (u ++ (q, r) ∷ []) new
tells_more j u old new q r differ ok form step t l held = ap (keeps false) (told_more u q r ch) ∙ keeps_both false (told_by u ch) (on_channel ch (entries q r)) ∙ by step
  where
    ch : Channel
    ch = channel j l.tier l.place

    kept_on : is_freeing q ≡ false → held_lock old l.tier l.place ≡ true → keeps (keeps false (told_by u (channel j l.tier l.place))) (on_channel (channel j l.tier l.place) (entries q r)) ≡ true
    kept_on f k = ap (λ b. keeps b (on_channel ch (entries q r))) (t l k) ∙ stay_kept q r ch f

    took : (l0 : Lock) (op : RegionOperation) (b : Bool) → is_lock l.tier l.place l0 ≡ b → is_taking op ≡ true → q ≡ ask (channel j l0.tier l0.place) (on_region op) → is_some (cond b (Some l0) (find (is_lock l.tier l.place) old)) ≡ true → keeps (keeps false (told_by u (channel j l.tier l.place))) (on_channel (channel j l.tier l.place) (entries q r)) ≡ true
    took l0 op true i is e k =
        let same : q ≡ ask (channel j l.tier l.place) (on_region op) = e ∙ ap (λ (x : Lock). ask (channel j x.tier x.place) (on_region op)) (sym (lock_same l l0 i)) in
        ap (λ x. keeps (keeps false (told_by u ch)) (on_channel ch (entries x r))) same ∙ taken_kept op r ch (keeps false (told_by u ch)) is (subst (λ x. has_form x r ≡ true) same form)
    took l0 op false i is e k = kept_on (ap is_freeing e ∙ taking_stays op (channel j l0.tier l0.place) is) k

    freed : (l0 : Lock) (b : Bool) → same_channel (channel j l.tier l.place) (channel j l0.tier l0.place) ≡ b → held_lock old l0.tier l0.place ≡ true → q ≡ ask (channel j l0.tier l0.place) (on_region RegionOperation.unlock) → held_lock (filter (λ h. not (is_lock l0.tier l0.place h)) old) l.tier l.place ≡ true → keeps (keeps false (told_by u (channel j l.tier l.place))) (on_channel (channel j l.tier l.place) (entries q r)) ≡ true
    freed l0 true i h0 e k =
        let same = own_channels j l l0 differ (granted _ l old ok.granted (held_left l l0 old k)) (granted _ l0 old ok.granted h0) (channel_same ch (channel j l0.tier l0.place) i) in
        let gone = none_left l0 old in
        let here : held_lock (filter (λ h. not (is_lock l0.tier l0.place h)) old) l0.tier l0.place ≡ true = subst (λ (x : Lock). held_lock (filter (λ h. not (is_lock l0.tier l0.place h)) old) x.tier x.place ≡ true) same k in
        let no : ⊥ = cc in absurd no
    freed l0 false i h0 e k =
        ap (λ x. keeps (keeps false (told_by u ch)) (on_channel ch (entries x r))) e
        ∙ other_kept ch (channel j l0.tier l0.place) (on_region RegionOperation.unlock) r (keeps false (told_by u ch)) i
        ∙ t l (held_left l l0 old k)

    by : LockStep j old q new → keeps (keeps false (told_by u (channel j l.tier l.place))) (on_channel (channel j l.tier l.place) (entries q r)) ≡ true
    by (stays f e) = kept_on f (subst (λ x. held_lock x l.tier l.place ≡ true) e held)
    by (takes l0 op is e n) = took l0 op (is_lock l.tier l.place l0) refl is e (subst (λ x. held_lock x l.tier l.place ≡ true) n held)
    by (frees l0 h0 e n) = freed l0 (same_channel ch (channel j l0.tier l0.place)) refl h0 e (subst (λ x. held_lock x l.tier l.place ≡ true) n held)

-- ---- Along a way.

fits_goes : {j : Invocation} {p y : Progress} {t : Transcript} → Goes j p t y → ProgressFits j p → ProgressFits j y
fits_goes here h = h
fits_goes {j} (stepped {s = s} g) h = fits_goes g (call_fits j s h)
fits_goes {j} (answered {s = s} {q = q} {r = r} fit g) h = fits_goes g (replied_fits j s q r h fit)

tells_goes : {j : Invocation} {p y : Progress} {t : Transcript} → Goes j p t y → KeysDiffer j → (u : Transcript) → ProgressFits j p → Tells j u p → Tells j (u ++ t) y
tells_goes {j} {p} here d u h told = subst (λ v. Tells j v p) (sym (append-nil u)) told
tells_goes {j} (stepped {s = s} g) d u h told = tells_goes g d u (call_fits j s h) (tells_as j u s.locks (call_step j s) (step_locks j s) told)
tells_goes {j} {y = y} (answered {s = s} {q = q} {r = r} {transcript = transcript} fit g) d u h told =
    let x = stage_step j s s.stage r q h.1 h.2 in
    let form = (and_parts (has_form q r) (comes s q r) fit).0 in
    let more = tells_more j u s.locks x.0 q r d h.0.1.2 form x.1 told in
    subst (λ v. Tells j v y) (append_assoc u ((q, r) ∷ []) transcript) (tells_goes g d (u ++ (q, r) ∷ []) (replied_fits j s q r h fit) (tells_as j (u ++ (q, r) ∷ []) x.0 (replied j s r) x.2 more))

pub none_told : (j : Invocation) → TellsOf j [] []
none_told j l e = let no : ⊥ = cc in absurd no

-- Where a call asks to unlock, its entries on that channel left it the lock.
pub unlocks_own : (j : Invocation) (p : Progress) (s : State) (ch : Channel) (t : Transcript) → KeysDiffer j → ProgressFits j p → Tells j [] p → Goes j p t (asks s (ask ch (on_region RegionOperation.unlock))) → keeps false (told_by t ch) ≡ true
unlocks_own j p s ch t d h none g =
    let f = fits_goes g h in
    by (stage_step j s s.stage Reply.done (ask ch (on_region RegionOperation.unlock)) f.1 f.2).1 (tells_goes g d [] h none)
  where
    by : {new : List Lock} → LockStep j s.locks (ask ch (on_region RegionOperation.unlock)) new → TellsOf j t s.locks → keeps false (told_by t ch) ≡ true
    by (stays i e) told = let no : ⊥ = cc in absurd no
    by (takes l op i e n) told = let k = sym (ap is_freeing e) ∙ refl in let no = taking_stays op (channel j l.tier l.place) i in let bad : ⊥ = cc in absurd bad
    by (frees l held e n) told =
        let same : ch ≡ channel j l.tier l.place = cc in
        ap (λ c. keeps false (told_by t c)) same ∙ told l held
