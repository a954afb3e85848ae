-- In what a call of a run was told on a channel, each Unlock comes where the entries before it left the call a lock.
use Rattle.std.proofs.Common.{◌≡◌, ℕ, Bool, true, false, cond, List, [], ◌∷◌, ◌++◌, refl, sym, ap, ap₂, ◌∙◌, subst}
use Rattle.std.specs.Prelude.{◌&&◌}
use Rattle.std.proofs.lemmas.Bool.{and_parts}
use Rattle.std.proofs.lemmas.List.{append-nil, append_assoc}
use Rattle.faaslet_meaning.specs.declared.grant.Channel.{Channel}
use Rattle.faaslet_meaning.specs.declared.outcome.Outcome.{Outcome}
use Rattle.faaslet_meaning.specs.Channels.{RegionOperation, Operation, on_region, Reply, Question, ask, fills, pulls, pushes, Transcript, Told, entry, entries, entries_of, on_channel, same_channel, told_by}
use Rattle.faaslet_meaning.specs.CallState.{Invocation, Progress, State, runs, asks, over, fresh_state}
use Rattle.faaslet_meaning.specs.Call.{call_step}
use Rattle.faaslet_meaning.specs.Formed.{KeysDiffer}
use Rattle.faaslet_meaning.specs.Configuration.{Configuration}
use Rattle.faaslet_meaning.specs.Fresh.{Function, Made, makes, breaks, nothing, fresh}
use Rattle.faaslet_meaning.specs.Goes.{Goes, here, stepped, answered}
use Rattle.faaslet_meaning.specs.Runs.{invocation, runs_by, Runs}
use Rattle.faaslet_meaning.specs.Valid.{Valid}
use Rattle.faaslet_meaning.proofs.CallFresh.{fresh_formed}
use Rattle.faaslet_meaning.proofs.CallKept.{ProgressFits}
use Rattle.faaslet_meaning.proofs.CallParts.{formed_parts}
use Rattle.faaslet_meaning.proofs.Ways.{joined, parted, run_goes}
use Rattle.session_meaning.proofs.CallLocks.{sets, keeps, channel_same, keeps_both, none_told, unlocks_own}
use Rattle.session_meaning.proofs.LockSteps.{is_freeing}
use Rattle.session_meaning.proofs.Goes.{told_more, on_both}

abbrev pub releases : Operation → Bool
releases (on_region RegionOperation.unlock) = true
releases op = false

-- each Unlock comes where a lock is left, from a start where one is or is not
abbrev pub frees : Bool → List (Operation × Reply) → Bool
frees b [] = true
frees b (x ∷ xs) = cond (releases x.0) b true && frees (sets x.0 b) xs

frees_both : (b : Bool) (xs ys : List (Operation × Reply)) → frees b xs ≡ true → frees (keeps b xs) ys ≡ true → frees b (xs ++ ys) ≡ true
frees_both b [] ys h k = k
frees_both b (x ∷ xs) ys h k = let p = and_parts (cond (releases x.0) b true) (frees (sets x.0 b) xs) h in ap₂ (λ a c. a && c) p.0 (frees_both (sets x.0 b) xs ys p.1 k)

pub frees_there : (b : Bool) (xs ys : List (Operation × Reply)) (r : Reply) → frees b (xs ++ (on_region RegionOperation.unlock, r) ∷ ys) ≡ true → keeps b xs ≡ true
frees_there b [] ys r h = (and_parts b (frees false ys) h).0
frees_there b (x ∷ xs) ys r h = frees_there (sets x.0 b) xs ys r (and_parts (cond (releases x.0) b true) (frees (sets x.0 b) (xs ++ (on_region RegionOperation.unlock, r) ∷ ys)) h).1

-- more locks at the start leave no fewer
pub keeps_more : (b : Bool) (xs : List (Operation × Reply)) → keeps false xs ≡ true → keeps b xs ≡ true
keeps_more false xs h = h
keeps_more true [] h = refl
keeps_more true (x ∷ xs) h = by x.0 h (keeps_more true xs)
  where
    by : (op : Operation) → keeps (sets op false) xs ≡ true → (keeps false xs ≡ true → keeps true xs ≡ true) → keeps (sets op true) xs ≡ true
    by (on_region RegionOperation.lock_read) h go = h
    by (on_region RegionOperation.lock_write) h go = h
    by (on_region RegionOperation.unlock) h go = h
    by (on_region op) h go = go h
    by (Operation.submit f input) h go = go h
    by (Operation.look c) h go = go h

-- ---- One question.

one_quiet : (c b : Bool) (op : Operation) (r : Reply) (rest : List (Operation × Reply)) → releases op ≡ false → ((d : Bool) → frees d rest ≡ true) → frees b (cond c ((op, r) ∷ rest) rest) ≡ true
one_quiet true b op r rest e h = ap₂ (λ x y. x && y) (ap (λ x. cond x b true) e) (h (sets op b))
one_quiet false b op r rest e h = h b

quiet_ask : (op : Operation) (ch : Channel) → is_freeing (ask ch op) ≡ false → releases op ≡ false
quiet_ask (on_region RegionOperation.unlock) ch h = let no : ⊥ = cc in absurd no
quiet_ask op ch h = refl

quiet_frees : (q : Question) (r : Reply) (ch : Channel) (b : Bool) → is_freeing q ≡ false → frees b (on_channel ch (entries q r)) ≡ true
quiet_frees q Reply.want ch b h = refl
quiet_frees (ask c op) r ch b h = one_quiet (same_channel ch c) b op r [] (quiet_ask op c h) (λ d. refl)
quiet_frees (fills key n) (Reply.bytes bs) ch b h = one_quiet (same_channel ch _) b _ _ (on_channel ch (entry _ (on_region (RegionOperation.fill bs)) Reply.done ∷ [])) refl (λ d. one_quiet (same_channel ch _) d _ _ [] refl (λ d. refl))
quiet_frees (pulls key off len) (Reply.bytes bs) ch b h = one_quiet (same_channel ch _) b _ _ (on_channel ch (entry _ (on_region (RegionOperation.take off bs)) Reply.done ∷ [])) refl (λ d. one_quiet (same_channel ch _) d _ _ [] refl (λ d. refl))
quiet_frees (pushes key off len) (Reply.bytes bs) ch b h = one_quiet (same_channel ch _) b _ _ (on_channel ch (entry _ (on_region (RegionOperation.put off bs)) Reply.done ∷ [])) refl (λ d. one_quiet (same_channel ch _) d _ _ [] refl (λ d. refl))
quiet_frees q r ch b h = refl

freed : (c b : Bool) (r : Reply) → (c ≡ true → b ≡ true) → frees b (cond c ((on_region RegionOperation.unlock, r) ∷ []) []) ≡ true
freed true b r h = ap (λ x. x && true) (h refl)
freed false b r h = refl

unlock_frees : (c ch : Channel) (r : Reply) (b : Bool) → (same_channel ch c ≡ true → b ≡ true) → frees b (on_channel ch (entries (ask c (on_region RegionOperation.unlock)) r)) ≡ true
unlock_frees c ch Reply.want b h = refl
unlock_frees c ch r b h = freed (same_channel ch c) b r h

question_frees : (q : Question) (r : Reply) (ch : Channel) (b : Bool) → ((c : Channel) → q ≡ ask c (on_region RegionOperation.unlock) → same_channel ch c ≡ true → b ≡ true) → frees b (on_channel ch (entries q r)) ≡ true
question_frees (ask c (on_region RegionOperation.unlock)) r ch b h = unlock_frees c ch r b (h c refl)
question_frees q r ch b h = quiet_frees q r ch b refl

-- ---- All questions of a way.

module _ (j : Invocation) (c : Configuration) (end : Progress) where
  abbrev pub From : Transcript → Progress → Type 0
  From u x = Goes j (runs (fresh_state c)) u x

  -- the call stands at its next question
  pub stood : {x : Progress} {whole : Transcript} (q : Question) (r : Reply) (t u : Transcript) → whole ≡ (q, r) ∷ t → Goes j x whole end → From u x → (s : State) × From u (asks s q)
  stood q r t u e here g = let no : ⊥ = cc in absurd no
  stood q r t u e (stepped {s = s} h) g = stood q r t u e h (subst (λ v. From v (call_step j s)) (append-nil u) (joined g (stepped here)))
  stood q r t u e (answered {s = s} {q = q'} {r = r'} fits h) g = let pair : ◌≡◌ {A = Question × Reply} (q', r') (q, r) = cc in (s, subst (λ y. From u (asks s y)) (ap (λ z. z.0) pair) g)

frees_way : (j : Invocation) (c : Configuration) (end : Progress) (differ : KeysDiffer j) (fit : ProgressFits j (runs (fresh_state c))) (v u : Transcript) (ch : Channel) → From j c end (u ++ v) end → frees (keeps false (told_by u ch)) (told_by v ch) ≡ true
frees_way j c end differ fit [] u ch g = refl
frees_way j c end differ fit (x ∷ t) u ch g =
    let parts = parted u (x ∷ t) g in
    let at = stood j c end x.0 x.1 t u refl parts.2 parts.1 in
    let b = keeps false (told_by u ch) in
    let chunk = on_channel ch (entries x.0 x.1) in
    let first : frees b chunk ≡ true = question_frees x.0 x.1 ch b (λ d e same. ap (λ k. keeps false (told_by u k)) (channel_same ch d same) ∙ unlocks_own j (runs (fresh_state c)) at.0 d u differ fit (none_told j) (subst (λ q. From j c end u (asks at.0 q)) e at.1)) in
    let later = frees_way j c end differ fit t (u ++ x ∷ []) ch (subst (λ v. From j c end v end) (sym (append_assoc u (x ∷ []) t)) g) in
    let kept : keeps false (told_by (u ++ x ∷ []) ch) ≡ keeps b chunk = ap (keeps false) (told_more u x.0 x.1 ch) ∙ keeps_both false (told_by u ch) chunk in
    ap (frees b) (on_both ch (entries x.0 x.1) (entries_of t)) ∙ frees_both b chunk (told_by t ch) first (ap (λ d. frees d (told_by t ch)) (sym kept) ∙ later)

-- ---- Of a run.

pub runs_free : (f : Function) (input : List ℕ) (told : Told) (o : Outcome) (output : List ℕ) (used : ℕ) (ch : Channel) → Valid f.code → KeysDiffer (invocation f input) → Runs f input told o output used → frees false (told ch) ≡ true
runs_free f input told o output used ch valid differ run = by (fresh f) refl run
  where
    by : (m : Made Configuration) → fresh f ≡ m → runs_by f m input told o output used → frees false (told ch) ≡ true
    by (makes c) e k =
        let j = invocation f input in
        let fit = formed_parts j (fresh_state c) (fresh_formed f input c valid e) in
        ap (frees false) (k.told_so ch) ∙ frees_way j c (over k.last o) differ fit k.transcript [] ch (run_goes k.run)
    by (breaks b) e k = ap (frees false) (k.1 ch)
    by nothing e k = absurd k
