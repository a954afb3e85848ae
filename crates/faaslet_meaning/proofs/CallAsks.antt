-- What follows of a call wherever it comes to: what its questions carry, and which locks it unlocks.
use Rattle.std.proofs.Common.{◌≡◌, ℕ, zero, suc, ◌+◌, ◌^◌, ◌<◌, ◌≤◌, List, [], ◌∷◌, length, refl, sym, ap, subst, arith, None, Some, Option, Bool, true, false, cond, take, eq-eqb}
use Rattle.std.specs.Prelude.{IsTrue, find, option_map, slice_get, unwrap_or, ◌==◌}
use Rattle.std.proofs.lemmas.Bool.{leb-true}
use Rattle.faaslet_meaning.specs.declared.grant.Channel.{Channel}
use Rattle.faaslet_meaning.specs.declared.grant.Channel.TheVariants.{Table}
use Rattle.faaslet_meaning.specs.declared.grant.Grant.{Grant}
use Rattle.faaslet_meaning.specs.Memory.{Home, private, mapped, Access, reads, writes, Touch, reads_piece, writes_piece, touch_of}
use Rattle.faaslet_meaning.specs.ControlRules.{buffer_limit}
use Rattle.faaslet_meaning.specs.Configuration.{Begun, load, store}
use Rattle.faaslet_meaning.specs.Channels.{RegionOperation, Operation, on_region, Question, ask, Transcript}
use Rattle.faaslet_meaning.specs.CallState.{Invocation, Tier, local, global, Lock, Act, presence, fill, passing, local_read, local_write, push, pull, used, append, lock_read, lock_write, unlock, submit, await, look, Work, Stage, running, touching, calling, releasing, State, Progress, runs, asks, over, lost, grant_at}
use Rattle.faaslet_meaning.specs.Checks.{holds, fits_in, key_size}
use Rattle.faaslet_meaning.specs.Serve.{is_present, key_at, channel, touch_question}
use Rattle.faaslet_meaning.specs.Call.{begun_touch}
use Rattle.faaslet_meaning.specs.Goes.{Goes, here, stepped, answered}
use Rattle.faaslet_meaning.specs.Asked.{question_by, question_in, question_at, question_numbers, question_bytes, IsCarried, IsNumbered}
use Rattle.faaslet_meaning.specs.Formed.{AllDiffer, Formed, FormedAt, KeysDiffer}
use Rattle.faaslet_meaning.proofs.CallParts.{Each, all_each, each_all, Parts, parts_formed, formed_parts}
use Rattle.faaslet_meaning.proofs.CallMemory.{AccessFits, access_of}
use Rattle.faaslet_meaning.proofs.CallActs.{base, InKey}
use Rattle.faaslet_meaning.proofs.CallKept.{WorkFits, StageFits, ProgressFits, call_fits, replied_fits}

-- ---- Wherever a call comes to

goes_fit : {j : Invocation} {p y : Progress} {transcript : Transcript} → Goes j p transcript y → ProgressFits j p → ProgressFits j y
goes_fit here h = h
goes_fit {j} (stepped {s = s} g) h = goes_fit g (call_fits j s h)
goes_fit {j} (answered {s = s} {q = q} {r = r} fit g) h = goes_fit g (replied_fits j s q r h fit)

progress_formed : (j : Invocation) (p : Progress) → ProgressFits j p → FormedAt j p
progress_formed j (runs s) h = parts_formed j s h
progress_formed j (asks s q) h = parts_formed j s h.0
progress_formed j (over s o) h = parts_formed j s h
progress_formed j lost h = tt

pub stays_formed : (j : Invocation) (s : State) (p : Progress) {transcript : Transcript} → Formed j s → Goes j (runs s) transcript p → FormedAt j p
stays_formed j s p h g = progress_formed j p (goes_fit g (formed_parts j s h))

pub question_known : (j : Invocation) (s t : State) (q : Question) {transcript : Transcript} → Formed j s → Goes j (runs s) transcript (asks t q) → question_at j t ≡ Some q
question_known j s t q h g = let f = goes_fit g (formed_parts j s h) in f.1

-- ---- What a question carries

each_get : {A : Type 0} (P : A → Type 0) (xs : List A) (k : ℕ) (x : A) → Each P xs → slice_get xs k ≡ Some x → P x
each_get P [] k x h e = absurd (cc)
each_get P (y ∷ xs) zero x h e = let same : y ≡ x = cc in subst P same h.0
each_get P (y ∷ xs) (suc k) x h e = each_get P xs k x h.1 e

abbrev Small : ℕ → Type 0
Small n = n < 2 ^ 32

abbrev Carried : Question → Type 0
Carried q = Each Small (question_numbers q) × (length (question_bytes q) ≤ buffer_limit)

none_small : Small 0
none_small = omega arith

some_question : (p q : Question) → Some p ≡ Some q → Carried p → Carried q
some_question p q e h = let same : p ≡ q = cc in subst Carried same h

taken_short : (n : ℕ) (xs : List ℕ) → length (take n xs) ≤ n
taken_short zero xs = omega arith
taken_short (suc n) [] = omega arith
taken_short (suc n) (x ∷ xs) = let r = taken_short n xs in omega (arith, r)

module _ (j : Invocation) (numbered : IsNumbered j) where
  key_small : (k : ℕ) → Small (key_at j k)
  key_small k = by (grant_at j k) refl
    where
      by : (o : Option Grant) → grant_at j k ≡ o → Small (unwrap_or (option_map (λ g. g.key) o) 0)
      by None e = none_small
      by (Some g) e = each_get (λ (a : Grant). Small a.key) j.program.grants k g (each_all _ j.program.grants numbered.keys) e

  size_small : (k : ℕ) → Small (key_size j k)
  size_small k = by (grant_at j k) refl
    where
      by : (o : Option Grant) → grant_at j k ≡ o → Small (unwrap_or (elim o as (λ _. Option ℕ) [ None ↦ None | Some g ↦ Some g.size ]) 0)
      by None e = none_small
      by (Some g) e = each_get (λ (a : Grant). Small a.size) j.program.grants k g (each_all _ j.program.grants numbered.sizes) e

  in_key_small : (k off len : ℕ) → InKey j k off len → Small off × Small len
  in_key_small k off len h = by (grant_at j k) refl h
    where
      by : (o : Option Grant) → grant_at j k ≡ o → IsTrue (fits_in off len (elim o as (λ _. Option ℕ) [ None ↦ None | Some g ↦ Some g.size ])) → Small off × Small len
      by None e f = absurd (cc)
      by (Some g) e f =
          let l = leb-true (off + len) g.size f in
          let s = each_get (λ (a : Grant). Small a.size) j.program.grants k g (each_all _ j.program.grants numbered.sizes) e in
          (omega (arith, l, s), omega (arith, l, s))

  callee_small : (f : ℕ) → Small (unwrap_or (slice_get j.callees f) 0)
  callee_small f = by (slice_get j.callees f) refl
    where
      by : (o : Option ℕ) → slice_get j.callees f ≡ o → Small (unwrap_or o 0)
      by None e = none_small
      by (Some x) e = each_get Small j.callees f x (each_all _ j.callees numbered.callees) e

  channel_small : (t : Tier) (k : ℕ) (op : Operation) → Each Small (question_numbers (ask Table op)) → Each Small (question_numbers (ask (channel j t k) op))
  channel_small local k op h = (key_small k, h)
  channel_small global k op h = (key_small k, h)

  touch_carried : (a : Access) (q : Question) → AccessFits a → option_map (touch_question j) (touch_of a) ≡ Some q → Carried q
  touch_carried (reads at n [] copy) q h e = absurd (cc)
  touch_carried (reads at n (p ∷ ps) copy) q h e = by p.home e
    where
      by : (k : Home) → option_map (touch_question j) (elim k as (λ _. Option Touch) [ private ↦ None | mapped i ↦ Some (reads_piece i p.off p.size) ]) ≡ Some q → Carried q
      by private g = absurd (cc)
      by (mapped i) g = let f = h.0 in some_question (ask (channel j local i) (on_region (RegionOperation.read p.off p.size))) q g ((key_small i, (omega (arith, f.some, f.ends), (omega (arith, f.short), tt))), omega arith)
  touch_carried (writes [] bs) q h e = absurd (cc)
  touch_carried (writes (p ∷ ps) bs) q h e = by p.home e
    where
      by : (k : Home) → option_map (touch_question j) (elim k as (λ _. Option Touch) [ private ↦ None | mapped i ↦ Some (writes_piece i p.off (take p.size bs)) ]) ≡ Some q → Carried q
      by private g = absurd (cc)
      by (mapped i) g = let f = h.0 in some_question (ask (channel j local i) (on_region (RegionOperation.write p.off (take p.size bs)))) q g ((key_small i, (omega (arith, f.some, f.ends), tt)), omega (arith, taken_short p.size bs, f.short))

  act_carried : (s : State) (w : Work) (a : Act) (acts : List Act) (q : Question) → Parts j s → WorkFits j (base s) s.present w.held (a ∷ acts) → question_by j s w (a ∷ acts) ≡ Some q → Carried q
  act_carried s w (passing a) acts q h k e = touch_carried a q k.fit.0 e
  act_carried s w (presence i) acts q h k e = by (is_present s i) e
    where
      by : (b : Bool) → cond b None (Some (ask (channel j local i) (on_region RegionOperation.probe))) ≡ Some q → Carried q
      by true g = absurd (cc)
      by false g = some_question _ q g ((key_small i, tt), omega arith)
  act_carried s w (fill i) acts q h k e = some_question _ q e ((key_small i, (size_small i, tt)), omega arith)
  act_carried s w (local_read i off len) acts q h k e = let n = in_key_small i off len k.fit.0 in some_question _ q e ((key_small i, (n.0, (n.1, tt))), omega arith)
  act_carried s w (local_write i off) acts q h k e = let n = in_key_small i off k.fit.0.0 k.fit.0.1 in some_question _ q e ((key_small i, (n.0, tt)), omega (arith, k.few, k.fit.1))
  act_carried s w (push i off len) acts q h k e = let n = in_key_small i off len k.fit.0 in some_question _ q e ((key_small i, (n.0, (n.1, tt))), omega arith)
  act_carried s w (pull i off len) acts q h k e = let n = in_key_small i off len k.fit.0 in some_question _ q e ((key_small i, (n.0, (n.1, tt))), omega arith)
  act_carried s w (used i) acts q h k e = some_question _ q e ((key_small i, tt), omega arith)
  act_carried s w (append i) acts q h k e = some_question _ q e ((key_small i, tt), omega (arith, k.few, k.fit.0))
  act_carried s w (lock_read t i) acts q h k e = some_question (ask (channel j t i) (on_region RegionOperation.lock_read)) q e (channel_small t i (on_region RegionOperation.lock_read) (tt {0}), omega arith)
  act_carried s w (lock_write t i) acts q h k e = some_question (ask (channel j t i) (on_region RegionOperation.lock_write)) q e (channel_small t i (on_region RegionOperation.lock_write) (tt {0}), omega arith)
  act_carried s w (unlock t i) acts q h k e = some_question (ask (channel j t i) (on_region RegionOperation.unlock)) q e (channel_small t i (on_region RegionOperation.unlock) (tt {0}), omega arith)
  act_carried s w (submit f) acts q h k e = some_question _ q e ((callee_small f, tt), omega (arith, k.few, k.fit.0))
  act_carried s w (await c) acts q h k e = let o = h.1 in let few = o.4 in some_question _ q e ((omega (arith, k.fit.0, few.few), tt), omega arith)
  act_carried s w (look c off len) acts q h k e = let o = h.1 in let few = o.4 in some_question _ q e ((omega (arith, k.fit.0, few.few), tt), omega arith)
  act_carried s w _ acts q h k e = absurd (cc)

  begun_carried : (b : Begun) (q : Question) → AccessFits (access_of b) → option_map (touch_question j) (begun_touch b) ≡ Some q → Carried q
  begun_carried (load l a) q h e = touch_carried a q h e
  begun_carried (store a) q h e = touch_carried a q h e

  work_carried : (s : State) (w : Work) (acts : List Act) (q : Question) → Parts j s → WorkFits j (base s) s.present w.held acts → question_by j s w acts ≡ Some q → Carried q
  work_carried s w [] q h k e = absurd (cc)
  work_carried s w (a ∷ acts) q h k e = act_carried s w a acts q h k e

  stage_carried : (s : State) (st : Stage) (q : Question) → Parts j s → StageFits j s st → question_in j s st ≡ Some q → Carried q
  stage_carried s running q h k e = absurd (cc)
  stage_carried s (touching b) q h k e = begun_carried b q k e
  stage_carried s (calling w) q h k e = work_carried s w w.acts q h k e
  stage_carried s (releasing [] o) q h k e = absurd (cc)
  stage_carried s (releasing (l ∷ left) o) q h k e = some_question (ask (channel j l.tier l.place) (on_region RegionOperation.unlock)) q e (channel_small l.tier l.place (on_region RegionOperation.unlock) (tt {0}), omega arith)

pub asks_carried : (j : Invocation) (s t : State) (q : Question) {transcript : Transcript} → IsNumbered j → Formed j s → Goes j (runs s) transcript (asks t q) → IsCarried q
asks_carried j s t q n h g =
    let f = goes_fit g (formed_parts j s h) in
    let c = stage_carried j n t t.stage q f.0 f.2 f.1 in
    record { numbers = all_each _ (question_numbers q) c.0; bytes = c.1 }

-- ---- Locks

-- a lock that is held, on this channel
abbrev IsHeld : Invocation → State → Channel → Type 0
IsHeld j s c = (lock : Lock) × (c ≡ channel j lock.tier lock.place) × IsTrue (holds s lock.tier lock.place)

module _ (j : Invocation) (s : State) (c : Channel) where
  touch_unlocks : (o : Option Touch) → option_map (touch_question j) o ≡ Some (ask c (on_region RegionOperation.unlock)) → ⊥
  touch_unlocks None e = cc
  touch_unlocks (Some (reads_piece k off n)) e = cc
  touch_unlocks (Some (writes_piece k off bs)) e = cc

  seen_unlocks : (b : Bool) (d : Channel) → cond b None (Some (ask d (on_region RegionOperation.probe))) ≡ Some (ask c (on_region RegionOperation.unlock)) → ⊥
  seen_unlocks true d e = cc
  seen_unlocks false d e = cc

  act_unlocks : (w : Work) (a : Act) (acts : List Act) → WorkFits j (base s) s.present w.held (a ∷ acts) → question_by j s w (a ∷ acts) ≡ Some (ask c (on_region RegionOperation.unlock)) → IsHeld j s c
  act_unlocks w (unlock t k) acts h e = let same : channel j t k ≡ c = cc in (record { tier = t; place = k }, sym same, h.fit.0)
  act_unlocks w (passing a) acts h e = absurd (touch_unlocks (touch_of a) e)
  act_unlocks w (presence k) acts h e = absurd (seen_unlocks (is_present s k) (channel j local k) e)
  act_unlocks w _ acts h e = absurd (cc)

  work_unlocks : (w : Work) (acts : List Act) → WorkFits j (base s) s.present w.held acts → question_by j s w acts ≡ Some (ask c (on_region RegionOperation.unlock)) → IsHeld j s c
  work_unlocks w [] h e = absurd (cc)
  work_unlocks w (a ∷ acts) h e = act_unlocks w a acts h e

  stage_unlocks : (st : Stage) → StageFits j s st → question_in j s st ≡ Some (ask c (on_region RegionOperation.unlock)) → IsHeld j s c
  stage_unlocks running h e = absurd (cc)
  stage_unlocks (touching b) h e = absurd (touch_unlocks (begun_touch b) e)
  stage_unlocks (calling w) h e = work_unlocks w w.acts h e
  stage_unlocks (releasing [] o) h e = absurd (cc)
  stage_unlocks (releasing (l ∷ left) o) h e = let same : channel j l.tier l.place ≡ c = cc in (l, sym same, h.held.0)

pub unlocks_held : (j : Invocation) (s t : State) (c : Channel) {transcript : Transcript} → Formed j s → Goes j (runs s) transcript (asks t (ask c (on_region RegionOperation.unlock))) → (lock : Lock) × (c ≡ channel j lock.tier lock.place) × IsTrue (holds t lock.tier lock.place)
unlocks_held j s t c h g = let f = goes_fit g (formed_parts j s h) in stage_unlocks j t c t.stage f.2 f.1

-- keys that differ are those of one place each
abbrev key_in : List Grant → ℕ → ℕ
key_in grants k = unwrap_or (option_map (λ g. g.key) (slice_get grants k)) 0

abbrev same_key : Grant → Grant → Bool
same_key a b = a.key == b.key

other_key : (g : Grant) (gs : List Grant) (k : ℕ) → find (same_key g) gs ≡ None → k < length gs → g.key ≡ key_in gs k → ⊥
other_key g [] k e l f = omega (arith, l)
other_key g (h ∷ gs) k e l f = by (g.key == h.key) refl e k l f (λ i e l f. other_key g gs i e l f)
  where
    by : (b : Bool) → (g.key == h.key) ≡ b → cond b (Some h) (find (same_key g) gs) ≡ None → (k : ℕ) → k < suc (length gs) → g.key ≡ key_in (h ∷ gs) k → ((i : ℕ) → find (same_key g) gs ≡ None → i < length gs → g.key ≡ key_in gs i → ⊥) → ⊥
    by true t e k l f r = cc
    by false t e zero l f r = let u = eq-eqb g.key h.key f in cc
    by false t e (suc k) l f r = r k e (omega (arith, l)) f

one_place : (gs : List Grant) (a b : ℕ) → AllDiffer same_key gs → a < length gs → b < length gs → key_in gs a ≡ key_in gs b → a ≡ b
one_place [] a b h l m e = absurd (omega (arith, l))
one_place (g ∷ gs) zero zero h l m e = refl
one_place (g ∷ gs) zero (suc b) h l m e = absurd (other_key g gs b h.0 (omega (arith, m)) e)
one_place (g ∷ gs) (suc a) zero h l m e = absurd (other_key g gs a h.0 (omega (arith, l)) (sym e))
one_place (g ∷ gs) (suc a) (suc b) h l m e = ap suc (one_place gs a b h.1 (omega (arith, l)) (omega (arith, m)) e)

pub own_channels : (j : Invocation) (a b : Lock) → KeysDiffer j → a.place < length j.program.grants → b.place < length j.program.grants → channel j a.tier a.place ≡ channel j b.tier b.place → a ≡ b
own_channels j a b d l m e = by a.tier b.tier a.place b.place e (λ f. one_place j.program.grants a.place b.place d l m f)
  where
    by : (t u : Tier) (k i : ℕ) → channel j t k ≡ channel j u i → (key_at j k ≡ key_at j i → k ≡ i) → ◌≡◌ {A = Lock} (record { tier = t; place = k }) (record { tier = u; place = i })
    by local local k i e f = let same : key_at j k ≡ key_at j i = cc in ap (λ n. record { tier = local; place = n }) (f same)
    by global global k i e f = let same : key_at j k ≡ key_at j i = cc in ap (λ n. record { tier = global; place = n }) (f same)
    by local global k i e f = absurd (cc)
    by global local k i e f = absurd (cc)
