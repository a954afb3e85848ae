-- A call that asks for a lock doesn't have it, and has it after the reply.
use Rattle.std.proofs.Common.{◌≡◌, ℕ, ◌<◌, List, [], ◌∷◌, length, refl, sym, ap, ◌∙◌, subst, Option, Some, None, Bool, true, false, cond, Ok}
use Rattle.std.specs.Prelude.{find, is_some, option_map}
use Rattle.faaslet_meaning.specs.declared.grant.Channel.{Channel}
use Rattle.faaslet_meaning.specs.declared.outcome.Outcome.{Outcome}
use Rattle.faaslet_meaning.specs.Memory.{Touch, reads_piece, writes_piece, touch_of}
use Rattle.faaslet_meaning.specs.Configuration.{Next, goes, ends, touches, calls, stuck}
use Rattle.faaslet_meaning.specs.Step.{finished}
use Rattle.faaslet_meaning.specs.Channels.{RegionOperation, on_region, Reply, ask}
use Rattle.faaslet_meaning.specs.CallState.{Invocation, local, global, Lock, Act, presence, passing, local_read, local_write, used, append, lock_read, lock_write, unlock, Work, Stage, running, touching, calling, releasing, State, Progress, asks, lost, is_lock}
use Rattle.faaslet_meaning.specs.Serve.{touch_question, channel, is_present}
use Rattle.faaslet_meaning.specs.Call.{locks_from, begun_touch, release, settled, reply_at}
use Rattle.faaslet_meaning.specs.Asked.{question_by, question_in}
use Rattle.faaslet_meaning.proofs.CallActs.{base, held_lock}
use Rattle.faaslet_meaning.proofs.CallKept.{WorkFits, StageFits}
use Rattle.session_meaning.proofs.LockSteps.{is_taking, LocksAre}

-- ---- Where a call goes on with these locks.

module _ (j : Invocation) (L : List Lock) where
  release_locks : (s : State) (o : Outcome) (left : List Lock) → s.locks ≡ L → LocksAre L (release j s o left)
  release_locks s o [] h = h
  release_locks s o (l ∷ left) h = h

  settled_locks : (s : State) (x : Next) → s.locks ≡ L → LocksAre L (settled j s x)
  settled_locks s (goes c) h = h
  settled_locks s (ends c o) h = release_locks (record s { config = c; stage = running }) o (locks_from (record s { config = c; stage = running }) (length j.program.grants) 0) h
  settled_locks s (touches c b) h = by (begun_touch b)
    where
      by : (t : Option Touch) → LocksAre L (elim t as (λ t. Progress) [ None ↦ lost | Some q ↦ asks (record s { config = c; stage = touching b }) (touch_question j q) ])
      by None = tt
      by (Some q) = h
  settled_locks s (calls c k) h = tt
  settled_locks s stuck h = tt

-- ---- A question for a lock.

-- it is for this lock, which a grant allows and the call doesn't have; after the reply it does
pub record Taking (j : Invocation) (s : State) (st : Stage) (ch : Channel) : Type 0 where
  pub lock : Lock
  pub on : ch ≡ channel j lock.tier lock.place
  pub granted : lock.place < length j.program.grants
  pub free : held_lock s.locks lock.tier lock.place ≡ false
  pub then : LocksAre (lock ∷ s.locks) (reply_at j s st Reply.done)

none_held : (locks : List Lock) (l : Lock) → find (is_lock l.tier l.place) locks ≡ None → held_lock locks l.tier l.place ≡ false
none_held locks l e = by (find (is_lock l.tier l.place) locks) e
  where
    by : (o : Option Lock) → o ≡ None → is_some o ≡ false
    by None e = refl
    by (Some x) e = cc

module _ (j : Invocation) (s : State) (ch : Channel) (op : RegionOperation) (t : is_taking op ≡ true) where
  other : (c : Channel) (o : RegionOperation) → is_taking o ≡ false → Some (ask c (on_region o)) ≡ Some (ask ch (on_region op)) → ⊥
  other c o f e = let same : o ≡ op = cc in let no : true ≡ false = sym t ∙ (ap is_taking (sym same) ∙ f) in cc

  touch_takes : (o : Option Touch) → option_map (touch_question j) o ≡ Some (ask ch (on_region op)) → ⊥
  touch_takes None e = cc
  touch_takes (Some (reads_piece k off n)) e = other (channel j local k) (RegionOperation.read off n) refl e
  touch_takes (Some (writes_piece k off bs)) e = other (channel j local k) (RegionOperation.write off bs) refl e

  seen_takes : (b : Bool) (d : Channel) → cond b None (Some (ask d (on_region RegionOperation.probe))) ≡ Some (ask ch (on_region op)) → ⊥
  seen_takes true d e = cc
  seen_takes false d e = other d RegionOperation.probe refl e

  same_channel_so : (c : Channel) (o : RegionOperation) → Some (ask c (on_region o)) ≡ Some (ask ch (on_region op)) → ch ≡ c
  same_channel_so c o e = cc

  abbrev at : List ℕ → Option ℕ → List Act → Stage
  at held result acts = calling (record { acts = acts; held = held; result = result })

  act_takes : (w : Work) (a : Act) (acts : List Act) (held : List ℕ) (result : Option ℕ) → question_by j s w (a ∷ acts) ≡ Some (ask ch (on_region op)) → WorkFits j (base s) s.present w.held (a ∷ acts) → Taking j s (at held result (a ∷ acts)) ch
  act_takes w (lock_read u k) acts held result e h = record {
    lock = record { tier = u; place = k };
    on = same_channel_so (channel j u k) RegionOperation.lock_read e;
    granted = h.fit.0.granted;
    free = none_held s.locks (record { tier = u; place = k }) h.fit.0.new;
    then = subst (λ (l : List Act). LocksAre (record { tier = u; place = k } ∷ s.locks) (reply_at j s (at held result (lock_read u k ∷ l)) Reply.done)) (sym h.fit.1)
        (settled_locks j (record { tier = u; place = k } ∷ s.locks) (record s { locks = record { tier = u; place = k } ∷ s.locks }) (finished s.config (Ok result)) refl);
  }
  act_takes w (lock_write u k) acts held result e h = record {
    lock = record { tier = u; place = k };
    on = same_channel_so (channel j u k) RegionOperation.lock_write e;
    granted = h.fit.0.granted;
    free = none_held s.locks (record { tier = u; place = k }) h.fit.0.new;
    then = subst (λ (l : List Act). LocksAre (record { tier = u; place = k } ∷ s.locks) (reply_at j s (at held result (lock_write u k ∷ l)) Reply.done)) (sym h.fit.1)
        (settled_locks j (record { tier = u; place = k } ∷ s.locks) (record s { locks = record { tier = u; place = k } ∷ s.locks }) (finished s.config (Ok result)) refl);
  }
  act_takes w (passing a) acts held result e h = absurd (touch_takes (touch_of a) e)
  act_takes w (presence k) acts held result e h = absurd (seen_takes (is_present s k) (channel j local k) e)
  act_takes w (unlock u k) acts held result e h = absurd (other (channel j u k) RegionOperation.unlock refl e)
  act_takes w (local_read k off len) acts held result e h = absurd (other (channel j local k) (RegionOperation.read off len) refl e)
  act_takes w (local_write k off) acts held result e h = absurd (other (channel j local k) (RegionOperation.write off w.held) refl e)
  act_takes w (used k) acts held result e h = absurd (other (channel j global k) RegionOperation.size refl e)
  act_takes w (append k) acts held result e h = absurd (other (channel j global k) (RegionOperation.append w.held) refl e)
  act_takes w a acts held result e h = let no : ⊥ = cc in absurd no

  work_takes : (w : Work) (acts : List Act) (held : List ℕ) (result : Option ℕ) → question_by j s w acts ≡ Some (ask ch (on_region op)) → WorkFits j (base s) s.present w.held acts → Taking j s (at held result acts) ch
  work_takes w [] held result e h = let no : ⊥ = cc in absurd no
  work_takes w (a ∷ acts) held result e h = act_takes w a acts held result e h

  pub stage_takes : (st : Stage) → question_in j s st ≡ Some (ask ch (on_region op)) → StageFits j s st → Taking j s st ch
  stage_takes running e h = let no : ⊥ = cc in absurd no
  stage_takes (touching b) e h = absurd (touch_takes (begun_touch b) e)
  stage_takes (calling w) e h = work_takes w w.acts w.held w.result e h
  stage_takes (releasing [] o) e h = let no : ⊥ = cc in absurd no
  stage_takes (releasing (l ∷ left) o) e h = absurd (other (channel j l.tier l.place) RegionOperation.unlock refl e)
