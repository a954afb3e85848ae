-- Which acts of a host call give its result, and that a reply of a question's form belongs to the act that asks it.
use Rattle.std.proofs.Common.{Option, Some, None, ◌≡◌, ℕ, List, [], ◌∷◌, refl, subst, None, Some, Bool, true, false, cond}
use Rattle.std.specs.Prelude.{◌||◌, IsTrue, slice_get, unwrap_or}
use Rattle.std.proofs.lemmas.Option.{same_Some}
use Rattle.faaslet_meaning.specs.declared.grant.Channel.{Channel}
use Rattle.faaslet_meaning.specs.declared.grant.Channel.TheVariants.{Table}
use Rattle.faaslet_meaning.specs.Memory.{Access, Touch, reads_piece, writes_piece}
use Rattle.faaslet_meaning.specs.HostCalls.{HostCall, state_size, state_used, get_state, read_state, set_state, push_state, pull_state, push_state_offset, pull_state_offset, append_state, lock_state_read, lock_state_write, unlock_state, lock_global_read, lock_global_write, unlock_global, input_size, read_input, write_output, chain_call, await_call, output_size, read_output}
use Rattle.faaslet_meaning.specs.Channels.{RegionOperation, Operation, on_region, Reply, Question, ask, fills, pulls, pushes, has_form}
use Rattle.faaslet_meaning.specs.CallState.{Invocation, Tier, local, global, Act, presence, fill, passing, local_read, local_write, push, pull, used, append, map, lock_read, lock_write, unlock, submit, await, look, gives, State, address_of}
use Rattle.faaslet_meaning.specs.Checks.{key_size}
use Rattle.faaslet_meaning.specs.Operations.{operations, address_or_map}
use Rattle.faaslet_meaning.specs.Serve.{Carried, is_present, question_of, After, unfit, after, touch_question, channel, key_at}
use Rattle.faaslet_meaning.specs.Fine.{has_result}

-- the acts whose reply is the call's result
abbrev pub gives_one : Act → Bool
gives_one (used k) = true
gives_one (append k) = true
gives_one (map k) = true
gives_one (submit f) = true
gives_one (await c) = true
gives_one (gives n) = true
gives_one _ = false

abbrev pub some_gives : List Act → Bool
some_gives [] = false
some_gives (a ∷ acts) = gives_one a || some_gives acts

pub or_true : (b : Bool) → (b || true) ≡ true
or_true true = refl
or_true false = refl

address_gives : (k : ℕ) (o : Option ℕ) → (some_gives (address_or_map k o) || false) ≡ true
address_gives k (Some a) = refl
address_gives k None = refl

pub operations_give : (j : Invocation) (s : State) (h : HostCall) → (some_gives (operations j s h) || false) ≡ has_result h
operations_give j s (state_size k) = refl
operations_give j s (state_used k) = refl
operations_give j s (get_state k) = address_gives k (address_of s k)
operations_give j s (read_state k off ptr len) = refl
operations_give j s (set_state k off ptr len) = refl
operations_give j s (push_state k) = refl
operations_give j s (pull_state k) = refl
operations_give j s (push_state_offset k off len) = refl
operations_give j s (pull_state_offset k off len) = refl
operations_give j s (append_state k ptr len) = refl
operations_give j s (lock_state_read k) = refl
operations_give j s (lock_state_write k) = refl
operations_give j s (unlock_state k) = refl
operations_give j s (lock_global_read k) = refl
operations_give j s (lock_global_write k) = refl
operations_give j s (unlock_global k) = refl
operations_give j s input_size = refl
operations_give j s (read_input off ptr len) = refl
operations_give j s (write_output ptr len) = refl
operations_give j s (chain_call f ptr len) = refl
operations_give j s (await_call c) = refl
operations_give j s (output_size c) = refl
operations_give j s (read_output c off ptr len) = refl

abbrev pub Fit : After → Type 0
Fit unfit = ⊥
Fit _ = Unit {0}

-- each reply of the question's form belongs to the act
abbrev pub Suits : Act → Question → Type 0
Suits a q = (x : Carried) (r : Reply) → IsTrue (has_form q r) → Fit (after a x r)

pub probe_suits : (k : ℕ) (ch : Channel) → Suits (presence k) (ask ch (on_region RegionOperation.probe))
probe_suits k ch x (Reply.present true) e = tt
probe_suits k ch x (Reply.present false) e = tt
probe_suits k ch x _ e = absurd (cc)

pub fill_suits : (k key n : ℕ) → Suits (fill k) (fills key n)
fill_suits k key n x (Reply.bytes bs) e = tt
fill_suits k key n x _ e = absurd (cc)

pub read_suits : (k off len : ℕ) (ch : Channel) → Suits (local_read k off len) (ask ch (on_region (RegionOperation.read off len)))
read_suits k off len ch x (Reply.bytes bs) e = tt
read_suits k off len ch x _ e = absurd (cc)

pub write_suits : (k off : ℕ) (ch : Channel) (bs : List ℕ) → Suits (local_write k off) (ask ch (on_region (RegionOperation.write off bs)))
write_suits k off ch bs x Reply.done e = tt
write_suits k off ch bs x _ e = absurd (cc)

pub push_suits : (k off len key : ℕ) → Suits (push k off len) (pushes key off len)
push_suits k off len key x (Reply.bytes bs) e = tt
push_suits k off len key x _ e = absurd (cc)

pub pull_suits : (k off len key : ℕ) → Suits (pull k off len) (pulls key off len)
pull_suits k off len key x (Reply.bytes bs) e = tt
pull_suits k off len key x _ e = absurd (cc)

pub used_suits : (k : ℕ) (ch : Channel) → Suits (used k) (ask ch (on_region RegionOperation.size))
used_suits k ch x (Reply.number n) e = tt
used_suits k ch x _ e = absurd (cc)

pub append_suits : (k : ℕ) (ch : Channel) (bs : List ℕ) → Suits (append k) (ask ch (on_region (RegionOperation.append bs)))
append_suits k ch bs x (Reply.number n) e = tt
append_suits k ch bs x Reply.full e = tt
append_suits k ch bs x _ e = absurd (cc)

pub submit_suits : (f n : ℕ) (ch : Channel) (bs : List ℕ) → Suits (submit f) (ask ch (Operation.submit n bs))
submit_suits f n ch bs x (Reply.child c) e = tt
submit_suits f n ch bs x Reply.chain_full e = tt
submit_suits f n ch bs x Reply.want e = tt
submit_suits f n ch bs x _ e = absurd (cc)

pub lock_read_suits : (t : Tier) (k : ℕ) (ch : Channel) → Suits (lock_read t k) (ask ch (on_region RegionOperation.lock_read))
lock_read_suits t k ch x Reply.done e = tt
lock_read_suits t k ch x _ e = absurd (cc)

pub lock_write_suits : (t : Tier) (k : ℕ) (ch : Channel) → Suits (lock_write t k) (ask ch (on_region RegionOperation.lock_write))
lock_write_suits t k ch x Reply.done e = tt
lock_write_suits t k ch x _ e = absurd (cc)

pub unlock_suits : (t : Tier) (k : ℕ) (ch : Channel) → Suits (unlock t k) (ask ch (on_region RegionOperation.unlock))
unlock_suits t k ch x Reply.done e = tt
unlock_suits t k ch x _ e = absurd (cc)

pub await_suits : (c : ℕ) (ch : Channel) → Suits (await c) (ask ch (Operation.look c))
await_suits c ch x (Reply.finished o bs) e = tt
await_suits c ch x _ e = absurd (cc)

pub look_suits : (c off len : ℕ) (ch : Channel) → Suits (look c off len) (ask ch (Operation.look c))
look_suits c off len ch x (Reply.finished o bs) e = tt
look_suits c off len ch x _ e = absurd (cc)

-- what takes `done` alone
abbrev pub IsDone : Reply → Type 0
IsDone Reply.done = Unit {0}
IsDone _ = ⊥

abbrev pub IsBytes : Reply → Type 0
IsBytes Reply.done = Unit {0}
IsBytes (Reply.bytes bs) = Unit {0}
IsBytes _ = ⊥

pub unlock_done : (ch : Channel) (r : Reply) → IsTrue (has_form (ask ch (on_region RegionOperation.unlock)) r) → IsDone r
unlock_done ch Reply.done e = tt
unlock_done ch _ e = absurd (cc)

pub touch_bytes : (j : Invocation) (t : Touch) (r : Reply) → IsTrue (has_form (touch_question j t) r) → IsBytes r
touch_bytes j (reads_piece k off n) (Reply.bytes bs) e = tt
touch_bytes j (reads_piece k off n) _ e = absurd (cc)
touch_bytes j (writes_piece k off bs) Reply.done e = tt
touch_bytes j (writes_piece k off bs) _ e = absurd (cc)

pub passing_suits : (j : Invocation) (a : Access) (t : Touch) → Suits (passing a) (touch_question j t)
passing_suits j a t x r e = by r (touch_bytes j t r e)
  where
    by : (r : Reply) → IsBytes r → Fit (after (passing a) x r)
    by Reply.done h = tt
    by (Reply.bytes bs) h = tt
    by _ h = absurd h

-- a question has the form of its act
pub question_suits : (j : Invocation) (x : Carried) (a : Act) (q : Question) → question_of j x a ≡ Some q → Suits a q
question_suits j x (presence k) q e = by (is_present x.state k) e
  where
    by : (b : Bool) → cond b None (Some (ask (channel j local k) (on_region RegionOperation.probe))) ≡ Some q → Suits (presence k) q
    by true e = absurd (cc)
    by false e = subst (Suits (presence k)) (same_Some _ _ e) (probe_suits k (channel j local k))
question_suits j x (fill k) q e = subst (Suits (fill k)) (same_Some _ _ e) (fill_suits k (key_at j k) (key_size j k))
question_suits j x (local_read k off len) q e = subst (Suits (local_read k off len)) (same_Some _ _ e) (read_suits k off len (channel j local k))
question_suits j x (local_write k off) q e = subst (Suits (local_write k off)) (same_Some _ _ e) (write_suits k off (channel j local k) x.held)
question_suits j x (push k off len) q e = subst (Suits (push k off len)) (same_Some _ _ e) (push_suits k off len (key_at j k))
question_suits j x (pull k off len) q e = subst (Suits (pull k off len)) (same_Some _ _ e) (pull_suits k off len (key_at j k))
question_suits j x (used k) q e = subst (Suits (used k)) (same_Some _ _ e) (used_suits k (channel j global k))
question_suits j x (append k) q e = subst (Suits (append k)) (same_Some _ _ e) (append_suits k (channel j global k) x.held)
question_suits j x (lock_read t k) q e = subst (Suits (lock_read t k)) (same_Some _ _ e) (lock_read_suits t k (channel j t k))
question_suits j x (lock_write t k) q e = subst (Suits (lock_write t k)) (same_Some _ _ e) (lock_write_suits t k (channel j t k))
question_suits j x (unlock t k) q e = subst (Suits (unlock t k)) (same_Some _ _ e) (unlock_suits t k (channel j t k))
question_suits j x (submit f) q e = subst (Suits (submit f)) (same_Some _ _ e) (submit_suits f (unwrap_or (slice_get j.callees f) 0) Table x.held)
question_suits j x (await c) q e = subst (Suits (await c)) (same_Some _ _ e) (await_suits c Table)
question_suits j x (look c off len) q e = subst (Suits (look c off len)) (same_Some _ _ e) (look_suits c off len Table)
question_suits j x _ q e = absurd (cc)
