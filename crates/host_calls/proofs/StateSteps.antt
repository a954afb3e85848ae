-- What a step of a host call on state tells is what the definition comes to.
use Rattle.std.proofs.Common.{◌≡◌, ℕ, ◌*◌, ◌<◌, ◌≤◌, Bool, true, false, cond, not, List, [], ◌∷◌, Option, Some, None, length, take, drop, refl, ap, arith, ◌∙◌, sym, subst, zero, suc}
use Rattle.std.specs.Prelude.{Ok, Err, find, if◌then◌else◌, option_map, slice_get, unwrap_or, ◌==◌, ◌&&◌}
use Rattle.std.proofs.lemmas.Bool.{eq-eqb}
use Rattle.std.proofs.lemmas.Option.{same_Some}
use Rattle.faaslet_meaning.specs.declared.ask.Ask.{Ask}
use Rattle.faaslet_meaning.specs.declared.ask.Ask.TheVariants as an_ask
use Rattle.faaslet_meaning.specs.declared.grant.Channel.TheVariants.{Local, Global}
use Rattle.faaslet_meaning.specs.declared.grant.Grant.{Grant}
use Rattle.faaslet_meaning.specs.declared.grant.Mode.{Mode}
use Rattle.faaslet_meaning.specs.declared.grant.Mode.TheVariants as mode
use Rattle.faaslet_meaning.specs.declared.outcome.Trap.{Trap}
use Rattle.faaslet_meaning.specs.Memory.{Memory, IsMemory, grant_limit, page_size, pages_of, with_map, key_pages}
use Rattle.faaslet_meaning.specs.HostCalls.{HostCall}
use Rattle.faaslet_meaning.specs.Channels.{RegionOperation, on_region, Question, ask, fills}
use Rattle.faaslet_meaning.specs.CallState.{Invocation, Act, presence, fill, State, calling, Progress, local}
use Rattle.faaslet_meaning.specs.Checks.{checks, first_trap, limit_checks, memory_checks, key_size}
use Rattle.faaslet_meaning.specs.Formed.{AllDiffer, KeysDiffer}
use Rattle.faaslet_meaning.specs.Operations.{operations}
use Rattle.faaslet_meaning.specs.Serve.{Served, Carried, waits, through, go_on, does, passed, question_of, stands, channel, is_present}
use Rattle.faaslet_meaning.specs.Call.{served, serve}
use Rattle.faaslet_meaning.specs.Asks.{front, question_of_ask, size_of_key}
use Rattle.host_calls.specs.declared.span.Span.{Span}
use Rattle.host_calls.specs.declared.span.Shared.{Shared}
use Rattle.host_calls.specs.declared.state_act.Put.{Put}
use Rattle.host_calls.specs.declared.state_act.Put.TheVariants as put
use Rattle.host_calls.specs.declared.state_act.StateAct.{StateAct}
use Rattle.host_calls.specs.declared.state_act.StateAct.TheVariants as act
use Rattle.host_calls.specs.declared.state_call.StateStage.{StateStage}
use Rattle.host_calls.specs.declared.state_call.StateStage.TheVariants as stage
use Rattle.host_calls.specs.declared.state_call.StateStep.{StateStep}
use Rattle.host_calls.specs.declared.state_call.StateStep.TheVariants as step
use Rattle.host_calls.specs.declared.state_known.Known.{Known}
use Rattle.host_calls.specs.declared.state_known.Tier.{Tier}
use Rattle.host_calls.specs.declared.state_known.Tier.TheVariants as tier
use Rattle.host_calls.specs.Acts.{acts_of, needs_presence, whole_acts, is_sought, carried_by, held_for, act_put, ask_of, lock_op, lock_act, channel_of, probe_of, fill_of}
use Rattle.host_calls.specs.Buffers.{IsWithin, AtShared, reading_on, written_on}
use Rattle.host_calls.specs.Known.{kept, tier_of, seen_at, mapped_at, KeepsOf}
use Rattle.host_calls.specs.Parts.{reading_ask, writing_ask}
use Rattle.host_calls.specs.Reads.{key_of, size_of}
use Rattle.host_calls.specs.States.{Here, IsOf, trap_at, acts_at, work_of, IsReady, IsAct, IsBegun, IsNow, AsksIt, EndsIt, Shows, holding, first_question, act_question, goes, sends, collecting}
use Rattle.host_calls.proofs.CallSteps.{front_is, first_append}
use Rattle.host_calls.proofs.Keeping.{keeps_seen, keeps_mapped}
use Rattle.host_calls.proofs.Passing.{reading_stands, writing_stands, reading_through, writing_through}

-- ---- the state as it is now

pub is_now : (s : State) (h : Here) → IsOf h s → IsNow s s h
is_now s h i = record { only = ap (λ (m : Memory). record s { config = record s.config { memory = m } }) i.memory; keeps = i.keeps }

pub of_with : (h : Here) (s : State) (aside scratch : List ℕ) → IsOf h s → IsOf (record h { aside = aside; scratch = scratch }) s
of_with h s aside scratch i = record { memory = i.memory; keeps = i.keeps }

-- the same state but for what was seen present
back : (s t : State) (ps : List ℕ) (h : Here) → IsNow (record s { present = ps }) t h → IsNow s t h
back s t ps h n = record { only = n.only; keeps = n.keeps }

pub shows_back : (j : Invocation) (s : State) (ps : List ℕ) (v : Served) (told : StateStep) (t : StateStage) (h : Here) → Shows j (record s { present = ps }) v told t h → Shows j s v told t h
shows_back j s ps v (step.Ask a) t h k = record { state = k.state; question = k.question; asked = k.asked; comes = k.comes; now = back s k.state ps h k.now; at = k.at }
shows_back j s ps v (step.Done o) t h k = record { state = k.state; comes = k.comes; now = back s k.state ps h k.now }
shows_back j s ps v (step.Trap x) t h k = record { state = k.state; comes = k.comes; now = back s k.state ps h k.now }

-- ---- what the first act asks

pub go_asks : (j : Invocation) (acts : List Act) (x : Carried) (q : Question) → first_question j x acts ≡ Some q → go_on j acts x ≡ stands acts x q
go_asks j [] x q e = absurd (cc)
go_asks j (a ∷ acts) x q e = ap (λ (o : Option Question). elim o as (λ _. Served) [ Some q ↦ stands (a ∷ acts) x q | None ↦ does j a acts (go_on j acts) x ]) e

channel_is : (j : Invocation) (t : Tier) (k : ℕ) → channel_of t (key_of j.program.grants k) ≡ channel j (tier_of t) k
channel_is j tier.Local k = refl
channel_is j tier.Global k = refl

lock_asked : (j : Invocation) (x : Carried) (t : Tier) (m : Mode) (k : ℕ) (scratch : List ℕ) → question_of_ask j (an_ask.Region (channel_of t (key_of j.program.grants k)) (lock_op m)) scratch ≡ question_of j x (lock_act m t k)
lock_asked j x t mode.Read k scratch = ap (λ c. Some (ask c (on_region RegionOperation.lock_read))) (channel_is j t k)
lock_asked j x t mode.Write k scratch = ap (λ c. Some (ask c (on_region RegionOperation.lock_write))) (channel_is j t k)

-- the ask of what is done with a key stands for its question, with the bytes that it carries in front of the scratch
pub act_asked : (j : Invocation) (s : State) (k : ℕ) (a : StateAct) (aside scratch : List ℕ) (told : Ask) → ask_of (key_of j.program.grants k) a ≡ Some told → front (carried_by a) scratch ≡ Some (held_for a aside) → question_of_ask j told scratch ≡ act_question j s k a aside
act_asked j s k a aside scratch told e f = by a e f
  where
    from : (x y : Ask) (o : Option Question) → Some x ≡ Some y → question_of_ask j x scratch ≡ o → question_of_ask j y scratch ≡ o
    from x y o e h = subst (λ z. question_of_ask j z scratch ≡ o) (same_Some x y e) h

    by : (a : StateAct) → ask_of (key_of j.program.grants k) a ≡ Some told → front (carried_by a) scratch ≡ Some (held_for a aside) → question_of_ask j told scratch ≡ act_question j s k a aside
    by act.Map e f = absurd (cc)
    by (act.Read off b) e f = from _ told _ e refl
    by (act.Write off len) e f = from _ told _ e (ap (λ o. option_map (λ operation. ask (Local (key_of j.program.grants k)) operation) (option_map (λ bytes. on_region (RegionOperation.write off bytes)) o)) f)
    by (act.Push off len) e f = from _ told _ e refl
    by (act.Pull off len) e f = from _ told _ e refl
    by act.Used e f = from _ told _ e refl
    by (act.Append len) e f = from _ told _ e (ap (λ o. option_map (λ operation. ask (Global (key_of j.program.grants k)) operation) (option_map (λ bytes. on_region (RegionOperation.append bytes)) o)) f)
    by (act.Lock t m) e f = from _ told _ e (lock_asked j (holding (held_for (act.Lock t m) aside) s) t m k scratch)
    by (act.Unlock t) e f = from _ told _ e (ap (λ c. Some (ask c (on_region RegionOperation.unlock))) (channel_is j t k))

-- it has a question
pub record HasQuestion (j : Invocation) (s : State) (k : ℕ) (a : StateAct) (aside : List ℕ) : Type 0 where
  pub question : Question
  pub is : act_question j s k a aside ≡ Some question

has_question : (j : Invocation) (s : State) (k : ℕ) (a : StateAct) (aside : List ℕ) (told : Ask) → ask_of (key_of j.program.grants k) a ≡ Some told → HasQuestion j s k a aside
has_question j s k act.Map aside told e = absurd (cc)
has_question j s k (act.Read off b) aside told e = record { question = _; is = refl }
has_question j s k (act.Write off len) aside told e = record { question = _; is = refl }
has_question j s k (act.Push off len) aside told e = record { question = _; is = refl }
has_question j s k (act.Pull off len) aside told e = record { question = _; is = refl }
has_question j s k act.Used aside told e = record { question = _; is = refl }
has_question j s k (act.Append len) aside told e = record { question = _; is = refl }
has_question j s k (act.Lock t mode.Read) aside told e = record { question = _; is = refl }
has_question j s k (act.Lock t mode.Write) aside told e = record { question = _; is = refl }
has_question j s k (act.Unlock t) aside told e = record { question = _; is = refl }

pub act_asks : (j : Invocation) (s : State) (h : Here) (k : ℕ) (a : StateAct) (scratch : List ℕ) (told : Ask) → IsOf h s → ask_of (key_of j.program.grants k) a ≡ Some told → front (carried_by a) scratch ≡ Some (held_for a h.aside) → IsAct a k j.program.grants h.known h.memory → AsksIt j s (goes j s h (acts_of k a) a) told (stage.Acts k a) (record h { scratch = scratch })
act_asks j s h k a scratch told i e f at =
    let q = has_question j s k a h.aside told e in
    record {
      state = s;
      question = q.question;
      asked = act_asked j s k a h.aside scratch told e f ∙ q.is;
      comes = go_asks j (acts_of k a) (holding (held_for a h.aside) s) q.question q.is;
      now = let n = is_now s h i in record { only = n.only; keeps = n.keeps };
      at = at;
    }

pub no_ask : (key : ℕ) (a : StateAct) → ask_of key a ≡ None → a ≡ act.Map
no_ask key act.Map e = refl
no_ask key (act.Read off b) e = absurd (cc)
no_ask key (act.Write off len) e = absurd (cc)
no_ask key (act.Push off len) e = absurd (cc)
no_ask key (act.Pull off len) e = absurd (cc)
no_ask key act.Used e = absurd (cc)
no_ask key (act.Append len) e = absurd (cc)
no_ask key (act.Lock t m) e = absurd (cc)
no_ask key (act.Unlock t) e = absurd (cc)

-- a replica is mapped
pub map_ends : (j : Invocation) (s : State) (h : Here) (k n : ℕ) (m : Memory) (scratch : List ℕ) → IsOf h s → k < grant_limit → n ≡ pages_of h.memory.segments * page_size → m ≡ with_map h.memory k (key_pages (size_of j.program.grants k)) → EndsIt s (goes j s h (acts_of k act.Map) act.Map) (Ok (Some n)) (record { memory = m; aside = h.aside; scratch = scratch; known = mapped_at h.known k n })
map_ends j s h k n m scratch i few ne me =
    let pages = key_pages (size_of j.program.grants k) in
    let t : State = record s { config = record s.config { memory = m }; mapped = (k, n) ∷ s.mapped } in
    record {
      state = t;
      comes = ap (λ (x : Memory). through (record s { config = record s.config { memory = with_map x k pages }; mapped = (k, pages_of x.segments * page_size) ∷ s.mapped }) (Ok (Some (pages_of x.segments * page_size)))) i.memory
          ∙ ap (λ (x : Memory). through (record s { config = record s.config { memory = x }; mapped = (k, pages_of h.memory.segments * page_size) ∷ s.mapped }) (Ok (Some (pages_of h.memory.segments * page_size)))) (sym me)
          ∙ ap (λ (x : ℕ). through (record s { config = record s.config { memory = m }; mapped = (k, x) ∷ s.mapped }) (Ok (Some x))) (sym ne);
      now = record { only = refl; keeps = keeps_mapped h.known s.present s.mapped s.locks k n few i.keeps };
    }

-- ---- presence

present_is : (s : State) (known : Known) (k : ℕ) → KeepsOf known s → k < grant_limit → (kept known k).present ≡ is_present s k
present_is s known k h few = ap (λ p. p.present) (h.places k few)

sought_true : (a b : Bool) → (a && not b) ≡ true → (a ≡ true) × (b ≡ false)
sought_true true true e = absurd (cc)
sought_true true false e = (refl, refl)
sought_true false b e = absurd (cc)

whole_is : (k : ℕ) (a : StateAct) (b : Bool) → needs_presence a ≡ b → whole_acts k a ≡ (if b then presence k ∷ acts_of k a else acts_of k a)
whole_is k a b e = ap (λ (x : Bool). if x then presence k ∷ acts_of k a else acts_of k a) e

pub probes : (j : Invocation) (s : State) (h : Here) (k : ℕ) (a : StateAct) → IsOf h s → k < grant_limit → is_sought h.known k a ≡ true → IsAct a k j.program.grants h.known h.memory → AsksIt j s (goes j s h (whole_acts k a) a) (probe_of (key_of j.program.grants k)) (stage.Probes k a) h
probes j s h k a i few e at =
    let p = sought_true (needs_presence a) (kept h.known k).present e in
    let absent : is_present s k ≡ false = sym (present_is s h.known k i.keeps few) ∙ p.1 in
    let q = ask (channel j local k) (on_region RegionOperation.probe) in
    let x = holding (held_for a h.aside) s in
    record {
      state = s;
      question = q;
      asked = refl;
      comes = ap (λ acts. go_on j acts x) (whole_is k a true p.0) ∙ go_asks j (presence k ∷ acts_of k a) x q (ap (λ (b : Bool). if b then None else Some q) absent);
      now = is_now s h i;
      at = (p.0, at);
    }

pub set_out : (j : Invocation) (s : State) (h : Here) (k : ℕ) (a : StateAct) → IsOf h s → k < grant_limit → is_sought h.known k a ≡ false → goes j s h (whole_acts k a) a ≡ goes j s h (acts_of k a) a
set_out j s h k a i few e = by (needs_presence a) (is_present s k) refl refl (ap (λ b. needs_presence a && not b) (sym (present_is s h.known k i.keeps few)) ∙ e)
  where
    x : Carried
    x = holding (held_for a h.aside) s

    q : Question
    q = ask (channel j local k) (on_region RegionOperation.probe)

    by : (b c : Bool) → needs_presence a ≡ b → is_present s k ≡ c → (b && not c) ≡ false → goes j s h (whole_acts k a) a ≡ goes j s h (acts_of k a) a
    by true true f g e =
        ap (λ acts. go_on j acts x) (whole_is k a true f)
        ∙ ap (λ (b : Bool). elim (if b then None else Some q) as (λ _. Served) [ Some q ↦ stands (presence k ∷ acts_of k a) x q | None ↦ go_on j (acts_of k a) x ]) g
    by true false f g e = absurd (cc)
    by false c f g e = ap (λ acts. go_on j acts x) (whole_is k a false f)

-- what may be done may be done once the key was seen present
pub act_seen : (a : StateAct) (k : ℕ) (grants : List Grant) (known : Known) (m : Memory) → needs_presence a ≡ true → IsAct a k grants known m → IsAct a k grants (seen_at known k) m
act_seen a k grants known m n h = record { place = h.place; ready = by a n h.ready }
  where
    by : (a : StateAct) → needs_presence a ≡ true → IsReady a k grants known m → IsReady a k grants (seen_at known k) m
    by act.Map n r = r
    by (act.Read off b) n r = r
    by (act.Write off len) n r = r
    by (act.Push off len) n r = r
    by (act.Pull off len) n r = r
    by act.Used n r = absurd (cc)
    by (act.Append len) n r = absurd (cc)
    by (act.Lock t o) n r = absurd (cc)
    by (act.Unlock t) n r = absurd (cc)

pub of_seen : (h : Here) (s : State) (k : ℕ) → k < grant_limit → IsOf h s → IsOf (record h { known = seen_at h.known k }) (record s { present = k ∷ s.present })
of_seen h s k few i = record { memory = i.memory; keeps = keeps_seen h.known s.present s.mapped s.locks k few i.keeps }

-- ---- the transfer of the whole key

same_key : (g : Grant) (grants : List Grant) (k : ℕ) (x : Grant) → find (λ (b : Grant). g.key == b.key) grants ≡ None → slice_get grants k ≡ Some x → (g.key == x.key) ≡ false
same_key g [] k x e f = absurd (cc)
same_key g (y ∷ ys) zero x e f = let same : y ≡ x = same_Some y x f in subst (λ (z : Grant). (g.key == z.key) ≡ false) same (by (g.key == y.key) e)
  where
    by : (b : Bool) → cond b (Some y) (find (λ (b : Grant). g.key == b.key) ys) ≡ None → b ≡ false
    by true e = absurd (cc)
    by false e = refl
same_key g (y ∷ ys) (suc k) x e f = same_key g ys k x (by (g.key == y.key) e) f
  where
    by : (b : Bool) → cond b (Some y) (find (λ (b : Grant). g.key == b.key) ys) ≡ None → find (λ (b : Grant). g.key == b.key) ys ≡ None
    by true e = absurd (cc)
    by false e = e

found_key : (grants : List Grant) (k : ℕ) (x : Grant) → AllDiffer (λ (a b : Grant). a.key == b.key) grants → slice_get grants k ≡ Some x → size_of_key grants x.key ≡ Some x.size
found_key [] k x d e = absurd (cc)
found_key (g ∷ gs) zero x d e =
    let same : g ≡ x = same_Some g x e in
    let hit : (g.key == x.key) ≡ true = eq-eqb g.key x.key (ap (λ (y : Grant). y.key) same) in
    ap (λ (b : Bool). option_map (λ (y : Grant). y.size) (cond b (Some g) (find (λ y. y.key == x.key) gs))) hit ∙ ap (λ (y : Grant). Some y.size) same
found_key (g ∷ gs) (suc k) x d e =
    ap (λ (b : Bool). option_map (λ (y : Grant). y.size) (cond b (Some g) (find (λ y. y.key == x.key) gs))) (same_key g gs k x d.0 e) ∙ found_key gs k x d.1 e

pub fill_asked : (j : Invocation) (k : ℕ) (scratch : List ℕ) → KeysDiffer j → k < length j.program.grants → question_of_ask j (fill_of (key_of j.program.grants k)) scratch ≡ Some (fills (key_of j.program.grants k) (key_size j k))
fill_asked j k scratch d l = by (slice_get j.program.grants k) refl
  where
    some : (grants : List Grant) (k : ℕ) → k < length grants → slice_get grants k ≡ None → ⊥
    some [] k l e = omega (arith, l)
    some (g ∷ gs) zero l e = cc
    some (g ∷ gs) (suc k) l e = some gs k (omega (arith, l)) e

    at : Option Grant → Type 0
    at o = option_map (λ size. fills (unwrap_or (option_map (λ (g : Grant). g.key) o) 0) size) (size_of_key j.program.grants (unwrap_or (option_map (λ (g : Grant). g.key) o) 0)) ≡ Some (fills (unwrap_or (option_map (λ (g : Grant). g.key) o) 0) (unwrap_or (elim o as (λ _. Option ℕ) [ None ↦ None | Some g ↦ Some g.size ]) 0))

    by : (o : Option Grant) → slice_get j.program.grants k ≡ o → at (slice_get j.program.grants k)
    by None e = absurd (some j.program.grants k l e)
    by (Some g) e = subst at (sym e) (ap (λ o. option_map (λ size. fills g.key size) o) (found_key j.program.grants k g d e))

pub fills_it : (j : Invocation) (s : State) (h : Here) (k : ℕ) (a : StateAct) → IsOf h s → KeysDiffer j → needs_presence a ≡ true → IsAct a k j.program.grants h.known h.memory → AsksIt j s (goes j s h (fill k ∷ acts_of k a) a) (fill_of (key_of j.program.grants k)) (stage.Fills k a) h
fills_it j s h k a i d n at = record {
  state = s;
  question = fills (key_of j.program.grants k) (key_size j k);
  asked = fill_asked j k h.scratch d at.place;
  comes = refl;
  now = is_now s h i;
  at = (n, at);
}

-- ---- a buffer out

pub sent_asks : (j : Invocation) (s : State) (h : Here) (b c : Span) (m : Memory) (scratch : List ℕ) (piece : Shared) → IsOf h s → written_on m c h.aside ≡ written_on h.memory b h.aside → c.len ≡ b.len → IsWithin m c → AtShared m c piece → take piece.len scratch ≡ take piece.len (drop c.done h.aside) → piece.len ≤ length scratch → Shows j s (sends j s h b) (step.Ask (writing_ask (key_of j.program.grants piece.place) piece)) (stage.Sends c) (record h { memory = m; scratch = scratch })
sent_asks j s h b c m scratch piece i same len w at bytes few =
    let x = holding (take b.len h.aside) s in
    let k = key_of j.program.grants piece.place in
    let bs = take piece.len (drop c.done h.aside) in
    let q : Question = ask (Local k) (on_region (RegionOperation.write piece.off bs)) in
    let h1 : Here = record h { memory = m; scratch = scratch } in
    let t : State = record s { config = record s.config { memory = m } } in
    let Waits : ℕ → Served = λ n. waits (record t { stage = calling (record (work_of (stage.Sends c) h1) { held = take n h.aside }) }) q in
    record {
      state = t;
      question = q;
      asked = ap (λ o. option_map (λ operation. ask (Local k) operation) (option_map (λ bytes. on_region (RegionOperation.write piece.off bytes)) o)) (front_is piece.len scratch few ∙ ap (λ (ys : List ℕ). Some ys) bytes);
      comes = ap (passed j [] (go_on j []) x) (sym same) ∙ writing_stands j [] (go_on j []) x m c h.aside piece at ∙ ap Waits (sym len);
      now = record { only = refl; keeps = i.keeps };
      at = record { within = w; piece = piece; at = at };
    }

pub sent_done : (j : Invocation) (s : State) (h : Here) (b c : Span) (m : Memory) (scratch : List ℕ) → IsOf h s → written_on m c h.aside ≡ written_on h.memory b h.aside → c.done ≡ c.len → Shows j s (sends j s h b) (step.Done None) (stage.Sends c) (record h { memory = m; scratch = scratch })
sent_done j s h b c m scratch i same end =
    let x = holding (take b.len h.aside) s in
    record {
      state = record s { config = record s.config { memory = m } };
      comes = ap (passed j [] (go_on j []) x) (sym same) ∙ writing_through j [] (go_on j []) x m c h.aside end;
      now = record { only = refl; keeps = i.keeps };
    }

-- ---- a buffer in

put_len : (p : Put) (n : ℕ) → carried_by (act_put p n) ≡ n
put_len (put.At off) n = refl
put_len put.Behind n = refl

pub collect_asks : (j : Invocation) (s : State) (h : Here) (k : ℕ) (p : Put) (b c : Span) (aside : List ℕ) (piece : Shared) → IsOf h s → k < length j.program.grants → reading_on h.memory c aside ≡ reading_on h.memory b h.aside → c.len ≡ b.len → IsWithin h.memory c → AtShared h.memory c piece → Shows j s (collecting j s h k p b) (step.Ask (reading_ask (key_of j.program.grants piece.place) piece)) (stage.Collects k p c) (record h { aside = aside })
collect_asks j s h k p b c aside piece i l same len w at =
    let acts = whole_acts k (act_put p b.len) in
    let x = holding [] s in
    let t : State = record s { config = record s.config { memory = h.memory } } in
    let q : Question = ask (Local (key_of j.program.grants piece.place)) (on_region (RegionOperation.read piece.off piece.len)) in
    let Waits : ℕ → Served = λ n. waits (record t { stage = calling (record { acts = Act.passing (reading_on h.memory c aside) ∷ whole_acts k (act_put p n); held = []; result = None }) }) q in
    record {
      state = t;
      question = q;
      asked = refl;
      comes = ap (λ a. passed j acts (go_on j acts) x (record { memory = h.memory; access = a })) (sym same) ∙ reading_stands j acts (go_on j acts) x h.memory c aside piece at ∙ ap Waits (sym len);
      now = record { only = refl; keeps = i.keeps };
      at = (l, record { within = w; piece = piece; at = at });
    }

pub collected : (j : Invocation) (s : State) (h : Here) (k : ℕ) (p : Put) (b c : Span) (aside : List ℕ) → IsOf h s → reading_on h.memory c aside ≡ reading_on h.memory b h.aside → c.len ≡ b.len → IsWithin h.memory c → IsMemory h.memory → length aside ≡ 65536 → c.done ≡ c.len → collecting j s h k p b ≡ goes j s (record h { aside = aside }) (whole_acts k (act_put p b.len)) (act_put p b.len)
collected j s h k p b c aside i same len w sound long end =
    let acts = whole_acts k (act_put p b.len) in
    let x = holding [] s in
    ap (λ a. passed j acts (go_on j acts) x (record { memory = h.memory; access = a })) (sym same)
    ∙ reading_through j acts (go_on j acts) x h.memory c aside w sound long end
    ∙ ap (λ (m : Memory). go_on j acts (holding (take c.len aside) (record s { config = record s.config { memory = m } }))) (sym i.memory)
    ∙ ap (λ (n : ℕ). go_on j acts (holding (take n aside) s)) (len ∙ sym (put_len p b.len))

-- ---- the first step

pub first_is : (t : StateStage) (j : Invocation) (s : State) (h : HostCall) → IsBegun t j s h → first_trap j s (checks h) ≡ trap_at t j.program.grants s.config.memory
first_is t j s h b = first_append j s (limit_checks h) (memory_checks h) b.passed ∙ b.memory

pub serve_traps : (t : StateStage) (j : Invocation) (s : State) (h : HostCall) (x : Trap) → IsBegun t j s h → trap_at t j.program.grants s.config.memory ≡ Some x → serve j s h ≡ served j (through s (Err x))
serve_traps t j s h x b e =
    ap (λ (o : Option Trap). elim o as (λ _. Progress) [ Some t ↦ served j (through s (Err t)) | None ↦ served j (go_on j (operations j s h) (record { held = []; result = None; state = s })) ]) (first_is t j s h b ∙ e)

pub serve_goes : (t : StateStage) (j : Invocation) (s : State) (h : HostCall) → IsBegun t j s h → trap_at t j.program.grants s.config.memory ≡ None → serve j s h ≡ served j (go_on j (acts_at t) (holding [] s))
serve_goes t j s h b e =
    ap (λ (o : Option Trap). elim o as (λ _. Progress) [ Some t ↦ served j (through s (Err t)) | None ↦ served j (go_on j (operations j s h) (record { held = []; result = None; state = s })) ]) (first_is t j s h b ∙ e)
    ∙ ap (λ acts. served j (go_on j acts (holding [] s))) b.acts
