-- Where a Faaslet is at a shared piece, at its end, and after the reply to the release of a lock or to a piece.
use Rattle.std.proofs.Common.{◌≡◌, ℕ, zero, suc, ◌<◌, ◌≤◌, Bool, true, false, cond, List, [], ◌∷◌, Option, Some, None, length, take, refl, ap, sym, ◌∙◌, subst, arith}
use Rattle.std.specs.Prelude.{All, IsTrue, nat_le, option_map}
use Rattle.std.proofs.lemmas.Bool.{and_parts, eqb-true, le-leb, leb-true}
use Rattle.std.proofs.lemmas.List.{length-take-le}
use Rattle.std.proofs.lemmas.Option.{same_Some}
use Rattle.faaslet_meaning.specs.declared.ask.Ask.{Ask}
use Rattle.faaslet_meaning.specs.declared.ask.Ask.TheVariants as an_ask
use Rattle.faaslet_meaning.specs.declared.ask.AskOp.{AskOp}
use Rattle.faaslet_meaning.specs.declared.ask.Reply.{Reply}
use Rattle.faaslet_meaning.specs.declared.ask.Reply.TheVariants as reply
use Rattle.faaslet_meaning.specs.declared.grant.Channel.TheVariants as a_channel
use Rattle.faaslet_meaning.specs.declared.outcome.Outcome.{Outcome}
use Rattle.faaslet_meaning.specs.Asked.{question_in}
use Rattle.faaslet_meaning.specs.Asks.{RepliesAs, front, question_of_ask, reply_of}
use Rattle.faaslet_meaning.specs.Call.{begun_touch, release, replied, reply_at, settled}
use Rattle.faaslet_meaning.specs.CallState.{Invocation, Lock, Progress, State, asks, lost, over, releasing, runs, touching, without_lock}
use Rattle.faaslet_meaning.specs.CallState as call_state
use Rattle.faaslet_meaning.specs.Channels.{Question, RegionOperation, Reply as Answer, Transcript, ask, has_form, on_region}
use Rattle.faaslet_meaning.specs.Checks.{holds}
use Rattle.faaslet_meaning.specs.Configuration.{Begun, Configuration, Next, calls, ends, goes, load, store, stuck, touches}
use Rattle.faaslet_meaning.specs.Formed.{FormedAt}
use Rattle.faaslet_meaning.specs.LoadStore.{Load}
use Rattle.faaslet_meaning.specs.Memory.{Access, Touch, answered, reads, reads_piece, touch_of, writes, writes_piece}
use Rattle.faaslet_meaning.specs.MemoryRules.{load_on, resumed, store_on}
use Rattle.faaslet_meaning.specs.Serve.{channel, touch_question}
use Rattle.faaslet_meaning.proofs.CallAsks.{stays_formed}
use Rattle.host_calls.specs.Known.{KeepsOf, lock_of, tier_named, tier_of}
use Rattle.host_calls.specs.Reads.{key_of}
use Rattle.host_calls.specs.declared.state_known.Known.{Known}
use Rattle.region_map.specs.Segments.{Segmented}
use Rattle.wasm_interp.specs.StandsFor.{PieceIs, StandsFor, access_of, reply_size, size_of_reply, to_write}
use Rattle.wasm_interp.specs.declared.machine.Machine.{Machine}
use Rattle.wasm_interp.specs.declared.machine.PieceAsk.{PieceAsk}
use Rattle.faaslet_run.specs.Counted.{channels_asked, channels_of}
use Rattle.faaslet_run.specs.Hosts.{HasEnded, HasReply, HasStopped, piece_of, piece_op, unlock_of}
use Rattle.faaslet_run.specs.Places.{IsPlain, Stands, StandsAt, shape}
use Rattle.faaslet_run.specs.Turns.{IsReady}
use Rattle.faaslet_run.specs.declared.faaslet.Faaslet.{Faaslet}
use Rattle.faaslet_run.specs.declared.faaslet.Stage.TheVariants as stages
use Rattle.faaslet_run.specs.declared.faaslet.Work.TheVariants as works
use Rattle.faaslet_run.proofs.Placing.{running_ready}
use Rattle.faaslet_run.proofs.Releasing.{after_first, first_held, release_granted}

-- ---- The end.

-- the locks that it holds are on keys that it was granted
pub ended_granted : (f : Faaslet) (j : Invocation) (start : State) (t : Transcript) (p : Progress) (o : Outcome) → (h : HasEnded f j start t p o) → All (λ l. l.place < length j.program.grants) h.state.locks
ended_granted f j start t p o h = release_granted j h.state o h.left (subst (FormedAt j) h.is (stays_formed j start p h.amidst.formed h.amidst.way))

pub ended_over : (f : Faaslet) (j : Invocation) (start : State) (t : Transcript) (p : Progress) (o : Outcome) → (h : HasEnded f j start t p o) → h.left ≡ [] → (let new : Faaslet = record f { stage = stages.Over o } in StandsAt new j start t p × IsReady new j p)
ended_over f j start t p o h none =
    let e : p ≡ over h.state o = h.is ∙ ap (release j h.state o) none in
    let new : Faaslet = record f { stage = stages.Over o } in (
      record {
        formed = h.amidst.formed;
        way = h.amidst.way;
        called = h.amidst.called;
        counts = h.amidst.counts;
        stage = record { state = h.state; machine = h.machine; keeps = h.keeps; is = e };
      },
      subst (IsReady new j) (sym e) tt,
    )

abbrev unlocks : Invocation → ℕ → Bool → Question
unlocks j place b = ask (channel j (tier_of (tier_named b)) place) (on_region RegionOperation.unlock)

asked_unlock : (j : Invocation) (place : ℕ) (b : Bool) (scratch : List ℕ) → question_of_ask j (unlock_of j.program.grants place b) scratch ≡ Some (unlocks j place b)
asked_unlock j place true scratch = refl
asked_unlock j place false scratch = refl

unlock_kind : (j : Invocation) (place : ℕ) (b : Bool) → channels_asked (unlocks j place b) ≡ channels_of (unlock_of j.program.grants place b)
unlock_kind j place true = refl
unlock_kind j place false = refl

pub ended_asks : (f : Faaslet) (j : Invocation) (start : State) (t : Transcript) (p : Progress) (o : Outcome) (place : ℕ) (b : Bool) (a : Ask) (rest : List Lock) → (h : HasEnded f j start t p o) → h.left ≡ lock_of (tier_named b) place ∷ rest → a ≡ unlock_of j.program.grants place b → (let new : Faaslet = record f { stage = stages.Asks (works.Release place b o) a } in StandsAt new j start t p × IsReady new j p)
ended_asks f j start t p o place b a rest h left is =
    let w : State = record h.state { stage = releasing (lock_of (tier_named b) place ∷ rest) o } in
    let q = unlocks j place b in
    let e : p ≡ asks w q = h.is ∙ ap (release j h.state o) left in
    let new : Faaslet = record f { stage = stages.Asks (works.Release place b o) a } in (
      record {
        formed = h.amidst.formed;
        way = h.amidst.way;
        called = h.amidst.called;
        counts = h.amidst.counts;
        stage = record {
          state = w;
          question = q;
          work = record {
            left = rest;
            stage_is = refl;
            locks = sym left ∙ h.locks;
            machine = record { next = h.machine.next; config = h.machine.config; stands = h.machine.stands; config_is = h.machine.config_is; fuel = h.machine.fuel };
            keeps = record { children = h.keeps.children; keys_are = h.keeps.keys_are; output_is = h.keeps.output_is };
          };
          kind = unlock_kind j place b ∙ ap channels_of (sym is);
          is = e;
        };
      },
      subst (IsReady new j) (sym e) (ap (λ x. question_of_ask j x f.machine.scratch) is ∙ asked_unlock j place b f.machine.scratch),
    )

-- ---- A lock that was released.

done_is : (c : Question) (r : Answer) → (place : ℕ) (b : Bool) (j : Invocation) → unlocks j place b ≡ c → IsTrue (has_form c r) → r ≡ Answer.done
done_is c r place b j e h = by r (subst (λ (x : Question). IsTrue (has_form x r)) (sym e) h)
  where
    by : (r : Answer) → IsTrue (has_form (unlocks j place b) r) → r ≡ Answer.done
    by Answer.done k = refl
    by _ k = absurd (cc)

module _ (f : Faaslet) (j : Invocation) (start : State) (t : Transcript) (s : State) (q : Question) (r : Answer) (place : ℕ) (b : Bool) (o : Outcome) (reply : Reply) (h : HasReply f j start t s q r (works.Release place b o) reply) where
  abbrev lock : Lock
  lock = lock_of (tier_named b) place

  released_asked : unlocks j place b ≡ q
  released_asked = same_Some _ _ (sym (ap (question_in j s) h.work.stage_is) ∙ h.asked)

  released_done : r ≡ Answer.done
  released_done = done_is q r place b j released_asked (and_parts _ _ h.fit).0

  pub released_place : place < length j.program.grants
  released_place = let i = first_held s (length j.program.grants) 0 lock h.work.left (sym h.work.locks) in let l = i.below in omega (arith, l)

  pub released_held : IsTrue (holds s (tier_of (tier_named b)) place)
  released_held = (first_held s (length j.program.grants) 0 lock h.work.left (sym h.work.locks)).held

  pub released : (keys : Known) → KeepsOf keys (without_lock s lock) → (let new : Faaslet = record f { keys = keys } in HasEnded new j start t (replied j s r) o)
  released keys keeps = record {
    amidst = record { formed = h.amidst.formed; way = h.amidst.way; called = h.amidst.called; counts = h.amidst.counts };
    state = without_lock s lock;
    left = h.work.left;
    locks = sym (after_first s (length j.program.grants) 0 lock h.work.left (sym h.work.locks));
    machine = record { next = h.work.machine.next; config = h.work.machine.config; stands = h.work.machine.stands; config_is = h.work.machine.config_is; fuel = h.work.machine.fuel };
    keeps = record { children = h.work.keeps.children; keys_are = keeps; output_is = h.work.keeps.output_is };
    is = ap (λ (x : Answer). reply_at j s s.stage x) released_done ∙ ap (λ (x : call_state.Stage). reply_at j s x Answer.done) h.work.stage_is;
  }

-- ---- A shared piece.

-- the question on a key with this operation
abbrev piece_ask_of : ℕ → AskOp → Ask
piece_ask_of key o = an_ask.Region (a_channel.Local key) o

taken_all : (n : ℕ) (xs : List ℕ) → length (take n xs) ≡ n → n ≤ length xs
taken_all zero xs e = omega arith
taken_all (suc n) [] e = absurd (omega (arith, e))
taken_all (suc n) (x ∷ xs) e = let r = taken_all n xs (omega (arith, e)) in omega (arith, r)

front_is : (n : ℕ) (scratch bs : List ℕ) → n ≤ length scratch → take n scratch ≡ bs → front n scratch ≡ Some bs
front_is n scratch bs l e = by (nat_le n (length scratch)) (le-leb n (length scratch) l)
  where
    by : (b : Bool) → b ≡ true → cond b (Some (take n scratch)) None ≡ Some bs
    by true f = ap (λ x. Some x) e
    by false f = absurd (cc)

pub touch_op : (j : Invocation) (ask_ : PieceAsk) (t : Touch) (scratch : List ℕ) → PieceIs ask_ t → take (length (to_write (Some t))) scratch ≡ to_write (Some t) → question_of_ask j (piece_of j.program.grants ask_) scratch ≡ Some (touch_question j t)
touch_op j a (reads_piece place off size) scratch is bytes =
    let read : piece_op a.write a.off a.len ≡ piece_op false off size = ap (λ w. piece_op w a.off a.len) is.3 ∙ ap (λ n. piece_op false n a.len) is.1 ∙ ap (λ n. piece_op false off n) is.2 in
    ap (λ x. question_of_ask j (piece_ask_of (key_of j.program.grants a.place) x) scratch) read ∙ ap (λ k. question_of_ask j (piece_ask_of (key_of j.program.grants k) (piece_op false off size)) scratch) is.0
touch_op j a (writes_piece place off bs) scratch is bytes =
    let wrote : piece_op a.write a.off a.len ≡ piece_op true off (length bs) = ap (λ w. piece_op w a.off a.len) is.3 ∙ ap (λ n. piece_op true n a.len) is.1 ∙ ap (λ n. piece_op true off n) is.2 in
    let few = taken_all (length bs) scratch (ap length bytes) in
    ap (λ x. question_of_ask j (piece_ask_of (key_of j.program.grants a.place) x) scratch) wrote ∙ ap (λ k. question_of_ask j (piece_ask_of (key_of j.program.grants k) (piece_op true off (length bs))) scratch) is.0
    ∙ ap (λ o. option_map (λ operation. ask (channel j call_state.local place) operation) (option_map (λ x. on_region (RegionOperation.write off x)) o)) (front_is (length bs) scratch bs few bytes)

-- what stands at a shared piece is not lost
stopped_is : (j : Invocation) (s : State) (c : Configuration) (b : Begun) (t : Touch) → begun_touch b ≡ Some t → settled j s (touches c b) ≡ asks (record s { config = c; stage = touching b }) (touch_question j t)
stopped_is j s c b t e = ap (λ (o : Option Touch). elim o as (λ _. Progress) [ None ↦ lost | Some x ↦ asks (record s { config = c; stage = touching b }) (touch_question j x) ]) e

begun_is : (b : Begun) → begun_touch b ≡ touch_of (access_of b)
begun_is (load l a) = refl
begun_is (store a) = refl

touch_kind : (j : Invocation) (a : PieceAsk) (t : Touch) → PieceIs a t → channels_asked (touch_question j t) ≡ channels_of (piece_of j.program.grants a)
touch_kind j a (reads_piece place off size) is = ap (λ k. a_channel.Local (key_of j.program.grants k) ∷ []) (sym is.0)
touch_kind j a (writes_piece place off bs) is = ap (λ k. a_channel.Local (key_of j.program.grants k) ∷ []) (sym is.0)

pub stopped_asks : (f : Faaslet) (j : Invocation) (start : State) (t : Transcript) (p : Progress) (piece : PieceAsk) (a : Ask) → HasStopped f j start t p piece → a ≡ piece_of j.program.grants piece → (let new : Faaslet = record f { stage = stages.Asks works.Piece a } in StandsAt new j start t p × IsReady new j p)
stopped_asks f j start t p piece a h is =
    let w : State = record h.state { stage = touching h.begun } in
    let x = h.asks.0 in
    let q = touch_question j x.touch in
    let e : p ≡ asks w q = h.is ∙ stopped_is j h.state h.state.config h.begun x.touch (begun_is h.begun ∙ x.touched) in
    let bytes = subst (λ (o : Option Touch). take (length (to_write o)) f.machine.scratch ≡ to_write o) x.touched h.asks.1 in
    let new : Faaslet = record f { stage = stages.Asks works.Piece a } in (
      record {
        formed = h.amidst.formed;
        way = h.amidst.way;
        called = h.amidst.called;
        counts = h.amidst.counts;
        stage = record {
          state = w;
          question = q;
          work = record { begun = h.begun; stands = h.stands; stage_is = refl; keeps = record { children = h.keeps.children; keys_are = h.keeps.keys_are; output_is = h.keeps.output_is } };
          kind = touch_kind j piece x.touch x.is ∙ ap channels_of (sym is);
          is = e;
        };
      },
      subst (IsReady new j) (sym e) (ap (λ y. question_of_ask j y f.machine.scratch) is ∙ touch_op j piece x.touch f.machine.scratch x.is bytes),
    )

-- ---- After its reply.

-- what goes on is no host call, and a machine that stands for it is not stuck
resumed_plain : (m : Machine Segmented) (j : Invocation) (given : ℕ) (n : Next) (c : Configuration) (b : Begun) (bs : List ℕ) → n ≡ resumed c b bs → Stands m j given n → IsPlain n
resumed_plain m j given n c b bs e s = by n e (stands_on n s)
  where
    Steady : Next → Type 0
    Steady stuck = ⊥
    Steady _ = Unit {0}

    NoCall : Next → Type 0
    NoCall (calls d h) = ⊥
    NoCall _ = Unit {0}

    load_calls : (d : Configuration) (l : Load) (a : Access) → NoCall (load_on d l a)
    load_calls d l (reads at k [] copy) = tt
    load_calls d l (reads at k (p ∷ ps) copy) = tt
    load_calls d l (writes left bytes) = tt

    store_calls : (d : Configuration) (a : Access) → NoCall (store_on d a)
    store_calls d (writes [] bytes) = tt
    store_calls d (writes (p ∷ ps) bytes) = tt
    store_calls d (reads at k left copy) = tt

    no_call : (x : Begun) → NoCall (resumed c x bs)
    no_call (load l a) = load_calls c l (answered c.memory a bs).access
    no_call (store a) = store_calls (record c { memory = (answered c.memory a bs).memory }) (answered c.memory a bs).access

    stands_on : (n : Next) → Stands m j given n → Steady n
    stands_on (goes d) k = tt
    stands_on (ends d o) k = tt
    stands_on (touches d x) k = tt
    stands_on (calls d h) k = tt
    stands_on stuck k = k.stands.typed

    by : (n : Next) → n ≡ resumed c b bs → Steady n → IsPlain n
    by (goes d) f k = tt
    by (ends d o) f k = tt
    by (touches d x) f k = tt
    by (calls d h) f k = subst NoCall (sym f) (no_call b)
    by stuck f k = k

-- ---- The bytes of a reply to a piece.

long_front : (n : ℕ) (scratch bs : List ℕ) → front n scratch ≡ Some bs → bs ≡ take (length bs) scratch
long_front n scratch bs = by (nat_le n (length scratch)) refl
  where
    by : (b : Bool) → nat_le n (length scratch) ≡ b → cond b (Some (take n scratch)) None ≡ Some bs → bs ≡ take (length bs) scratch
    by true t e =
        let same : take n scratch ≡ bs = same_Some _ _ e in
        let long : n ≡ length bs = sym (length-take-le n scratch (leb-true n (length scratch) t)) ∙ ap length same in
        sym same ∙ ap (λ k. take k scratch) long
    by false t e = absurd (cc)

same_bytes : (xs ys : List ℕ) → (let a : Answer = Answer.bytes xs in a ≡ Answer.bytes ys) → xs ≡ ys
same_bytes xs ys e = cc

bytes_front : (r : Reply) (scratch bs : List ℕ) → reply_of r scratch ≡ Some (Answer.bytes bs) → bs ≡ take (length bs) scratch
bytes_front (reply.Bytes n) scratch bs e = by (front n scratch) refl e
  where
    by : (o : Option (List ℕ)) → front n scratch ≡ o → option_map (λ x. Answer.bytes x) o ≡ Some (Answer.bytes bs) → bs ≡ take (length bs) scratch
    by None f g = absurd (cc)
    by (Some xs) f g = let same = same_bytes xs bs (same_Some _ _ g) in subst (λ ys. ys ≡ take (length ys) scratch) same (long_front n scratch xs f)
bytes_front (reply.Finished o n) scratch bs e = by (front n scratch) e
  where
    by : (x : Option (List ℕ)) → option_map (λ y. Answer.finished o y) x ≡ Some (Answer.bytes bs) → bs ≡ take (length bs) scratch
    by None g = absurd (cc)
    by (Some xs) g = absurd (let k : Answer.finished o xs ≡ Answer.bytes bs = same_Some _ _ g in cc)
bytes_front _ scratch bs e = absurd (cc)

-- it goes on with the bytes at the front of the scratch
touch_replied : (j : Invocation) (s : State) (b : Begun) (t : Touch) (r : Answer) (reply : Reply) (scratch : List ℕ) → touch_of (access_of b) ≡ Some t → RepliesAs (touch_question j t) reply scratch r → IsTrue (has_form (touch_question j t) r) → reply_at j s (touching b) r ≡ settled j s (resumed s.config b (take (reply_size b) scratch))
touch_replied j s b (reads_piece place off size) (Answer.bytes bs) reply scratch e rep form =
    let long : length bs ≡ size = eqb-true (length bs) size form in
    let many : reply_size b ≡ size = ap size_of_reply e in
    ap (λ x. settled j s (resumed s.config b x)) (bytes_front reply scratch bs rep ∙ ap (λ n. take n scratch) (long ∙ sym many))
touch_replied j s b (writes_piece place off bytes) Answer.done reply scratch e rep form =
    let none : reply_size b ≡ 0 = ap size_of_reply e in
    ap (λ n. settled j s (resumed s.config b (take n scratch))) (sym none)
touch_replied j s b (reads_piece place off size) _ reply scratch e rep form = absurd (cc)
touch_replied j s b (writes_piece place off bytes) _ reply scratch e rep form = absurd (cc)

module _ (f : Faaslet) (j : Invocation) (start : State) (t : Transcript) (s : State) (q : Question) (r : Answer) (reply : Reply) (h : HasReply f j start t s q r works.Piece reply) where
  touch_asked : (x : Touch) × (touch_of (access_of h.work.begun) ≡ Some x) × (touch_question j x ≡ q)
  touch_asked = by (begun_touch h.work.begun) (begun_is h.work.begun) (sym (ap (question_in j s) h.work.stage_is) ∙ h.asked)
    where
      by : (o : Option Touch) → o ≡ touch_of (access_of h.work.begun) → option_map (touch_question j) o ≡ Some q → (x : Touch) × (touch_of (access_of h.work.begun) ≡ Some x) × (touch_question j x ≡ q)
      by None e g = absurd (cc)
      by (Some x) e g = (x, sym e, same_Some _ _ g)

  piece_is : replied j s r ≡ settled j s (resumed s.config h.work.begun (take (reply_size h.work.begun) f.machine.scratch))
  piece_is =
      let (x, e, same) = touch_asked in
      ap (λ (y : call_state.Stage). reply_at j s y r) h.work.stage_is
      ∙ touch_replied j s h.work.begun x r reply f.machine.scratch e (subst (λ (y : Question). RepliesAs y reply f.machine.scratch r) (sym same) h.replies) (subst (λ (y : Question). IsTrue (has_form y r)) (sym same) (and_parts _ _ h.fit).0)

  pub piece_goes_on : (machine : Machine Segmented) → StandsFor shape machine h.work.stands.code j.program.grants start.config.fuel (resumed s.config h.work.begun (take (reply_size h.work.begun) f.machine.scratch)) → (let new : Faaslet = record f { machine = machine; stage = stages.Runs } in StandsAt new j start t (replied j s r) × IsReady new j (replied j s r))
  piece_goes_on machine stands =
      let next = resumed s.config h.work.begun (take (reply_size h.work.begun) f.machine.scratch) in
      let own : Stands machine j start.config.fuel next = record { code = h.work.stands.code; program_is = h.work.stands.program_is; stands = stands } in
      let new : Faaslet = record f { machine = machine; stage = stages.Runs } in (
        record {
          formed = h.amidst.formed;
          way = h.amidst.way;
          called = h.amidst.called;
          counts = h.amidst.counts;
          stage = record {
            state = s;
            next = next;
            stands = own;
            plain = resumed_plain machine j start.config.fuel next s.config h.work.begun (take (reply_size h.work.begun) f.machine.scratch) refl own;
            keeps = record { children = h.work.keeps.children; keys_are = h.work.keeps.keys_are; output_is = h.work.keeps.output_is };
            is = piece_is;
          };
        },
        running_ready new j (replied j s r) refl,
      )
