-- A reply that fits the question at which a host call on calls stands belongs to it.
use Rattle.std.proofs.Common.{◌≡◌, ℕ, ◌+◌, ◌<◌, ◌≤◌, Bool, true, false, List, ◌∷◌, Option, Some, None, length, take, refl, ap, arith, ◌∙◌, sym, subst, cond, not, eqb-true}
use Rattle.std.specs.Prelude.{IsTrue, option_map, nat_le, nat_lt, filter, slice_get, unwrap_or, ◌&&◌}
use Rattle.std.proofs.lemmas.Bool.{leb-true, ltb-true, and_parts}
use Rattle.std.proofs.lemmas.List.{length-take-le}
use Rattle.std.proofs.lemmas.Option.{same_Some}
use Rattle.faaslet_meaning.specs.declared.ask.Reply.{Reply}
use Rattle.faaslet_meaning.specs.declared.ask.Reply.TheVariants as reply
use Rattle.faaslet_meaning.specs.declared.grant.Channel.{Channel}
use Rattle.faaslet_meaning.specs.declared.grant.Channel.TheVariants.{Table}
use Rattle.faaslet_meaning.specs.declared.outcome.Outcome.{Outcome}
use Rattle.faaslet_meaning.specs.Asked.{question_at, question_in}
use Rattle.faaslet_meaning.specs.Asks.{front, reply_of, RepliesAs}
use Rattle.faaslet_meaning.specs.Call.{fits, same_length, child_limit, output_limit}
use Rattle.faaslet_meaning.specs.CallState.{Invocation, State, calling, local}
use Rattle.faaslet_meaning.specs.Channels.{RegionOperation, Operation, on_region, Question, ask, has_form, Reply as Answer}
use Rattle.faaslet_meaning.specs.Checks.{fits_in, noted}
use Rattle.faaslet_meaning.specs.Memory.{Memory, Home, private, mapped, Piece, is_private, reads, writes, Touch, reads_piece, writes_piece, touch_of}
use Rattle.faaslet_meaning.specs.Serve.{channel, touch_question}
use Rattle.host_calls.specs.declared.call_call.CallStage.{CallStage}
use Rattle.host_calls.specs.declared.call_call.CallStage.TheVariants as stage
use Rattle.host_calls.specs.declared.span.Span.{Span}
use Rattle.host_calls.specs.Buffers.{bytes_left, reading_on, writing_on}
use Rattle.host_calls.specs.Calls.{Here, AtPiece, AtQuestion, Belongs, IsAllowed, work_of}
use Rattle.host_calls.specs.Children.{noted_at}

never : {A : Type 0} → false ≡ true → A
never e = absurd (cc)

-- the bytes of the scratch that an answer has
front_long : (n : ℕ) (scratch bs : List ℕ) → front n scratch ≡ Some bs → length bs ≡ n
front_long n scratch bs = by (nat_le n (length scratch)) refl
  where
    by : (b : Bool) → nat_le n (length scratch) ≡ b → cond b (Some (take n scratch)) None ≡ Some bs → length bs ≡ n
    by true t e = ap length (sym (same_Some _ _ e)) ∙ length-take-le n scratch (leb-true n (length scratch) t)
    by false t e = absurd (cc)

-- ---- Where done is awaited.

abbrev put : Channel → ℕ → List ℕ → Question
put ch off bs = ask ch (on_region (RegionOperation.write off bs))

abbrev got : Channel → ℕ → ℕ → Question
got ch off n = ask ch (on_region (RegionOperation.read off n))

abbrev submitted : ℕ → List ℕ → Question
submitted f bs = ask Table (Operation.submit f bs)

abbrev looked : ℕ → Question
looked c = ask Table (Operation.look c)

-- an answer is what the code's reply says
answers : (q : Question) (a x : Answer) → Some a ≡ Some x → IsTrue (has_form q x) → IsTrue (has_form q a)
answers q a x e h = subst (λ y. IsTrue (has_form q y)) (sym (same_Some _ _ e)) h

bytes_answer : (q : Question) (n : ℕ) (scratch : List ℕ) (x : Answer) → reply_of (reply.Bytes n) scratch ≡ Some x → IsTrue (has_form q x) → (bs : List ℕ) × (length bs ≡ n) × (x ≡ Answer.bytes bs)
bytes_answer q n scratch x e h = by (front n scratch) refl e
  where
    by : (o : Option (List ℕ)) → front n scratch ≡ o → option_map (λ bs. Answer.bytes bs) o ≡ Some x → (bs : List ℕ) × (length bs ≡ n) × (x ≡ Answer.bytes bs)
    by None f g = absurd (cc)
    by (Some bs) f g = (bs, front_long n scratch bs f, sym (same_Some _ _ g))

finished_answer : (o : Outcome) (n : ℕ) (scratch : List ℕ) (x : Answer) → reply_of (reply.Finished o n) scratch ≡ Some x → (bs : List ℕ) × (length bs ≡ n) × (x ≡ Answer.finished o bs)
finished_answer o n scratch x e = by (front n scratch) refl e
  where
    by : (p : Option (List ℕ)) → front n scratch ≡ p → option_map (λ bs. Answer.finished o bs) p ≡ Some x → (bs : List ℕ) × (length bs ≡ n) × (x ≡ Answer.finished o bs)
    by None f g = absurd (cc)
    by (Some bs) f g = (bs, front_long n scratch bs f, sym (same_Some _ _ g))

sends_belong : (ch : Channel) (off : ℕ) (bs : List ℕ) (b : Span) (cs : List (Option ℕ)) (scratch : List ℕ) (x : Answer) (r : Reply) → reply_of r scratch ≡ Some x → IsTrue (has_form (put ch off bs) x) → Belongs (stage.SendsOut b) cs r
sends_belong ch off bs b cs scratch x reply.Done e h = tt
sends_belong ch off bs b cs scratch x (reply.Present is_so) e h = never (answers (put ch off bs) _ x e h)
sends_belong ch off bs b cs scratch x (reply.Bytes n) e h = let a = bytes_answer (put ch off bs) n scratch x e h in never (subst (λ y. IsTrue (has_form (put ch off bs) y)) a.2 h)
sends_belong ch off bs b cs scratch x (reply.Number n) e h = never (answers (put ch off bs) _ x e h)
sends_belong ch off bs b cs scratch x reply.Full e h = never (answers (put ch off bs) _ x e h)
sends_belong ch off bs b cs scratch x (reply.Child n) e h = never (answers (put ch off bs) _ x e h)
sends_belong ch off bs b cs scratch x reply.ChainFull e h = never (answers (put ch off bs) _ x e h)
sends_belong ch off bs b cs scratch x (reply.Finished o n) e h = let a = finished_answer o n scratch x e in never (subst (λ y. IsTrue (has_form (put ch off bs) y)) a.2 h)
sends_belong ch off bs b cs scratch x reply.Want e h = never (answers (put ch off bs) _ x e h)

-- where bytes are awaited, as many as these
reads_bytes : (ch : Channel) (off size : ℕ) (scratch : List ℕ) (x : Answer) (r : Reply) → reply_of r scratch ≡ Some x → IsTrue (has_form (got ch off size) x) → r ≡ reply.Bytes size
reads_bytes ch off size scratch x reply.Done e h = never (answers (got ch off size) _ x e h)
reads_bytes ch off size scratch x (reply.Present is_so) e h = never (answers (got ch off size) _ x e h)
reads_bytes ch off size scratch x (reply.Bytes n) e h =
    let a = bytes_answer (got ch off size) n scratch x e h in
    let long : length a.0 ≡ size = eqb-true (length a.0) size (subst (λ y. IsTrue (has_form (got ch off size) y)) a.2 h) in
    ap (λ m. reply.Bytes m) (sym a.1 ∙ long)
reads_bytes ch off size scratch x (reply.Number n) e h = never (answers (got ch off size) _ x e h)
reads_bytes ch off size scratch x reply.Full e h = never (answers (got ch off size) _ x e h)
reads_bytes ch off size scratch x (reply.Child n) e h = never (answers (got ch off size) _ x e h)
reads_bytes ch off size scratch x reply.ChainFull e h = never (answers (got ch off size) _ x e h)
reads_bytes ch off size scratch x (reply.Finished o n) e h = let a = finished_answer o n scratch x e in never (subst (λ y. IsTrue (has_form (got ch off size) y)) a.2 h)
reads_bytes ch off size scratch x reply.Want e h = never (answers (got ch off size) _ x e h)

submits_belong : (s : State) (f len g : ℕ) (bs : List ℕ) (cs : List (Option ℕ)) (scratch : List ℕ) (x : Answer) (r : Reply) → s.children ≡ cs → reply_of r scratch ≡ Some x → IsTrue (fits s (submitted g bs) x) → Belongs (stage.Submits f len) cs r
submits_belong s f len g bs cs scratch x reply.Done is e h = never (subst (λ y. IsTrue (fits s (submitted g bs) y)) (sym (same_Some _ _ e)) h)
submits_belong s f len g bs cs scratch x (reply.Present is_so) is e h = never (subst (λ y. IsTrue (fits s (submitted g bs) y)) (sym (same_Some _ _ e)) h)
submits_belong s f len g bs cs scratch x (reply.Bytes n) is e h = let a = bytes_answer (submitted g bs) n scratch x e (and_parts _ _ h).0 in never (subst (λ y. IsTrue (fits s (submitted g bs) y)) a.2 h)
submits_belong s f len g bs cs scratch x (reply.Number n) is e h = never (subst (λ y. IsTrue (fits s (submitted g bs) y)) (sym (same_Some _ _ e)) h)
submits_belong s f len g bs cs scratch x reply.Full is e h = never (subst (λ y. IsTrue (fits s (submitted g bs) y)) (sym (same_Some _ _ e)) h)
submits_belong s f len g bs cs scratch x (reply.Child n) is e h =
    let k : IsTrue (nat_lt (length s.children) child_limit) = subst (λ y. IsTrue (fits s (submitted g bs) y)) (sym (same_Some _ _ e)) h in
    let l = ltb-true (length s.children) child_limit k in
    subst (λ (ys : List (Option ℕ)). length ys < 1023) is l
submits_belong s f len g bs cs scratch x reply.ChainFull is e h = tt
submits_belong s f len g bs cs scratch x (reply.Finished o n) is e h = let a = finished_answer o n scratch x e in never (subst (λ y. IsTrue (fits s (submitted g bs) y)) a.2 h)
submits_belong s f len g bs cs scratch x reply.Want is e h = tt

-- where the end of a child is awaited
pub record IsEnded (s : State) (c : ℕ) (r : Reply) : Type 0 where
  pub outcome : Outcome
  pub len : ℕ
  pub is : r ≡ reply.Finished outcome len
  pub few : len ≤ 65536
  pub same : same_length (noted s c) len ≡ true

looks_ended : (s : State) (c : ℕ) (scratch : List ℕ) (x : Answer) (r : Reply) → reply_of r scratch ≡ Some x → IsTrue (fits s (looked c) x) → IsEnded s c r
looks_ended s c scratch x reply.Done e h = never (subst (λ y. IsTrue (fits s (looked c) y)) (sym (same_Some _ _ e)) h)
looks_ended s c scratch x (reply.Present is_so) e h = never (subst (λ y. IsTrue (fits s (looked c) y)) (sym (same_Some _ _ e)) h)
looks_ended s c scratch x (reply.Bytes n) e h = let a = bytes_answer (looked c) n scratch x e (and_parts _ _ h).0 in never (subst (λ y. IsTrue (fits s (looked c) y)) a.2 h)
looks_ended s c scratch x (reply.Number n) e h = never (subst (λ y. IsTrue (fits s (looked c) y)) (sym (same_Some _ _ e)) h)
looks_ended s c scratch x reply.Full e h = never (subst (λ y. IsTrue (fits s (looked c) y)) (sym (same_Some _ _ e)) h)
looks_ended s c scratch x (reply.Child n) e h = never (subst (λ y. IsTrue (fits s (looked c) y)) (sym (same_Some _ _ e)) h)
looks_ended s c scratch x reply.ChainFull e h = never (subst (λ y. IsTrue (fits s (looked c) y)) (sym (same_Some _ _ e)) h)
looks_ended s c scratch x (reply.Finished o n) e h =
    let a = finished_answer o n scratch x e in
    let k : IsTrue (nat_le (length a.0) output_limit && same_length (noted s c) (length a.0)) = subst (λ y. IsTrue (fits s (looked c) y)) a.2 h in
    let parts = and_parts _ _ k in
    record {
      outcome = o;
      len = n;
      is = refl;
      few = omega (arith, leb-true (length a.0) output_limit parts.0, a.1);
      same = subst (λ m. same_length (noted s c) m ≡ true) a.1 parts.1;
    }
looks_ended s c scratch x reply.Want e h = never (subst (λ y. IsTrue (fits s (looked c) y)) (sym (same_Some _ _ e)) h)

-- ---- Which question it stands at.

some_question : (p q : Question) → Some p ≡ Some q → q ≡ p
some_question p q e = sym (same_Some _ _ e)

write_touch : (first : Piece) (others : List Piece) (bs : List ℕ) (k : ℕ) → first.home ≡ mapped k → touch_of (writes (first ∷ others) bs) ≡ Some (writes_piece k first.off (take first.size bs))
write_touch first others bs k e =
    ap (λ (a : Home). elim a as (λ _. Option Touch) [ private ↦ None | mapped n ↦ Some (writes_piece n first.off (take first.size bs)) ]) e

read_touch : (first : Piece) (others : List Piece) (at n k : ℕ) (copy : List ℕ) → first.home ≡ mapped k → touch_of (reads at n (filter (λ p. not (is_private p.home)) (first ∷ others)) copy) ≡ Some (reads_piece k first.off first.size)
read_touch first others at n k copy e =
    let rest = filter (λ (p : Piece). not (is_private p.home)) others in
    ap (λ (b : Bool). touch_of (reads at n (cond b (first ∷ rest) rest) copy)) (ap (λ (a : Home). not (is_private a)) e)
    ∙ ap (λ (a : Home). elim a as (λ _. Option Touch) [ private ↦ None | mapped m ↦ Some (reads_piece m first.off first.size) ]) e

writes_at : (j : Invocation) (m : Memory) (b : Span) (aside : List ℕ) (q : Question) (p : AtPiece m b) → option_map (touch_question j) (touch_of (writing_on m b aside)) ≡ Some q → q ≡ put (channel j local p.piece.place) p.at.first.off (take p.at.first.size (bytes_left b aside))
writes_at j m b aside q p e =
    let at = p.at in
    some_question _ q (sym (ap (λ (ps : List Piece). option_map (touch_question j) (touch_of (writes ps (bytes_left b aside)))) at.cut ∙ ap (option_map (touch_question j)) (write_touch at.first at.others (bytes_left b aside) p.piece.place at.home)) ∙ e)

reads_at : (j : Invocation) (m : Memory) (b : Span) (aside : List ℕ) (q : Question) (p : AtPiece m b) → option_map (touch_question j) (touch_of (reading_on m b aside)) ≡ Some q → q ≡ got (channel j local p.piece.place) p.at.first.off p.at.first.size
reads_at j m b aside q p e =
    let at = p.at in
    let copy : List ℕ = _ in
    some_question _ q (sym (ap (λ (ps : List Piece). option_map (touch_question j) (touch_of (reads b.ptr b.len (filter (λ (x : Piece). not (is_private x.home)) ps) copy))) at.cut ∙ ap (option_map (touch_question j)) (read_touch at.first at.others b.ptr b.len p.piece.place copy at.home)) ∙ e)

-- ---- The law.

replies_as : (q p : Question) (r : Reply) (scratch : List ℕ) (x : Answer) → q ≡ p → RepliesAs q r scratch x → RepliesAs p r scratch x
replies_as q p r scratch x e h = subst (λ y. RepliesAs y r scratch x) e h

fits_as : (s : State) (q p : Question) (x : Answer) → q ≡ p → IsTrue (fits s q x) → IsTrue (fits s p x)
fits_as s q p x e h = subst (λ y. IsTrue (fits s y x)) e h

read_belongs : (j : Invocation) (s : State) (m : Memory) (b : Span) (aside scratch : List ℕ) (q : Question) (x : Answer) (r : Reply) → AtPiece m b → option_map (touch_question j) (touch_of (reading_on m b aside)) ≡ Some q → IsTrue (fits s q x) → RepliesAs q r scratch x → r ≡ reply.Bytes b.next
read_belongs j s m b aside scratch q x r p e f h =
    let at = p.at in
    let is = reads_at j m b aside q p e in
    let same = reads_bytes (channel j local p.piece.place) at.first.off at.first.size scratch x r (replies_as q _ r scratch x is h) (and_parts _ _ (fits_as s q _ x is f)).0 in
    same ∙ ap (λ n. reply.Bytes n) (at.size ∙ sym at.next)

fits_noted : (off len n : ℕ) (o : Option ℕ) → IsTrue (fits_in off len o) → same_length o n ≡ true → off + len ≤ n
fits_noted off len n None a b = never a
fits_noted off len n (Some m) a b = let e = eqb-true m n b in omega (arith, leb-true (off + len) m a, e)

pub belongs : (t : CallStage) (h : Here) (j : Invocation) (s : State) (q : Question) (r : Reply) (x : Answer) → s.stage ≡ calling (work_of t h) → IsAllowed j h.children t → s.children ≡ h.children → AtQuestion t h.memory → question_at j s ≡ Some q → IsTrue (fits s q x) → RepliesAs q r h.scratch x → Belongs t h.children r
belongs t h j s q r x st allowed children at known f rep = by t st allowed at
  where
    asked : (w : CallStage) → s.stage ≡ calling (work_of w h) → question_in j s (calling (work_of w h)) ≡ Some q
    asked w e = sym (ap (question_in j s) e) ∙ known

    by : (w : CallStage) → s.stage ≡ calling (work_of w h) → IsAllowed j h.children w → AtQuestion w h.memory → Belongs w h.children r
    by (stage.Gives n) e a p = absurd p
    by (stage.TakesInput off b) e a p = absurd p
    by (stage.SendsOut b) e a p =
        let is = writes_at j h.memory b h.aside q p (asked (stage.SendsOut b) e) in
        sends_belong (channel j local p.piece.place) p.at.first.off (take p.at.first.size (bytes_left b h.aside)) b h.children h.scratch x r (replies_as q _ r h.scratch x is rep) (and_parts _ _ (fits_as s q _ x is f)).0
    by (stage.Writes b) e a p =
        subst (Belongs (stage.Writes b) h.children) (sym (read_belongs j s h.memory b h.aside h.scratch q x r p (asked (stage.Writes b) e) f rep)) refl
    by (stage.Chains g b) e a p =
        subst (Belongs (stage.Chains g b) h.children) (sym (read_belongs j s h.memory b h.aside h.scratch q x r p (asked (stage.Chains g b) e) f rep)) refl
    by (stage.Submits g len) e a p =
        let k = unwrap_or (slice_get j.callees g) 0 in
        let bs = take len h.aside in
        let is = some_question (submitted k bs) q (asked (stage.Submits g len) e) in
        submits_belong s g len k bs h.children h.scratch x r children (replies_as q (submitted k bs) r h.scratch x is rep) (fits_as s q (submitted k bs) x is f)
    by (stage.Awaits c) e a p =
        let is = some_question (looked c) q (asked (stage.Awaits c) e) in
        let d = looks_ended s c h.scratch x r (replies_as q (looked c) r h.scratch x is rep) (fits_as s q (looked c) x is f) in
        subst (Belongs (stage.Awaits c) h.children) (sym d.is) d.few
    by (stage.Looks c off b) e a p =
        let is = some_question (looked c) q (asked (stage.Looks c off b) e) in
        let d = looks_ended s c h.scratch x r (replies_as q (looked c) r h.scratch x is rep) (fits_as s q (looked c) x is f) in
        let own : same_length (noted_at h.children c) d.len ≡ true = subst (λ (cs : List (Option ℕ)). same_length (noted_at cs c) d.len ≡ true) children d.same in
        subst (Belongs (stage.Looks c off b) h.children) (sym d.is) (fits_noted off b.len d.len (noted_at h.children c) a own, d.few)
