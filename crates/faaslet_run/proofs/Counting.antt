-- The counts of a call: how many entries it made on each of its channels, which each reply that is one raises.
use Rattle.std.proofs.Common.{◌≡◌, ℕ, suc, ◌+◌, ◌*◌, ◌≤◌, Bool, true, false, List, [], ◌∷◌, ◌++◌, Option, Some, None, length, map, take, refl, ap, sym, ◌∙◌, subst, arith, cond, length-append}
use Rattle.std.specs.Prelude.{IsTrue, find, min, option_map, replicate, slice_index, ◌==◌}
use Rattle.std.specs.List.{position_from}
use Rattle.std.proofs.lemmas.List.{length-set, take-replicate}
use Rattle.std.proofs.lemmas.Bool.{eqb-true, eqb-false, eq-eqb, ne_eqb}
use Rattle.std.proofs.lemmas.Option.{same_Some}
use Rattle.faaslet_meaning.specs.declared.ask.Ask.{Ask}
use Rattle.faaslet_meaning.specs.declared.ask.Reply.{Reply}
use Rattle.faaslet_meaning.specs.declared.ask.Reply.TheVariants as reply
use Rattle.faaslet_meaning.specs.declared.grant.Channel.{Channel}
use Rattle.faaslet_meaning.specs.declared.grant.Channel.TheVariants.{Local, Global, Table}
use Rattle.faaslet_meaning.specs.declared.grant.Grant.{Grant}
use Rattle.faaslet_meaning.specs.Asks.{IsMoved, RepliesAs, front, reply_of}
use Rattle.faaslet_meaning.specs.Channels.{Operation, Reply as Answer, Question, ask, fills, pulls, pushes, Transcript, told_by, channels, same_channel, has_form}
use Rattle.faaslet_meaning.specs.Formed.{AllDiffer}
use Rattle.faaslet_meaning.proofs.Ways.{told_join}
use Rattle.faaslet_run.specs.Counted.{most, counted, channels_asked, channels_of, is_answer, place_of, raised_at, raised, raised_all, counted_on}

-- ---- How often a reply is an entry on a channel.

abbrev one : Bool → ℕ
one true = 1
one false = 0

-- how often a channel is one of these
abbrev hits : Channel → List Channel → ℕ
hits ch [] = 0
hits ch (c ∷ cs) = one (same_channel ch c) + hits ch cs

abbrev answers : Answer → Bool
answers Answer.want = false
answers _ = true

length_one : {A : Type 0} (b : Bool) (x : A) (xs : List A) → length (cond b (x ∷ xs) xs) ≡ one b + length xs
length_one true x xs = let e : suc (length xs) ≡ 1 + length xs = omega arith in e
length_one false x xs = let e : length xs ≡ 0 + length xs = omega arith in e

turned : (a b n : ℕ) → n ≡ 0 → a + (b + n) ≡ b + (a + n)
turned a b n e = omega arith

abbrev told_at : Question → Answer → Channel → ℕ
told_at q r ch = length (told_by ((q, r) ∷ []) ch)

ask_told : (ch c : Channel) (op : Operation) (r : Answer) → answers r ≡ true → told_at (ask c op) r ch ≡ hits ch (c ∷ [])
ask_told ch c op Answer.want e = absurd (cc)
ask_told ch c op r e = length_one {A = Operation × Answer} (same_channel ch c) (op, r) []

two_told : {A : Type 0} (a b : Bool) (x y : A) → length (cond a (x ∷ cond b (y ∷ []) []) (cond b (y ∷ []) [])) ≡ one a + (one b + 0)
two_told a b x y = length_one a x (cond b (y ∷ []) []) ∙ ap (λ n. one a + n) (length_one b y [])

told_hits : (q : Question) (r : Answer) (ch : Channel) → IsTrue (has_form q r) → answers r ≡ true → told_at q r ch ≡ hits ch (channels_asked q)
told_hits (ask c op) r ch f e = ask_told ch c op r e
told_hits (fills key n) (Answer.bytes bs) ch f e = two_told {A = Operation × Answer} (same_channel ch (Global key)) (same_channel ch (Local key)) _ _ ∙ turned (one (same_channel ch (Global key))) (one (same_channel ch (Local key))) 0 refl
told_hits (pulls key off n) (Answer.bytes bs) ch f e = two_told {A = Operation × Answer} (same_channel ch (Global key)) (same_channel ch (Local key)) _ _ ∙ turned (one (same_channel ch (Global key))) (one (same_channel ch (Local key))) 0 refl
told_hits (pushes key off n) (Answer.bytes bs) ch f e = two_told {A = Operation × Answer} (same_channel ch (Local key)) (same_channel ch (Global key)) _ _
told_hits (fills key n) _ ch f e = absurd (cc)
told_hits (pulls key off n) _ ch f e = absurd (cc)
told_hits (pushes key off n) _ ch f e = absurd (cc)

-- want of memory is no entry
want_told : (q : Question) (r : Answer) (ch : Channel) → answers r ≡ false → told_at q r ch ≡ 0
want_told (ask c op) Answer.want ch e = refl
want_told (fills key n) Answer.want ch e = refl
want_told (pulls key off n) Answer.want ch e = refl
want_told (pushes key off n) Answer.want ch e = refl
want_told q _ ch e = absurd (cc)

-- ---- One more at a place.

-- a number for each channel of these grants
abbrev numbers : (Channel → ℕ) → List Grant → List ℕ
numbers F gs = map (λ ch. min (F ch) most) (channels gs)

abbrev OneMore : (Channel → ℕ) → (Channel → ℕ) → Channel → Type 0
OneMore F G c = (ch : Channel) → G ch ≡ F ch + one (same_channel ch c)

still : (n : ℕ) → min (n + 1) most ≡ min (min n most + 1) most
still n = omega arith

more : (n : ℕ) → n + 0 ≡ n
more n = omega arith

abbrev Differ : List Grant → Type 0
Differ gs = AllDiffer (λ (a b : Grant). a.key == b.key) gs

-- no grant behind is on this key
abbrev Absent : ℕ → List Grant → Type 0
Absent key gs = find (λ (b : Grant). key == b.key) gs ≡ None

absent_first : (key : ℕ) (g : Grant) (gs : List Grant) → Absent key (g ∷ gs) → ((key == g.key) ≡ false) × Absent key gs
absent_first key g gs e = by (key == g.key) refl e
  where
    by : (b : Bool) → (key == g.key) ≡ b → cond b (Some g) (find (λ (b : Grant). key == b.key) gs) ≡ None → ((key == g.key) ≡ false) × Absent key gs
    by true f h = absurd (cc)
    by false f h = (f, h)

flip_key : (a b : ℕ) (x : Bool) → (a == b) ≡ x → (b == a) ≡ x
flip_key a b true e = eq-eqb b a (sym (eqb-true a b e))
flip_key a b false e = ne_eqb b a (λ f. eqb-false a b e (sym f))

-- the numbers of other channels stay
local_others : (F G : Channel → ℕ) (key : ℕ) (gs : List Grant) → OneMore F G (Local key) → Absent key gs → numbers G gs ≡ numbers F gs
local_others F G key [] h a = ap (λ n. min n most ∷ []) (h Table ∙ more (F Table))
local_others F G key (g ∷ gs) h a =
    let p = absent_first key g gs a in
    let e : G (Local g.key) ≡ F (Local g.key) = h (Local g.key) ∙ ap (λ b. F (Local g.key) + one b) (flip_key key g.key false p.0) ∙ more (F (Local g.key)) in
    let d : G (Global g.key) ≡ F (Global g.key) = h (Global g.key) ∙ more (F (Global g.key)) in
    ap (λ n. min n most ∷ min (G (Global g.key)) most ∷ numbers G gs) e ∙ ap (λ n. min (F (Local g.key)) most ∷ min n most ∷ numbers G gs) d
    ∙ ap (λ ns. min (F (Local g.key)) most ∷ min (F (Global g.key)) most ∷ ns) (local_others F G key gs h p.1)

global_others : (F G : Channel → ℕ) (key : ℕ) (gs : List Grant) → OneMore F G (Global key) → Absent key gs → numbers G gs ≡ numbers F gs
global_others F G key [] h a = ap (λ n. min n most ∷ []) (h Table ∙ more (F Table))
global_others F G key (g ∷ gs) h a =
    let p = absent_first key g gs a in
    let d : G (Global g.key) ≡ F (Global g.key) = h (Global g.key) ∙ ap (λ b. F (Global g.key) + one b) (flip_key key g.key false p.0) ∙ more (F (Global g.key)) in
    let e : G (Local g.key) ≡ F (Local g.key) = h (Local g.key) ∙ more (F (Local g.key)) in
    ap (λ n. min n most ∷ min (G (Global g.key)) most ∷ numbers G gs) e ∙ ap (λ n. min (F (Local g.key)) most ∷ min n most ∷ numbers G gs) d
    ∙ ap (λ ns. min (F (Local g.key)) most ∷ min (F (Global g.key)) most ∷ ns) (global_others F G key gs h p.1)

-- ---- The place in the list.

abbrev at_key : ℕ → Grant → Bool
at_key key g = g.key == key

later_place : (key i : ℕ) (gs : List Grant) → position_from (at_key key) (i + 1) gs ≡ option_map suc (position_from (at_key key) i gs)
later_place key i [] = refl
later_place key i (g ∷ gs) = by (g.key == key) (later_place key (i + 1) gs)
  where
    by : (b : Bool) → position_from (at_key key) (i + 1 + 1) gs ≡ option_map suc (position_from (at_key key) (i + 1) gs) → cond b (Some (i + 1)) (position_from (at_key key) (i + 1 + 1) gs) ≡ option_map suc (cond b (Some i) (position_from (at_key key) (i + 1) gs))
    by true e = let s : i + 1 ≡ suc i = omega arith in ap (λ n. Some n) s
    by false e = e

-- two numbers of a grant come before those of the next
behind : (add : ℕ) (a b : ℕ) (ns : List ℕ) (o : Option ℕ) → raised_at (option_map (λ i. 2 * i + add) (option_map suc o)) (a ∷ b ∷ ns) ≡ a ∷ b ∷ raised_at (option_map (λ i. 2 * i + add) o) ns
behind add a b ns None = refl
behind add a b ns (Some i) = let e : 2 * suc i + add ≡ suc (suc (2 * i + add)) = omega arith in ap (λ k. raised_at (Some k) (a ∷ b ∷ ns)) e

plain_place : (o : Option ℕ) → option_map (λ i. 2 * i) o ≡ option_map (λ i. 2 * i + 0) o
plain_place None = refl
plain_place (Some i) = let e : 2 * i ≡ 2 * i + 0 = omega arith in ap (λ n. Some n) e

local_more : (F G : Channel → ℕ) (key : ℕ) (gs : List Grant) → OneMore F G (Local key) → Differ gs → numbers G gs ≡ raised_at (option_map (λ i. 2 * i + 0) (place_of gs key)) (numbers F gs)
local_more F G key [] h d = ap (λ n. min n most ∷ []) (h Table ∙ more (F Table))
local_more F G key (g ∷ gs) h d = by (g.key == key) refl (local_more F G key gs h d.1)
  where
    global_same : G (Global g.key) ≡ F (Global g.key)
    global_same = h (Global g.key) ∙ more (F (Global g.key))

    by : (b : Bool) → (g.key == key) ≡ b → numbers G gs ≡ raised_at (option_map (λ i. 2 * i + 0) (place_of gs key)) (numbers F gs) → numbers G (g ∷ gs) ≡ raised_at (option_map (λ i. 2 * i + 0) (cond b (Some 0) (position_from (at_key key) (0 + 1) gs))) (numbers F (g ∷ gs))
    by true e r =
        let own : G (Local g.key) ≡ F (Local g.key) + 1 = h (Local g.key) ∙ ap (λ x. F (Local g.key) + one x) e in
        let rest = local_others F G key gs h (subst (λ n. Absent n gs) (eqb-true g.key key e) d.0) in
        ap (λ n. min n most ∷ min (G (Global g.key)) most ∷ numbers G gs) own ∙ ap (λ n. n ∷ min (G (Global g.key)) most ∷ numbers G gs) (still (F (Local g.key)))
        ∙ ap (λ n. min (min (F (Local g.key)) most + 1) most ∷ min n most ∷ numbers G gs) global_same ∙ ap (λ ns. min (min (F (Local g.key)) most + 1) most ∷ min (F (Global g.key)) most ∷ ns) rest
    by false e r =
        let own : G (Local g.key) ≡ F (Local g.key) = h (Local g.key) ∙ ap (λ x. F (Local g.key) + one x) e ∙ more (F (Local g.key)) in
        let a = min (F (Local g.key)) most in
        let b = min (F (Global g.key)) most in
        ap (λ n. min n most ∷ min (G (Global g.key)) most ∷ numbers G gs) own ∙ ap (λ n. a ∷ min n most ∷ numbers G gs) global_same ∙ ap (λ ns. a ∷ b ∷ ns) r
        ∙ sym (behind 0 a b (numbers F gs) (place_of gs key)) ∙ ap (λ o. raised_at (option_map (λ i. 2 * i + 0) o) (a ∷ b ∷ numbers F gs)) (sym (later_place key 0 gs))

global_more : (F G : Channel → ℕ) (key : ℕ) (gs : List Grant) → OneMore F G (Global key) → Differ gs → numbers G gs ≡ raised_at (option_map (λ i. 2 * i + 1) (place_of gs key)) (numbers F gs)
global_more F G key [] h d = ap (λ n. min n most ∷ []) (h Table ∙ more (F Table))
global_more F G key (g ∷ gs) h d = by (g.key == key) refl (global_more F G key gs h d.1)
  where
    local_same : G (Local g.key) ≡ F (Local g.key)
    local_same = h (Local g.key) ∙ more (F (Local g.key))

    by : (b : Bool) → (g.key == key) ≡ b → numbers G gs ≡ raised_at (option_map (λ i. 2 * i + 1) (place_of gs key)) (numbers F gs) → numbers G (g ∷ gs) ≡ raised_at (option_map (λ i. 2 * i + 1) (cond b (Some 0) (position_from (at_key key) (0 + 1) gs))) (numbers F (g ∷ gs))
    by true e r =
        let own : G (Global g.key) ≡ F (Global g.key) + 1 = h (Global g.key) ∙ ap (λ x. F (Global g.key) + one x) e in
        let rest = global_others F G key gs h (subst (λ n. Absent n gs) (eqb-true g.key key e) d.0) in
        ap (λ n. min n most ∷ min (G (Global g.key)) most ∷ numbers G gs) local_same ∙ ap (λ n. min (F (Local g.key)) most ∷ min n most ∷ numbers G gs) own
        ∙ ap (λ n. min (F (Local g.key)) most ∷ n ∷ numbers G gs) (still (F (Global g.key))) ∙ ap (λ ns. min (F (Local g.key)) most ∷ min (min (F (Global g.key)) most + 1) most ∷ ns) rest
    by false e r =
        let own : G (Global g.key) ≡ F (Global g.key) = h (Global g.key) ∙ ap (λ x. F (Global g.key) + one x) e ∙ more (F (Global g.key)) in
        let a = min (F (Local g.key)) most in
        let b = min (F (Global g.key)) most in
        ap (λ n. min n most ∷ min (G (Global g.key)) most ∷ numbers G gs) local_same ∙ ap (λ n. a ∷ min n most ∷ numbers G gs) own ∙ ap (λ ns. a ∷ b ∷ ns) r
        ∙ sym (behind 1 a b (numbers F gs) (place_of gs key)) ∙ ap (λ o. raised_at (option_map (λ i. 2 * i + 1) o) (a ∷ b ∷ numbers F gs)) (sym (later_place key 0 gs))

table_more : (F G : Channel → ℕ) (gs : List Grant) → OneMore F G Table → numbers G gs ≡ raised_at (Some (2 * length gs)) (numbers F gs)
table_more F G [] h = ap (λ n. min n most ∷ []) (h Table) ∙ ap (λ n. n ∷ []) (still (F Table))
table_more F G (g ∷ gs) h =
    let a = min (F (Local g.key)) most in
    let b = min (F (Global g.key)) most in
    let e : suc (suc (2 * length gs)) ≡ 2 * suc (length gs) = omega arith in
    ap (λ n. min n most ∷ min (G (Global g.key)) most ∷ numbers G gs) (h (Local g.key) ∙ more (F (Local g.key))) ∙ ap (λ n. a ∷ min n most ∷ numbers G gs) (h (Global g.key) ∙ more (F (Global g.key)))
    ∙ ap (λ ns. a ∷ b ∷ ns) (table_more F G gs h) ∙ ap (λ k. raised_at (Some k) (a ∷ b ∷ numbers F gs)) e

pub one_more : (F G : Channel → ℕ) (c : Channel) (gs : List Grant) → OneMore F G c → Differ gs → numbers G gs ≡ raised gs c (numbers F gs)
one_more F G (Local key) gs h d = local_more F G key gs h d ∙ ap (λ o. raised_at o (numbers F gs)) (sym (plain_place (place_of gs key)))
one_more F G (Global key) gs h d = global_more F G key gs h d
one_more F G Table gs h d = table_more F G gs h

-- one more for each of these
all_more : (F G : Channel → ℕ) (cs : List Channel) (gs : List Grant) → ((ch : Channel) → G ch ≡ F ch + hits ch cs) → Differ gs → numbers G gs ≡ raised_all gs cs (numbers F gs)
all_more F G [] gs h d = same gs
  where
    same : (gs : List Grant) → numbers G gs ≡ numbers F gs
    same [] = ap (λ n. min n most ∷ []) (h Table ∙ more (F Table))
    same (g ∷ gs) =
        ap (λ n. min n most ∷ min (G (Global g.key)) most ∷ numbers G gs) (h (Local g.key) ∙ more (F (Local g.key)))
        ∙ ap (λ n. min (F (Local g.key)) most ∷ min n most ∷ numbers G gs) (h (Global g.key) ∙ more (F (Global g.key))) ∙ ap (λ ns. min (F (Local g.key)) most ∷ min (F (Global g.key)) most ∷ ns) (same gs)
all_more F G (c ∷ cs) gs h d =
    let H : Channel → ℕ = λ ch. F ch + one (same_channel ch c) in
    let joined : (a b n : ℕ) → a + (b + n) ≡ a + b + n = λ a b n. omega arith in
    all_more H G cs gs (λ ch. h ch ∙ joined (F ch) (one (same_channel ch c)) (hits ch cs)) d ∙ ap (λ ns. raised_all gs cs ns) (one_more F H c gs (λ ch. refl) d)

-- ---- What a reply is.

from_front : (F : List ℕ → Answer) (o : Option (List ℕ)) (x : Answer) → ((bs : List ℕ) → answers (F bs) ≡ true) → option_map F o ≡ Some x → answers x ≡ true
from_front F None x h e = absurd (cc)
from_front F (Some bs) x h e = subst (λ y. answers y ≡ true) (same_Some _ _ e) (h bs)

same_answer : (r : Reply) (scratch : List ℕ) (x : Answer) → reply_of r scratch ≡ Some x → is_answer r ≡ answers x
same_answer reply.Done scratch x e = ap answers (same_Some _ _ e)
same_answer (reply.Present b) scratch x e = ap answers (same_Some _ _ e)
same_answer (reply.Bytes n) scratch x e = sym (from_front (λ bs. Answer.bytes bs) (front n scratch) x (λ bs. refl) e)
same_answer (reply.Number n) scratch x e = ap answers (same_Some _ _ e)
same_answer reply.Full scratch x e = ap answers (same_Some _ _ e)
same_answer (reply.Child n) scratch x e = ap answers (same_Some _ _ e)
same_answer reply.ChainFull scratch x e = ap answers (same_Some _ _ e)
same_answer (reply.Finished o n) scratch x e = sym (from_front (λ bs. Answer.finished o bs) (front n scratch) x (λ bs. refl) e)
same_answer reply.Want scratch x e = ap answers (same_Some _ _ e)

moved_answer : (r : Reply) (n : ℕ) (x : Answer) → IsMoved r n x → is_answer r ≡ answers x
moved_answer r n x m = ap is_answer m.is_done ∙ sym (ap answers m.is_answer)

replies_answer : (q : Question) (r : Reply) (scratch : List ℕ) (x : Answer) → RepliesAs q r scratch x → is_answer r ≡ answers x
replies_answer (ask ch op) r scratch x e = same_answer r scratch x e
replies_answer (fills key n) r scratch x e = moved_answer r n x e
replies_answer (pulls key off n) r scratch x e = moved_answer r n x e
replies_answer (pushes key off n) r scratch x e = moved_answer r n x e

-- what is counted after a reply
pub counted_next : (gs : List Grant) (t : Transcript) (q : Question) (a : Ask) (r : Reply) (x : Answer) (scratch old new : List ℕ) → Differ gs → channels_asked q ≡ channels_of a → RepliesAs q r scratch x → IsTrue (has_form q x) → old ≡ counted gs t → new ≡ counted_on gs a r old → new ≡ counted gs (t ++ (q, x) ∷ [])
counted_next gs t q a r x scratch old new d kind rep form before after = after ∙ by (is_answer r) refl
  where
    F : Channel → ℕ
    F ch = length (told_by t ch)

    G : Channel → ℕ
    G ch = length (told_by (t ++ (q, x) ∷ []) ch)

    long : (ch : Channel) → G ch ≡ F ch + told_at q x ch
    long ch = ap length (told_join t ((q, x) ∷ []) ch) ∙ length-append (told_by t ch) (told_by ((q, x) ∷ []) ch)

    numbered : (F : Channel → ℕ) (cs : List Channel) → map (λ n. min n most) (map F cs) ≡ map (λ ch. min (F ch) most) cs
    numbered F [] = refl
    numbered F (c ∷ cs) = ap (λ ns. min (F c) most ∷ ns) (numbered F cs)

    before_is : old ≡ numbers F gs
    before_is = before ∙ numbered F (channels gs)

    by : (b : Bool) → is_answer r ≡ b → cond b (raised_all gs (channels_of a) old) old ≡ counted gs (t ++ (q, x) ∷ [])
    by true e =
        let yes : answers x ≡ true = sym (replies_answer q r scratch x rep) ∙ e in
        ap (λ ns. raised_all gs (channels_of a) ns) before_is ∙ ap (λ cs. raised_all gs cs (numbers F gs)) (sym kind)
        ∙ sym (all_more F G (channels_asked q) gs (λ ch. long ch ∙ ap (λ n. F ch + n) (told_hits q x ch form yes)) d) ∙ sym (numbered G (channels gs))
    by false e =
        let no : answers x ≡ false = sym (replies_answer q r scratch x rep) ∙ e in
        before_is ∙ sym (all_more F G [] gs (λ ch. long ch ∙ ap (λ n. F ch + n) (want_told q x ch no)) d) ∙ sym (numbered G (channels gs))

-- ---- How many there are.

pub counted_long : (gs : List Grant) (t : Transcript) → length (counted gs t) ≡ 2 * length gs + 1
counted_long gs t = by (λ ch. told_by t ch) gs
  where
    by : (F : Channel → List (Operation × Answer)) (gs : List Grant) → length (map (λ n. min n most) (map (λ ch. length (F ch)) (channels gs))) ≡ 2 * length gs + 1
    by F [] = refl
    by F (g ∷ gs) = let r = by F gs in omega (arith, r)

-- nothing was counted yet
pub counted_none : (gs : List Grant) (zeros : (n : ℕ) → List ℕ) → zeros 0 ≡ [] → ((n : ℕ) → zeros (suc n) ≡ 0 ∷ zeros n) → zeros (2 * length gs + 1) ≡ counted gs []
counted_none [] zeros z s = s 0 ∙ ap (λ ns. 0 ∷ ns) z
counted_none (g ∷ gs) zeros z s =
    let e : 2 * suc (length gs) + 1 ≡ suc (suc (2 * length gs + 1)) = omega arith in
    ap zeros e ∙ s (suc (2 * length gs + 1)) ∙ ap (λ ns. 0 ∷ ns) (s (2 * length gs + 1)) ∙ ap (λ ns. 0 ∷ 0 ∷ ns) (counted_none gs zeros z s)

-- raising leaves how many there are
pub raised_long : (gs : List Grant) (o : Option ℕ) (ns : List ℕ) → length (raised_at o ns) ≡ length ns
raised_long gs None ns = refl
raised_long gs (Some i) ns = length-set ns i (min (slice_index ns i + 1) most)

-- zeros at the front of all
pub zeros_front : (n : ℕ) → n ≤ 65 → (let none : ℕ = 0 in take n (replicate 65 none) ≡ replicate n none)
zeros_front n h = take-replicate {X = ℕ} n 65 0 h
