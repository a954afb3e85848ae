-- Ways of a call: runs and reached points are cases of them, they join, and the same replies lead one way.
use Rattle.std.proofs.Common.{◌≡◌, List, [], ◌∷◌, ◌++◌, refl, sym, ap, ◌∙◌, subst, Bool, true, false, cond, append_assoc}
use Rattle.std.specs.Prelude.{◌≢◌, IsTrue}
use Rattle.faaslet_meaning.specs.declared.grant.Channel.{Channel}
use Rattle.faaslet_meaning.specs.declared.outcome.Outcome.{Outcome}
use Rattle.faaslet_meaning.specs.Channels.{Reply, Question, Entry, Transcript, told_by, entries, entries_of, on_channel, replies_on, same_channel, has_form}
use Rattle.faaslet_meaning.specs.CallState.{Invocation, State, Progress, runs, asks, over, lost}
use Rattle.faaslet_meaning.specs.Call.{call_step, replied, fits}
use Rattle.faaslet_meaning.specs.Goes.{Goes, here, stepped, answered, Rests, replies_in, NoWant}
use Rattle.faaslet_meaning.specs.Reach as reach
use Rattle.faaslet_meaning.specs.Reach.{Reaches}
use Rattle.faaslet_meaning.specs.Runs.{Run, ended, went_on, asked}
use Rattle.faaslet_meaning.proofs.One.{asked_on, rest_same, answer_first, same_reply, both_left}

-- ---- Runs and reached points

pub run_goes : {j : Invocation} {p : Progress} {transcript : Transcript} {s : State} {o : Outcome} → Run j p transcript s o → Goes j p transcript (over s o)
run_goes ended = here
run_goes (went_on run) = stepped (run_goes run)
run_goes (asked fit run) = answered fit (run_goes run)

goes_run_to : {j : Invocation} {p y : Progress} {transcript : Transcript} (s : State) (o : Outcome) → y ≡ over s o → Goes j p transcript y → Run j p transcript s o
goes_run_to {j} s o e here = subst (λ x. Run j x [] s o) (sym e) ended
goes_run_to s o e (stepped g) = went_on (goes_run_to s o e g)
goes_run_to s o e (answered fit g) = asked fit (goes_run_to s o e g)

pub goes_run : {j : Invocation} {p : Progress} {transcript : Transcript} {s : State} {o : Outcome} → Goes j p transcript (over s o) → Run j p transcript s o
goes_run {s = s} {o = o} g = goes_run_to s o refl g

pub reached_goes : {j : Invocation} {p q : Progress} → Reaches j p q → (transcript : Transcript) × Goes j p transcript q
reached_goes reach.here = ([], here)
reached_goes (reach.stepped r) = let g = reached_goes r in (g.0, stepped g.1)
reached_goes (reach.answered {q = q} a fit r) = let g = reached_goes r in ((q, a) ∷ g.0, answered fit g.1)

pub goes_reached : {j : Invocation} {p q : Progress} {transcript : Transcript} → Goes j p transcript q → Reaches j p q
goes_reached here = reach.here
goes_reached (stepped g) = reach.stepped (goes_reached g)
goes_reached (answered {r = r} fit g) = reach.answered r fit (goes_reached g)

-- ---- Joined and parted

pub joined : {j : Invocation} {p q r : Progress} {before after : Transcript} → Goes j p before q → Goes j q after r → Goes j p (before ++ after) r
joined here h = h
joined (stepped g) h = stepped (joined g h)
joined (answered fit g) h = answered fit (joined g h)

-- a way with this transcript, taken apart
abbrev pub Asked : Invocation → State → Question → Transcript → Progress → Type 0
Asked j s q [] y = asks s q ≡ y
Asked j s q (x ∷ rest) y = (x.0 ≡ q) × IsTrue (fits s q x.1) × Goes j (replied j s x.1) rest y

abbrev pub Opened : Invocation → Progress → Transcript → Progress → Type 0
Opened j (runs s) transcript y = Rests y → Goes j (call_step j s) transcript y
Opened j (asks s q) transcript y = Asked j s q transcript y
Opened j p transcript y = (transcript ≡ []) × (p ≡ y)

pub opened : {j : Invocation} {p y : Progress} {transcript : Transcript} → Goes j p transcript y → Opened j p transcript y
opened {p = runs s} here = λ h. absurd h
opened {p = asks s q} here = refl
opened {p = over s o} here = (refl, refl)
opened {p = lost} here = (refl, refl)
opened (stepped g) = λ h. g
opened (answered fit g) = (refl, fit, g)

parted_to : {j : Invocation} {p r : Progress} {whole : Transcript} (before after : Transcript) → whole ≡ before ++ after → Goes j p whole r → (q : Progress) × Goes j p before q × Goes j q after r
parted_to {j} {p = p} {r = y} [] after e g = (p, here, subst (λ t. Goes j p t y) e g)
parted_to (x ∷ before) after e here = absurd (cc)
parted_to {j} {r = y} (x ∷ before) after e (stepped {s = s} {transcript = rest} g) = let h = parted_to {j = j} {p = call_step j s} {r = y} {whole = rest} (x ∷ before) after e g in (h.0, stepped h.1, h.2)
parted_to {j} (x ∷ before) after e (answered {s = s} {q = q} {r = r} {transcript = rest} fit g) =
    let tail : rest ≡ before ++ after = cc in
    let head : (q, r) ≡ x = cc in
    let h = parted_to before after tail g in
    (h.0, subst (λ z. Goes j (asks s q) (z ∷ before) h.0) head (answered fit h.1), h.2)

pub parted : {j : Invocation} {p r : Progress} (before after : Transcript) → Goes j p (before ++ after) r → (q : Progress) × Goes j p before q × Goes j q after r
parted before after g = parted_to before after refl g

-- ---- What was told joins, channel by channel

entries_join : (before after : Transcript) → entries_of (before ++ after) ≡ entries_of before ++ entries_of after
entries_join [] after = refl
entries_join (x ∷ before) after = ap (λ es. entries x.0 x.1 ++ es) (entries_join before after) ∙ sym (append_assoc (entries x.0 x.1) (entries_of before) (entries_of after))

channel_join : (ch : Channel) (es fs : List Entry) → on_channel ch (es ++ fs) ≡ on_channel ch es ++ on_channel ch fs
channel_join ch [] fs = refl
channel_join ch (e ∷ es) fs = by (same_channel ch e.channel) (channel_join ch es fs)
  where
    by : (b : Bool) → on_channel ch (es ++ fs) ≡ on_channel ch es ++ on_channel ch fs → cond b ((e.operation, e.reply) ∷ on_channel ch (es ++ fs)) (on_channel ch (es ++ fs)) ≡ cond b ((e.operation, e.reply) ∷ on_channel ch es) (on_channel ch es) ++ on_channel ch fs
    by true h = ap (λ xs. (e.operation, e.reply) ∷ xs) h
    by false h = h

pub told_join : (before after : Transcript) (ch : Channel) → told_by (before ++ after) ch ≡ told_by before ch ++ told_by after ch
told_join before after ch = ap (on_channel ch) (entries_join before after) ∙ channel_join ch (entries_of before) (entries_of after)

-- ---- One way

on_from : {j : Invocation} {p y z : Progress} {first : Transcript} (second : Transcript) (more : List Reply) → Rests y → Rests z → Goes j p first y → Goes j p second z → replies_in second ≡ replies_in first ++ more → (rest : Transcript) × (second ≡ first ++ rest) × Goes j y rest z
on_from second more h k here g e = (second, refl, g)
on_from second more h k (stepped f) g e = on_from second more h k f (opened g k) e
on_from [] more h k (answered fit f) g e = absurd (cc)
on_from {j} {z = z} (x ∷ second) more h k (answered {s = s} {q = q} {r = r} {transcript = rest} fit f) g e =
    let o = opened g in
    let same : x.1 ≡ r = cc in
    let tail : replies_in second ≡ replies_in rest ++ more = cc in
    let next = subst (λ a. Goes j (replied j s a) second z) same o.2 in
    let found = on_from second more h k f next tail in
    let head : x ≡ (q, r) = ap (λ a. (a, x.1)) o.0 ∙ ap (λ a. (q, a)) same in
    (found.0, ap (λ a. a ∷ second) head ∙ ap (λ t. (q, r) ∷ t) found.1, found.2)

pub one_way_on : {j : Invocation} {p y z : Progress} (first second : Transcript) (more : List Reply) → Rests y → Rests z → Goes j p first y → Goes j p second z → replies_in second ≡ replies_in first ++ more → (rest : Transcript) × (second ≡ first ++ rest) × Goes j y rest z
one_way_on first second more h k f g e = on_from second more h k f g e

-- nothing more was replied
stays : {j : Invocation} (y : Progress) {z : Progress} (rest : Transcript) → Rests y → Rests z → replies_in rest ≡ [] → Goes j y rest z → (rest ≡ []) × (y ≡ z)
stays (runs s) rest h k e g = absurd h
stays (asks s q) [] h k e g = (refl, opened g)
stays (asks s q) (x ∷ rest) h k e g = absurd (cc)
stays (over s o) rest h k e g = opened g
stays lost rest h k e g = opened g

same_front : (xs ys zs : List Reply) → xs ++ ys ≡ xs ++ zs → ys ≡ zs
same_front [] ys zs e = e
same_front (x ∷ xs) ys zs e = same_front xs ys zs cc

replies_join : (before after : Transcript) → replies_in (before ++ after) ≡ replies_in before ++ replies_in after
replies_join [] after = refl
replies_join (x ∷ before) after = ap (λ rs. x.1 ∷ rs) (replies_join before after)

nothing_more : (xs : List Reply) → xs ≡ xs ++ []
nothing_more [] = refl
nothing_more (x ∷ xs) = ap (λ rs. x ∷ rs) (nothing_more xs)

all_told : (xs : Transcript) → xs ++ [] ≡ xs
all_told [] = refl
all_told (x ∷ xs) = ap (λ t. x ∷ t) (all_told xs)

pub one_way : {j : Invocation} {p y z : Progress} (first second : Transcript) → Rests y → Rests z → Goes j p first y → Goes j p second z → replies_in first ≡ replies_in second → (first ≡ second) × (y ≡ z)
one_way {y = y} first second h k f g e =
    let found = one_way_on first second [] h k f g (sym e ∙ nothing_more (replies_in first)) in
    let none : replies_in found.0 ≡ [] = same_front (replies_in first) (replies_in found.0) [] (sym (replies_join first found.0) ∙ sym (ap replies_in found.1) ∙ sym e ∙ nothing_more (replies_in first)) in
    let s = stays y found.0 h k none found.2 in
    (sym (found.1 ∙ ap (λ t. first ++ t) s.0 ∙ all_told first), s.1)

-- the same where the replies are known channel by channel
abbrev SameReplies : Transcript → Transcript → Type 0
SameReplies a b = (ch : Channel) → replies_on ch (entries_of a) ≡ replies_on ch (entries_of b)

-- a question that was answered has its reply on its channel
told_something : (q : Question) (r : Reply) (rest : Transcript) → IsTrue (has_form q r) → r ≢ Reply.want → replies_on (asked_on q) (entries q r ++ entries_of rest) ≡ [] → ⊥
told_something q r rest f n e = let a = answer_first q r (entries_of rest) f n in let c : r ∷ a.0 ≡ [] = sym a.1 ∙ e in cc

at_rest : {j : Invocation} (y : Progress) {z : Progress} (rest : Transcript) → Rests y → Rests z → NoWant rest → SameReplies [] rest → Goes j y rest z → ([] ≡ rest) × (y ≡ z)
at_rest (runs s) rest h k n e g = absurd h
at_rest (asks s q) [] h k n e g = (refl, opened g)
at_rest (asks s q) (x ∷ rest) h k n e g =
    let o = opened g in
    absurd (told_something q x.1 rest (both_left _ _ o.1) n.0 (ap (λ a. replies_on (asked_on q) (entries a x.1 ++ entries_of rest)) (sym o.0) ∙ sym (e (asked_on q))))
at_rest (over s o) rest h k n e g = let w = opened g in (sym w.0, w.1)
at_rest lost rest h k n e g = let w = opened g in (sym w.0, w.1)

by_channels : {j : Invocation} {p y z : Progress} {first : Transcript} (second : Transcript) → Rests y → Rests z → NoWant first → NoWant second → Goes j p first y → Goes j p second z → SameReplies first second → (first ≡ second) × (y ≡ z)
by_channels {y = y} second h k n m here g e = at_rest y second h k m e g
by_channels second h k n m (stepped f) g e = by_channels second h k n m f (opened g k) e
by_channels [] h k n m (answered {q = q} {r = r} {transcript = rest} fit f) g e = absurd (told_something q r rest (both_left _ _ fit) n.0 (e (asked_on q)))
by_channels {j} {z = z} (x ∷ second) h k n m (answered {s = s} {q = q} {r = r} {transcript = rest} fit f) g e =
    let o = opened g in
    let e' : (ch : Channel) → replies_on ch (entries q r ++ entries_of rest) ≡ replies_on ch (entries q x.1 ++ entries_of second) = λ ch. e ch ∙ ap (λ a. replies_on ch (entries a x.1 ++ entries_of second)) o.0 in
    let same = same_reply q r x.1 (entries_of rest) (entries_of second) (both_left _ _ fit) (both_left _ _ o.1) n.0 m.0 (e' (asked_on q)) in
    let next = subst (λ a. Goes j (replied j s a) second z) (sym same) o.2 in
    let e'' : SameReplies rest second = λ ch. rest_same ch (entries q r) (entries_of rest) (entries_of second) (e' ch ∙ ap (λ a. replies_on ch (entries q a ++ entries_of second)) (sym same)) in
    let found = by_channels second h k n.1 m.1 f next e'' in
    (ap (λ t. (q, r) ∷ t) found.0 ∙ ap (λ a. (q, a) ∷ second) same ∙ ap (λ a. (a, x.1) ∷ second) (sym o.0), found.1)

pub one_way_by_channels : {j : Invocation} {p y z : Progress} (first second : Transcript) → Rests y → Rests z → NoWant first → NoWant second → Goes j p first y → Goes j p second z → SameReplies first second → (first ≡ second) × (y ≡ z)
one_way_by_channels first second h k n m f g e = by_channels second h k n m f g e
