-- For given replies on each channel a run has one outcome, one output, one fuel used and one list of operations.
use Rattle.std.proofs.Common.{Option, arith, ◌≡◌, ℕ, List, [], ◌∷◌, ◌++◌, refl, sym, ap, ◌∙◌, subst, Bool, true, false, cond}
use Rattle.std.specs.Prelude.{◌≢◌, IsTrue, map, T, ◌==◌, ◌&&◌}
use Rattle.std.proofs.Math.Dec.{eqb_refl}
use Rattle.faaslet_meaning.specs.declared.grant.Channel.{Channel}
use Rattle.faaslet_meaning.specs.declared.grant.Channel.TheVariants.{Local, Global, Table}
use Rattle.faaslet_meaning.specs.declared.outcome.Outcome.{Outcome}
use Rattle.faaslet_meaning.specs.declared.outcome.Outcome.TheVariants as outcome
use Rattle.faaslet_meaning.specs.Channels.{RegionOperation, Operation, on_region, Reply, Question, ask, fills, pulls, pushes, Entry, Transcript, Told, told_by, replies, entries, entries_of, on_channel, replies_on, same_channel, has_form}
use Rattle.faaslet_meaning.specs.CallState.{Invocation, Lock, Act, submit, Stage, running, touching, calling, releasing, without_lock, State, Progress, runs, asks, over, lost}
use Rattle.faaslet_meaning.specs.Call.{call_step, replied, reply_at, fits, release, reply_work, served}
use Rattle.faaslet_meaning.specs.Serve.{Carried, reply_to}
use Rattle.faaslet_meaning.specs.Configuration.{Configuration}
use Rattle.faaslet_meaning.specs.Fresh.{Function, Made, makes, breaks, nothing, fresh}
use Rattle.faaslet_meaning.specs.Goes.{NoWant}
use Rattle.faaslet_meaning.specs.Runs.{Run, ended, went_on, asked, Runs, runs_by}

-- a run taken apart
abbrev Opened : Invocation → Progress → Transcript → State → Outcome → Type 0
Opened j (over t p) transcript s o = (transcript ≡ []) × (t ≡ s) × (p ≡ o)
Opened j (runs t) transcript s o = Run j (call_step j t) transcript s o
Opened j (asks t q) transcript s o = (r : Reply) × (rest : Transcript) × (transcript ≡ (q, r) ∷ rest) × IsTrue (fits t q r) × Run j (replied j t r) rest s o
Opened j lost transcript s o = ⊥

opened : {j : Invocation} {t : Progress} {transcript : Transcript} {s : State} {o : Outcome} → Run j t transcript s o → Opened j t transcript s o
opened ended = (refl, refl, refl)
opened (went_on r) = r
opened (asked {r = r} {transcript = rest} f run) = (r, rest, refl, f, run)

-- the channel on which a question's reply stands
abbrev pub asked_on : Question → Channel
asked_on (ask ch op) = ch
asked_on (fills key n) = Global key
asked_on (pulls key off len) = Global key
asked_on (pushes key off len) = Local key

record First (q : Question) (r : Reply) : Type 0 where
  operation : Operation
  more : List Entry
  is : entries q r ≡ record { channel = asked_on q; operation = operation; reply = r } ∷ more

pub from_test : (b : Bool) → T b → b ≡ true
from_test true h = refl
from_test false h = absurd h

same_self : (ch : Channel) → same_channel ch ch ≡ true
same_self (Local a) = from_test (a == a) (eqb_refl a)
same_self (Global a) = from_test (a == a) (eqb_refl a)
same_self Table = refl

-- an entry stands first on its own channel
own_first : (ch : Channel) (op : Operation) (r : Reply) (es : List Entry) → replies_on ch (record { channel = ch; operation = op; reply = r } ∷ es) ≡ r ∷ replies_on ch es
own_first ch op r es = ap (λ b. map (λ x. x.1) (cond b ((op, r) ∷ on_channel ch es) (on_channel ch es))) (same_self ch)

-- equal fronts leave equal rests
pub rest_same : (ch : Channel) (xs es fs : List Entry) → replies_on ch (xs ++ es) ≡ replies_on ch (xs ++ fs) → replies_on ch es ≡ replies_on ch fs
rest_same ch [] es fs e = e
rest_same ch (x ∷ xs) es fs e = rest_same ch xs es fs (by (same_channel ch x.channel) e)
  where
    by : (b : Bool) → map (λ y. y.1) (cond b ((x.operation, x.reply) ∷ on_channel ch (xs ++ es)) (on_channel ch (xs ++ es))) ≡ map (λ y. y.1) (cond b ((x.operation, x.reply) ∷ on_channel ch (xs ++ fs)) (on_channel ch (xs ++ fs))) → replies_on ch (xs ++ es) ≡ replies_on ch (xs ++ fs)
    by true f = cc
    by false f = f

-- each question that was answered has its reply first on its channel
first : (q : Question) (r : Reply) → IsTrue (has_form q r) → r ≢ Reply.want → First q r
first q Reply.want h n = absurd (n refl)
first (ask ch op) Reply.done h n = record { operation = op; more = []; is = refl }
first (ask ch op) Reply.full h n = record { operation = op; more = []; is = refl }
first (ask ch op) Reply.chain_full h n = record { operation = op; more = []; is = refl }
first (ask ch op) (Reply.present b) h n = record { operation = op; more = []; is = refl }
first (ask ch op) (Reply.bytes bs) h n = record { operation = op; more = []; is = refl }
first (ask ch op) (Reply.number v) h n = record { operation = op; more = []; is = refl }
first (ask ch op) (Reply.child v) h n = record { operation = op; more = []; is = refl }
first (ask ch op) (Reply.finished o bs) h n = record { operation = op; more = []; is = refl }
first (fills key m) (Reply.bytes bs) h n = record { operation = _; more = _; is = refl }
first (pulls key off len) (Reply.bytes bs) h n = record { operation = _; more = _; is = refl }
first (pushes key off len) (Reply.bytes bs) h n = record { operation = _; more = _; is = refl }
first q r h n = let f : ⊥ = cc in absurd f

pub both_left : (a b : Bool) → IsTrue (a && b) → IsTrue a
both_left true b h = refl
both_left false b h = cc

-- what stands first on the channel of a question that was answered
pub answer_first : (q : Question) (r : Reply) (es : List Entry) → IsTrue (has_form q r) → r ≢ Reply.want → (more : List Reply) × (replies_on (asked_on q) (entries q r ++ es) ≡ r ∷ more)
answer_first q r es h n =
    let f = first q r h n in
    (replies_on (asked_on q) (f.more ++ es), ap (λ xs. replies_on (asked_on q) (xs ++ es)) f.is ∙ own_first (asked_on q) f.operation r (f.more ++ es))

pub same_reply : (q : Question) (r r' : Reply) (es es' : List Entry) → IsTrue (has_form q r) → IsTrue (has_form q r') → r ≢ Reply.want → r' ≢ Reply.want → replies_on (asked_on q) (entries q r ++ es) ≡ replies_on (asked_on q) (entries q r' ++ es') → r ≡ r'
same_reply q r r' es es' h h' n n' e =
    let a = answer_first q r es h n in
    let b = answer_first q r' es' h' n' in
    let c : r ∷ a.0 ≡ r' ∷ b.0 = sym a.1 ∙ e ∙ b.1 in
    cc

-- the same replies come to the same
pub one_outcome : {j : Invocation} {t : Progress} {transcript transcript' : Transcript} {s s' : State} {o o' : Outcome} → Run j t transcript s o → Run j t transcript' s' o' → NoWant transcript → NoWant transcript' → ((ch : Channel) → replies_on ch (entries_of transcript) ≡ replies_on ch (entries_of transcript')) → (transcript ≡ transcript') × (s ≡ s') × (o ≡ o')
one_outcome ended run n m e = let p = opened run in (sym p.0, p.1, p.2)
one_outcome (went_on a) run n m e = one_outcome a (opened run) n m e
one_outcome {j} {transcript' = transcript'} {s = z} {s' = s'} {o = o} {o' = o'} (asked {s = u} {q = q} {r = r} {transcript = rest} f a) run n m e =
    let (r', rest', is, f', a') = opened run in
    let m' = subst NoWant is m in
    let e' : (ch : Channel) → replies_on ch (entries q r ++ entries_of rest) ≡ replies_on ch (entries q r' ++ entries_of rest') = λ ch. e ch ∙ ap (λ t. replies_on ch (entries_of t)) is in
    let same = same_reply q r r' (entries_of rest) (entries_of rest') (both_left _ _ f) (both_left _ _ f') n.0 m'.0 (e' (asked_on q)) in
    let b = subst (λ x. Run j (replied j u x) rest' s' o') (sym same) a' in
    let e'' : (ch : Channel) → replies_on ch (entries_of rest) ≡ replies_on ch (entries_of rest') = λ ch. rest_same ch (entries q r) (entries_of rest) (entries_of rest') (e' ch ∙ ap (λ x. replies_on ch (entries q x ++ entries_of rest')) (sym same)) in
    let t = one_outcome a b n.1 m'.1 e'' in
    (ap (λ x. (q, r) ∷ x) t.0 ∙ ap (λ x. (q, x) ∷ rest') same ∙ sym is, t.1, t.2)

-- A run that gets want of memory ends with Want
release_next : (j : Invocation) (s t : State) (l : Lock) (ls : List Lock) (r : Reply) (rest : Transcript) (o : Outcome) → ((u : State) (more : Transcript) → Run j (release j u outcome.Want ls) more t o → o ≡ outcome.Want) → Run j (reply_at j s (releasing (l ∷ ls) outcome.Want) r) rest t o → o ≡ outcome.Want
release_next j s t l ls Reply.done rest o k run = k (without_lock s l) rest run
release_next j s t l ls r rest o k run = absurd (opened run)

released : (j : Invocation) (s t : State) (ls : List Lock) (transcript : Transcript) (o : Outcome) → Run j (release j s outcome.Want ls) transcript t o → o ≡ outcome.Want
released j s t [] transcript o run = sym (opened run).2
released j s t (l ∷ ls) transcript o run = let (r, rest, is, f, next) = opened run in release_next j _ t l ls r rest o (λ u more x. released j u t ls more o x) next

act_wants : (j : Invocation) (t : State) (a : Act) (acts : List Act) (x : Carried) (transcript : Transcript) (o : Outcome) → Run j (served j (reply_to j a acts x Reply.want)) transcript t o → o ≡ outcome.Want
act_wants j t (submit f) acts x transcript o run = released j x.state t _ transcript o run
act_wants j t _ acts x transcript o run = absurd (opened run)

work_wants : (j : Invocation) (s t : State) (acts : List Act) (held : List ℕ) (result : Option ℕ) (transcript : Transcript) (o : Outcome) → Run j (reply_work j s (record { acts = acts; held = held; result = result }) Reply.want) transcript t o → o ≡ outcome.Want
work_wants j s t [] held result transcript o run = absurd (opened run)
work_wants j s t (a ∷ acts) held result transcript o run = act_wants j t a acts (record { held = held; result = result; state = s }) transcript o run

stage_wants : (j : Invocation) (s t : State) (st : Stage) (transcript : Transcript) (o : Outcome) → Run j (reply_at j s st Reply.want) transcript t o → o ≡ outcome.Want
stage_wants j s t running transcript o run = absurd (opened run)
stage_wants j s t (touching b) transcript o run = absurd (opened run)
stage_wants j s t (calling w) transcript o run = work_wants j s t w.acts w.held w.result transcript o run
stage_wants j s t (releasing ls p) transcript o run = absurd (opened run)

no_want : {j : Invocation} {x : Progress} {transcript : Transcript} {t : State} {o : Outcome} → Run j x transcript t o → o ≢ outcome.Want → NoWant transcript
no_want ended n = tt
no_want (went_on a) n = no_want a n
no_want {j} {t = t} {o = o} (asked {s = s} {r = r} {transcript = rest} f a) n = (λ e. n (stage_wants j s t s.stage rest o (subst (λ x. Run j (replied j s x) rest t o) e a)), no_want a n)

-- the same of a call: one outcome, one output, one fuel used, one list of operations on each channel
abbrev SameRun : Told → Told → Outcome → Outcome → List ℕ → List ℕ → ℕ → ℕ → Type 0
SameRun told told' o o' out out' used used' = (o ≡ o') × (out ≡ out') × (used ≡ used') × ((ch : Channel) → told ch ≡ told' ch)

pub one_run : (f : Function) (input : List ℕ) (told told' : Told) (o o' : Outcome) (out out' : List ℕ) (used used' : ℕ) → o ≢ outcome.Want → o' ≢ outcome.Want → ((ch : Channel) → replies told ch ≡ replies told' ch) → Runs f input told o out used → Runs f input told' o' out' used' → SameRun told told' o o' out out' used used'
one_run f input told told' o o' out out' used used' n n' e = by (fresh f)
  where
    by : (m : Made Configuration) → runs_by f m input told o out used → runs_by f m input told' o' out' used' → SameRun told told' o o' out out' used used'
    by (makes c) a b =
        let d : (ch : Channel) → replies_on ch (entries_of a.transcript) ≡ replies_on ch (entries_of b.transcript) = λ ch. ap (map (λ x. x.1)) (sym (a.told_so ch)) ∙ e ch ∙ ap (map (λ x. x.1)) (b.told_so ch) in
        let same = one_outcome a.run b.run (no_want a.run n) (no_want b.run n') d in
        let fuel = ap (λ s. s.config.fuel) same.1 in
        (same.2, a.output_so ∙ ap (λ s. s.output) same.1 ∙ sym b.output_so, omega (arith, a.used_so, b.used_so, fuel), λ ch. a.told_so ch ∙ ap (λ t. told_by t ch) same.0 ∙ sym (b.told_so ch))
    by (breaks k) a b = (a.0 ∙ sym b.0, a.2 ∙ sym b.2, a.3 ∙ sym b.3, λ ch. a.1 ch ∙ sym (b.1 ch))
    by nothing a b = absurd a
