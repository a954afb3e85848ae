-- Ways of a call from question to question, and what one question more tells.
use Rattle.std.proofs.Common.{◌≡◌, ℕ, zero, suc, List, [], ◌∷◌, ◌++◌, refl, ap, ◌∙◌, subst, Bool, true, false, cond}
use Rattle.std.proofs.lemmas.List.{append-nil}
use Rattle.std.specs.Prelude.{IsTrue}
use Rattle.faaslet_meaning.specs.declared.grant.Channel.{Channel}
use Rattle.faaslet_meaning.specs.declared.outcome.Outcome.{Outcome}
use Rattle.faaslet_meaning.specs.Channels.{Reply, Question, Entry, Transcript, entries, on_channel, same_channel, told_by}
use Rattle.faaslet_meaning.specs.CallState.{Invocation, State, Progress, runs, asks, over, lost}
use Rattle.faaslet_meaning.specs.Call.{call_step, replied, fits}
use Rattle.faaslet_meaning.specs.Goes.{Goes, here, stepped, answered}
use Rattle.faaslet_meaning.specs.Runs.{Run}
use Rattle.faaslet_meaning.specs.Bounds.{steps_left}
use Rattle.faaslet_meaning.proofs.Ways as ways
use Rattle.session_meaning.specs.OpenCall.{steps, quiet}

goes_steps : (j : Invocation) (n : ℕ) (p : Progress) → Goes j p [] (steps j n p)
goes_steps j zero p = here
goes_steps j (suc n) (runs s) = stepped (goes_steps j n (call_step j s))
goes_steps j (suc n) (asks s q) = here
goes_steps j (suc n) (over s o) = here
goes_steps j (suc n) lost = here

pub goes_quiet : (j : Invocation) (p : Progress) → Goes j p [] (quiet j p)
goes_quiet j p = goes_steps j (steps_left p) p

-- one more question, and on to the next
pub goes_on : (j : Invocation) (p : Progress) (t : Transcript) (s : State) (q : Question) (r : Reply) → Goes j p t (asks s q) → IsTrue (fits s q r) → Goes j p (t ++ (q, r) ∷ []) (quiet j (replied j s r))
goes_on j p t s q r g fit = ways.joined g (answered fit (goes_quiet j (replied j s r)))

-- one that comes to the end is a run
pub goes_run : {j : Invocation} {p q : Progress} {t : Transcript} (s : State) (o : Outcome) → q ≡ over s o → Goes j p t q → Run j p t s o
goes_run {j} {p} {q} {t} s o e g = ways.goes_run (subst (Goes j p t) e g)

pub on_both : (ch : Channel) (es fs : List Entry) → on_channel ch (es ++ fs) ≡ on_channel ch es ++ on_channel ch fs
on_both ch [] fs = refl
on_both ch (e ∷ es) fs = by (same_channel ch e.channel) (on_both ch es fs)
  where
    by : (b : Bool) → on_channel ch (es ++ fs) ≡ on_channel ch es ++ on_channel ch fs → cond b ((e.operation, e.reply) ∷ on_channel ch (es ++ fs)) (on_channel ch (es ++ fs)) ≡ cond b ((e.operation, e.reply) ∷ on_channel ch es) (on_channel ch es) ++ on_channel ch fs
    by true h = ap (λ l. (e.operation, e.reply) ∷ l) h
    by false h = h

pub told_more : (t : Transcript) (q : Question) (r : Reply) (ch : Channel) → told_by (t ++ (q, r) ∷ []) ch ≡ told_by t ch ++ on_channel ch (entries q r)
told_more t q r ch = ways.told_join t ((q, r) ∷ []) ch ∙ ap (λ es. told_by t ch ++ on_channel ch es) (append-nil (entries q r))
