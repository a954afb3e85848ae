-- Runs computed, and that what is computed is a run.
use Rattle.std.proofs.Common.{◌≡◌, ℕ, zero, suc, List, [], ◌∷◌, refl, ap, ◌∙◌, subst, Bool, true, false, cond}
use Rattle.std.specs.Prelude.{IsTrue, if◌then◌else◌}
use Rattle.faaslet_meaning.specs.declared.outcome.Outcome.{Outcome}
use Rattle.faaslet_meaning.specs.Channels.{Reply, Question, Transcript}
use Rattle.faaslet_meaning.specs.CallState.{Invocation, State, Progress, runs, asks, over, lost}
use Rattle.faaslet_meaning.specs.Call.{call_step, replied, fits}
use Rattle.faaslet_meaning.specs.Runs.{Run, ended, went_on, asked}

-- What a run asks and comes to that gets these replies, in at most n steps and replies.
pub data Come : Type 0 where
  came : (transcript : Transcript) (state : State) (outcome : Outcome) → Come
  stands_at : (question : Question) → Come
  unfinished : Come
  wrong : Come

abbrev pub with_asked : Question → Reply → Come → Come
with_asked q r (came transcript s o) = came ((q, r) ∷ transcript) s o
with_asked q r t = t

abbrev pub next_told : Invocation → Progress → List Reply → (Progress → List Reply → Come) → Come
next_told j (over s o) rs go = came [] s o
next_told j (runs s) rs go = go (call_step j s) rs
next_told j (asks s q) [] go = stands_at q
next_told j (asks s q) (r ∷ rs) go = if fits s q r then with_asked q r (go (replied j s r) rs) else wrong
next_told j lost rs go = wrong

abbrev pub run_told : Invocation → ℕ → Progress → List Reply → Come
run_told j zero t rs = unfinished
run_told j (suc n) t rs = next_told j t rs (run_told j n)

asked_come : (j : Invocation) (s t : State) (q : Question) (r : Reply) (x : Come) (transcript : Transcript) (o : Outcome) → IsTrue (fits s q r) → with_asked q r x ≡ came transcript t o → ((rest : Transcript) → x ≡ came rest t o → Run j (replied j s r) rest t o) → Run j (asks s q) transcript t o
asked_come j s t q r (came rest u p) transcript o f e k =
    let same : (q, r) ∷ rest ≡ transcript = cc in
    let so : u ≡ t = cc in
    let ends_so : p ≡ o = cc in
    subst (λ l. Run j (asks s q) l t o) same (asked f (k rest (ap (λ y. came rest y p) so ∙ ap (λ y. came rest t y) ends_so)))
asked_come j s t q r (stands_at k) transcript o f e g = let a : ⊥ = cc in absurd a
asked_come j s t q r unfinished transcript o f e g = let a : ⊥ = cc in absurd a
asked_come j s t q r wrong transcript o f e g = let a : ⊥ = cc in absurd a

fit_come : (j : Invocation) (s t : State) (q : Question) (r : Reply) (b : Bool) (x : Come) (transcript : Transcript) (o : Outcome) → fits s q r ≡ b → cond b (with_asked q r x) wrong ≡ came transcript t o → ((rest : Transcript) → x ≡ came rest t o → Run j (replied j s r) rest t o) → Run j (asks s q) transcript t o
fit_come j s t q r true x transcript o f e k = asked_come j s t q r x transcript o f e k
fit_come j s t q r false x transcript o f e k = let a : ⊥ = cc in absurd a

next_come : (j : Invocation) (x : Progress) (t : State) (rs : List Reply) (transcript : Transcript) (o : Outcome) (go : Progress → List Reply → Come) → ((y : Progress) (l : List Reply) (m : Transcript) → go y l ≡ came m t o → Run j y m t o) → next_told j x rs go ≡ came transcript t o → Run j x transcript t o
next_come j (over s p) t rs transcript o go k e =
    let same : [] ≡ transcript = cc in
    let so : s ≡ t = cc in
    let ends_so : p ≡ o = cc in
    subst (λ l. Run j (over s p) l t o) same (subst (λ y. Run j (over s p) [] y o) so (subst (λ y. Run j (over s p) [] s y) ends_so ended))
next_come j (runs s) t rs transcript o go k e = went_on (k (call_step j s) rs transcript e)
next_come j (asks s q) t [] transcript o go k e = let a : ⊥ = cc in absurd a
next_come j (asks s q) t (r ∷ rs) transcript o go k e = fit_come j s t q r (fits s q r) (go (replied j s r) rs) transcript o refl e (λ rest f. k (replied j s r) rs rest f)
next_come j lost t rs transcript o go k e = let a : ⊥ = cc in absurd a

pub come_runs : (j : Invocation) (n : ℕ) (x : Progress) (t : State) (rs : List Reply) (transcript : Transcript) (o : Outcome) → run_told j n x rs ≡ came transcript t o → Run j x transcript t o
come_runs j zero x t rs transcript o e = let a : ⊥ = cc in absurd a
come_runs j (suc n) x t rs transcript o e = next_come j x t rs transcript o (run_told j n) (λ y l m f. come_runs j n y t l m o f) e
