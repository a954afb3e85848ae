-- The children in the state of a call are those of which it was told.
use Rattle.std.proofs.Common.{◌≡◌, ℕ, List, [], ◌∷◌, ◌++◌, refl, subst}
use Rattle.faaslet_meaning.specs.declared.grant.Channel.TheVariants.{Table}
use Rattle.faaslet_meaning.specs.CallState.{Invocation, State, Progress, runs, asks, fresh_state}
use Rattle.faaslet_meaning.specs.Channels.{Operation, Reply, Question, ask, Transcript}
use Rattle.faaslet_meaning.specs.Call.{replied}
use Rattle.faaslet_meaning.specs.Configuration.{Configuration}
use Rattle.faaslet_meaning.specs.Fresh.{Function, fresh, makes}
use Rattle.faaslet_meaning.specs.Goes.{Goes, here, stepped, answered}
use Rattle.faaslet_meaning.specs.Runs.{invocation}
use Rattle.session_meaning.proofs.AsksGranted.{first_ok}
use Rattle.session_meaning.proofs.GrantedAsks.{kids_after}
use Rattle.session_meaning.proofs.GrantedCalls.{ProgressOk, call_step_ok, replied_ok}
use Rattle.told_asks.specs.Seen.{Kids, seen_after, seen_by}

pub seen_both : (kids : Kids) (before after : Transcript) → seen_by kids (before ++ after) ≡ seen_by (seen_by kids before) after
seen_both kids [] after = refl
seen_both kids (x ∷ xs) after = seen_both (seen_after kids x.0 x.1) xs after

-- both ways to say it
same_after : (kids : Kids) (q : Question) (r : Reply) → kids_after kids q r ≡ seen_after kids q r
same_after kids q (Reply.child n) = refl
same_after kids (ask Table (Operation.look c)) (Reply.finished outcome output) = refl
same_after kids q r = refl

goes_ok : {j : Invocation} {p y : Progress} {transcript : Transcript} (fuel : ℕ) (kids : Kids) → Goes j p transcript y → ProgressOk j fuel kids p → ProgressOk j fuel (seen_by kids transcript) y
goes_ok fuel kids here h = h
goes_ok {j} fuel kids (stepped {s = s} g) h = goes_ok fuel kids g (call_step_ok j fuel kids s h)
goes_ok {j} fuel kids (answered {s = s} {q = q} {r = r} fit g) h = goes_ok fuel (seen_after kids q r) g (subst (λ k. ProgressOk j fuel k (replied j s r)) (same_after kids q r) (replied_ok j fuel kids s q r h))

pub seen_so : (f : Function) (input : List ℕ) (c : Configuration) (transcript : Transcript) (s : State) (q : Question) → fresh f ≡ makes c → Goes (invocation f input) (runs (fresh_state c)) transcript (asks s q) → s.children ≡ seen_by [] transcript
seen_so f input c transcript s q made g = (goes_ok f.fuel [] g (first_ok f input c made)).0.2
