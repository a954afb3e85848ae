-- What a call knows of its children is what it was told of them.
use Rattle.std.proofs.Common.{◌≡◌, ℕ, List, [], ◌∷◌, ◌++◌, Option, refl, sym, subst}
use Rattle.faaslet_meaning.specs.declared.grant.Channel.TheVariants.{Local, Global, Table}
use Rattle.faaslet_meaning.specs.CallState.{Invocation, State, Progress, runs, asks, fresh_state}
use Rattle.faaslet_meaning.specs.Call.{replied}
use Rattle.faaslet_meaning.specs.Channels.{Operation, on_region, Question, ask, fills, pulls, pushes, Reply, Transcript}
use Rattle.faaslet_meaning.specs.Configuration.{Configuration}
use Rattle.faaslet_meaning.specs.Fresh.{Function, fresh, makes}
use Rattle.faaslet_meaning.specs.Goes.{Goes, here, stepped, answered}
use Rattle.faaslet_meaning.specs.Runs.{invocation}
use Rattle.session_meaning.proofs.GrantedAsks.{kids_after}
use Rattle.session_meaning.proofs.GrantedCalls.{ProgressOk, call_step_ok, replied_ok}
use Rattle.session_meaning.proofs.AsksGranted.{first_ok}
use Rattle.faaslet_run_tests.specs.Children.{known_after, known_by}

-- the same as is known of the calls of a session
same_after : (kids : List (Option ℕ)) (q : Question) (r : Reply) → known_after kids q r ≡ kids_after kids q r
same_after kids q (Reply.child n) = refl
same_after kids (ask Table (Operation.look c)) (Reply.finished o bs) = refl
same_after kids (ask Table (Operation.submit f input)) (Reply.finished o bs) = refl
same_after kids (ask Table (on_region op)) (Reply.finished o bs) = refl
same_after kids (ask (Local k) op) (Reply.finished o bs) = refl
same_after kids (ask (Global k) op) (Reply.finished o bs) = refl
same_after kids (fills k n) (Reply.finished o bs) = refl
same_after kids (pulls k off len) (Reply.finished o bs) = refl
same_after kids (pushes k off len) (Reply.finished o bs) = refl
same_after kids q Reply.done = refl
same_after kids q Reply.full = refl
same_after kids q Reply.chain_full = refl
same_after kids q Reply.want = refl
same_after kids q (Reply.present b) = refl
same_after kids q (Reply.bytes bs) = refl
same_after kids q (Reply.number n) = refl

pub known_more : (kids : List (Option ℕ)) (t : Transcript) (q : Question) (r : Reply) → known_by kids (t ++ (q, r) ∷ []) ≡ known_after (known_by kids t) q r
known_more kids [] q r = refl
known_more kids (x ∷ xs) q r = known_more (known_after kids x.0 x.1) xs q r

goes_known : {j : Invocation} {p y : Progress} {t : Transcript} (fuel : ℕ) (kids : List (Option ℕ)) → Goes j p t y → ProgressOk j fuel kids p → ProgressOk j fuel (known_by kids t) y
goes_known fuel kids here h = h
goes_known {j} fuel kids (stepped {s = s} g) h = goes_known fuel kids g (call_step_ok j fuel kids s h)
goes_known {j} fuel kids (answered {s = s} {q = q} {r = r} fit g) h = goes_known fuel (known_after kids q r) g (subst (λ (ks : List (Option ℕ)). ProgressOk j fuel ks (replied j s r)) (sym (same_after kids q r)) (replied_ok j fuel kids s q r h))

-- so it is where a question is asked
pub children_are : (f : Function) (input : List ℕ) (c : Configuration) (t : Transcript) (s : State) (q : Question) → fresh f ≡ makes c → Goes (invocation f input) (runs (fresh_state c)) t (asks s q) → s.children ≡ known_by [] t
children_are f input c t s q e g = (goes_known f.fuel [] g (first_ok f input c e)).0.2
