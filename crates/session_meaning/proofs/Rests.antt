-- A call comes to a question or to its end by as many steps as may still come, and by those alone.
use Rattle.std.proofs.Common.{ℕ, zero, suc, ◌≤◌, [], refl, arith}
use Rattle.std.specs.Prelude.{IsFalse}
use Rattle.faaslet_meaning.specs.CallState.{Invocation, Progress, runs, asks, over, lost}
use Rattle.faaslet_meaning.specs.Call.{call_step}
use Rattle.faaslet_meaning.specs.Bounds.{steps_left}
use Rattle.faaslet_meaning.specs.Goes.{Goes, here, stepped}
use Rattle.session_meaning.specs.OpenCall.{steps, quiet, is_running}
use Rattle.faaslet_meaning.proofs.Counted.{each_step_leaves_less}

rests_by : (j : Invocation) (n : ℕ) (p : Progress) → steps_left p ≤ n → IsFalse (is_running (steps j n p))
rests_by j zero (runs s) h = let less = each_step_leaves_less j s in let no : ⊥ = omega (arith, h, less) in absurd no
rests_by j zero (asks s q) h = refl
rests_by j zero (over s o) h = refl
rests_by j zero lost h = refl
rests_by j (suc n) (runs s) h = rests_by j n (call_step j s) (let less = each_step_leaves_less j s in omega (arith, h, less))
rests_by j (suc n) (asks s q) h = refl
rests_by j (suc n) (over s o) h = refl
rests_by j (suc n) lost h = refl

pub rests : (j : Invocation) (p : Progress) → IsFalse (is_running (quiet j p))
rests j p = rests_by j (steps_left p) p (let n = steps_left p in omega arith)

goes_by : (j : Invocation) (n : ℕ) (p : Progress) → Goes j p [] (steps j n p)
goes_by j zero p = here
goes_by j (suc n) (runs s) = stepped (goes_by j n (call_step j s))
goes_by j (suc n) (asks s q) = here
goes_by j (suc n) (over s o) = here
goes_by j (suc n) lost = here

pub goes_on_quietly : (j : Invocation) (p : Progress) → Goes j p [] (quiet j p)
goes_on_quietly j p = goes_by j (steps_left p) p
