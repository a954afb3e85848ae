-- Where a call comes to rest, and what it was told by then.
use Rattle.std.proofs.Common.{◌≡◌, ℕ, List, [], ◌∷◌, ◌++◌, Option, Some, None, refl, sym, ap, ◌∙◌}
use Rattle.std.specs.Prelude.{IsTrue, IsFalse}
use Rattle.faaslet_meaning.specs.Call.{fits, replied}
use Rattle.faaslet_meaning.specs.CallState.{Invocation, Progress, State, asks, fresh_state, lost, over, runs}
use Rattle.faaslet_meaning.specs.Channels.{Question, Reply, Transcript, channels, counts, entries, told_by}
use Rattle.faaslet_meaning.specs.Configuration.{Configuration, Func, defined, hosted}
use Rattle.faaslet_meaning.specs.Fresh.{Function, Made, Store, entry_by, fresh, makes}
use Rattle.faaslet_meaning.specs.Goes.{Goes, Rests}
use Rattle.faaslet_meaning.specs.Runs.{invocation}
use Rattle.faaslet_meaning.proofs.Ways.{one_way}
use Rattle.session_meaning.specs.OpenCall.{Open, answered, counted, is_running, machine_by, quiet, stands}
use Rattle.session_meaning.proofs.CallsAlike.{counted_more}
use Rattle.session_meaning.proofs.Goes.{goes_on, goes_quiet, told_more}
use Rattle.session_meaning.proofs.Rests.{rests}

at_rest : (p : Progress) → IsFalse (is_running p) → Rests p
at_rest (runs s) h = let bad : ⊥ = cc in absurd bad
at_rest (asks s q) h = tt
at_rest (over s o) h = tt
at_rest lost h = tt

-- with these questions and replies a call comes to one point of rest alone
pub one_rest : (j : Invocation) (p : Progress) (t : Transcript) (x y : Progress) → Rests y → Goes j p t (quiet j x) → Goes j p t y → quiet j x ≡ y
one_rest j p t x y rest way other = (one_way {j = j} {p = p} {y = quiet j x} {z = y} t t (at_rest (quiet j x) (rests j x)) rest way other refl).1

-- ---- From its first step on.

fuel_of : Made Configuration → ℕ
fuel_of (makes d) = d.fuel
fuel_of m = 0

pub entry_fuel : (f : Function) (s : Store) (o : Option Func) (c : Configuration) → entry_by f s o ≡ makes c → c.fuel ≡ f.fuel
unfolding fuel_of
entry_fuel f s (Some (defined t locals body)) c e = sym (ap fuel_of e)
entry_fuel f s (Some (hosted n t)) c e = let bad : ⊥ = cc in absurd bad
entry_fuel f s None c e = let bad : ⊥ = cc in absurd bad

pub machine_first : (g : Function) (input : List ℕ) (c : Configuration) (y : Progress) → fresh g ≡ makes c → Rests y → Goes (invocation g input) (runs (fresh_state c)) [] y → machine_by (invocation g input) (fresh g) ≡ stands y
machine_first g input c y made rest way =
    let j = invocation g input in
    ap (machine_by j) made ∙ ap stands (one_rest j (runs (fresh_state c)) [] (runs (fresh_state c)) y rest (goes_quiet j (runs (fresh_state c))) way)

-- ---- After a reply.

module _ (o : Open) (start : State) (t : Transcript) (s : State) (q : Question) (r : Reply) (way : Goes o.invocation (runs start) t (asks s q)) (fit : IsTrue (fits s q r)) where
  pub counts_on : o.counts ≡ counts o.invocation.program.grants (told_by t) → (answered o s r (entries q r)).counts ≡ counts o.invocation.program.grants (told_by (t ++ (q, r) ∷ []))
  counts_on so =
      let gs = o.invocation.program.grants in
      ap (λ ns. counted gs ns (entries q r)) so ∙ counted_more (channels gs) (told_by t) (told_by (t ++ (q, r) ∷ [])) (entries q r) (told_more t q r)

  pub rest_on : (y : Progress) → Rests y → Goes o.invocation (runs start) (t ++ (q, r) ∷ []) y → (answered o s r (entries q r)).machine ≡ stands y
  rest_on y rest other = ap stands (one_rest o.invocation (runs start) (t ++ (q, r) ∷ []) (replied o.invocation s r) y rest (goes_on o.invocation (runs start) t s q r way fit) other)
