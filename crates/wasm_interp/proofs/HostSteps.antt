-- A host call takes its arguments and pays for its buffer.
use Rattle.std.proofs.Common.{◌≡◌, ℕ, ◌<◌, ◌≤◌, List, [], ◌∷◌, length, drop, take, map, refl, sym, ap, ◌∙◌, subst, arith, length-append, None, Some, Option, Ok, Err, true, false, ⊎_elim}
use Rattle.std.specs.Prelude.{◌≢◌, nat_le, reverse, slice_get, option_and_then}
use Rattle.std.specs.Int.{w32}
use Rattle.std.proofs.lemmas.Bool.{le-leb, lt-leb, cases_lt}
use Rattle.std.proofs.lemmas.List.{take-append-le, drop-append-le, length-reverse, length-map, length-take-le}
use Rattle.std.proofs.lemmas.Option.{slice_get_within}
use Rattle.faaslet_meaning.specs.declared.module.FuncType.{FuncType}
use Rattle.faaslet_meaning.specs.declared.outcome.Outcome.{Outcome}
use Rattle.faaslet_meaning.specs.Integers.{low}
use Rattle.faaslet_meaning.specs.Memory.{Memory}
use Rattle.faaslet_meaning.specs.HostCalls.{HostCall, HostRow, Form, of_none, of_one, of_two, of_three, of_four, arity, made, host_rows, buffer_of}
use Rattle.faaslet_meaning.specs.Configuration.{Configuration, Next, hosted, goes, ends, touches, calls, stuck}
use Rattle.faaslet_meaning.specs.Limits.{with_values}
use Rattle.faaslet_meaning.specs.ControlRules.{call, host_call, host_made, host_by, buffer_limit}
use Rattle.faaslet_meaning.specs.ControlRules as control
use Rattle.wasm_interp.specs.declared.machine.HostAsk.{HostAsk}
use Rattle.wasm_interp.specs.declared.thread.Thread.{Thread}
use Rattle.wasm_interp.specs.Stands.{Stands}
use Rattle.wasm_interp.specs.StandsFor.{AsksHost}
use Rattle.wasm_interp.specs.HostStops.{Pays, Asked}
use Rattle.wasm_interp.proofs.Values.{under_own, values_stand}

arity_few : (f : Form) → arity f ≤ 4
arity_few (of_none h) = omega arith
arity_few (of_one h) = omega arith
arity_few (of_two h) = omega arith
arity_few (of_three h) = omega arith
arity_few (of_four h) = omega arith

made_arity : (f : Form) (xs : List ℕ) (h : HostCall) → made f xs ≡ Some h → length xs ≡ arity f
made_arity (of_none g) [] h e = refl
made_arity (of_none g) (x ∷ xs) h e = absurd (cc)
made_arity (of_one g) [] h e = absurd (cc)
made_arity (of_one g) (x ∷ []) h e = refl
made_arity (of_one g) (x ∷ (y ∷ xs)) h e = absurd (cc)
made_arity (of_two g) [] h e = absurd (cc)
made_arity (of_two g) (x ∷ []) h e = absurd (cc)
made_arity (of_two g) (x ∷ (y ∷ [])) h e = refl
made_arity (of_two g) (x ∷ (y ∷ (z ∷ xs))) h e = absurd (cc)
made_arity (of_three g) [] h e = absurd (cc)
made_arity (of_three g) (x ∷ []) h e = absurd (cc)
made_arity (of_three g) (x ∷ (y ∷ [])) h e = absurd (cc)
made_arity (of_three g) (x ∷ (y ∷ (z ∷ []))) h e = refl
made_arity (of_three g) (x ∷ (y ∷ (z ∷ (u ∷ xs)))) h e = absurd (cc)
made_arity (of_four g) [] h e = absurd (cc)
made_arity (of_four g) (x ∷ []) h e = absurd (cc)
made_arity (of_four g) (x ∷ (y ∷ [])) h e = absurd (cc)
made_arity (of_four g) (x ∷ (y ∷ (z ∷ []))) h e = absurd (cc)
made_arity (of_four g) (x ∷ (y ∷ (z ∷ (u ∷ [])))) h e = refl
made_arity (of_four g) (x ∷ (y ∷ (z ∷ (u ∷ (w ∷ xs))))) h e = absurd (cc)

-- the arguments of a call, in order, and what it leaves
abbrev pub args_of : Configuration → FuncType → List ℕ
args_of d t = reverse (map (low w32) (take (length t.params) d.frame.values))

abbrev pub left_of : Configuration → FuncType → Configuration
left_of d t = with_values d (drop (length t.params) d.frame.values)

-- a host call that isn't stuck is one of the rows, with its arguments
pub record Called (d : Configuration) (number : ℕ) (t : FuncType) : Type 0 where
  pub row : HostRow
  pub call : HostCall
  pub row_is : slice_get host_rows number ≡ Some row
  pub made_is : made row.form (args_of d t) ≡ Some call
  pub params_are : arity row.form ≡ length t.params
  pub many : length t.params ≤ length d.frame.values
  pub is : control.call d (hosted number t) ≡ host_by (left_of d t) call (buffer_of call)

module _ (d : Configuration) (number : ℕ) (t : FuncType) (ok : call d (hosted number t) ≢ stuck) where
  enough : length t.params ≤ length d.frame.values
  enough =
      ⊎_elim
      (λ lt. let b : nat_le (length t.params) (length d.frame.values) ≡ false = lt-leb _ _ lt in absurd (ok (rw b refl)))
      (λ le. le)
      (cases_lt (length d.frame.values) (length t.params))

  is_made : call d (hosted number t) ≡ host_made (left_of d t) (option_and_then (λ (r : HostRow). made r.form (args_of d t)) (slice_get host_rows number))
  is_made = let b : nat_le (length t.params) (length d.frame.values) ≡ true = le-leb _ _ enough in rw b refl

  pub called : Called d number t
  called = by_row (slice_get host_rows number) refl
    where
      by_made : (r : HostRow) → slice_get host_rows number ≡ Some r → (o : Option HostCall) → made r.form (args_of d t) ≡ o → call d (hosted number t) ≡ host_made (left_of d t) o → Called d number t
      by_made r found None e is = absurd (ok is)
      by_made r found (Some h) e is =
          let count : length (args_of d t) ≡ length t.params = length-reverse (map (low w32) (take (length t.params) d.frame.values)) ∙ length-map (take (length t.params) d.frame.values) (low w32) ∙ length-take-le (length t.params) d.frame.values enough in
          record { row = r; call = h; row_is = found; made_is = e; params_are = sym (made_arity r.form (args_of d t) h e) ∙ count; many = enough; is = is }

      by_row : (o : Option HostRow) → slice_get host_rows number ≡ o → Called d number t
      by_row None e = absurd (ok (is_made ∙ ap (λ o. host_made (left_of d t) (option_and_then (λ (r : HostRow). made r.form (args_of d t)) o)) e))
      by_row (Some r) e = by_made r e (made r.form (args_of d t)) refl (is_made ∙ ap (λ o. host_made (left_of d t) (option_and_then (λ (q : HostRow). made q.form (args_of d t)) o)) e)

  pub params_few : length t.params ≤ 4
  params_few = omega (arith, called.params_are, arity_few called.row.form)

  pub number_small : number < 23
  number_small = slice_get_within host_rows number called.row called.row_is

-- what is paid for is asked
pub asked_of : (memory : Memory) (t : Thread) (h : HostCall) (ask : HostAsk) (n : Next) → AsksHost ask h → Pays memory t h n None → Asked memory t n (Ok ask)
asked_of memory t h ask (goes c) a p = absurd p
asked_of memory t h ask (ends c o) a p = absurd p
asked_of memory t h ask (touches c b) a p = absurd p
asked_of memory t h ask (calls c k) a p = (p.0, subst (λ x. AsksHost ask x) (sym p.1) a)
asked_of memory t h ask stuck a p = absurd p

pub ended_of : (memory : Memory) (t : Thread) (h : HostCall) (o : Outcome) (n : Next) → Pays memory t h n (Some o) → Asked memory t n (Err o)
ended_of memory t h o (goes c) p = absurd p
ended_of memory t h o (ends c q) p = p
ended_of memory t h o (touches c b) p = absurd p
ended_of memory t h o (calls c k) p = absurd p
ended_of memory t h o stuck p = absurd p

-- the arguments are taken
module _ (memory : Memory) (t : Thread) (d : Configuration) (number : ℕ) (type : FuncType) (s : Stands memory t d) (found : Called d number type) where
  pub params_there : length type.params ≤ length t.values
  params_there = omega (arith, found.many, ap length s.values, length-append d.frame.values (under_own d))

  pub args_taken : (new : List ℕ) → new ≡ drop (length type.params) t.values → Stands memory (record t { values = new }) (with_values d (drop (length type.params) d.frame.values))
  args_taken new e =
      values_stand memory t d new (drop (length type.params) d.frame.values) (e ∙ ap (drop (length type.params)) s.values ∙ drop-append-le (length type.params) d.frame.values (under_own d) found.many) s

  pub asks_with : (ask : HostAsk) → ask.call ≡ number → take (length type.params) ask.args ≡ reverse (map (low w32) (take (length type.params) t.values)) → AsksHost ask found.call
  asks_with ask c e =
      let same : take (length type.params) t.values ≡ take (length type.params) d.frame.values =
      ap (take (length type.params)) s.values ∙ take-append-le (length type.params) d.frame.values (under_own d) found.many in
      record {
        row = found.row;
        row_is = ap (slice_get host_rows) c ∙ found.row_is;
        made_is = ap (λ k. made found.row.form (take k ask.args)) found.params_are ∙ ap (made found.row.form) (e ∙ ap (λ l. reverse (map (low w32) l)) same) ∙ found.made_is;
      }
