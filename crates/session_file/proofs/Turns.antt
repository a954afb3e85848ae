-- One more item of a list in its turn, and what a function may do.
use Rattle.std.proofs.Common.{◌≡◌, ℕ, ◌+◌, ◌<◌, List, length, map, drop, get_or, drop-cons, add-one, Result, Ok, Err, IfErr, sym, ap, subst, ◌∙◌}
use Rattle.session_meaning.specs.declared.fault.SessionFault.{SessionFault}
use Rattle.session_meaning.specs.Draft.{Draft}
use Rattle.session_meaning.specs.SessionText.{FunctionText}
use Rattle.session_meaning.specs.SessionFile.{Answer, Refused, then_do, in_turn, grant, allow, entitle}
use Rattle.session_file.specs.Told.{Tells}

module _ {A B C : Type 0} (act : ℕ → A → B → Answer A) (view : C → B) (xs : List C) (i : ℕ) (d : C) (a : A) (inside : i < length xs) where
  first : in_turn i act a (map view (drop i xs)) ≡ then_do (act i a (view (get_or xs i d))) (λ b. in_turn (i + 1) act b (map view (drop (i + 1) xs)))
  first =
      ap (λ ys. in_turn i act a (map view ys)) (drop-cons xs i d inside)
      ∙ ap (λ k. then_do (act i a (view (get_or xs i d))) (λ b. in_turn (i + 1) act b (map view (drop k xs)))) (sym (add-one i))

  pub goes_on : (b : A) → act i a (view (get_or xs i d)) ≡ Ok b → in_turn i act a (map view (drop i xs)) ≡ in_turn (i + 1) act b (map view (drop (i + 1) xs))
  goes_on b e = first ∙ ap (λ r. then_do r (λ b. in_turn (i + 1) act b (map view (drop (i + 1) xs)))) e

  pub stops : (r : Refused) → act i a (view (get_or xs i d)) ≡ Err r → in_turn i act a (map view (drop i xs)) ≡ Err r
  stops r e = first ∙ ap (λ r. then_do r (λ b. in_turn (i + 1) act b (map view (drop (i + 1) xs)))) e

pub entitled : {A : Type 0} (f : ℕ) (d e : Draft) (t : FunctionText) (r : Result A SessionFault) → in_turn 0 (grant f) d t.grants ≡ Ok e
    → IfErr r (λ x. Tells x (in_turn 0 (allow f) e t.calls)) → IfErr r (λ x. Tells x (entitle f d t))
entitled f d e t r ok h = subst (λ a. IfErr r (λ x. Tells x (then_do a λ c. in_turn 0 (allow f) c t.calls))) (sym ok) h
