-- Worked examples without a question.
use Rattle.std.proofs.Common.{◌≡◌, ℕ, List, [], ◌∷◌, refl}
use Rattle.std.specs.Prelude.{pos, negsuc}
use Rattle.faaslet_meaning.specs.declared.instr.Instr.{Instr}
use Rattle.faaslet_meaning.specs.declared.instr.Instr.TheVariants.{Unreachable, I32Const, Num}
use Rattle.faaslet_meaning.specs.declared.outcome.Trap.TheVariants as trap
use Rattle.faaslet_meaning.specs.declared.outcome.Outcome.TheVariants as outcome
use Rattle.faaslet_meaning.proofs.ExampleRuns.{module_of, function, body, seen, run, seen_runs}
use Rattle.faaslet_meaning.specs.Channels.{told_by}
use Rattle.faaslet_meaning.specs.Fresh.{Function}
use Rattle.faaslet_meaning.specs.Runs.{Runs}

abbrev plain : List Instr → ℕ → Function
plain code fuel = function (module_of [] [] [] (body code)) fuel [] []

constant : run (plain (I32Const (pos 42) ∷ []) 10) [] 10 [] ≡ seen [] (outcome.Done (pos 42)) 1 []
constant = refl

-- so it is a run
constant_runs : Runs (plain (I32Const (pos 42) ∷ []) 10) [] (told_by []) (outcome.Done (pos 42)) [] 1
constant_runs = seen_runs (plain (I32Const (pos 42) ∷ []) 10) [] 10 [] [] (outcome.Done (pos 42)) 1 [] constant

abbrev sum : List Instr
sum = I32Const (pos 40) ∷ I32Const (pos 2) ∷ Num 0x6A ∷ []

sum_unpaid : run (plain sum 2) [] 10 [] ≡ seen [] outcome.FuelOut 2 []
sum_unpaid = refl

sum_paid : run (plain sum 3) [] 10 [] ≡ seen [] (outcome.Done (pos 42)) 3 []
sum_paid = refl

unreachable : run (plain (Unreachable ∷ Num 0x6A ∷ []) 10) [] 10 [] ≡ seen [] (outcome.Trap trap.Unreachable) 1 []
unreachable = refl

abbrev least : ℕ → List Instr
least op = I32Const (negsuc 2147483647) ∷ I32Const (negsuc 0) ∷ Num op ∷ []

least_by_minus_one : run (plain (least 0x6D) 10) [] 10 [] ≡ seen [] (outcome.Trap trap.IntegerOverflow) 3 []
least_by_minus_one = refl

least_rest_minus_one : run (plain (least 0x6F) 10) [] 10 [] ≡ seen [] (outcome.Done (pos 0)) 3 []
least_rest_minus_one = refl
