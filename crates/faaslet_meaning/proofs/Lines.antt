-- Worked examples of printed lines.
use Rattle.std.proofs.Common.{◌≡◌, pos, negsuc, [], ◌∷◌, ◌++◌, codes, refl}
use Rattle.std.specs.Fmt.{digits}
use Rattle.faaslet_meaning.specs.declared.outcome.Outcome.TheVariants as outcome
use Rattle.faaslet_meaning.specs.declared.outcome.Trap.TheVariants as trap
use Rattle.faaslet_meaning.specs.declared.outcome.Broken.TheVariants as broken
use Rattle.faaslet_meaning.specs.Decoding as decoding
use Rattle.faaslet_meaning.specs.Report.{call_line, invalid_function, limit}

prints_42 : call_line (outcome.Done (pos 42)) [] 1 ≡ codes "call done 42 used 1 output " ++ 10 ∷ []
unfolding digits
prints_42 = refl

-- a result below 0, with output
prints_output : call_line (outcome.Done (negsuc 6)) (0x0A ∷ 0xFF ∷ []) 12 ≡ codes "call done -7 used 12 output 0aff" ++ 10 ∷ []
unfolding digits
prints_output = refl

prints_trap : call_line (outcome.Trap trap.StackExhausted) [] 1024 ≡ codes "call trap stack exhausted used 1024" ++ 10 ∷ []
unfolding digits
prints_trap = refl

prints_fuel : call_line outcome.FuelOut [] 2 ≡ codes "call fuel" ++ 10 ∷ []
prints_fuel = refl

prints_broken : call_line (outcome.Broken (broken.Trap trap.DivideByZero)) [] 0 ≡ codes "call broken trap integer divide by zero" ++ 10 ∷ []
prints_broken = refl

prints_limit : limit decoding.table ≡ codes "limit table" ++ 10 ∷ []
prints_limit = refl

prints_function : invalid_function 1027 ≡ codes "invalid function 1027" ++ 10 ∷ []
unfolding digits
prints_function = refl
