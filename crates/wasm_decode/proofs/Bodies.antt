-- What reading a body answered, as the reading function gives it.
use Rattle.std.proofs.Common.{◌≡◌, ℕ, List, [], Option, Some, None, Result, Ok, Err, refl, sym, subst, ◌∙◌}
use Rattle.std.proofs.lemmas.List.{append-nil}
use Rattle.std.specs.Prelude.{IfOk}
use Rattle.std.specs.Result.{IsErrOf}
use Rattle.faaslet_meaning.specs.declared.module.Body.{Body}
use Rattle.faaslet_meaning.specs.Productions.{NoSpelling}
use Rattle.faaslet_meaning.specs.Grammar.{IsBody}
use Rattle.faaslet_meaning.specs.ModuleReading.{whole, entry_at}
use Rattle.faaslet_meaning.proofs.BodyReaders.{entry_reads, all_again, whole_some}
use Rattle.wasm_code.specs.declared.fault.BodyFault.{BodyFault}
use Rattle.wasm_code.specs.declared.fault.BodyFault.TheVariants as faults
use Rattle.wasm_code.specs.Reading.{GivesOrWants}

pub gives_body : (r : Result Body BodyFault) (bytes : List ℕ) → IfOk r (λ b. IsBody b bytes) → (IsErrOf r faults.Malformed → NoSpelling IsBody bytes) → GivesOrWants (λ x. x) r (whole (entry_at bytes))
gives_body (Ok b) bytes found none = rw (all_again IsBody entry_at entry_reads b bytes found) refl
gives_body (Err faults.Want) bytes found none = tt
gives_body (Err faults.Malformed) bytes found none = go (whole (entry_at bytes)) refl
  where
    go : (o : Option Body) → whole (entry_at bytes) ≡ o → o ≡ None
    go None e = refl
    go (Some b) e = let f = entry_reads.takes bytes b [] (whole_some (entry_at bytes) b e) in absurd ((none refl).none b (subst (IsBody b) (sym (f.parts ∙ append-nil f.text)) f.spells))
