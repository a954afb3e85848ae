use Rattle.std.proofs.Common.{ℕ, ◌<◌, All, length, sym, ap, ◌∙◌, subst, Err}
use Rattle.std.specs.Prelude.{Result, IsErrAnd}
use Rattle.std.specs.Result.{IsErrOf}
use Rattle.wasm_validate.specs.declared.fault.Fault.TheVariants as faults
use Rattle.faaslet_meaning.specs.IndexSpaces.{functions}
use Rattle.wasm_validate.proofs.module_rules.check_types.Goals as goal

at_fault : {T E : Type 0} (r : Result T E) (P : E → Type 0) (e : E) → IsErrOf r e → IsErrAnd r P → P e
at_fault r P e is p = subst (λ t. IsErrAnd t P) is p

pub returns-in_err-must-2-clause-broken : goal.returns-in_err-must-2-clause-broken
returns-in_err-must-2-clause-broken c =
    let numbers = c.as_slice.ensures.value ∙ c.requires.functions_are in
    λ is holds.
    (let types = subst (λ l. All (λ (t : ℕ). t < length l) (functions c.args.module.now)) (sym c.as_slice-types.ensures) holds.types_exist in
    let below = c.are_below.ensures.1 (subst (All (λ (t : ℕ). t < length c.as_slice-types.result.now)) (sym numbers) types) in
    let told = c.from_residual-in_err-must-2.ensures in
    let fault = at_fault c.from_residual-in_err-must-2.result _ faults.Invalid is told.1 in
    let no_ = c.in_err-must-2.ensures.broken (ap (λ x. Err x) (sym fault)) in
    cc)
