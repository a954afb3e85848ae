-- The tables of host calls are those of the definition.
use Rattle.std.proofs.Common.{◌≡◌, ℕ, List, Option, Some, None, map, refl, sym, ap, ◌∙◌}
use Rattle.std.specs.Prelude.{option_map, slice_get}
use Rattle.std.proofs.lemmas.Option.{slice_get-map, same_Some}
use Rattle.faaslet_meaning.specs.declared.module.FuncType.{FuncType}
use Rattle.faaslet_meaning.specs.HostCalls.{HostRow, host_rows, type_of_row}
use Rattle.function_rules.specs.declared.signature.Signature.{Signature}
use Rattle.function_rules.specs.declared.host_calls.TheConstants.{HOST_TYPES}
use Rattle.function_rules.specs.HostCalls.{IsTypeOf}
use Rattle.function_rules.specs.Signatures.{func_type}

types_are : map func_type HOST_TYPES ≡ map type_of_row host_rows
types_are = refl

pub type_found : (n : ℕ) → option_map func_type (slice_get HOST_TYPES n) ≡ option_map type_of_row (slice_get host_rows n)
type_found n = sym (slice_get-map func_type HOST_TYPES n) ∙ ap (λ l. slice_get l n) types_are ∙ slice_get-map type_of_row host_rows n

pub typed : (types : List FuncType) (n k : ℕ) (t : FuncType) (h : Signature) → slice_get types k ≡ Some t → option_map func_type (Some h) ≡ option_map type_of_row (slice_get host_rows n) → t ≡ func_type h → IsTypeOf types n k
typed types n k t h at is e = by (slice_get host_rows n) refl is
  where
    by : (o : Option HostRow) → slice_get host_rows n ≡ o → option_map func_type (Some h) ≡ option_map type_of_row o → IsTypeOf types n k
    by None f i = absurd (cc)
    by (Some r) f i = record { row = r; row_is = f; type_is = at ∙ ap (λ u. Some u) (e ∙ same_Some _ _ i) }

pub typed_as : (types : List FuncType) (n k : ℕ) (t : FuncType) (h : Signature) → slice_get types k ≡ Some t → option_map func_type (Some h) ≡ option_map type_of_row (slice_get host_rows n) → IsTypeOf types n k → t ≡ func_type h
typed_as types n k t h at is i =
    let row : option_map func_type (Some h) ≡ Some (type_of_row i.row) = is ∙ ap (option_map type_of_row) i.row_is in
    same_Some _ _ (sym at ∙ i.type_is) ∙ sym (same_Some _ _ row)

pub no_row : (types : List FuncType) (n k : ℕ) → option_map func_type None ≡ option_map type_of_row (slice_get host_rows n) → IsTypeOf types n k → ⊥
no_row types n k is i = let row : None ≡ Some (type_of_row i.row) = is ∙ ap (option_map type_of_row) i.row_is in absurd (cc)
