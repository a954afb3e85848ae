-- What the code's tables of host calls say, in the words of the definition. This project's own.
use Rattle.std.specs.Prelude.{◌≡◌, ℕ, List, Some, slice_get}
use Rattle.faaslet_meaning.specs.declared.module.FuncType.{FuncType}
use Rattle.faaslet_meaning.specs.HostCalls.{HostRow, host_rows, number_of, type_of_row}

-- the type of this number is that of the host call with a number
pub record IsTypeOf (types : List FuncType) (number t : ℕ) : Type 0 where
  pub row : HostRow
  pub row_is : slice_get host_rows number ≡ Some row
  pub type_is : slice_get types t ≡ Some (type_of_row row)

-- the type of this number is that of the host call of a name
pub record IsTypedCall (types : List FuncType) (name : List ℕ) (t : ℕ) : Type 0 where
  pub number : ℕ
  pub named : number_of name ≡ Some number
  pub typed : IsTypeOf types number t
