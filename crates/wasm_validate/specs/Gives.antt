-- What a function that may fail returns and leaves, by what a function on lists gives.
use Rattle.std.specs.Prelude.{◌≡◌, Option, Some, None, Result, Ok, Err}
use Rattle.wasm_validate.specs.declared.fault.Fault.{Fault}
use Rattle.wasm_validate.specs.declared.fault.Fault.TheVariants.{Invalid, Want}

abbrev pub Fails : {Y : Type 0} → Fault → Option Y → Type 0
Fails Want read = Unit {0}
Fails Invalid read = read ≡ None

-- an answer alone
abbrev pub Finds : {X : Type 0} → Result X Fault → Option X → Type 0
Finds (Ok x) found = found ≡ Some x
Finds (Err e) found = Fails e found

-- an answer, and the state that is left
abbrev pub Gives : {X S : Type 0} → Result X Fault → S → Option (X × S) → Type 0
Gives (Ok x) new made = made ≡ Some (x, new)
Gives (Err e) new made = Fails e made

-- the state that is left
abbrev pub Leaves : {X S : Type 0} → Result X Fault → S → Option S → Type 0
Leaves (Ok x) new made = made ≡ Some new
Leaves (Err e) new made = Fails e made
