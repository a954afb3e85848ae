-- Words of the contracts of readers. This project's own.
use Rattle.std.specs.Prelude.{◌≡◌, ℕ, ℤ, pos, ◌+ℤ◌, ◌≤ℤ◌, ◌<ℤ◌, Result, Ok, Err, ◌-◌, ◌^◌, Option, Some, None}
use Rattle.wasm_code.specs.declared.fault.BodyFault.{BodyFault}
use Rattle.wasm_code.specs.declared.fault.BodyFault.TheVariants.{Malformed, Want}

-- what a reader answered, seen by view, is what reading gives
abbrev pub Gives : {X Y E : Type 0} → (X → Y) → Result X E → Option Y → Type 0
Gives view (Ok x) read = read ≡ Some (view x)
Gives view (Err e) read = read ≡ None

-- a fault says that reading gives nothing, but for want of memory, which says nothing
abbrev pub Fails : {Y : Type 0} → BodyFault → Option Y → Type 0
Fails Malformed read = read ≡ None
Fails Want read = Unit {0}

-- the same as `Gives`, of a reader that takes memory
abbrev pub GivesOrWants : {X Y : Type 0} → (X → Y) → Result X BodyFault → Option Y → Type 0
GivesOrWants view (Ok x) read = read ≡ Some (view x)
GivesOrWants view (Err e) read = Fails e read

-- what so many bits hold, signed
abbrev pub IsWithin : ℕ → ℤ → Type 0
IsWithin bits z = (pos 0 ≤ℤ (z +ℤ pos (2 ^ (bits - 1)))) × (z <ℤ pos (2 ^ (bits - 1)))
