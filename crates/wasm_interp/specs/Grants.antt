-- Grants that agree with what may be written. This project's own.
use Rattle.std.specs.Prelude.{ℕ, zero, suc, if◌then◌else◌, List, [], ◌∷◌}
use Rattle.faaslet_meaning.specs.declared.grant.Grant.{Grant}
use Rattle.faaslet_meaning.specs.declared.grant.Mode.TheVariants.{Read, Write}
use Rattle.faaslet_meaning.specs.Memory.{grant_limit}
use Rattle.wasm_interp.specs.StandsFor.{bit}

abbrev pub grant_at : ℕ → ℕ → Grant
grant_at writable k = record { key = k; size = 1; mode = if bit writable k then Write else Read }

abbrev pub grants_from : ℕ → ℕ → ℕ → List Grant
grants_from writable k zero = []
grants_from writable k (suc n) = grant_at writable k ∷ grants_from writable (suc k) n

-- one for each bit; their keys and sizes count for nothing
abbrev pub grants_of : ℕ → List Grant
grants_of writable = grants_from writable 0 grant_limit
