-- The grants that are made of what may be written agree with it.
use Rattle.std.proofs.Common.{◌≡◌, ℕ, zero, suc, ◌+◌, ◌<◌, Bool, true, false, Some, refl, ap, ◌∙◌, arith}
use Rattle.std.specs.Prelude.{slice_get, if◌then◌else◌}
use Rattle.faaslet_meaning.specs.declared.grant.Mode.TheVariants.{Read, Write}
use Rattle.faaslet_meaning.specs.Memory.{grant_limit}
use Rattle.faaslet_meaning.specs.MemoryRules.{granted}
use Rattle.wasm_interp.specs.Grants.{grants_from, grants_of}
use Rattle.wasm_interp.specs.StandsFor.{bit, Agrees}

grant_so : (k : ℕ) (b : Bool) → granted Write (Some (record { key = k; size = 1; mode = if b then Write else Read })) ≡ b
grant_so k true = refl
grant_so k false = refl

agree_from : (writable k n j : ℕ) → j < n → granted Write (slice_get (grants_from writable k n) j) ≡ bit writable (k + j)
agree_from writable k zero j h = absurd (omega arith)
agree_from writable k (suc n) zero h = grant_so k (bit writable k) ∙ ap (bit writable) (omega arith)
agree_from writable k (suc n) (suc j) h = agree_from writable (suc k) n j (omega arith) ∙ ap (bit writable) (omega arith)

pub grants_agree : (writable : ℕ) → Agrees writable (grants_of writable)
grants_agree writable j h = agree_from writable 0 grant_limit j h ∙ ap (bit writable) (omega arith)
