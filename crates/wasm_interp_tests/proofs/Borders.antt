-- The machine of the test of a store over a border may begin.
use Rattle.std.proofs.Common.{◌≡◌, ℕ, zero, suc, ◌≤◌, ◌/◌, ◌%◌, ◌^◌, List, [], ◌∷◌, refl, sym, ap, subst, arith}
use Rattle.std.specs.Prelude.{nat_eq}
use Rattle.std.proofs.Math.Nat.{div-eq_of_lt, pow-suc}
use Rattle.std.proofs.lemmas.Nat.{pow_pos}
use Rattle.faaslet_meaning.specs.declared.grant.Grant.{Grant}
use Rattle.faaslet_meaning.specs.declared.grant.Mode.TheVariants.{Write}
use Rattle.wasm_interp.specs.StandsFor.{Agrees}
use Rattle.wasm_interp.specs.declared.machine.Machine.{Machine}

-- where place 0 alone may be written, there is one grant for it
abbrev pub grant : Grant
grant = record { key = 0; size = 65536; mode = Write }

pub agrees_one : Agrees 1 (grant ∷ [])
agrees_one zero few = refl
agrees_one (suc k) few =
    let big : 1 / 2 ^ suc k ≡ 0 = div-eq_of_lt (omega (arith, pow_pos k, pow-suc 2 k)) in
    sym (ap (λ n. nat_eq (n % 2) 1) big)

-- a machine that was told what may be written
module _ {M : Type 0} (m n : Machine M) (w : ℕ) (only : n ≡ record m { writable = w }) where
  pub roomy : m.thread.table.room ≡ 2 → 2 ≤ n.thread.table.room
  roomy h = omega (arith, h, ap (λ (x : Machine M). x.thread.table.room) only)

  pub agrees_now : (grants : List Grant) → Agrees w grants → Agrees n.writable grants
  agrees_now grants h = subst (λ v. Agrees v grants) (sym (ap (λ (x : Machine M). x.writable) only)) h
