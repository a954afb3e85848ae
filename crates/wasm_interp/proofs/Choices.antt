-- A value is taken, and decides what comes next; a branch out of the frame.
use Rattle.std.proofs.Common.{◌≡◌, ℕ, zero, suc, ◌<◌, ◌≤◌, List, [], ◌∷◌, length, refl, ap, arith}
use Rattle.std.specs.Prelude.{◌≢◌}
use Rattle.std.specs.Int.{w32}
use Rattle.faaslet_meaning.specs.declared.instr.Instr.TheVariants.{BrIf, BrTable}
use Rattle.faaslet_meaning.specs.Integers.{low}
use Rattle.faaslet_meaning.specs.Tree.{Tree}
use Rattle.faaslet_meaning.specs.Memory.{Memory}
use Rattle.faaslet_meaning.specs.Configuration.{Label, Program, Configuration, Next, stuck}
use Rattle.faaslet_meaning.specs.ControlRules.{branch, br, leave_frame, choose}
use Rattle.faaslet_meaning.specs.Step.{plain_step, if_step}
use Rattle.wasm_interp.specs.declared.thread.Thread.{Thread}
use Rattle.wasm_interp.specs.Stands.{Stands}
use Rattle.wasm_interp.proofs.Labels.{same_length}

no_label : (d : Configuration) (n : ℕ) (ls : List Label) → length ls ≤ n → branch d n ls ≢ stuck → branch d n ls ≡ leave_frame d
no_label d zero [] le ok = refl
no_label d zero (l ∷ ls) le ok = absurd (omega arith)
no_label d (suc n) [] le ok = absurd (ok refl)
no_label d (suc n) (l ∷ ls) le ok = no_label d n ls (omega arith) ok

-- a branch past all labels leaves the frame
pub out_is : (memory : Memory) (t : Thread) (d : Configuration) (n : ℕ) → Stands memory t d → t.here.depth ≤ n → br d n ≢ stuck → br d n ≡ leave_frame d
out_is memory t d n s le ok =
    let f = s.frames in
    no_label d n d.frame.labels (omega (arith, f.depth, same_length t.here.code.now f.own d.frame.labels f.other f.outer t.here.height f.labels_stand)) ok

pub chosen_second : (x : ℕ) (a b : Next) → low w32 x ≡ 0 → choose x a b ≡ b
chosen_second x a b e = ap (λ n. elim n [ zero ↦ b | suc m ↦ a ]) e

first_of : (n : ℕ) (a b : Next) → (n ≡ 0 → ⊥) → elim n [ zero ↦ b | suc m ↦ a ] ≡ a
first_of zero a b z = absurd (z refl)
first_of (suc n) a b z = refl

pub chosen_first : (x : ℕ) (a b : Next) → (low w32 x ≡ 0 → ⊥) → choose x a b ≡ a
chosen_first x a b z = first_of (low w32 x) a b z

pub br_if_needs : (p : Program) (d : Configuration) (n : ℕ) (vs : List ℕ) → plain_step p d (BrIf n) vs ≢ stuck → 0 < length vs
br_if_needs p d n [] ok = absurd (ok refl)
br_if_needs p d n (x ∷ vs) ok = omega arith

pub br_table_needs : (p : Program) (d : Configuration) (ls : List ℕ) (n : ℕ) (vs : List ℕ) → plain_step p d (BrTable ls n) vs ≢ stuck → 0 < length vs
br_table_needs p d ls n [] ok = absurd (ok refl)
br_table_needs p d ls n (x ∷ vs) ok = omega arith

pub if_needs : (d : Configuration) (n : ℕ) (a b : Tree) (vs : List ℕ) → if_step d n a b vs ≢ stuck → 0 < length vs
if_needs d n a b [] ok = absurd (ok refl)
if_needs d n a b (x ∷ vs) ok = omega arith
