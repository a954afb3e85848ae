-- What the limits of a draft give, and the host of a bench.
use Rattle.std.proofs.Common.{◌≡◌, ℕ, ◌+◌, ◌*◌, ◌/◌, ◌-◌, ◌<◌, ◌≤◌, List, length, sym, ap, ◌∙◌, subst, arith}
use Rattle.std.proofs.Math.Nat.{div-div-eq-div-mul, div-mul-le_self, lt-div-mul-add, mul-le-mul_right, mul_assoc, mul_comm}
use Rattle.std.proofs.lemmas.Nat.{div-mul-add}
use Rattle.std.specs.List.{All}
use Rattle.turn_cell.specs.History.{Each}
use Rattle.turn_cell.proofs.Frames.{reads}
use Rattle.turn_cell.proofs.Places.{get_there}
use Rattle.region_tier.proofs.Ending.{all_at}
use Rattle.session_meaning.specs.Draft.{Draft}
use Rattle.session_meaning.specs.WellFormed.{FunctionFits, KeepsLimits, KeyFits}
use Rattle.session_objects.specs.Shape.{benches, callable_in, callables_in, each, host_of, values}
use Rattle.session_objects.proofs.Rows.{map_each}

pub all_each : {A : Type 0} (P : A → Type 0) (xs : List A) → Each xs (λ k a. P a) → All P xs
all_each P xs e k d low = let t = get_there xs k low in subst P (sym (reads xs k t.0 d t.1)) (e k t.0 t.1)

pub values_fit : (d : Draft) → KeepsLimits d → Each (values d) (λ k v. length v.1 ≤ v.0)
values_fit d l = map_each (λ y. (y.size, y.init)) d.keys (λ k v. length v.1 ≤ v.0) (λ k y e. (all_at KeyFits d.keys k y e l.keys).init)

pub rooms_fit : (d : Draft) → KeepsLimits d → All (λ f. f.room ≤ 65536) (callables_in d)
rooms_fit d l = all_each (λ f. f.room ≤ 65536) (callables_in d) (map_each callable_in d.functions (λ k f. f.room ≤ 65536) (λ k f e. (all_at (FunctionFits d.keys (length d.functions)) d.functions k f e l.functions).room))

pub host_is : (d : Draft) (b h : ℕ) → h * each d ≤ b → b < h * each d + each d → host_of d b ≡ h
host_is d b h low high =
    let is : b ≡ h * each d + (b - h * each d) = omega (arith, low) in
    div-div-eq-div-mul b 8 d.workers ∙ (ap (λ n. n / each d) is ∙ div-mul-add h (each d) (b - h * each d) (omega (arith, low, high)))

pub benches_are : (d : Draft) → d.hosts * each d ≡ benches d
benches_are d = sym (mul_assoc d.hosts 8 d.workers) ∙ ap (λ n. n * d.workers) (mul_comm d.hosts 8)

pub host_back : (d : Draft) (b h : ℕ) → 0 < each d → host_of d b ≡ h → (h * each d ≤ b) × (b < h * each d + each d)
host_back d b h pos is =
    let q : b / each d ≡ h = sym (div-div-eq-div-mul b 8 d.workers) ∙ is in (
      subst (λ n. n * each d ≤ b) q (div-mul-le_self b (each d)),
      subst (λ n. b < n * each d + each d) q (lt-div-mul-add pos),
    )

pub host_low : (d : Draft) (hosts h : ℕ) → h < hosts → hosts ≡ d.hosts → h * each d + each d ≤ benches d
host_low d hosts h low is =
    let next : (h + 1) * each d ≡ h * each d + each d = omega arith in
    let a = mul-le-mul_right (each d) (let l : h + 1 ≤ d.hosts = omega (arith, low, is) in l) in
    let b = benches_are d in omega (arith, next, a, b)
