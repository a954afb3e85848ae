-- Passes that were fresh are back, and those of one bench were used.
use Rattle.std.proofs.Common.{◌≡◌, ◌≢◌, ℕ, ◌+◌, ◌*◌, ◌<◌, ◌≤◌, List, length, set, Some, refl, sym, ap, ◌∙◌, subst, arith, length-set}
use Rattle.std.proofs.Math.Nat.{mul-le-mul_right}
use mathlib.Core.Option.{some, some-injective}
use mathlib.Core.Logic.{dite}
use native.Mathlib.Decide.{ℕ_discrete}
use lib.ListN.{get_elem?}
use Rattle.turn_cell.specs.History.{Each}
use Rattle.turn_cell.proofs.Frames.{there}
use Rattle.region_tier.proofs.Dealing.{at_put, at_other}
use Rattle.region_tier.specs.declared.cells.Passes.{Passes}
use Rattle.region_tier.specs.declared.cells.Tier.{Tier}
use Rattle.region_tier.specs.Tiers.{IsRow, cells_of, slots_of}
use Rattle.turn_cell.specs.Cell.{IsPassOf, pass_number}
use Rattle.session_meaning.specs.Draft.{Draft}
use Rattle.session_meaning.specs.WellFormed.{KeepsLimits}
use Rattle.session_objects.specs.Shape.{benches}
use Rattle.session_objects.specs.declared.columns.BenchPasses.{BenchPasses}
use Rattle.session_objects.specs.declared.objects.Objects.{Objects}
use Rattle.session_objects.specs.declared.objects.SessionPasses.{SessionPasses}
use Rattle.session_objects.specs.Parts.{AreBack, AreFresh, IsBench, IsFresh}
use Rattle.session_objects.specs.Rests.{FreshFor}

pub row_of : (tier : Tier) (i : ℕ) (row : Passes) → FreshFor tier i row → IsRow (cells_of tier) (slots_of row) i
row_of tier i row f = (f.0, λ k t z. let o = f.1 k t z in (o.0, o.1, o.2, o.3))

bench_of : (d : Draft) (o : Objects) (b : ℕ) (p : BenchPasses) → IsFresh d o b p → IsBench d o b p
bench_of d o b p f = record { tier = f.tier; at_host = f.at_host; local = row_of f.tier b p.local f.local; global = row_of o.globals b p.global f.global; table = (f.table.0, f.table.1) }

pub used_one : (d : Draft) (o : Objects) (p : SessionPasses) (q : BenchPasses) (row : Passes) → AreFresh d o p → get_elem? p.benches.items 0 ≡ some q → IsRow (cells_of o.globals) (slots_of row) 0
    → Each (set p.benches.items 0 (record q { global = row })) (IsBench d o)
used_one d o p q row f at new b x e = dite (ℕ_discrete b 0)
    (λ here. let one : record q { global = row } ≡ x = some-injective (record q { global = row }) x (sym (at_put p.benches.items 0 (record q { global = row }) (there p.benches.items 0 q at)) ∙ (ap (get_elem? (set p.benches.items 0 (record q { global = row }))) (sym here) ∙ e)) in
    let old = bench_of d o 0 q (f.benches_so 0 q at) in
    subst (λ n. IsBench d o n x) (sym here) (subst (λ (z : BenchPasses). IsBench d o 0 z) one (record { tier = old.tier; at_host = old.at_host; local = old.local; global = new; table = old.table })))
    (λ other. bench_of d o b x (f.benches_so b x (sym (at_other p.benches.items 0 b (record q { global = row }) other) ∙ e)))

pub workers_back : (d : Draft) (o : Objects) (p : SessionPasses) → AreFresh d o p → Each p.workers.items (λ w x. (pass_number x ≡ benches d + w) × IsPassOf x o.table)
workers_back d o p f w x e = let r = f.workers_so w x e in (r.0, r.1)

pub some_bench : (d : Draft) (o : Objects) (p : SessionPasses) → KeepsLimits d → AreFresh d o p → 0 < length p.benches.items
some_bench d o p l f =
    let h = l.hosts.0 in
    let w = mul-le-mul_right d.workers (let z : 1 ≤ 8 * d.hosts = omega (arith, h) in z) in
    let v = l.workers.0 in
    let n = f.bench_count in omega (arith, w, v, n)
