-- The rest of the run at the top and the cleaned runs are the zeros.
use Rattle.std.proofs.Common.{◌≡◌, ◌∙◌, ◌+◌, ◌-◌, ◌*◌, ◌≤◌, ◌++◌, ℕ, List, ap, sym, subst, arith, length, replicate, reverse, take}
use Rattle.std.specs.Prelude.{vec_capacity}
use Rattle.wasm_interp.specs.ValueCells.{AreValues, cleared}
use Rattle.wasm_interp.proofs.ValueCells.{ZerosPut, zeros_put, part_clean, grown_within, run_end, written_back, length_is}
use Rattle.wasm_interp.proofs.value_stack.Values.put_zeros.Goals as goal

pub clean_runs-requires-clause-clean : goal.clean_runs-requires-clause-clean
clean_runs-requires-clause-clean c =
    let s = c.self.inside in
    let part = c.clear.ensures ∙ ap (λ l. cleared l s.top (c.min.result - s.top)) c.as_mut_slice-cells.ensures.value in
    part_clean s.cells.items c.grow.new.cells.items c.clear.new.cells s.top (c.div_ceil-last.result * 64 - length s.cells.items) (c.min.result - s.top) s.marks c.self.invariant.clean c.grow.ensures.items part

-- what is left in the cells
put : (c : goal.After-self-2-1) → ZerosPut c.self.inside.cells.items c.clean_runs.new.cells c.self.inside.top c.args.count c.clean_runs.new.marks (vec_capacity c.grow.new.cells)
put c =
    let s = c.self.inside in
    let v = c.self.invariant in
    let top = s.top in
    let first = run_end top in
    let last = run_end (top + c.args.count) in
    let few : top + c.args.count ≤ 65536 = omega (arith, c.requires, length_is s.cells.items c.args.self.now top c.self.view_is v.top_in) in
    let part = c.clear.ensures ∙ ap (λ l. cleared l top (c.min.result - top)) c.as_mut_slice-cells.ensures.value in
    let grown = grown_within s.cells.items c.grow.new.cells.items (c.div_ceil-last.result * 64) 65536 c.grow.ensures.items v.few (omega (arith, few, last.1, c.div_ceil-last.ensures)) in
    zeros_put s.cells.items c.grow.new.cells.items c.clear.new.cells c.clean_runs.new.cells top c.args.count c.div_ceil-first.result c.div_ceil-last.result (c.div_ceil-last.result * 64 - length s.cells.items) (c.min.result - top) s.marks c.clean_runs.new.marks (vec_capacity s.cells) (vec_capacity c.grow.new.cells)
    v few c.grow.ensures.capacity (omega (arith, first.0, c.div_ceil-first.ensures)) (omega (arith, first.0, first.1, last.0, c.div_ceil-first.ensures, c.div_ceil-last.ensures)) (omega (arith, last.0, c.div_ceil-last.ensures)) (omega (arith, last.1, c.div_ceil-last.ensures))
    c.grow.ensures.items grown.0 grown.1 part (λ k low high before. omega (arith, low, high, before, c.min.ensures)) (λ _. c.clean_runs.ensures.cleaned)

pub invariant_of-self : goal.invariant_of-self
invariant_of-self c =
    let z = put c in
    let long : c.grow.new.cells.len ≡ length c.clean_runs.new.cells = omega (arith, c.grow.new.cells.ok.0, ap length c.as_mut_slice-cells.ensures.value, c.clear.auto.cells, c.clean_runs.auto.cells) in
    subst (λ l. AreValues l (c.self.inside.top + c.args.count) c.clean_runs.new.marks (vec_capacity c.grow.new.cells)) (sym (written_back c.clean_runs.new.cells c.grow.new.cells.items c.grow.new.cells.len long)) z.keeps

pub returns : goal.returns
returns c =
    let z = put c in
    let long : c.grow.new.cells.len ≡ length c.clean_runs.new.cells = omega (arith, c.grow.new.cells.ok.0, ap length c.as_mut_slice-cells.ensures.value, c.clear.auto.cells, c.clean_runs.auto.cells) in
    ap (λ (l : List ℕ). reverse (take (c.self.inside.top + c.args.count) l)) (written_back c.clean_runs.new.cells c.grow.new.cells.items c.grow.new.cells.len long) ∙ z.is ∙ ap (λ (l : List ℕ). replicate c.args.count 0 ++ l) c.self.view_is
