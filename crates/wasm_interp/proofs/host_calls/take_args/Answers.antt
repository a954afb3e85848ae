-- The arguments stand in order, and the values below them are left.
use Rattle.std.proofs.Common.{◌∙◌, ◌-◌, ap, sym, arith, length}
use Rattle.std.proofs.lemmas.List.{length-set}
use Rattle.wasm_interp.proofs.Arguments.{taken_more, dropped_more}
use Rattle.wasm_interp.proofs.host_calls.take_args.Goals as goal

pub pops-preserved : goal.pops-preserved
pops-preserved c =
    let i = c.pops.invariant in
    record {
      near = omega arith;
      four = length-set c.pops.args (c.pops.left - 1) _ ∙ i.four;
      values = sym (dropped_more c.args.values.now c.pop.new.self c.pop.result (c.args.params - c.pops.left) (c.args.params - (c.pops.left - 1)) (omega (arith, i.near)) (sym i.values ∙ c.pop.ensures));
      there = omega (arith, ap length c.pop.ensures, i.there);
      taken = taken_more c.pops.values c.pop.new.self c.pops.args c.pop.result c.pops.left c.args.params _ c.pop.ensures c.pops-test.true i.near (omega (arith, i.near, i.four)) i.taken;
    }
