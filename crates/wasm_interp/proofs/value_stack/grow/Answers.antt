-- One zero more is one more of those that were promised.
use Rattle.std.proofs.Common.{◌≡◌, ◌∙◌, ◌+◌, ◌-◌, ◌++◌, [], ◌∷◌, suc, ap, arith, replicate}
use Rattle.wasm_interp.proofs.ValueCells.{zeros_more}
use Rattle.wasm_interp.proofs.value_stack.grow.Goals as goal

pub loop-k-preserved : goal.loop-k-preserved
loop-k-preserved c =
    let i = c.loop-k.invariant in
    let xs = c.args.cells.now.items in
    let done = c.loop-k._k - c.len-held.result in
    let more : suc done ≡ c.loop-k._k + 1 - c.len-held.result = omega (arith, i.low) in
    record {
      low = omega (arith, i.low);
      near = omega (arith, i.low, c.loop-k-test.true);
      cells = c.in-Ok.ensures.items ∙ ap (λ l. l ++ 0 ∷ []) i.cells ∙ zeros_more xs done ∙ ap (λ n. xs ++ replicate n 0) more;
      room = omega (arith, i.room, c.in-Ok.ensures.capacity);
    }
