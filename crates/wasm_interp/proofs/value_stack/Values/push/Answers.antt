-- A pushed value is marked, and is the topmost.
use Rattle.std.proofs.Common.{◌∙◌, ◌<◌, ◌∷◌, ap, arith}
use Rattle.std.specs.Prelude.{vec_capacity}
use Rattle.wasm_interp.proofs.ValueCells.{push_keeps, push_is, length_is}
use Rattle.wasm_interp.proofs.value_stack.Values.push.Goals as goal

pub invariant_of-self : goal.invariant_of-self
invariant_of-self c =
    let s = c.self.inside in
    let v = c.self.invariant in
    let lt : s.top < 65536 = omega (arith, c.requires, length_is s.cells.items c.args.self.now s.top c.self.view_is v.top_in) in
    push_keeps s.cells.items c.put.new.cells.items s.top s.marks (vec_capacity s.cells) (vec_capacity c.put.new.cells) c.args.x v lt c.put.ensures.items c.put.ensures.capacity

pub returns : goal.returns
returns c =
    let s = c.self.inside in
    push_is s.cells.items c.put.new.cells.items s.top c.args.x c.self.invariant.top_in c.put.ensures.items ∙ ap (λ l. c.args.x ∷ l) c.self.view_is
