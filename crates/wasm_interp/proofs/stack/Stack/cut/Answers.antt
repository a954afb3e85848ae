-- Dropping so many of the topmost.
use Rattle.std.proofs.Common.{◌∙◌, ap, ◌-◌, length, drop, arith}
use Rattle.std.specs.Prelude.{reverse}
use Rattle.std.proofs.lemmas.List.{length-reverse}
use Rattle.wasm_interp.proofs.Lists.{reverse_take}
use Rattle.wasm_interp.proofs.stack.Stack.cut.Goals as goal

pub returns : goal.returns
returns g c =
    let xs = c.self.inside.items.items in
    let n = c.args.count in
    ap reverse c.truncate.ensures.items
    ∙ reverse_take xs (c.len.result - n) n (omega (arith, ap length c.self.view_is, length-reverse xs, c.self.inside.items.ok.0, c.requires)) (omega (arith, c.self.inside.items.ok.0))
    ∙ ap (drop n) c.self.view_is
