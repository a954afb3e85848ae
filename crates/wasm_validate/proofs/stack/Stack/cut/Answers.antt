use Rattle.std.proofs.Common.{◌∙◌, ap, ◌-◌, length, drop, arith}
use Rattle.std.specs.Prelude.{reverse}
use Rattle.std.proofs.lemmas.List.{length-reverse}
use Rattle.wasm_validate.proofs.Piles.{reverse_take}
use Rattle.wasm_validate.proofs.stack.Stack.cut.Goals as goal

pub returns : goal.returns
returns g c =
    let xs = c.self.inside.items.items in
    ap reverse c.truncate.ensures.items
    ∙ reverse_take xs c.args.height (length xs - c.args.height) (omega arith) (omega (arith, ap length c.self.view_is, length-reverse xs, c.requires))
    ∙ ap (λ l. drop (length xs - c.args.height) l) c.self.view_is
    ∙ ap (λ n. drop (n - c.args.height) c.args.self.now) (omega (arith, ap length c.self.view_is, length-reverse xs))
