-- One value is kept by writing it over the lowest that goes.
use Rattle.std.proofs.Common.{◌∙◌, ◌∷◌, ap, ◌-◌, length, drop, arith}
use Rattle.wasm_interp.proofs.Lists.{unwound}
use Rattle.wasm_interp.proofs.value_stack.Values.unwind.Goals as goal

pub returns-else-keep-eq0 : goal.returns-else-keep-eq0
returns-else-keep-eq0 c =
    let xs = c.args.self.now in
    c.replace.ensures ∙ ap (λ l. c.get-x.result ∷ drop 1 l) c.cut-else-keep-eq0.ensures
    ∙ ap (λ n. c.get-x.result ∷ drop 1 (drop (n - c.args.height - 1) xs)) c.len.ensures
    ∙ unwound xs c.get-x.result c.args.keep (length xs - c.args.height) c.get-x.ensures (omega arith) (omega arith)
