use Rattle.std.proofs.Common.{◌∙◌}
use Rattle.wasm_num.proofs.Ranges.{binary_lower}
use Rattle.wasm_num.proofs.opcodes.binary.Goals as goal

pub returns-then-op-lt124 : goal.returns-then-op-lt124
returns-then-op-lt124 c = λ f w h. c.widened.ensures ∙ c.binary_32.ensures f w h ∙ binary_lower c.args.op c.args.a c.args.b _ _ f w h c.if-op-lt124.true c.lower.ensures c.lower-then-op-lt124.ensures
