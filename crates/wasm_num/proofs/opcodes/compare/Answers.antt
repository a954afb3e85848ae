use Rattle.std.proofs.Common.{◌∙◌, ap}
use Rattle.faaslet_meaning.specs.Integers.{truth}
use Rattle.wasm_num.proofs.Ranges.{byte_of, compare_lower}
use Rattle.wasm_num.proofs.opcodes.compare.Goals as goal

pub returns-then-op-lt81 : goal.returns-then-op-lt81
returns-then-op-lt81 c = λ f w h. c.from.ensures ∙ byte_of c.compare_32.result ∙ ap truth (c.compare_32.ensures f w h ∙ compare_lower c.args.op c.args.a c.args.b _ _ f w h c.if-op-lt81.true c.lower.ensures c.lower-then-op-lt81.ensures)
