use Rattle.std.proofs.Common.{◌∙◌, ap, sym}
use Rattle.wasm_validate.specs.Frames.{dead}
use Rattle.wasm_validate.proofs.Opens.{dead_none, height_fits}
use Rattle.wasm_validate.proofs.blocks.Blocks.die.Goals as goal

pub cut-requires : goal.cut-requires
cut-requires c = (height_fits c.self.inside.controls c.in-Some.control _ (sym c.in-Some.ensures) c.self.invariant).0

pub returns-in_default : goal.returns-in_default
returns-in_default c = sym (ap dead (sym c.self.view_is) ∙ dead_none c.self.inside.controls c.self.inside.operands (sym c.in_default.ensures) ∙ c.self.view_is)
