use Rattle.std.proofs.Common.{◌∙◌, ap}
use Rattle.wasm_validate.specs.Frames.{ends_of}
use Rattle.wasm_validate.proofs.Opens.{ends_shown, ends_none}
use Rattle.wasm_validate.proofs.blocks.Blocks.ends.Goals as goal

pub returns-in-Some : goal.returns-in-Some
returns-in-Some c = ends_shown c.self.inside.controls c.self.inside.operands c.in-Some.control c.in-Some.ensures ∙ ap ends_of c.self.view_is

pub returns-in-None : goal.returns-in-None
returns-in-None c = ends_none c.self.inside.controls c.self.inside.operands c.in-None.ensures ∙ ap ends_of c.self.view_is
