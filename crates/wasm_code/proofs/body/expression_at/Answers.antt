use Rattle.wasm_code.proofs.Loop.{gives_expression}
use Rattle.wasm_code.proofs.body.expression_at.Goals as goal

pub returns : goal.returns
returns c = gives_expression c.flats.result _ c.flats.ensures.found c.flats.ensures.malformed
