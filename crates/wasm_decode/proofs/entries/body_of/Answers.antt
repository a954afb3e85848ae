use Rattle.wasm_decode.proofs.Bodies.{gives_body}
use Rattle.wasm_decode.proofs.entries.body_of.Goals as goal

pub returns : goal.returns
returns c = gives_body c.read_body.result _ c.read_body.ensures.found c.read_body.ensures.malformed
