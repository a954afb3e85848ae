-- The table of lengths names the argument that a host call's own row names.
use Rattle.std.proofs.Common.{◌∙◌, ap, sym}
use Rattle.std.specs.Prelude.{slice_get, option_and_then}
use Rattle.wasm_interp.proofs.BufferLengths.{length_told}
use Rattle.wasm_interp.proofs.host_calls.buffer_length.Goals as goal

pub returns-in-Some : goal.returns-in-Some
returns-in-Some c row h found e =
    let told = length_told c.args.call row h c.args.args.now c.length_place.result c.length_place.ensures found e in
    c.arg_at.ensures ∙ sym (told ∙ ap (option_and_then (slice_get c.args.args.now)) c.in-Some.is)

pub returns-in-None : goal.returns-in-None
returns-in-None c row h found e =
    let told = length_told c.args.call row h c.args.args.now c.length_place.result c.length_place.ensures found e in
    sym (told ∙ ap (option_and_then (slice_get c.args.args.now)) c.in-None.is)
