-- The bytes of a number are written from the lowest on.
use Rattle.std.proofs.Common.{length, take, ap, ◌∙◌}
use Rattle.faaslet_meaning.proofs.WordBytes.{front, eight_of}
use Rattle.wasm_interp.proofs.words.put_number.Goals as goal

pub returns : goal.returns
returns c = c.copy_from_slice.ensures.after ∙ ap (take (length c.args.places.now)) (c.to_le_bytes-word.ensures ∙ eight_of c.args.value) ∙ front (length c.args.places.now) 8 c.args.value c.requires
