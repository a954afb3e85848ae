-- Zeros behind bytes leave their number.
use Rattle.std.proofs.Common.{◌≡◌, length, ◌++◌, ◌∙◌, drop, replicate}
use Rattle.std.specs.Int.{w64, from_le_bytes}
use Rattle.faaslet_meaning.proofs.WordBytes.{in_front}
use Rattle.private_pages.proofs.words.padded.Goals as goal

pub returns : goal.returns
returns c =
    let bs = c.args.bytes.now in
    let b : c.from_le_bytes.result ≡ from_le_bytes w64 (c.copy_from_slice.new.self ++ drop (length bs) (replicate 8 0)) = c.from_le_bytes.ensures in
    b ∙ rw (c.copy_from_slice.ensures.after) (in_front bs c.requires)
