-- The number that eight bytes spell.
use Rattle.std.proofs.Common.{◌≡◌, ◌<◌, ◌^◌, ◌*◌, length, ◌++◌, ◌∙◌, drop, replicate, subst, sym, ℕ, arith, get_or}
use Rattle.std.specs.Int.{w64, from_le_bytes}
use Rattle.faaslet_meaning.specs.LoadStore.{number}
use Rattle.faaslet_meaning.proofs.WordBytes.{in_front, small_of}
use Rattle.wasm_interp.proofs.words.number_of.Goals as goal

pub returns : goal.returns
returns c =
    let bs = c.args.bytes.now in
    let b : c.from_le_bytes.result ≡ from_le_bytes w64 (c.copy_from_slice.new.self ++ drop (length bs) (replicate 8 0)) = c.from_le_bytes.ensures in
    let v : c.from_le_bytes.result ≡ number bs = b ∙ rw (c.copy_from_slice.ensures.after) (in_front bs c.requires) in
    let bytes : (k : ℕ) → get_or bs k 0 < 256 = λ k. let f = c.type_inv.bytes k in omega arith in
    record { value = v; small = subst (λ n. n < 2 ^ (8 * length bs)) (sym v) (small_of bs bytes) }
