-- So many bytes, from the lowest on, are a number.
use Rattle.std.proofs.Common.{◌<◌, ◌^◌, ◌*◌, ◌+◌, ap, arith, subst, sym}
use Rattle.faaslet_meaning.proofs.WordBytes.{shifted, joined_small, within_word}
use Rattle.wasm_interp.proofs.words.joined.Goals as goal

pub overflow_add-result : goal.overflow_add-result
overflow_add-result c =
    let a = c.args in
    let e = shifted a.part a.done a.len c.requires.some c.requires.few c.requires.part in
    let s = joined_small a.value a.done a.part a.len c.requires.value c.requires.part in
    let w = within_word (a.done + a.len) c.requires.few in
    omega arith

pub returns : goal.returns
returns c =
    let a = c.args in
    let e = shifted a.part a.done a.len c.requires.some c.requires.few c.requires.part in
    let s = joined_small a.value a.done a.part a.len c.requires.value c.requires.part in
    let v = ap (λ n. a.value + n) e in
    record { value = v; small = subst (λ n. n < 2 ^ (8 * (a.done + a.len))) (sym v) s }
