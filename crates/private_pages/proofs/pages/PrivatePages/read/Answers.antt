-- The parts read one after the other are the range.
use Rattle.std.proofs.Common.{◌≡◌, ◌+◌, ◌-◌, ◌*◌, ◌/◌, ◌%◌, ◌≤◌, length, take, drop, arith, ◌∙◌}
use Rattle.std.proofs.lemmas.List.{length-take-le, length-drop}
use Rattle.private_pages.proofs.Loops.{put_long, read_more}
use Rattle.private_pages.proofs.pages.PrivatePages.read.Goals as goal

pub overflow_add-place : goal.overflow_add-place
overflow_add-place c = let s = c.pages-pages.ensures.sound in omega (arith, c.requires, s.content.whole, s.content.few, c.loop-done.invariant.within, c.loop-done.invariant.long)

pub overflow_add-from : goal.overflow_add-from
overflow_add-from c = let s = c.pages-pages.ensures.sound in omega (arith, c.requires, s.content.whole, s.content.few, c.loop-done.invariant.within, c.loop-done.invariant.long)

pub read_part-requires-clause-inside : goal.read_part-requires-clause-inside
read_part-requires-clause-inside c = let s = c.pages-pages.ensures.sound in omega (arith, c.requires, s.content.whole, c.loop-done.invariant.within, c.loop-done.invariant.long)

pub loop-done-preserved : goal.loop-done-preserved
loop-done-preserved c =
    let d = c.loop-done.done in
    let n = c.min-len.result in
    let fits : d + n ≤ length c.loop-done.buf = omega (arith, c.min-len.ensures, c.loop-done.invariant.within) in
    let j : d + n - d ≡ n = omega arith in
    let k : length (take (d + n - d) (drop d c.loop-done.buf)) ≡ n = length-take-le (d + n - d) (drop d c.loop-done.buf) (omega (arith, length-drop d c.loop-done.buf)) ∙ j in
    let q : (c.args.at + d) / 65536 * 65536 + (c.args.at + d) % 65536 ≡ c.args.at + d = omega arith in
    let l : length c.read_part.new.buf ≡ n = c.read_part.auto.buf ∙ k in
    let long = put_long c.loop-done.buf c.read_part.new.buf d (d + n - d) (omega arith) (omega arith) in
    record {
      within = omega arith;
      read = read_more c.args.self.now.content.bytes c.loop-done.buf c.read_part.new.buf c.args.at d n (d + n - d) _ _ c.loop-done.invariant.read c.read_part.ensures q k l fits;
      long = long ∙ c.loop-done.invariant.long;
    }
