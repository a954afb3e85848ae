-- The parts put one after the other are the bytes.
use Rattle.std.proofs.Common.{◌≡◌, ℕ, ◌+◌, ◌-◌, ◌*◌, ◌/◌, ◌%◌, ◌<◌, ◌≤◌, ◌⊎◌, length, take, drop, arith, inl, inr, ◌∙◌}
use Rattle.std.proofs.lemmas.List.{length-take-le, length-drop}
use Rattle.private_pages.proofs.Loops.{written_more, touched_more, take_part, border_more}
use Rattle.private_pages.proofs.pages.PrivatePages.write.Goals as goal

started : (d size rest : ℕ) → d < size → (d ≡ size) ⊎ ((d ≡ 0) ⊎ (rest ≡ 0)) → (d ≡ 0) ⊎ (rest ≡ 0)
started d size rest h (inl e) = absurd (omega arith)
started d size rest h (inr w) = w

pub loop-done-preserved : goal.loop-done-preserved
loop-done-preserved c =
    let d = c.loop-done.done in
    let n = c.min-len.result in
    let bs = c.args.bytes.now in
    let size = length bs in
    let more : d < size = omega arith in
    let fits : d + n ≤ size = omega (arith, c.min-len.ensures) in
    let some : 0 < n = omega (arith, c.min-len.ensures) in
    let small : n ≤ 65536 - (c.args.at + d) % 65536 = omega (arith, c.min-len.ensures) in
    let j : d + n - d ≡ n = omega arith in
    let k : length (take (d + n - d) (drop d bs)) ≡ n = length-take-le (d + n - d) (drop d bs) (omega (arith, length-drop d bs)) ∙ j in
    let q : (c.args.at + d) / 65536 * 65536 + (c.args.at + d) % 65536 ≡ c.args.at + d = omega arith in
    let inside : c.args.at + d + length (take (d + n - d) (drop d bs)) ≤ length c.args.self.now.content.bytes = omega (arith, c.requires) in
    record {
      within = fits;
      written = written_more c.args.self.now c.loop-done.self c.write_part.new.self c.args.at d _ _ _ (take d bs) _ (take (d + n) bs) c.loop-done.invariant.written c.write_part.ensures.written q (length-take-le d bs (omega arith)) inside (take_part bs d n (d + n - d) j) (touched_more c.args.at d n some small (started d size ((c.args.at + d) % 65536) more c.loop-done.invariant.border));
      sound = c.write_part.ensures.sound;
      border = border_more c.args.at d n size c.min-len.ensures more;
    }
