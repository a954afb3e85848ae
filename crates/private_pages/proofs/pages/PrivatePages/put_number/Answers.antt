-- The lowest bytes of the number are put, in one page or in two.
use Rattle.std.proofs.Common.{◌≡◌, ℕ, List, ◌+◌, ◌*◌, ◌/◌, ◌%◌, length, take, ap, arith, subst, sym, ◌∙◌}
use Rattle.faaslet_meaning.specs.LoadStore.{bytes_of}
use Rattle.private_pages.specs.Pages.{IsWritten, pages_touched}
use Rattle.faaslet_meaning.proofs.WordBytes.{front, eight_of, bytes_many}
use Rattle.private_pages.proofs.Loops.{touched_one}
use Rattle.private_pages.proofs.pages.PrivatePages.put_number.Goals as goal

pub returns-then-size-gt0-clause-written : goal.returns-then-size-gt0-clause-written
returns-then-size-gt0-clause-written c =
    let b = ap (take c.args.size) (c.to_le_bytes-word.ensures ∙ eight_of c.args.value) ∙ front c.args.size 8 c.args.value c.requires.few in
    let q : c.args.at / 65536 * 65536 + c.args.at % 65536 ≡ c.args.at = omega arith in
    let t : 1 ≡ pages_touched c.args.at c.args.size = sym (touched_one c.args.at c.args.size (omega arith) (omega (arith, ap length b, bytes_many c.args.size c.args.value, c.if-from-bytes-le-PAGE.true))) in
    subst (λ (n : ℕ). IsWritten c.args.self.now c.write_part.new.self c.args.at (bytes_of c.args.size c.args.value) n) t
    (subst (λ (i : ℕ). IsWritten c.args.self.now c.write_part.new.self i (bytes_of c.args.size c.args.value) 1) q
    (subst (λ (x : List ℕ). IsWritten c.args.self.now c.write_part.new.self (c.args.at / 65536 * 65536 + c.args.at % 65536) x 1) b c.write_part.ensures.written))

pub returns-else-from-bytes-le-PAGE-clause-written : goal.returns-else-from-bytes-le-PAGE-clause-written
returns-else-from-bytes-le-PAGE-clause-written c =
    let b = ap (take c.args.size) (c.to_le_bytes-word.ensures ∙ eight_of c.args.value) ∙ front c.args.size 8 c.args.value c.requires.few in
    let l : length (bytes_of c.args.size c.args.value) ≡ c.args.size = bytes_many c.args.size c.args.value in
    subst (λ (n : ℕ). IsWritten c.args.self.now c.write.new.self c.args.at (bytes_of c.args.size c.args.value) (pages_touched c.args.at n)) l
    (subst (λ (x : List ℕ). IsWritten c.args.self.now c.write.new.self c.args.at x (pages_touched c.args.at (length x))) b c.write.ensures.written)
