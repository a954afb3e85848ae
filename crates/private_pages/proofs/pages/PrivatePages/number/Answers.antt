-- The bytes in one page spell the number.
use Rattle.std.proofs.Common.{◌≡◌, ℕ, ◌+◌, ◌*◌, ◌/◌, ◌%◌, ap, arith, refl, sym, ◌∙◌}
use Rattle.faaslet_meaning.specs.LoadStore.{number}
use Rattle.faaslet_meaning.specs.Memory.{read_bytes}
use Rattle.faaslet_meaning.proofs.WordBytes.{zeros}
use Rattle.private_pages.proofs.Contents.{part_read, zero_read}
use Rattle.private_pages.proofs.pages.PrivatePages.number.Goals as goal

pub page-requires : goal.page-requires
page-requires c = omega (arith, c.requires.inside, c.pages-pages.ensures.sound.content.whole)

pub returns-in-Some : goal.returns-in-Some
returns-in-Some c =
    let q : c.args.at / 65536 * 65536 + c.args.at % 65536 ≡ c.args.at = omega arith in
    c.number_of.ensures ∙ ap number (part_read c.args.self.now.content.bytes c.in-Some.content.now (c.args.at / 65536) (c.args.at % 65536) (c.args.at % 65536 + c.args.size) c.args.size c.in-Some.ensures.some refl (omega arith) ∙ ap (λ (i : ℕ). read_bytes i c.args.size c.args.self.now.content.bytes) q)

pub returns-in-None : goal.returns-in-None
returns-in-None c =
    let q : c.args.at / 65536 * 65536 + c.args.at % 65536 ≡ c.args.at = omega arith in
    sym (zeros c.args.size) ∙ ap number (zero_read c.args.self.now.content.bytes (c.args.at / 65536) (c.args.at % 65536) c.args.size c.in-None.ensures.zero (omega arith) ∙ ap (λ (i : ℕ). read_bytes i c.args.size c.args.self.now.content.bytes) q)
