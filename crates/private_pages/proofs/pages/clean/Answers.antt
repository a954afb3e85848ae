-- A page of the image that is kept is what an unwritten place has.
use Rattle.std.proofs.Common.{Some, arith, sym, ◌∙◌}
use Rattle.std.proofs.lemmas.Option.{IfSome_then}
use Rattle.private_pages.proofs.Contents.{clean_within}
use Rattle.private_pages.proofs.pages.clean.Goals as goal

pub returns-then-place-pages-clause-some : goal.returns-then-place-pages-clause-some
returns-then-place-pages-clause-some c =
    rw c.in-Some.is (IfSome_then c.page.result c.page.ensures.kept (λ b p. p ∙ sym (clean_within (Some c.in-Some.image.now) c.args.place (omega (arith, c.if-place-pages.true, c.pages.ensures.count)))))
