-- A page of the content is the place's own, or else the image's.
use Rattle.std.proofs.Common.{◌<◌, sym, ap, ◌∙◌, arith}
use Rattle.std.proofs.lemmas.Option.{IfSome_then}
use Rattle.private_pages.specs.Pages.{Pages, page_at}
use Rattle.private_pages.proofs.Contents.{own_there, clean_there, if_none}
use Rattle.private_pages.proofs.pages.PrivatePages.page.Goals as goal

pub returns-in-Some-clause-some : goal.returns-in-Some-clause-some
returns-in-Some-clause-some c =
    let l : c.args.place < c.self.inside.pages = omega (arith, c.requires, ap (λ (p : Pages). p.content.pages) c.self.view_is) in
    own_there c.self.inside c.args.place _ c.self.invariant l (sym c.in-Some.ensures.page) ∙ ap (λ (p : Pages). page_at p.content.bytes c.args.place) c.self.view_is

pub returns-in-None-clause-some : goal.returns-in-None-clause-some
returns-in-None-clause-some c =
    let l : c.args.place < c.self.inside.pages = omega (arith, c.requires, ap (λ (p : Pages). p.content.pages) c.self.view_is) in
    let e = clean_there c.self.inside c.args.place c.self.invariant l (sym c.in-None.ensures.page) ∙ ap (λ (p : Pages). page_at p.content.bytes c.args.place) c.self.view_is in
    IfSome_then c.clean.result c.clean.ensures.some (λ b p. p ∙ e)

pub returns-in-None-clause-zero : goal.returns-in-None-clause-zero
returns-in-None-clause-zero c =
    let l : c.args.place < c.self.inside.pages = omega (arith, c.requires, ap (λ (p : Pages). p.content.pages) c.self.view_is) in
    let e = clean_there c.self.inside c.args.place c.self.invariant l (sym c.in-None.ensures.page) ∙ ap (λ (p : Pages). page_at p.content.bytes c.args.place) c.self.view_is in
    if_none c.clean.result c.clean.ensures.zero (λ p. sym e ∙ p)
