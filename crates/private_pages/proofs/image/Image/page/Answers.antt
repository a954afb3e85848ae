-- A kept page is the page of the content, and has a byte that is not zero.
use Rattle.std.proofs.Common.{◌≡◌, ◌+◌, ◌-◌, ◌*◌, ◌<◌, List, ℕ, Some, None, get_or, take, drop, length, ap, arith, sym, ◌∙◌}
use Rattle.std.proofs.lemmas.List.{get_or_read}
use Rattle.faaslet_meaning.specs.Memory.{Content}
use Rattle.private_pages.specs.Pages.{page_at}
use Rattle.private_pages.specs.Images.{kept_page}
use Rattle.private_pages.proofs.Kept.{image_page}
use Rattle.private_pages.proofs.image.Image.page.Goals as goal

pub returns-in-Some-clause-kept : goal.returns-in-Some-clause-kept
returns-in-Some-clause-kept c =
    let l : c.args.place < length c.self.inside.places.items = omega (arith, c.requires, ap (λ (v : Content). v.pages) c.self.view_is) in
    let e : get_or c.self.inside.places.items c.args.place None ≡ Some c.in-Some.kept = sym (get_or_read c.self.inside.places.items c.args.place c.index.result.now l c.index.ensures None) ∙ c.in-Some.is in
    let k : c.in-Some.kept * 65536 + 65536 - c.in-Some.kept * 65536 ≡ 65536 = omega arith in
    ap (λ (n : ℕ). take n (drop (c.in-Some.kept * 65536) c.deref.result.now)) k
    ∙ ap (λ (b : List ℕ). page_at b c.in-Some.kept) c.deref.ensures.value
    ∙ sym (image_page c.self.inside c.args.place c.self.invariant l ∙ ap (kept_page c.self.inside.kept.items) e)
    ∙ ap (λ (v : Content). page_at v.bytes c.args.place) c.self.view_is

pub returns-in-None-clause-zero : goal.returns-in-None-clause-zero
returns-in-None-clause-zero c =
    let l : c.args.place < length c.self.inside.places.items = omega (arith, c.requires, ap (λ (v : Content). v.pages) c.self.view_is) in
    let e : get_or c.self.inside.places.items c.args.place None ≡ None = sym (get_or_read c.self.inside.places.items c.args.place c.index.result.now l c.index.ensures None) ∙ c.in-None.is in
    ap (λ (v : Content). page_at v.bytes c.args.place) (sym c.self.view_is) ∙ image_page c.self.inside c.args.place c.self.invariant l ∙ ap (kept_page c.self.inside.kept.items) e

pub returns-in-Some-clause-not_zero : goal.returns-in-Some-clause-not_zero
returns-in-Some-clause-not_zero c =
    let l : c.args.place < length c.self.inside.places.items = omega (arith, c.requires, ap (λ (v : Content). v.pages) c.self.view_is) in
    let e : get_or c.self.inside.places.items c.args.place None ≡ Some c.in-Some.kept = sym (get_or_read c.self.inside.places.items c.args.place c.index.result.now l c.index.ensures None) ∙ c.in-Some.is in
    let k : c.in-Some.kept * 65536 + 65536 - c.in-Some.kept * 65536 ≡ 65536 = omega arith in
    let some = rw e at (c.self.invariant.some c.args.place None l) in
    λ z. some (ap (λ (b : List ℕ). page_at b c.in-Some.kept) (sym c.deref.ensures.value) ∙ ap (λ (n : ℕ). take n (drop (c.in-Some.kept * 65536) c.deref.result.now)) (sym k) ∙ z)
