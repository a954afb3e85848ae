-- Bytes put into one page are put over the content, also where the page had to be taken first.
use Rattle.std.proofs.Common.{◌<◌, List, ℕ, Bor, Some, set, ap, arith, ◌∙◌}
use Rattle.std.specs.Prelude.{option_map}
use Rattle.private_pages.specs.Own.{Own, content_or_zeros}
use Rattle.private_pages.specs.Pages.{Pages}
use Rattle.private_pages.proofs.Contents.{put_step, take_step, clean_given, sound_pages}
use Rattle.private_pages.proofs.pages.PrivatePages.write_part.Goals as goal

pub invariant_of-self-else-not-put : goal.invariant_of-self-else-not-put
invariant_of-self-else-not-put c =
    let l : c.args.place < c.self.inside.pages = omega (arith, c.requires.inside, ap (λ (p : Pages). p.content.pages) c.self.view_is) in
    (put_step c.self.inside c.put.new.self c.args.place c.args.from c.args.bytes.now c.self.invariant l c.requires.fits (c.put.ensures.put c.if-not-put.false) c.put.ensures.sound).are

pub returns-else-not-put-clause-written : goal.returns-else-not-put-clause-written
returns-else-not-put-clause-written c =
    let l : c.args.place < c.self.inside.pages = omega (arith, c.requires.inside, ap (λ (p : Pages). p.content.pages) c.self.view_is) in
    let p = put_step c.self.inside c.put.new.self c.args.place c.args.from c.args.bytes.now c.self.invariant l c.requires.fits (c.put.ensures.put c.if-not-put.false) c.put.ensures.sound in
    rw (← c.self.view_is) p.written

pub returns-else-not-put-clause-sound : goal.returns-else-not-put-clause-sound
returns-else-not-put-clause-sound c = sound_pages _ (invariant_of-self-else-not-put c)

pub invariant_of-self : goal.invariant_of-self
invariant_of-self c =
    let l : c.args.place < c.self.inside.pages = omega (arith, c.requires.inside, ap (λ (p : Pages). p.content.pages) c.self.view_is) in
    let none = c.put.ensures.none c.if-not-put.true in
    let t = c.take.ensures.taken ∙ ap (λ (o : Own). set o.pages c.args.place (Some (content_or_zeros (option_map (λ (b : Bor (List ℕ)). b.now) c.clean.result)))) none.1 in
    (take_step c.self.inside c.take.new.self c.put-then-not-put.new.self c.args.place c.args.from _ c.args.bytes.now c.self.invariant l c.requires.fits none.0 t (clean_given (λ (b : Bor (List ℕ)). b.now) c.clean.result _ c.clean.ensures.some c.clean.ensures.zero) c.take.ensures.sound (omega (arith, c.take.ensures.work, ap (λ (o : Own). o.work) none.1)) (c.put-then-not-put.ensures.put c.if-not-put-2.false) c.put-then-not-put.ensures.sound).are

pub returns-else-not-put-2-clause-written : goal.returns-else-not-put-2-clause-written
returns-else-not-put-2-clause-written c =
    let l : c.args.place < c.self.inside.pages = omega (arith, c.requires.inside, ap (λ (p : Pages). p.content.pages) c.self.view_is) in
    let none = c.put.ensures.none c.if-not-put.true in
    let t = c.take.ensures.taken ∙ ap (λ (o : Own). set o.pages c.args.place (Some (content_or_zeros (option_map (λ (b : Bor (List ℕ)). b.now) c.clean.result)))) none.1 in
    rw (← c.self.view_is) (take_step c.self.inside c.take.new.self c.put-then-not-put.new.self c.args.place c.args.from _ c.args.bytes.now c.self.invariant l c.requires.fits none.0 t (clean_given (λ (b : Bor (List ℕ)). b.now) c.clean.result _ c.clean.ensures.some c.clean.ensures.zero) c.take.ensures.sound (omega (arith, c.take.ensures.work, ap (λ (o : Own). o.work) none.1)) (c.put-then-not-put.ensures.put c.if-not-put-2.false) c.put-then-not-put.ensures.sound).written

pub returns-else-not-put-2-clause-sound : goal.returns-else-not-put-2-clause-sound
returns-else-not-put-2-clause-sound c = sound_pages _ (invariant_of-self c)
