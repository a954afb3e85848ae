-- Each page that is read and pushed is the next of the memory, and after the last the image has all bytes.
use Rattle.std.proofs.Common.{◌≡◌, ℕ, List, ◌+◌, ◌*◌, ◌<◌, ◌≤◌, ◌++◌, length, take, drop, ap, arith, ◌∙◌}
use Rattle.std.proofs.lemmas.List.{take_at}
use Rattle.faaslet_meaning.specs.Memory.{Content, page_size}
use Rattle.proto_faaslet.proofs.Images.{more_pages}
use Rattle.proto_faaslet.proofs.image.image_of.Goals as goal

pub loop-place-preserved : goal.loop-place-preserved
loop-place-preserved g c =
    let m = g.M.Linear.memory c.args.memory.now in
    let p = c.in_ok-push.ensures.pushed in
    let i = c.loop-place.invariant in
    let old = c.loop-place.page in
    let read = c.read_private.new.buf in
    let long : length c.deref_mut.result.now ≡ page_size = ap length c.deref_mut.ensures.value ∙ i.whole in
    let same : length read ≡ page_size = c.read_private.auto.buf ∙ long in
    let whole : take old.len (read ++ drop (length read) old.items) ≡ read = take_at read (drop (length read) old.items) old.len (omega (arith, same, i.whole, old.ok.0)) in
    record {
      pages = ap (λ (x : Content). x.pages) p ∙ omega (arith, i.pages);
      bytes = ap (λ (x : Content). x.bytes) p ∙ ap (λ (x : List ℕ). c.loop-place.image.bytes ++ x) (c.deref.ensures.value ∙ whole) ∙ more_pages m.bytes c.loop-place.image.bytes read c.loop-place.place (c.from.result * 65536) (length c.deref_mut.result.now) i.bytes c.read_private.ensures (omega (arith, c.from.ensures)) long;
      whole = ap length whole ∙ same;
    }
