use Rattle.std.proofs.Common.{List, ℕ, ◌∙◌, ap, sym}
use Rattle.faaslet_meaning.specs.Memory.{Memory, put}
use Rattle.proto_faaslet.specs.Instances.{segment_of}
use Rattle.proto_faaslet.proofs.Pieces.{over_more}
use Rattle.proto_faaslet.proofs.segments.put_segments.Goals as goal

pub loop-segment-preserved : goal.loop-segment-preserved
loop-segment-preserved g c =
    let l = c.loop-segment in
    let s = c.segment-item.result in
    let first : Memory = g.M.Linear.memory c.args.memory.now in
    let piece = segment_of c.args.globals.now in
    c.put_segment.ensures
    ∙ ap (λ m. put m (piece s).0 (piece s).1) l.invariant
    ∙ ap (λ (b : List ℕ). record first { bytes = b }) (sym (over_more piece first.bytes c.args.segments.now l.segment-index s c.segment-item.is c.loop-segment-test.true))
