use Rattle.std.proofs.Common.{◌∙◌, ap, sym}
use Rattle.faaslet_meaning.specs.Memory.{over}
use Rattle.proto_faaslet.specs.Instances.{element_of}
use Rattle.proto_faaslet.proofs.Pieces.{over_more}
use Rattle.proto_faaslet.proofs.table.put_elements.Goals as goal

pub loop-element-preserved : goal.loop-element-preserved
loop-element-preserved c =
    let l = c.loop-element in
    let e = c.element-item.result in
    let piece = element_of c.args.globals.now in
    c.put_element.ensures
    ∙ ap (λ t. over t (piece e).0 (piece e).1) l.invariant
    ∙ sym (over_more piece c.args.table.now c.args.elements.now l.element-index e c.element-item.is c.loop-element-test.true)
