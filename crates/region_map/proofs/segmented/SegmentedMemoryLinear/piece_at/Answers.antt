use Rattle.std.proofs.Common.{ap, sym, ◌∙◌, Some}
use Rattle.region_map.proofs.Changes.{sound, not_past, first_private, first_shared}
use Rattle.region_map.proofs.segmented.SegmentedMemoryLinear.piece_at.Goals as goal

pub returns-in-Some-Private-clause-sound : goal.returns-in-Some-Private-clause-sound
returns-in-Some-Private-clause-sound c = sound _ _ c.self.view_is c.self.invariant

pub returns-in-Some-Shared-clause-sound : goal.returns-in-Some-Shared-clause-sound
returns-in-Some-Shared-clause-sound c = sound _ _ c.self.view_is c.self.invariant

pub unreachable-requires : goal.unreachable-requires
unreachable-requires c =
    let f = rw c.deref.ensures.value at (sym c.in-None.ensures) in
    not_past c.self.inside c.args.self.now c.args.addr c.args.len c.self.view_is c.requires.inside c.requires.some f

pub returns-in-Some-Private-clause-first : goal.returns-in-Some-Private-clause-first
returns-in-Some-Private-clause-first c =
    let f = rw c.deref.ensures.value at (sym c.in-Some-Private.ensures ∙ ap Some c.in-Some-Private.field-0-is) in
    first_private c.self.inside c.args.self.now c.args.addr c.args.len c.in-Some-Private.field-0-0 c.in-Some-Private.left c.min.result c.self.view_is f c.requires.some c.min.ensures

pub returns-in-Some-Shared-clause-first : goal.returns-in-Some-Shared-clause-first
returns-in-Some-Shared-clause-first c =
    let f = rw c.deref.ensures.value at (sym c.in-Some-Shared.ensures ∙ ap Some c.in-Some-Shared.field-0-is) in
    first_shared c.self.inside c.args.self.now c.args.addr c.args.len c.in-Some-Shared.place c.in-Some-Shared.off c.in-Some-Shared.left c.min-in-Some-Shared.result c.self.view_is f c.requires.some c.min-in-Some-Shared.ensures
