use Rattle.std.proofs.Common.{Some, sym, ap, ◌∙◌, subst}
use Rattle.faaslet_meaning.specs.Memory.{Memory}
use Rattle.region_map.specs.Segments.{Segmented}
use Rattle.proto_faaslet.specs.Snapshots.{Snapshot, snapshot_in, image_memory, IsRestored}
use Rattle.proto_faaslet.proofs.Restored.{restored_so, ready_so, backing_so}
use Rattle.proto_faaslet.proofs.proto.Proto.begin.Goals as goal

pub returns-clause-restored : goal.returns-clause-restored
returns-clause-restored c =
    let p = snapshot_in c.self.inside in
    let machine = c.args.machine.now in
    let shape : Segmented → Memory = λ m. m.memory in
    let memory = c.requires.memory ∙ ap (λ (x : Snapshot). image_memory x.image x.quota) (sym c.self.view_is) in
    let last = c.requires.last ∙ ap (λ (x : Snapshot). Some x.image) (sym c.self.view_is) in
    let P : Snapshot → Type 0 = λ x. IsRestored x c.args.fuel machine c.begin.new.self in
    subst P c.self.view_is (record {
      stands = restored_so shape c.begin.new.self p c.self.invariant.main c.args.fuel machine.writable _ _ _ c.as_slice.ensures c.as_slice-2.ensures memory c.begin.ensures.begun;
      ready = ready_so shape c.begin.new.self p c.self.invariant.main c.args.fuel machine.writable _ _ _ c.begin.ensures.begun;
      writable = c.begin.ensures.writable;
      rooms = c.begin.ensures.rooms;
      backing = backing_so c.begin.new.self.memory machine.memory p c.begin.ensures.memory memory last;
    })
