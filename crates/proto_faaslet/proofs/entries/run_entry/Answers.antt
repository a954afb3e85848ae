use Rattle.faaslet_meaning.specs.Configuration.{goes}
use Rattle.proto_faaslet.specs.Entries.{begun}
use Rattle.wasm_interp.specs.Grants.{grants_of}
use Rattle.proto_faaslet.specs.Instances.{store_of}
use Rattle.proto_faaslet.proofs.Told.{begun_so, own}
use Rattle.proto_faaslet.proofs.entries.run_entry.Goals as goal

pub run-requires : goal.run-requires
run-requires g c =
    let m = c.args.module.now in
    let kept = c.args.kept.now in
    let memory = g.M.Linear.memory c.args.machine.now.memory in
    (m, grants_of c.args.machine.now.writable, c.args.fuel, goes (begun c.requires.entry (store_of kept memory) c.args.fuel), begun_so g.M.Linear.memory c.begin.new.self m c.args.entry c.requires.entry c.args.fuel _ memory _ kept.globals _ kept.table c.as_slice.ensures c.as_slice-2.ensures c.begin.ensures.begun)

pub returns-clause-ran : goal.returns-clause-ran
returns-clause-ran g c =
    let m = c.args.module.now in
    let kept = c.args.kept.now in
    let memory = g.M.Linear.memory c.args.machine.now.memory in
    λ e. c.run.ensures.ran m (grants_of c.args.machine.now.writable) c.args.fuel _ (begun_so g.M.Linear.memory c.begin.new.self m c.args.entry e c.args.fuel _ memory _ kept.globals _ kept.table c.as_slice.ensures c.as_slice-2.ensures c.begin.ensures.begun)

pub returns-clause-own : goal.returns-clause-own
returns-clause-own g c =
    let m = c.args.module.now in
    let kept = c.args.kept.now in
    let memory = g.M.Linear.memory c.args.machine.now.memory in
    own g.M.Linear.memory c.run.new.self m (grants_of c.args.machine.now.writable) memory.quota c.args.fuel c.args.entry c.requires.entry (store_of kept memory) c.requires.kept c.run.result (c.run.ensures.ran m (grants_of c.args.machine.now.writable) c.args.fuel _ (begun_so g.M.Linear.memory c.begin.new.self m c.args.entry c.requires.entry c.args.fuel _ memory _ kept.globals _ kept.table c.as_slice.ensures c.as_slice-2.ensures c.begin.ensures.begun))
