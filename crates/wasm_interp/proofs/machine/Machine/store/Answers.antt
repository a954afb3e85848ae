-- A store of private bytes is done at once, and any other goes piece by piece.
use Rattle.std.proofs.Common.{◌≡◌, ◌∙◌, Some, subst, sym}
use Rattle.faaslet_meaning.specs.LoadStore.{bytes_of}
use Rattle.faaslet_meaning.specs.MemoryRules.{store_at}
use Rattle.wasm_interp.specs.declared.machine.Stage.{Stage}
use Rattle.wasm_interp.specs.declared.thread.Thread.{Thread}
use Rattle.wasm_interp.specs.StandsFor.{StageStands}
use Rattle.wasm_interp.proofs.AccessSteps.{store_there, store_private, store_from}
use Rattle.wasm_interp.proofs.machine.Machine.store.Goals as goal

pub store_bytes-size-requires : goal.store_bytes-size-requires
store_bytes-size-requires g c = let k = store_there c.requires.program c.requires.config c.args.op c.args.offset c.requires.not_stuck in (k.size, k.row_is)

pub returns-then-write_sized-clause-done : goal.returns-then-write_sized-clause-done
returns-then-write_sized-clause-done g c p d l s ok =
    let m = c.args.self.now in
    let memory = g.M.Linear.memory m.memory in
    let after = g.M.Linear.memory c.write_sized.new.memory in
    let addr = c.address-addr.result in
    let size = c.store_bytes-size.result in
    let value = c.get-value.result in
    let k = store_there p d c.args.op c.args.offset ok in
    let both : Some size ≡ Some k.size = sym c.store_bytes-size.ensures.row ∙ k.row_is in
    let same : size ≡ k.size = cc in
    let w = c.write_sized.ensures.written c.if-write_sized.true in
    let new : Thread = record m.thread { values = c.cut.new.self } in
    let r = store_private memory after m.thread d p addr size value c.cut.new.self s k.some w.0 w.1 w.2 c.write_sized.ensures.sound c.cut.ensures in
    store_from after memory new m.thread m.stage p d c.args.op c.args.offset addr size value k s same c.get-value.ensures c.address-addr.ensures.sum
    (subst (λ (st : Stage). StageStands after new st (store_at p d addr (bytes_of size value))) (sym c.requires.runs) r)
