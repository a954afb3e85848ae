-- A load of private bytes is done at once, and any other goes piece by piece.
use Rattle.std.proofs.Common.{subst, sym}
use Rattle.faaslet_meaning.specs.MemoryRules.{load_at}
use Rattle.wasm_interp.specs.declared.machine.Stage.{Stage}
use Rattle.wasm_interp.specs.declared.thread.Thread.{Thread}
use Rattle.wasm_interp.specs.StandsFor.{StageStands}
use Rattle.wasm_interp.proofs.AccessSteps.{load_there, load_private, load_from}
use Rattle.wasm_interp.proofs.machine.Machine.load.Goals as goal

pub load_bytes-size-requires : goal.load_bytes-size-requires
load_bytes-size-requires g c = let k = load_there c.requires.config c.args.op c.args.offset c.requires.not_stuck in (k.row, k.row_is)

pub load_value-requires : goal.load_value-requires
load_value-requires g c = let k = load_there c.requires.config c.args.op c.args.offset c.requires.not_stuck in (k.row, k.row_is)

pub load_slowly-requires-clause-row : goal.load_slowly-requires-clause-row
load_slowly-requires-clause-row g c = let k = load_there c.requires.config c.args.op c.args.offset c.requires.not_stuck in (k.row, k.row_is)

pub returns-in-Some-clause-done : goal.returns-in-Some-clause-done
returns-in-Some-clause-done g c p d l s ok =
    let m = c.args.self.now in
    let memory = g.M.Linear.memory m.memory in
    let addr = c.address-addr.result in
    let e = c.in-Some.ensures in
    let k = load_there d c.args.op c.args.offset ok in
    let new : Thread = record m.thread { values = c.replace.new.self } in
    let r = load_private memory m.thread d k.row addr c.load_bytes-size.result c.load_value.result c.in-Some.number c.replace.new.self s k.some (c.load_bytes-size.ensures.row k.row k.row_is) e.private.0 e.private.1 e.number (c.load_value.ensures k.row k.row_is) c.replace.ensures in
    load_from memory memory new m.thread m.stage d c.args.op c.args.offset addr k s c.address-addr.ensures.sum (subst (λ (st : Stage). StageStands memory new st (load_at d k.row addr)) (sym c.requires.runs) r)

pub returns-in-None-clause-done : goal.returns-in-None-clause-done
returns-in-None-clause-done g c p d l s ok =
    let m = c.args.self.now in
    let memory = g.M.Linear.memory m.memory in
    let new = c.load_slowly.new.self in
    let k = load_there d c.args.op c.args.offset ok in
    load_from (g.M.Linear.memory new.memory) memory new.thread m.thread new.stage d c.args.op c.args.offset c.address-addr.result k s c.address-addr.ensures.sum (c.load_slowly.ensures.done d k.row k.row_is s k.some)
