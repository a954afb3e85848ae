-- A load begun piece by piece is the load of the definition.
use Rattle.std.proofs.Common.{◌≡◌, ◌+◌, ◌≤◌, ap, sym, arith, length, drop, refl}
use Rattle.faaslet_meaning.specs.Memory.{Memory}
use Rattle.wasm_interp.specs.Parts.{SoFar}
use Rattle.wasm_interp.proofs.AccessSteps.{load_begins}
use Rattle.wasm_interp.proofs.PieceLists.{inside_is}
use Rattle.wasm_interp.proofs.machine.Machine.load_slowly.Goals as goal

pub returns-in-Ok-clause-done : goal.returns-in-Ok-clause-done
returns-in-Ok-clause-done g c d row row_is s h =
    let m = c.args.self.now in
    let memory = g.M.Linear.memory m.memory in
    let new = c.read_rest.new.self in
    let e = c.in-Ok.ensures in
    let inside = inside_is memory c.args.addr c.args.size e.inside in
    let long : c.args.addr + c.args.size ≤ length memory.bytes = omega (arith, e.sound.long) in
    let same : d.memory.bytes ≡ memory.bytes = ap (λ (k : Memory). k.bytes) (sym s.kept.memory_is) in
    let begun : SoFar memory.bytes d.memory.bytes c.args.addr 0 0 = record { value = refl; ahead = ap (drop (c.args.addr + 0)) same; long = ap length same } in
    let z = c.requires.size row row_is in
    load_begins memory (g.M.Linear.memory new.memory) m.thread new.thread new.stage d row c.args.addr c.args.size s z e.inside (c.read_rest.ensures.done d row d.memory.bytes row_is z s h long begun)
