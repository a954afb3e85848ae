-- The rest of a store after a reply is what the definition goes on with.
use Rattle.std.proofs.Common.{◌+◌, ◌-◌, ◌∙◌, ap, subst, true, Option}
use Rattle.faaslet_meaning.specs.Memory.{pieces, write_on}
use Rattle.wasm_interp.specs.declared.machine.PieceAsk.{PieceAsk}
use Rattle.wasm_interp.specs.declared.machine.Pending.{Pending}
use Rattle.wasm_interp.specs.Parts.{left_to_write, StopsAt, WrittenTo, AtPiece}
use Rattle.wasm_interp.proofs.PieceSteps.{within_same}
use Rattle.wasm_interp.proofs.ResumeSteps.{write_stops}
use Rattle.wasm_interp.proofs.machine.Machine.write_rest.Goals as goal

pub returns-in-Some-clause-done : goal.returns-in-Some-clause-done
returns-in-Some-clause-done g c d s h =
    let a = c.args in
    let old = g.M.Linear.memory a.self.now.memory in
    let new = g.M.Linear.memory c.write_on-reached.new.memory in
    let r = c.write_on-reached.result in
    let on = c.write_on-reached.ensures.on in
    let q : Pending = record { op = a.op; addr = a.addr; size = a.size; done = r.done; value = a.value; ask = c.in-Some.ask } in
    let range = within_same old new a.addr a.size a.done r.done c.requires.range on.segments on.most in
    let piece : AtPiece new (a.addr + r.done) (a.size - r.done) true c.in-Some.ask = subst (λ (o : Option PieceAsk). StopsAt new (a.addr + r.done) (a.size - r.done) true o) c.in-Some.is c.write_on-reached.ensures.stops in
    let w = write_on (pieces old (a.addr + a.done) (a.size - a.done)) old (left_to_write a.size a.done a.value) in
    write_stops old new a.self.now.thread d q w s h c.requires.row range piece (on.is ∙ ap (λ (o : Option PieceAsk). WrittenTo new a.addr a.size a.value r.done o) c.in-Some.is)
