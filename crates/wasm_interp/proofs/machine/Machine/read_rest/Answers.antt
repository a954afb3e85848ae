-- The rest of a load after a reply is what the definition goes on with.
use Rattle.std.proofs.Common.{◌≡◌, ◌+◌, ◌-◌, subst, false, Option}
use Rattle.faaslet_meaning.specs.Memory.{reads}
use Rattle.faaslet_meaning.specs.MemoryRules.{load_on}
use Rattle.wasm_interp.specs.declared.machine.PieceAsk.{PieceAsk}
use Rattle.wasm_interp.specs.declared.machine.Pending.{Pending}
use Rattle.wasm_interp.specs.declared.machine.Stage.TheVariants as stage
use Rattle.wasm_interp.specs.declared.thread.Thread.{Thread}
use Rattle.wasm_interp.specs.StandsFor.{StageStands}
use Rattle.wasm_interp.specs.Parts.{StopsAt, AtPiece, Within}
use Rattle.wasm_interp.proofs.ResumeSteps.{so_far_on, read_stops, read_ends}
use Rattle.wasm_interp.proofs.machine.Machine.read_rest.Goals as goal

pub returns-in-Some-clause-done : goal.returns-in-Some-clause-done
returns-in-Some-clause-done g c d l copy row z s h long so =
    let a = c.args in
    let memory = g.M.Linear.memory a.self.now.memory in
    let r = c.read_on-reached.result in
    let on = c.read_on-reached.ensures.on in
    let w = c.requires.range in
    let q : Pending = record { op = a.op; addr = a.addr; size = a.size; done = r.done; value = r.value; ask = c.in-Some.ask } in
    let range : Within memory a.addr a.size r.done = record { inside = w.inside; few = w.few; most = on.most; near = w.near } in
    let piece : AtPiece memory (a.addr + r.done) (a.size - r.done) false c.in-Some.ask = subst (λ (o : Option PieceAsk). StopsAt memory (a.addr + r.done) (a.size - r.done) false o) c.in-Some.is c.read_on-reached.ensures.stops in
    let far = so_far_on memory copy a.addr a.size a.done a.so_far r.done r.value so on long in
    let n = read_stops memory a.self.now.thread d l copy q s h row z range long far on.small piece in
    subst (λ ps. StageStands memory a.self.now.thread (stage.Piece q) (load_on d l (reads a.addr a.size ps copy))) on.left n

pub returns-in-None-clause-done : goal.returns-in-None-clause-done
returns-in-None-clause-done g c d l copy row z s h long so =
    let a = c.args in
    let memory = g.M.Linear.memory a.self.now.memory in
    let r = c.read_on-reached.result in
    let on = c.read_on-reached.ensures.on in
    let none : a.size - r.done ≡ 0 = subst (λ (o : Option PieceAsk). StopsAt memory (a.addr + r.done) (a.size - r.done) false o) c.in-None.is c.read_on-reached.ensures.stops in
    let far = so_far_on memory copy a.addr a.size a.done a.so_far r.done r.value so on long in
    let new : Thread = record a.self.now.thread { values = c.replace.new.self } in
    let n = read_ends memory a.self.now.thread d l copy a.addr a.size r.done r.value c.load_value.result c.replace.new.self s h far none on.most (c.load_value.ensures l row) c.replace.ensures in
    subst (λ ps. StageStands memory new stage.Runs (load_on d l (reads a.addr a.size ps copy))) on.left n
