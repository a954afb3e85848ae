-- A private piece is written, and a shared one is asked for.
use Rattle.std.proofs.Common.{◌≡◌, ◌+◌, ◌-◌, ◌*◌, ◌^◌, ◌/◌, ap, ◌∙◌, arith}
use Rattle.faaslet_meaning.specs.LoadStore.{bytes_of}
use Rattle.faaslet_meaning.specs.Memory.{put, Memory}
use Rattle.wasm_interp.specs.Parts.{left_to_write, Within}
use Rattle.wasm_interp.proofs.PieceSteps.{private_first, first_inside, write_done, write_step, write_end, within_same}
use Rattle.wasm_interp.proofs.pieces.write_on.Goals as goal

pub parts-preserved : goal.parts-preserved
parts-preserved g c =
    let a = c.args in
    let n = c.next_piece-piece in
    let m = g.M.Linear.memory c.parts.memory in
    let new = g.M.Linear.memory c.write_number.new.self in
    let i = c.parts.invariant in
    let w : Within m a.addr a.size c.parts.done = within_same (g.M.Linear.memory a.memory.now) m a.addr a.size a.from c.parts.done c.requires.range i.segments i.most in
    let inside = first_inside m a.addr a.size c.parts.done n.result.len w n.ensures.few c.parts-test.true in
    let private = private_first m (a.addr + c.parts.done) (a.size - c.parts.done) n.result n.ensures.first c.in_default.is in
    let put_is : new ≡ put m (a.addr + c.parts.done) (bytes_of n.result.len (a.value / 2 ^ (8 * c.parts.done))) =
    write_done m new (a.addr + c.parts.done) n.result.len c.behind.result c.write_number.result c.write_number.ensures.written c.write_number.ensures.other inside private
    ∙ ap (λ x. put m (a.addr + c.parts.done) (bytes_of n.result.len x)) c.behind.ensures in
    record {
      on = omega (arith, i.on);
      most = omega (arith, n.ensures.few);
      segments = ap (λ (x : Memory). x.segments) put_is ∙ i.segments;
      kept = c.write_number.ensures.kept ∙ i.kept;
      is = i.is ∙ write_step m a.addr a.size c.parts.done a.value n.result c.parts-test.true n.ensures.first c.in_default.is n.ensures.few new put_is;
    }

pub returns-clause-on : goal.returns-clause-on
returns-clause-on g c =
    let a = c.args in
    let i = c.parts.invariant in
    record {
      on = i.on;
      most = i.most;
      segments = i.segments;
      is = i.is ∙ write_end (g.M.Linear.memory c.parts.memory) (a.addr + c.parts.done) (a.size - c.parts.done) (left_to_write a.size c.parts.done a.value) (omega arith);
    }
