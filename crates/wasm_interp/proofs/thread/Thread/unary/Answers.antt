-- An operation of one operand answers its row.
use Rattle.std.proofs.Common.{refl, arith}
use Rattle.faaslet_meaning.specs.Integers.{unary, unary_row, numeric_of}
use Rattle.wasm_num.proofs.Classes.{of_unary}
use Rattle.wasm_interp.proofs.Numerics.{one_done}
use Rattle.wasm_interp.proofs.thread.Thread.unary.Goals as goal

pub returns-clause-done : goal.returns-clause-done
returns-clause-done c p memory d s ok =
    let (f, w, e) = c.requires.class in
    let x = c.get-x.result in
    one_done memory c.args.self.now d (numeric_of c.args.op) (unary f w) x c.unary.result (unary_row f w x) c.replace.new.self e (omega arith) (λ rest. refl)
    (c.unary.ensures f w (of_unary c.args.op f w e)) c.get-x.ensures c.replace.ensures s ok
