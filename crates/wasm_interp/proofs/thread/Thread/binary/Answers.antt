-- An operation of two operands answers its row, or traps.
use Rattle.std.proofs.Common.{◌∙◌, sym, refl, arith}
use Rattle.faaslet_meaning.specs.Integers.{binary, binary_row, numeric_of}
use Rattle.wasm_num.proofs.Classes.{of_binary}
use Rattle.wasm_interp.proofs.Numerics.{two_done, two_traps}
use Rattle.wasm_interp.proofs.thread.Thread.binary.Goals as goal

pub returns-in-Ok-clause-done : goal.returns-in-Ok-clause-done
returns-in-Ok-clause-done c p memory d s ok =
    let (f, w, e) = c.requires.class in
    let x = c.get-x.result in
    let y = c.pop-y.result in
    two_done memory c.args.self.now d (numeric_of c.args.op) (binary f w) (binary_row f w x y) y x c.in-Ok.v c.pop-y.new.self c.replace.new.self e (omega arith) (λ rest. refl)
    (sym (c.binary.ensures f w (of_binary c.args.op f w e)) ∙ c.in-Ok.is) c.pop-y.ensures c.get-x.ensures c.replace.ensures s ok

pub returns-in-Err-clause-done : goal.returns-in-Err-clause-done
returns-in-Err-clause-done c p memory d s ok =
    let (f, w, e) = c.requires.class in
    let x = c.get-x.result in
    let y = c.pop-y.result in
    two_traps memory c.args.self.now _ d (numeric_of c.args.op) (binary f w) (binary_row f w x y) y x c.in-Err.trap c.pop-y.new.self e (omega arith) (λ rest. refl)
    (sym (c.binary.ensures f w (of_binary c.args.op f w e)) ∙ c.in-Err.is) c.pop-y.ensures c.get-x.ensures refl refl refl s ok
