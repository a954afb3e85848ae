-- A test answers its row.
use Rattle.std.proofs.Common.{refl, arith}
use Rattle.faaslet_meaning.specs.Integers.{test, test_row, numeric_of}
use Rattle.wasm_num.proofs.Classes.{of_test}
use Rattle.wasm_interp.proofs.Numerics.{one_done}
use Rattle.wasm_interp.proofs.thread.Thread.test.Goals as goal

pub returns-clause-done : goal.returns-clause-done
returns-clause-done c p memory d s ok =
    let (w, e) = c.requires.class in
    let x = c.get-x.result in
    one_done memory c.args.self.now d (numeric_of c.args.op) (test w) x c.test.result (test_row w x) c.replace.new.self e (omega arith) (λ rest. refl)
    (c.test.ensures w (of_test c.args.op w e)) c.get-x.ensures c.replace.ensures s ok
