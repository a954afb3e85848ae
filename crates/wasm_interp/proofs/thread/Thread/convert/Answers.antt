-- A conversion answers its row.
use Rattle.std.proofs.Common.{refl, arith}
use Rattle.faaslet_meaning.specs.Integers.{convert, convert_row, numeric_of}
use Rattle.wasm_num.proofs.Classes.{of_convert}
use Rattle.wasm_interp.proofs.Numerics.{one_done}
use Rattle.wasm_interp.proofs.thread.Thread.convert.Goals as goal

pub returns-clause-done : goal.returns-clause-done
returns-clause-done c p memory d s ok =
    let (f, e) = c.requires.class in
    let x = c.get-x.result in
    one_done memory c.args.self.now d (numeric_of c.args.op) (convert f) x c.convert.result (convert_row f x) c.replace.new.self e (omega arith) (λ rest. refl)
    (c.convert.ensures f (of_convert c.args.op f e)) c.get-x.ensures c.replace.ensures s ok
