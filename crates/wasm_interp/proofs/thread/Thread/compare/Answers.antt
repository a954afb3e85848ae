-- A comparison answers its row.
use Rattle.std.proofs.Common.{sym, ap, refl, arith, Ok}
use Rattle.faaslet_meaning.specs.Integers.{compare, compare_row, truth, numeric_of}
use Rattle.wasm_num.proofs.Classes.{of_compare}
use Rattle.wasm_interp.proofs.Numerics.{two_done}
use Rattle.wasm_interp.proofs.thread.Thread.compare.Goals as goal

pub returns-clause-done : goal.returns-clause-done
returns-clause-done c p memory d s ok =
    let (f, w, e) = c.requires.class in
    let x = c.get-x.result in
    let y = c.pop-y.result in
    two_done memory c.args.self.now d (numeric_of c.args.op) (compare f w) (Ok (truth (compare_row f w x y))) y x c.compare.result c.pop-y.new.self c.replace.new.self e (omega arith) (λ rest. refl)
    (ap Ok (sym (c.compare.ensures f w (of_compare c.args.op f w e)))) c.pop-y.ensures c.get-x.ensures c.replace.ensures s ok
