-- A marked run is made zero, and of one without a mark nothing has to be.
use Rattle.std.proofs.Common.{◌≡◌, ◌∙◌, ◌+◌, ◌-◌, ◌*◌, ◌<◌, length, arith}
use Rattle.wasm_interp.proofs.ValueCells.{run_cleaned, run_passed, read_mark}
use Rattle.wasm_interp.proofs.value_stack.clean.Goals.{then-marks-run, else-marks-run}
use Rattle.wasm_interp.proofs.value_stack.clean.Goals as goal

pub loop-run-preserved : goal.loop-run-preserved
loop-run-preserved c =
    let i = c.loop-run.invariant in
    let run = c.loop-run.run in
    let within : run < length c.loop-run.marks = omega (arith, c.loop-run-test.true, c.requires.marks, c.loop-run.auto.marks) in
    let many : run * 64 + 64 - run * 64 ≡ 64 = omega arith in
    record {
      cleaned = elim c.if-marks-run.branch [
        | then-marks-run w ↦ run_cleaned c.args.cells.now c.loop-run.cells c.if-marks-run.cells c.loop-run.marks c.if-marks-run.marks c.args.first run _ c.loop-run.auto.run many i.cleaned (w.cells-is ∙ w.clear.ensures) w.marks-is
        | else-marks-run w ↦ run_passed c.args.cells.now c.loop-run.cells c.if-marks-run.cells c.loop-run.marks c.if-marks-run.marks c.args.first run i.cleaned (read_mark c.loop-run.marks run within w.if-marks-run.false) w.cells-is w.marks-is
      ];
      marks = c.if-marks-run.auto.marks ∙ i.marks;
    }
