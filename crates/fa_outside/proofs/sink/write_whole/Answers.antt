use Rattle.std.proofs.Common.{ℕ, arith, length-drop}
use Rattle.std.proofs.lemmas.List.{take_rest}
use Rattle.fa_outside.proofs.Written.{appends_more}
use Rattle.fa_outside.proofs.sink.write_whole.Goals as goal

pub pieces-preserved : goal.pieces-preserved
pieces-preserved g c =
    let front = rw (take_rest c.args.bytes.now c.pieces.done) at c.in_ok-done.ensures in
    record {
      within = omega (arith, front.within, length-drop {A = ℕ});
      written = appends_more _ _ _ _ _ _ c.pieces.invariant.written front.written;
      quiet = omega arith;
    }
