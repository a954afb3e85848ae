-- One more reader is looked at.
use Rattle.std.proofs.Common.{ℕ, Some, ◌∙◌, ap, refl, option_to_list}
use Rattle.state_locks.proofs.Least.{more_other, more_own}
use Rattle.state_locks.proofs.locks.least_other.Goals as goal
use Rattle.state_locks.proofs.locks.least_other.Goals.{then-holder-maker, else-holder-maker}

pub loop-holder-preserved : goal.loop-holder-preserved
loop-holder-preserved c =
    elim c.if-holder-maker.branch [
      | then-holder-maker w ↦
          w.least-is ∙ ap (λ (n : ℕ). Some n) w.lesser.ensures
          ∙ more_other c.args.maker (option_to_list c.args.writer) c.args.readers.now c.loop-holder.holder-index _ c.loop-holder.least c.loop-holder-test.true refl w.if-holder-maker.true c.loop-holder.invariant
      | else-holder-maker w ↦
          w.least-is
          ∙ more_own c.args.maker (option_to_list c.args.writer) c.args.readers.now c.loop-holder.holder-index _ c.loop-holder.least c.loop-holder-test.true refl w.if-holder-maker.false c.loop-holder.invariant
    ]
