-- One key more has its cell.
use Rattle.std.proofs.Common.{get_or, ◌∙◌, subst, arith, IfOk}
use Rattle.region_tier.specs.Tiers.{Adds, AreFreshRows, HaveRoom, cells_of}
use Rattle.region_tier.proofs.Made.{at_here, adds_replica}
use Rattle.region_tier.proofs.cells.Tier.local.Goals as goal

pub loop-size-preserved : goal.loop-size-preserved
loop-size-preserved c = let i = c.loop-size.invariant in let e = c.in_ok-grown.ensures in
    let n = i.numbered in
    let k = c.loop-size.size-index in
    let made = subst (λ m. IfOk c.local-region.result (λ r. Adds (cells_of c.loop-size.tier) (cells_of c.in_ok-grown.grown.0) r m)) i.numbered e.added in
    let a = adds_replica c.args.sizes.now c.args.numbers k (get_or c.args.sizes.now k 0) (cells_of c.loop-size.tier) (cells_of c.in_ok-grown.grown.0) c.local-region.result
    (at_here c.args.sizes.now k 0 (omega arith)) i.count c.local-region.ensures e.refused made i.cells in
    record {
      numbered = e.same.0 ∙ i.numbered;
      room = e.same.1 ∙ i.room;
      rooms = subst (λ m. HaveRoom m c.in_ok-grown.grown.2.items) i.room e.same.2;
      closing = e.closing;
      fresh = subst (λ m. AreFreshRows (cells_of c.in_ok-grown.grown.0) m c.in_ok-grown.grown.2.items) i.numbered e.passes;
      count = a.0;
      cells = a.1;
    }
