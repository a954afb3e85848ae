-- One key more has its cell.
use Rattle.std.proofs.Common.{◌≡◌, ◌≤◌, length, sym, ◌∙◌, subst, arith, IfOk}
use Rattle.faaslet_meaning.specs.Region.{global_value}
use Rattle.region_tier.specs.Tiers.{Adds, AreFreshRows, HaveRoom, cells_of}
use Rattle.region_tier.proofs.At.{read_at}
use Rattle.region_tier.proofs.Made.{adds_global}
use Rattle.region_tier.proofs.cells.Tier.global.Goals as goal

pub global-region-requires : goal.global-region-requires
global-region-requires c = let k = c.loop-value.value-index in
    subst (λ l. length l ≤ c.value-item.result.0) (sym c.as_slice.ensures) (c.requires.fit k c.value-item.result (read_at c.args.values.now k c.value-item.result (omega arith) c.value-item.is))

pub loop-value-preserved : goal.loop-value-preserved
loop-value-preserved c = let i = c.loop-value.invariant in let e = c.in_ok-grown.ensures in
    let k = c.loop-value.value-index in
    let v = c.value-item.result in
    let made = subst (λ m. IfOk c.global-region.result (λ r. Adds (cells_of c.loop-value.tier) (cells_of c.in_ok-grown.grown.0) r m)) i.numbered e.added in
    let so = subst (λ l. IfOk c.global-region.result (λ r. r ≡ record { region = global_value v.0 l; room = c.args.numbers })) c.as_slice.ensures c.global-region.ensures in
    let a = adds_global c.args.values.now c.args.numbers k v (cells_of c.loop-value.tier) (cells_of c.in_ok-grown.grown.0) c.global-region.result
    (read_at c.args.values.now k v (omega arith) c.value-item.is) i.count so e.refused made i.cells in
    record {
      numbered = e.same.0 ∙ i.numbered;
      room = e.same.1 ∙ i.room;
      rooms = subst (λ m. HaveRoom m c.in_ok-grown.grown.2.items) i.room e.same.2;
      closing = e.closing;
      fresh = subst (λ m. AreFreshRows (cells_of c.in_ok-grown.grown.0) m c.in_ok-grown.grown.2.items) i.numbered e.passes;
      count = a.0;
      cells = a.1;
    }
