-- The counts are small, so their sum fits.
use Rattle.std.proofs.Common.{arith}
use Rattle.call_table.proofs.Index.{small}
use Rattle.call_table.proofs.table.CallTable.unfinished.Goals as goal

pub overflow_add-result : goal.overflow_add-result
overflow_add-result c =
    let s = small c.self.inside.store.records c.self.inside.progress c.self.inside.heads c.self.invariant.indexed in
    let a = s.unfinished in
    let b = c.self.invariant.requests in
    let d = c.saturating_sub.ensures in
    omega arith
