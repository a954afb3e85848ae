-- Entries of others stand behind what the pass had seen.
use Rattle.std.proofs.Common.{List, subst}
use Rattle.turn_cell.specs.declared.view.Entry.{Entry}
use Rattle.turn_cell.specs.Cell.{pass_list, start_of}
use Rattle.turn_cell.specs.History.{Extends}
use Rattle.told_asks.specs.Knows.{KnowsBy}
use Rattle.told_asks.proofs.Known.{stay_known}
use Rattle.host_worker.proofs.Table.{stays_heard}
use Rattle.host_worker.proofs.bench.Bench.see.Goals as goal

pub returns-clause-heards : goal.returns-clause-heards
returns-clause-heards c tiers h same number x = record {
  local = x.local;
  global = x.global;
  table = stays_heard (start_of tiers.table.now) c.args.self.now.number (pass_list c.args.self.now.passes.table) (pass_list c.join.new.pass) h.table
      (subst (λ n. Extends n (pass_list c.args.self.now.passes.table) (pass_list c.join.new.pass)) number c.join.ensures.list) x.table;
}

pub returns-clause-knows : goal.returns-clause-knows
returns-clause-knows c call kids k = subst (λ (l : List Entry). KnowsBy (start_of c.args.table.now) l call kids) c.join.ensures.note.1 (stay_known (start_of c.args.table.now) call kids _ c.join.ensures.note.0 k)
