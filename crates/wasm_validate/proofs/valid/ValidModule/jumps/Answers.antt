use Rattle.wasm_validate.proofs.JumpTables.{table_at}
use Rattle.wasm_validate.proofs.valid.ValidModule.jumps.Goals as goal

pub returns : goal.returns
returns c = table_at c.self.inside.module c.args.self.now c.self.inside.tables.items c.self.inside.counts.items c.args.body c.index.result.now c.self.view_is c.self.invariant c.requires c.index.ensures
