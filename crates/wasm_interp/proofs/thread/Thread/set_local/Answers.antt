-- A local of the frame is the value so far above its base.
use Rattle.std.proofs.Common.{rules, ◌+◌, ◌<◌, length}
use Rattle.wasm_interp.proofs.LocalSteps.{set_there, local_within, set_follows}
use Rattle.wasm_interp.proofs.thread.Thread.set_local.Goals as goal

pub overflow_add-self : goal.overflow_add-self
overflow_add-self c =
    let (memory, d, s, ok) = c.requires in
    let lt : c.args.self.now.here.base + c.args.k < length c.args.self.now.values = local_within memory c.args.self.now d c.args.k s (set_there d c.args.k c.args.v ok) in
    search rules

pub set_at-requires : goal.set_at-requires
set_at-requires c =
    let (memory, d, s, ok) = c.requires in
    local_within memory c.args.self.now d c.args.k s (set_there d c.args.k c.args.v ok)

pub returns-clause-done : goal.returns-clause-done
returns-clause-done c memory d s ok = set_follows memory c.args.self.now d c.args.k c.args.v c.set_at.new.self c.set_at.ensures s ok
