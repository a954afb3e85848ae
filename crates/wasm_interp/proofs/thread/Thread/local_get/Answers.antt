-- `local.get` pushes the local of its number.
use Rattle.std.proofs.Common.{rules, ◌+◌, ◌<◌, length, sym, ◌∙◌}
use Rattle.wasm_interp.proofs.LocalSteps.{local_there, local_within, local_is, get_follows}
use Rattle.wasm_interp.proofs.thread.Thread.local_get.Goals as goal

pub overflow_add-self : goal.overflow_add-self
overflow_add-self c =
    let (memory, d, s, ok) = c.requires.1 in
    let lt : c.args.self.now.here.base + c.args.k < length c.args.self.now.values = local_within memory c.args.self.now d c.args.k s (local_there d c.args.k ok) in
    search rules

pub at-v-requires : goal.at-v-requires
at-v-requires c =
    let (memory, d, s, ok) = c.requires.1 in
    local_within memory c.args.self.now d c.args.k s (local_there d c.args.k ok)

pub returns-clause-done : goal.returns-clause-done
returns-clause-done c p memory d s ok =
    let lt = local_there d c.args.k ok in
    get_follows memory d c.at-v.result _ c.put.new.self c.put.result (sym (local_is memory c.args.self.now d c.args.k s lt) ∙ c.at-v.ensures) (c.put.ensures.done memory d s)
