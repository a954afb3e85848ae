-- `memory.grow` grows exactly where the definition lets it.
use Rattle.std.proofs.Common.{◌∷◌, ◌∙◌, ap, drop}
use Rattle.wasm_interp.proofs.AccessSteps.{grow_done, grow_refused}
use Rattle.wasm_interp.proofs.machine.Machine.memory_grow.Goals as goal

pub returns-in-Ok-clause-done : goal.returns-in-Ok-clause-done
returns-in-Ok-clause-done g c p d l s ok =
    let m = c.args.self.now in
    let e = c.in-Ok.ensures in
    grow_done (g.M.Linear.memory m.memory) (g.M.Linear.memory c.grow.new.self) m.thread d p c.get.result c.most_pages-most.result c.replace.new.self m.stage s c.requires.runs ok c.get.ensures (c.most_pages-most.ensures p l) e.grown.0 e.grown.1
    (c.replace.ensures ∙ ap (λ k. k ∷ drop 1 m.thread.values) (c.from.ensures ∙ e.old))

pub returns-in-Err-clause-done : goal.returns-in-Err-clause-done
returns-in-Err-clause-done g c p d l s ok =
    let m = c.args.self.now in
    let e = c.in-Err.ensures in
    grow_refused (g.M.Linear.memory m.memory) (g.M.Linear.memory c.grow.new.self) m.thread d p c.get.result c.most_pages-most.result c.replace-in-Err.new.self m.stage s c.requires.runs ok c.get.ensures (c.most_pages-most.ensures p l) e.full.0 e.full.1 c.replace-in-Err.ensures
