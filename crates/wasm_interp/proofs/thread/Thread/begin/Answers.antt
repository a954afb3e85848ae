-- A thread that has begun stands for the configuration about to run the entry.
use Rattle.std.proofs.Common.{◌≡◌, ◌∙◌, ◌++◌, List, ℕ, Option, [], ap, refl}
use Rattle.std.specs.Prelude.{replicate}
use Rattle.wasm_interp.specs.Cells.{Held}
use Rattle.wasm_interp.proofs.Beginning.{begins, drop_all}
use Rattle.wasm_interp.proofs.thread.Thread.begin.Goals as goal

pub returns-clause-stands : goal.returns-clause-stands
returns-clause-stands c memory t body none is =
    let self = c.args.self.now in
    let o = c.args.own in
    let values : c.put_zeros.new.self ≡ replicate o.locals 0 ++ [] =
    c.put_zeros.ensures ∙ ap (λ (l : List ℕ). replicate o.locals 0 ++ l) (c.cut.ensures ∙ drop_all self.values c.len.result c.len.ensures) in
    begins memory (record {
      values = c.put_zeros.new.self;
      labels = c.cut-2.new.self;
      frames = c.cut-3.new.self;
      here = record { code = o.code; jumps = o.jumps; pc = 0; base = 0; height = o.locals; depth = 0; arity = o.results };
      globals = c.fill.new.self;
      table = c.fill-2.new.self;
      fuel = c.args.fuel;
    }) o t body c.args.globals.now c.args.table.now c.args.fuel values
    (c.cut-2.ensures ∙ drop_all self.labels c.len-2.result c.len-2.ensures) (c.cut-3.ensures ∙ drop_all self.frames c.len-3.result c.len-3.ensures)
    refl refl refl refl refl refl refl (ap (λ (h : Held ℕ). h.items) c.fill.ensures) (ap (λ (h : Held (Option ℕ)). h.items) c.fill-2.ensures) refl none is
