-- A store begun piece by piece is the store of the definition.
use Rattle.std.proofs.Common.{◌≡◌, ◌∙◌, ap, sym, true}
use Rattle.faaslet_meaning.specs.declared.grant.Mode.TheVariants.{Write as write_mode}
use Rattle.faaslet_meaning.specs.Memory.{shared_pieces}
use Rattle.faaslet_meaning.specs.MemoryRules.{all_granted}
use Rattle.faaslet_meaning.specs.Configuration.{Program}
use Rattle.wasm_interp.proofs.AccessSteps.{store_begins}
use Rattle.wasm_interp.proofs.machine.Machine.store_slowly.Goals as goal

pub returns-then-may_write-clause-done : goal.returns-then-may_write-clause-done
returns-then-may_write-clause-done g c p d l s h =
    let m = c.args.self.now in
    let memory = g.M.Linear.memory m.memory in
    let new = c.write_rest.new.self in
    let same = ap (λ (q : Program). q.grants) l.program_is in
    let granted : all_granted p.grants write_mode (shared_pieces memory c.args.addr c.args.size) ≡ true =
    ap (λ gs. all_granted gs write_mode (shared_pieces memory c.args.addr c.args.size)) same ∙ sym (c.may_write.ensures l.grants l.agrees) ∙ c.if-may_write.true in
    store_begins memory (g.M.Linear.memory new.memory) m.thread new.thread new.stage p d c.args.addr c.args.size c.args.value s c.in-Ok.ensures.inside granted (c.write_rest.ensures.done d s h)
