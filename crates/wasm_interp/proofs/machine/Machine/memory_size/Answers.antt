-- `memory.size` answers the pages of the memory.
use Rattle.std.proofs.Common.{◌≡◌, ◌∙◌, ap, subst}
use Rattle.faaslet_meaning.specs.Limits.{push}
use Rattle.faaslet_meaning.specs.Memory.{Memory, pages_of}
use Rattle.faaslet_meaning.specs.MemoryRules.{memory_size}
use Rattle.wasm_interp.specs.Stands.{Follows}
use Rattle.wasm_interp.proofs.AccessSteps.{put_over, put_still}
use Rattle.wasm_interp.proofs.machine.Machine.memory_size.Goals as goal

pub returns-in-Some-clause-done : goal.returns-in-Some-clause-done
returns-in-Some-clause-done g c p d l s ok =
    let memory = g.M.Linear.memory c.args.self.now.memory in
    let v : c.from.result ≡ pages_of d.memory.segments = c.from.ensures ∙ c.pages-pages.ensures.count ∙ ap (λ (m : Memory). pages_of m.segments) s.kept.memory_is in
    put_over memory c.put.new.self (memory_size d) c.put.result c.in-Some.outcome c.in-Some.is (subst (λ k. Follows memory c.put.new.self (push d k) c.put.result) v (c.put.ensures.done memory d s))

pub returns-in_default-clause-done : goal.returns-in_default-clause-done
returns-in_default-clause-done g c p d l s ok =
    let memory = g.M.Linear.memory c.args.self.now.memory in
    let v : c.from.result ≡ pages_of d.memory.segments = c.from.ensures ∙ c.pages-pages.ensures.count ∙ ap (λ (m : Memory). pages_of m.segments) s.kept.memory_is in
    put_still memory c.put.new.self (memory_size d) c.put.result c.args.self.now.stage c.in_default.is c.requires.runs (subst (λ k. Follows memory c.put.new.self (push d k) c.put.result) v (c.put.ensures.done memory d s))
