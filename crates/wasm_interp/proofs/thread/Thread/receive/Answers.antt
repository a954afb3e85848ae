-- The results of a callee or a host call come onto the values.
use Rattle.std.proofs.Common.{ℕ, sym, subst, Ok}
use Rattle.std.specs.Prelude.{Option}
use Rattle.faaslet_meaning.specs.Configuration.{Next}
use Rattle.faaslet_meaning.specs.Limits.{push}
use Rattle.faaslet_meaning.specs.Step.{finished}
use Rattle.wasm_interp.specs.declared.machine.Stage.TheVariants as stage
use Rattle.wasm_interp.specs.Stands.{Follows}
use Rattle.wasm_interp.specs.StandsFor.{StageStands}
use Rattle.wasm_interp.proofs.Calling.{goes_on, is_over}
use Rattle.wasm_interp.proofs.thread.Thread.receive.Goals as goal

pub returns-in-None-clause-done : goal.returns-in-None-clause-done
returns-in-None-clause-done c memory d s =
    let next : Next = push d c.in-Some.v in
    let done = subst (λ r. Follows memory c.put.new.self next r) c.in-None.is (c.put.ensures.done memory d s) in
    subst (λ (o : Option ℕ). StageStands memory c.put.new.self stage.Runs (finished d (Ok o))) (sym c.in-Some.is) (goes_on memory c.put.new.self next done)

pub returns-in-Some-put-clause-done : goal.returns-in-Some-put-clause-done
returns-in-Some-put-clause-done c memory d s =
    let next : Next = push d c.in-Some.v in
    let done = subst (λ r. Follows memory c.put.new.self next r) c.in-Some-put.is (c.put.ensures.done memory d s) in
    subst (λ (o : Option ℕ). StageStands memory c.put.new.self (stage.Over c.in-Some-put.outcome) (finished d (Ok o))) (sym c.in-Some.is) (is_over memory c.put.new.self next c.in-Some-put.outcome done)
