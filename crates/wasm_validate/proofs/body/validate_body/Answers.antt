use Rattle.std.proofs.Common.{◌≡◌, Option, None, Err}
use Rattle.std.specs.Result.{IsErrOf}
use Rattle.wasm_validate.specs.declared.fault.Fault.{Fault}
use Rattle.wasm_validate.specs.declared.fault.Fault.TheVariants.{Invalid, Want}
use Rattle.wasm_validate.specs.Gives.{Fails}
use Rattle.wasm_validate.proofs.Whole.{begun, typed_from, untyped_run, untyped_open}
use Rattle.wasm_validate.proofs.body.validate_body.Goals as goal

failed : {X : Type 0} (fault : Fault) (o : Option X) → IsErrOf {T = Unit {0}} (Err fault) Invalid → Fails fault o → o ≡ None
failed Invalid o is f = f
failed Want o is f = let never : ⊥ = cc in absurd never

pub returns-then-is_closed-clause-typed : goal.returns-then-is_closed-clause-typed
returns-then-is_closed-clause-typed c =
    let e = begun c.leaves.result c.new-blocks.result c.open.new.self c.in_ok-open.ensures c.new-blocks.ensures in
    typed_from c.args.scope.now c.leaves.result c.args.code.now c.open.new.self c.run.new.blocks c.leaves.ensures e c.in-Ok.ensures (c.is_closed.ensures.0 c.if-is_closed.true)

pub returns-in-Ok-clause-untyped : goal.returns-in-Ok-clause-untyped
returns-in-Ok-clause-untyped c =
    let e = begun c.leaves.result c.new-blocks.result c.open.new.self c.in_ok-open.ensures c.new-blocks.ensures in
    let f = c.if-is_closed.false in
    λ _. untyped_open c.args.scope.now c.leaves.result c.args.code.now c.open.new.self c.run.new.blocks c.leaves.ensures e c.in-Ok.ensures (λ n. let t = c.is_closed.ensures.1 n in let never : ⊥ = cc (t, f) in never)

pub returns-clause-untyped : goal.returns-clause-untyped
returns-clause-untyped c =
    let e = begun c.leaves.result c.new-blocks.result c.open.new.self c.in_ok-open.ensures c.new-blocks.ensures in
    λ is. untyped_run c.args.scope.now c.leaves.result c.args.code.now c.open.new.self c.leaves.ensures e (failed c.in-Err.fault _ is c.in-Err.ensures)
