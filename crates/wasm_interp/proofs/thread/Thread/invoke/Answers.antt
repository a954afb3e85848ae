-- A call goes to the host or into a body, as the function says.
use Rattle.std.proofs.Common.{◌∙◌, sym, subst}
use Rattle.faaslet_meaning.specs.Configuration.{Next, hosted, defined}
use Rattle.faaslet_meaning.specs.ControlRules.{call}
use Rattle.wasm_interp.specs.declared.machine.Stage.TheVariants as stage
use Rattle.wasm_interp.specs.Callees.{CalleeIs}
use Rattle.wasm_interp.specs.HostStops.{Asked}
use Rattle.wasm_interp.specs.Stands.{Follows}
use Rattle.wasm_interp.specs.StandsFor.{StageStands}
use Rattle.wasm_interp.proofs.Calling.{calls_of, calls_host, calls_own, goes_on, is_over, is_asked, is_ended}
use Rattle.wasm_interp.proofs.thread.Thread.invoke.Goals as goal

pub find_function-requires-clause-there : goal.find_function-requires-clause-there
find_function-requires-clause-there c =
    let (grants, (memory, d, s, ok)) = c.requires.ready in
    let k = calls_of c.args.code.now grants d c.args.f ok in
    (k.function, k.at)

pub host_call-requires : goal.host_call-requires
host_call-requires c =
    let (grants, (memory, d, s, ok)) = c.requires.ready in
    let k = calls_of c.args.code.now grants d c.args.f ok in
    let h = calls_host d k.function c.in-Host.number c.in-Host.params (subst (λ x. CalleeIs k.function x) c.in-Host.is (c.find_function.ensures k.function k.at)) in
    (h.type, h.params_are, (memory, d, s, λ e. ok (k.is ∙ h.is ∙ e)))

pub enter_body-requires : goal.enter_body-requires
enter_body-requires c =
    let (grants, (memory, d, s, ok)) = c.requires.ready in
    let k = calls_of c.args.code.now grants d c.args.f ok in
    let h = calls_own d k.function c.in-Own.own (subst (λ x. CalleeIs k.function x) c.in-Own.is (c.find_function.ensures k.function k.at)) in
    (h.type, h.body, h.is_own.params, (memory, d, s, λ e. ok (k.is ∙ h.is ∙ e)))

pub returns-in-Ok-clause-done : goal.returns-in-Ok-clause-done
returns-in-Ok-clause-done c grants memory d s ok =
    let k = calls_of c.args.code.now grants d c.args.f ok in
    let h = calls_host d k.function c.in-Host.number c.in-Host.params (subst (λ x. CalleeIs k.function x) c.in-Host.is (c.find_function.ensures k.function k.at)) in
    let next : Next = call d (hosted c.in-Host.number h.type) in
    let done = c.host_call.ensures.done memory d h.type s h.params_are (λ e. ok (k.is ∙ h.is ∙ e)) in
    subst (λ (n : Next). StageStands memory c.host_call.new.self (stage.Host c.in-Ok.ask) n) (sym (k.is ∙ h.is)) (is_asked memory c.host_call.new.self next c.in-Ok.ask (subst (λ r. Asked memory c.host_call.new.self next r) c.in-Ok.is done))

pub returns-in-Err-clause-done : goal.returns-in-Err-clause-done
returns-in-Err-clause-done c grants memory d s ok =
    let k = calls_of c.args.code.now grants d c.args.f ok in
    let h = calls_host d k.function c.in-Host.number c.in-Host.params (subst (λ x. CalleeIs k.function x) c.in-Host.is (c.find_function.ensures k.function k.at)) in
    let next : Next = call d (hosted c.in-Host.number h.type) in
    let done = c.host_call.ensures.done memory d h.type s h.params_are (λ e. ok (k.is ∙ h.is ∙ e)) in
    subst (λ (n : Next). StageStands memory c.host_call.new.self (stage.Over c.in-Err.outcome) n) (sym (k.is ∙ h.is)) (is_ended memory c.host_call.new.self next c.in-Err.outcome (subst (λ r. Asked memory c.host_call.new.self next r) c.in-Err.is done))

pub returns-in-None-clause-done : goal.returns-in-None-clause-done
returns-in-None-clause-done c grants memory d s ok =
    let o = c.in-Own.own in
    let k = calls_of c.args.code.now grants d c.args.f ok in
    let h = calls_own d k.function o (subst (λ x. CalleeIs k.function x) c.in-Own.is (c.find_function.ensures k.function k.at)) in
    let next : Next = call d (defined h.type o.locals h.body) in
    let done = c.enter_body.ensures.done memory d h.type h.body s h.is_own.params h.is_own.results h.is_own.few h.is_own.whole h.is_own.fit (λ e. ok (k.is ∙ h.is ∙ e)) in
    subst (λ (n : Next). StageStands memory c.enter_body.new.self stage.Runs n) (sym (k.is ∙ h.is)) (goes_on memory c.enter_body.new.self next (subst (λ r. Follows memory c.enter_body.new.self next r) c.in-None.is done))

pub returns-in-Some-clause-done : goal.returns-in-Some-clause-done
returns-in-Some-clause-done c grants memory d s ok =
    let o = c.in-Own.own in
    let k = calls_of c.args.code.now grants d c.args.f ok in
    let h = calls_own d k.function o (subst (λ x. CalleeIs k.function x) c.in-Own.is (c.find_function.ensures k.function k.at)) in
    let next : Next = call d (defined h.type o.locals h.body) in
    let done = c.enter_body.ensures.done memory d h.type h.body s h.is_own.params h.is_own.results h.is_own.few h.is_own.whole h.is_own.fit (λ e. ok (k.is ∙ h.is ∙ e)) in
    subst (λ (n : Next). StageStands memory c.enter_body.new.self (stage.Over c.in-Some.outcome) n) (sym (k.is ∙ h.is)) (is_over memory c.enter_body.new.self next c.in-Some.outcome (subst (λ r. Follows memory c.enter_body.new.self next r) c.in-Some.is done))
