use Rattle.std.proofs.Common.{◌∙◌, ap, sym, subst}
use Rattle.faaslet_meaning.specs.Fine.{has_result}
use Rattle.host_calls.specs.CallHosts.{HasShort}
use Rattle.host_calls.specs.Calls.{IsBegun, IsFresh, HasInput, gives_result}
use Rattle.host_calls.proofs.Hosts.{refuses, begins, is_fresh, has_input, gives_is}
use Rattle.host_calls.proofs.call_call.CallCall.begin.Goals as goal

pub returns-in-Some-clause-trap : goal.returns-in-Some-clause-trap
returns-in-Some-clause-trap c j s h a k =
    refuses j s c.args.known.now _ c.of-host.result h c.in-Some.trap k (c.of-host.ensures h a) (sym c.refusal.ensures ∙ c.in-Some.is)

pub returns-in-None-clause-begun : goal.returns-in-None-clause-begun
returns-in-None-clause-begun c j s h a k =
    subst (λ t. IsBegun t j s h) (sym c.of.ensures) (begins j s c.args.known.now _ c.of-host.result h k (c.of-host.ensures h a) (sym c.refusal.ensures ∙ c.in-None.is))

pub returns-in-None-clause-fresh : goal.returns-in-None-clause-fresh
returns-in-None-clause-fresh c =
    let (h, asks, short) = c.requires.asked in
    subst IsFresh (sym c.of.ensures) (is_fresh c.args.known.now c.args.input_len c.of-host.result (subst HasShort (c.of-host.ensures h asks) short))

pub returns-in-None-clause-input : goal.returns-in-None-clause-input
returns-in-None-clause-input c input n =
    subst (λ t. HasInput t input) (sym c.of.ensures) (has_input c.args.known.now _ c.of-host.result input (sym c.refusal.ensures ∙ c.in-None.is) n)

pub returns-in-None-clause-gives : goal.returns-in-None-clause-gives
returns-in-None-clause-gives c h a =
    ap gives_result c.of.ensures ∙ gives_is c.args.known.now c.args.input_len c.of-host.result ∙ ap has_result (sym (c.of-host.ensures h a))
