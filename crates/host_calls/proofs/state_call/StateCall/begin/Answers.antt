use Rattle.std.proofs.Common.{◌≡◌, None, length, ap, ◌∙◌, sym, subst}
use Rattle.faaslet_meaning.specs.Fine.{has_result}
use Rattle.host_calls.specs.CallHosts.{HasShort}
use Rattle.host_calls.specs.Known.{kept}
use Rattle.host_calls.specs.Reads.{size_of}
use Rattle.host_calls.specs.StateHosts.{refusal_of}
use Rattle.host_calls.specs.States.{stage_of, IsBegun, IsFresh, gives_result}
use Rattle.host_calls.proofs.StateHosts.{refuses, begins, passed, is_fresh, gives_is}
use Rattle.host_calls.proofs.state_call.StateCall.begin.Goals as goal

pub returns-in-Some-clause-trap : goal.returns-in-Some-clause-trap
returns-in-Some-clause-trap c j s h a g k =
    let host = c.of-host.result in
    let known = c.args.known.now in
    refuses j s c.args.grants.now known host h c.in-Some.trap k g c.requires.few (c.of-host.ensures h a) (ap (λ gs. refusal_of gs known host) (sym c.as_slice-list.ensures) ∙ sym c.refusal.ensures ∙ c.in-Some.is)

pub returns-in-None-clause-begun : goal.returns-in-None-clause-begun
returns-in-None-clause-begun c j s h a g k =
    let host = c.of-host.result in
    let known = c.args.known.now in
    let none : refusal_of c.args.grants.now known host ≡ None = ap (λ gs. refusal_of gs known host) (sym c.as_slice-list.ensures) ∙ sym c.refusal.ensures ∙ c.in-None.is in
    subst (λ t. IsBegun t j s h) (sym (c.at-stage.ensures ∙ ap (λ gs. stage_of gs known host) c.as_slice-list.ensures)) (begins j s c.args.grants.now known host h k g c.requires.few (c.of-host.ensures h a) none)

pub returns-in-None-clause-fresh : goal.returns-in-None-clause-fresh
returns-in-None-clause-fresh c =
    let host = c.of-host.result in
    let known = c.args.known.now in
    let (h, asks, short) = c.requires.asked in
    let none : refusal_of c.args.grants.now known host ≡ None = ap (λ gs. refusal_of gs known host) (sym c.as_slice-list.ensures) ∙ sym c.refusal.ensures ∙ c.in-None.is in
    let p = passed c.args.grants.now known host.place host.kind none in
    let f = is_fresh c.args.grants.now known host.place (size_of c.args.grants.now host.place) host.kind (subst HasShort (c.of-host.ensures h asks) short) p in
    subst (λ t. IsFresh t (length c.args.grants.now) known) (sym (c.at-stage.ensures ∙ ap (λ gs. stage_of gs known host) c.as_slice-list.ensures)) f

pub returns-in-None-clause-gives : goal.returns-in-None-clause-gives
returns-in-None-clause-gives c h a =
    let host = c.of-host.result in
    ap gives_result c.at-stage.ensures ∙ gives_is host.place (size_of c.as_slice-list.result.now host.place) (kept c.args.known.now host.place).address host.kind ∙ ap has_result (sym (c.of-host.ensures h a))
