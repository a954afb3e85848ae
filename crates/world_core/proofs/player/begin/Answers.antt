use Rattle.std.proofs.Common.{◌∙◌, subst, sym}
use Rattle.faaslet_run.specs.Allowed.{AreGrants}
use Rattle.world_core.proofs.Starts.{are_grants, begins, function_there, grants_at, stands_first}
use Rattle.world_core.proofs.player.begin.Goals as goal

pub start-requires-clause-grants : goal.start-requires-clause-grants
start-requires-clause-grants c =
    let plan = c.args.protos.now in
    let d = c.registry-registry.result.now in
    let n = c.args.job.function in
    let g = function_there plan n c.requires.function in
    subst AreGrants (sym (c.grants_of-grants.ensures ∙ grants_at plan d c.registry-registry.ensures.plan n g.0 g.1)) (are_grants plan n g.0 c.registry-registry.ensures.formed g.1)

pub next-requires : goal.next-requires
next-requires c =
    let plan = c.args.protos.now in
    let d = c.registry-registry.result.now in
    let g = function_there plan c.args.job.function c.requires.function in
    let at = stands_first plan d c.registry-registry.ensures.plan c.args.job c.in-Ok.proto.now c.in-Ok.ensures.ready c.requires.job c.args.faaslet.now.input c.start.new.self g.0 g.1
    (λ h m for grants callees room e. c.start.ensures.started h m for (grants ∙ sym c.grants_of-grants.ensures) (callees ∙ sym c.callees_of-callees.ensures) room e) in
    (_, _, _, _, at)

pub returns-in-Ok : goal.returns-in-Ok
returns-in-Ok c g host there =
    let plan = c.args.protos.now in
    let d = c.registry-registry.result.now in
    let at = stands_first plan d c.registry-registry.ensures.plan c.args.job c.in-Ok.proto.now c.in-Ok.ensures.ready c.requires.job c.args.faaslet.now.input c.start.new.self g there
    (λ h m for grants callees room e. c.start.ensures.started h m for (grants ∙ sym c.grants_of-grants.ensures) (callees ∙ sym c.callees_of-callees.ensures) room e) in
    begins plan d c.registry-registry.ensures.plan c.args.job c.in-Ok.proto.now c.in-Ok.ensures.ready c.requires.job c.args.faaslet.now.input c.start.new.self g there host c.next.new.self c.next.result
    (c.next.ensures.tells _ _ _ _ at tt)
