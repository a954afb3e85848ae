use Rattle.std.proofs.Common.{◌≡◌, length, arith}
use Rattle.protos.proofs.Plans.{is_plan, keeps_all, keeps_more}
use Rattle.protos.proofs.protos.Protos.build.Goals as goal

pub invariant_of-result : goal.invariant_of-result
invariant_of-result c =
    let all : c.loop-f.f ≡ length c.args.registry.now.functions = omega arith in
    keeps_all c.args.registry.now c.loop-f.f c.loop-f.kept.items c.requires.formed c.requires.modules all c.loop-f.invariant

pub loop-f-preserved : goal.loop-f-preserved
loop-f-preserved c =
    rw c.in_ok-push.ensures.items (keeps_more c.args.registry.now c.loop-f.f c.loop-f.kept.items c.in_ok-keep.field-0 c.loop-f.invariant c.in_ok-keep.ensures)

pub returns : goal.returns
returns c = is_plan c.args.registry.now c.requires.modules
