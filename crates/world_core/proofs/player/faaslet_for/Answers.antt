use Rattle.std.proofs.Common.{sym, ◌∙◌}
use Rattle.std.specs.Prelude.{IfSome, slice_get}
use Rattle.std.proofs.lemmas.Result.{IfOk-weaker}
use Rattle.faaslet_run.specs.Turns.{HasRooms}
use Rattle.world_core.specs.Played.{FitsFor}
use Rattle.world_core.proofs.Starts.{has_module, quota_fits, room_for}
use Rattle.world_core.proofs.player.faaslet_for.Goals as goal

pub unreachable-requires : goal.unreachable-requires
unreachable-requires c = has_module c.args.protos.now c.registry-registry.result.now c.args.function c.registry-registry.ensures.plan c.requires (sym c.in_default.ensures.value)

pub open-requires : goal.open-requires
open-requires c = quota_fits c.args.protos.now c.registry-registry.result.now c.args.function c.function_plan.result c.registry-registry.ensures.formed c.registry-registry.ensures.plan c.requires c.function_plan.ensures

pub returns : goal.returns
returns c =
    IfOk-weaker c.open.result (λ f. HasRooms f c.room_of.result c.function_plan.result.quota) (λ f. IfSome (slice_get c.args.protos.now.functions c.args.function) (λ g. FitsFor f g.function))
    (λ f rooms. room_for c.args.protos.now c.registry-registry.result.now c.args.function c.function_plan.result c.in-Some.module.now f c.registry-registry.ensures.plan (sym c.in-Some.ensures.value) c.function_plan.ensures (rooms.globals ∙ c.room_of.ensures.globals) (rooms.table ∙ c.room_of.ensures.table) rooms.pages_are)
    c.open.ensures
