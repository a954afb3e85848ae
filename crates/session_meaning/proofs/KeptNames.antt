-- A call keeps its name, whatever events follow.
use Rattle.std.proofs.Common.{◌≡◌, ℕ, List, [], ◌∷◌, ◌++◌, Some, refl, sym, ap, ◌∙◌, slice_get, subst}
use Rattle.std.specs.Prelude.{fold}
use Rattle.faaslet_meaning.specs.declared.call.CallRecord.{CallRecord}
use Rattle.session_meaning.specs.declared.event.Event.{Event}
use Rattle.session_meaning.specs.Plan.{Plan}
use Rattle.session_meaning.specs.World.{World, first_world}
use Rattle.session_meaning.specs.Events.{step, Worlds}
use Rattle.session_meaning.specs.CallNames.{call_name}
use Rattle.session_meaning.proofs.TableKeeps.{events_keep}
use Rattle.session_meaning.proofs.Later.{Later, later_as, later_keeps}
use Rattle.session_meaning.proofs.Family.{world_family}
use Rattle.session_meaning.proofs.DistinctCalls.{name_later}

fold_on : (plan : Plan) (w : World) (es more : List Event) → fold (step plan) w (es ++ more) ≡ fold (step plan) (fold (step plan) w es) more
fold_on plan w [] more = refl
fold_on plan w (e ∷ es) more = fold_on plan (step plan w e) es more

pub calls_keep_names : (plan : Plan) (es more : List Event) (w v : World) (call : ℕ) (r : CallRecord) → Worlds plan es w → Worlds plan (es ++ more) v → slice_get w.table.records call ≡ Some r → call_name plan v.table.records call ≡ call_name plan w.table.records call
calls_keep_names plan es more w v call r made after e =
    let on : v ≡ fold (step plan) w more = after.world_so ∙ fold_on plan (first_world plan) es more ∙ ap (λ u. fold (step plan) u more) (sym made.world_so) in
    let later = events_keep (Later w.table.records) (later_keeps w.table.records) plan w more (later_as w.table.records) in
    name_later plan w.table.records v.table.records call r (world_family plan es w made) (subst (λ u. Later w.table.records u.table.records) (sym on) later) e
