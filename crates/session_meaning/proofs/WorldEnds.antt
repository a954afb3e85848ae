-- What holds of a world and of what is kept of it: its records fit, what its open calls ask is kept with them, and a request is kept
-- where its call is.
use Rattle.std.proofs.Common.{List, sym, ap, ◌∙◌, subst}
use Rattle.session_meaning.specs.declared.event.Event.{Event}
use Rattle.session_meaning.specs.Plan.{Plan, Names, Closed}
use Rattle.session_meaning.specs.World.{World, first_world}
use Rattle.session_meaning.specs.Events.{Worlds}
use Rattle.session_meaning.specs.Cut.{part_of}
use Rattle.session_meaning.proofs.FoldedCut.{Ready}
use Rattle.session_meaning.proofs.TwoWorlds.{agrees_part, closed_by_names, first_inv}
use Rattle.session_meaning.proofs.WorldInvariants.{Inv, Agrees, ready}
use Rattle.session_meaning.proofs.CutSteps.{inv_end}
use Rattle.session_meaning.proofs.Paths.{RequestsKept}
use Rattle.session_meaning.proofs.Family.{world_family}
use Rattle.session_meaning.proofs.AsksGranted.{asks_granted}

pub end_inv : (plan : Plan) (functions keys : Names) (es : List Event) (w : World) → Closed plan functions keys → Worlds plan es w → Inv (part_of plan functions keys w) plan w
end_inv plan functions keys es w closed made =
    let part = part_of plan functions keys w in
    let agrees = subst (λ v. Agrees part v.table.records) made.world_so (agrees_part plan functions keys w) in
    subst (λ v. Inv part plan v) (sym made.world_so) (inv_end part plan (first_world plan) es asks_granted (closed_by_names plan functions keys closed) agrees (first_inv part plan))

pub end_ready : (plan : Plan) (functions keys : Names) (es : List Event) (w : World) → Closed plan functions keys → Worlds plan es w → Ready (part_of plan functions keys w) w
end_ready plan functions keys es w closed made =
    ready (part_of plan functions keys w) plan w asks_granted (closed_by_names plan functions keys closed) (agrees_part plan functions keys w) (end_inv plan functions keys es w closed made)

pub requests_kept : (plan : Plan) (functions keys : Names) (es : List Event) (w : World) → Worlds plan es w → RequestsKept (part_of plan functions keys w) (part_of plan functions keys w).calls plan.requests
requests_kept plan functions keys es w made n r e =
    let part = part_of plan functions keys w in
    let f = (world_family plan es w made).first n r e in
    ap part.functions (sym f.2) ∙ agrees_part plan functions keys w n f.0 f.1
