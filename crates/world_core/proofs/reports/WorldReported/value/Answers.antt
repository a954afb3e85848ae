-- There is a global value for each key.
use Rattle.std.proofs.Common.{◌<◌, length, slice_get, refl, sym, ap, ◌∙◌, subst}
use Rattle.std.specs.Option.{IsSome}
use Rattle.session_meaning.specs.SessionReport.{values}
use Rattle.world_core.specs.Living.{world_of}
use Rattle.world_core.specs.Whole.{world_after}
use Rattle.world_core.proofs.Readers.{global_there, value_so, value_there}
use Rattle.world_core.proofs.reports.WorldReported.value.Goals as goal

pub value-requires : goal.value-requires
value-requires c =
    let r = c.self.inside.running in
    let s = c.self.invariant.settling in
    let x = global_there r s c.args.key (subst (λ v. c.args.key < length v.plan.keys) (sym c.self.view_is) c.requires) in
    subst IsSome (sym (value_there (world_of r) r.objects c.args.key x.0 s.keeps.objects x.1)) refl

pub returns : goal.returns
returns c =
    let r = c.self.inside.running in
    let s = c.self.invariant.settling in
    let x = global_there r s c.args.key (subst (λ v. c.args.key < length v.plan.keys) (sym c.self.view_is) c.requires) in
    ap (λ v. slice_get (values (world_after v)) c.args.key) (sym c.self.view_is) ∙ value_so (world_of r) r.objects c.args.key x.0 c.value.result.now s.keeps.objects x.1 c.value.ensures
