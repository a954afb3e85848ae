use Rattle.std.proofs.Common.{length, ap, arith, subst, sym}
use Rattle.std.specs.Prelude.{IfSome, slice_get}
use Rattle.protos.proofs.Plans.{as_many, kept_at}
use Rattle.protos.specs.Keeps.{Keeps}
use Rattle.protos.specs.declared.kept.Kept.{Kept}
use Rattle.protos.proofs.protos.Protos.proto.Goals as goal

pub index-requires : goal.index-requires
index-requires c =
    let d = c.self.inside.registry.now in
    let many = as_many d c.self.invariant.modules in
    let same = ap (λ p. length p.functions) c.self.view_is in
    let long = c.self.invariant.long in
    let within = c.requires in
    omega (arith, many, same, long, within)

pub returns-in-Ready-clause-ready : goal.returns-in-Ready-clause-ready
returns-in-Ready-clause-ready c =
    let keeps = kept_at c.self.inside.registry.now c.args.self.now c.self.inside.kept.items c.args.f c.index.result.now c.self.invariant c.self.view_is c.requires (sym c.index.ensures) in
    subst (λ (k : Kept). IfSome (slice_get c.args.self.now.functions c.args.f) (λ g. Keeps g.function k)) c.in-Ready.is keeps

pub returns-in-Broken-clause-broken : goal.returns-in-Broken-clause-broken
returns-in-Broken-clause-broken c =
    let keeps = kept_at c.self.inside.registry.now c.args.self.now c.self.inside.kept.items c.args.f c.index.result.now c.self.invariant c.self.view_is c.requires (sym c.index.ensures) in
    subst (λ (k : Kept). IfSome (slice_get c.args.self.now.functions c.args.f) (λ g. Keeps g.function k)) c.in-Broken.is keeps
