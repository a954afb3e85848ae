use Rattle.std.proofs.Common.{◌≡◌, Ok, rules}
use Rattle.faaslet_meaning.specs.declared.grant.Grant.{Grant}
use Rattle.session_meaning.specs.Draft.{with_grant}
use Rattle.session_meaning.specs.Registry as registry
use Rattle.session_meaning.proofs.KeptLimits.{keeps_grant}
use Rattle.grant_registry.proofs.registry.Registry.grant.Goals as goal

pub push_grant-requires-clause-keeps : goal.push_grant-requires-clause-keeps
push_grant-requires-clause-keeps c =
    let d = c.args.self.now in
    let g : Grant = record { key = c.in-Some.key; size = c.size_of-size.result; mode = c.args.mode } in
    let ok : registry.grant d c.args.f c.args.key.now c.args.mode ≡ Ok (with_grant d c.args.f g) = search rules in
    λ kept. (keeps_grant d (with_grant d c.args.f g) c.args.f c.args.key.now c.args.mode kept ok).limits
