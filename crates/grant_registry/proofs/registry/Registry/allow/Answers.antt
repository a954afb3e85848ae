use Rattle.std.proofs.Common.{◌≡◌, Ok, rules}
use Rattle.session_meaning.specs.Draft.{with_callee}
use Rattle.session_meaning.specs.Registry as registry
use Rattle.session_meaning.proofs.KeptLimits.{keeps_callee}
use Rattle.grant_registry.proofs.registry.Registry.allow.Goals as goal

pub push_callee-requires-clause-keeps : goal.push_callee-requires-clause-keeps
push_callee-requires-clause-keeps c =
    let d = c.args.self.now in
    let ok : registry.allow d c.args.f c.args.callee.now ≡ Ok (with_callee d c.args.f c.in-Some.callee) = search rules in
    λ kept. (keeps_callee d (with_callee d c.args.f c.in-Some.callee) c.args.f c.args.callee.now kept ok).limits
