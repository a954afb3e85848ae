use Rattle.std.proofs.Common.{◌≡◌, Ok, List, ℕ, rules, sym, subst}
use Rattle.session_meaning.specs.Plan.{Request}
use Rattle.session_meaning.specs.Draft.{with_request}
use Rattle.session_meaning.specs.Registry as registry
use Rattle.session_meaning.specs.WellFormed.{KeepsLimits}
use Rattle.session_meaning.proofs.KeptLimits.{keeps_request}
use Rattle.grant_registry.proofs.registry.Registry.add_request.Goals as goal

pub push_request-requires-clause-keeps : goal.push_request-requires-clause-keeps
push_request-requires-clause-keeps c =
    let d = c.args.self.now in
    let made : List ℕ → Request = λ input. record { label = c.args.label.now; function = c.in-Some.function; host = c.args.host; input = input } in
    let ok : registry.add_request d c.args.label.now c.args.function.now c.args.host c.args.input.now ≡ Ok (with_request d (made c.args.input.now)) = search rules in
    let same : c.of-input.result ≡ c.args.input.now = search rules in
    λ kept. subst (λ i. KeepsLimits (with_request d (made i))) (sym same) (keeps_request d (with_request d (made c.args.input.now)) c.args.label.now c.args.function.now c.args.host c.args.input.now kept ok).limits
