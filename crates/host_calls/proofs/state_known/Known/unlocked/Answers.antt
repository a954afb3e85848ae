use Rattle.std.proofs.Common.{◌≡◌, true, sym, subst}
use Rattle.faaslet_meaning.specs.Checks.{holds}
use Rattle.faaslet_meaning.specs.CallState.{without_lock}
use Rattle.host_calls.specs.Known.{lock_of, tier_of, KeepsOf}
use Rattle.host_calls.proofs.Keeping.{keeps_unlocked}
use Rattle.host_calls.proofs.state_known.Known.unlocked.Goals as goal

pub returns-clause-keeps : goal.returns-clause-keeps
returns-clause-keeps c s keeps few held =
    let k = c.args.place in
    let t = c.named-tier.result in
    let r = keeps_unlocked c.args.self.now s.present s.mapped s.locks t k few (subst (λ u. holds s (tier_of u) k ≡ true) (sym c.named-tier.ensures) held) keeps in
    subst (λ u. KeepsOf c.unlock.new.self (without_lock s (lock_of u k))) c.named-tier.ensures (subst (λ y. KeepsOf y (without_lock s (lock_of t k))) (sym c.unlock.ensures) r)
