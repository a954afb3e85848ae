use Rattle.std.proofs.Common.{arith, rules, sym}
use Rattle.session_meaning.specs.WellFormed.{pages}
use Rattle.grant_registry.proofs.Sums.{sum_at}
use Rattle.grant_registry.proofs.registry.Registry.state_pages.Goals as goal

pub loop-k-preserved : goal.loop-k-preserved
loop-k-preserved c =
    let more = sum_at (λ k. k.size) pages c.args.self.now.keys c.loop-k.k (omega (arith, c.loop-k-test.true, c.keys-k-end.ensures.value)) in
    record { so_far = rw (c.loop-k.invariant.so_far, c.size_of.ensures) (sym more); small = search rules }
