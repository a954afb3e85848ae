use Rattle.std.proofs.Common.{◌≡◌, ◌≤◌, ◌*◌, take, sum_by}
use Rattle.session_meaning.specs.WellFormed.{pages}
use Rattle.grant_registry.proofs.registry.Registry.state_pages.Given as goal

abbrev pub invariant-loop-k : goal.invariant-loop-k
invariant-loop-k l = record {
  so_far : l.sum ≡ sum_by (λ k. pages k.size) (take l.k l.self.keys);
  small : l.sum ≤ 65536 * l.k;
}
