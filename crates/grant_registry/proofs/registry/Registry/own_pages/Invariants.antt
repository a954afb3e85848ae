use Rattle.std.proofs.Common.{◌≡◌, ◌≤◌, ◌*◌, ◌<◌, ◌^◌, take, sum_by, fold, max}
use Rattle.grant_registry.proofs.registry.Registry.own_pages.Given as goal

abbrev pub invariant-loop-f : goal.invariant-loop-f
invariant-loop-f l = record {
  sum_so_far : l.sum ≡ sum_by (λ f. f.quota) (take l.f l.self.functions);
  largest_so_far : l.largest ≡ fold (λ most f. max most f.quota) 0 (take l.f l.self.functions);
  sum_small : l.sum ≤ 4294967296 * l.f;
  largest_small : l.largest < 2 ^ 32;
}
