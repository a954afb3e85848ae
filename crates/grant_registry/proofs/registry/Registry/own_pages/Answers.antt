use Rattle.std.proofs.Common.{arith, rules, sym}
use Rattle.grant_registry.proofs.Sums.{sum_at, max_at}
use Rattle.grant_registry.proofs.registry.Registry.own_pages.Goals as goal

pub loop-f-preserved : goal.loop-f-preserved
loop-f-preserved c =
    let within = c.loop-f-test.true in
    let more = sum_at (λ f. f.quota) (λ n. n) c.args.self.now.functions c.loop-f.f (omega (arith, within, c.functions-f-end.ensures.value)) in
    let most = max_at (λ f. f.quota) c.args.self.now.functions c.loop-f.f (omega (arith, within, c.functions-f-end.ensures.value)) in
    record {
      sum_so_far = rw (c.loop-f.invariant.sum_so_far, c.quota_of-quota.ensures) (sym more);
      largest_so_far = rw (c.max-largest.ensures, c.loop-f.invariant.largest_so_far, c.quota_of-quota.ensures) (sym most);
      sum_small = search rules;
      largest_small = search rules;
    }
