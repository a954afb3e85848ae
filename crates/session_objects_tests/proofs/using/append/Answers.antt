-- The bench's pass of the first key is ready, and comes back.
use Rattle.std.proofs.Common.{◌≡◌, ◌<◌, length, sym, ap, ◌∙◌, subst, arith, length-set}
use Rattle.std.proofs.lemmas.List.{length-map}
use Rattle.turn_cell.proofs.Frames.{there}
use Rattle.turn_cell.proofs.Places.{get_there}
use Rattle.region_tier.proofs.At.{read_at}
use Rattle.region_tier.specs.Tiers.{cells_of, slots_of}
use Rattle.region_tier_tests.proofs.OneMaker.{row_put}
use Rattle.region_tier_tests.proofs.SeenBoth.{fresh_ready}
use Rattle.session_objects_tests.proofs.Passing.{row_of, some_bench, used_one, workers_back}
use Rattle.session_objects_tests.proofs.using.append.Goals as goal

pub access-requires : goal.access-requires
access-requires g c =
    let o = c.args.objects.now in
    let f = c.requires.objects.globals in
    let bench = c.index_mut-bench.result.now in
    let at = read_at c.args.passes.now.benches.items 0 bench (some_bench c.args.registry.now o c.args.passes.now c.requires.limits c.requires.passes) c.index_mut-bench.ensures.value in
    let cells = cells_of o.globals in
    let t = get_there cells 0 (let l = f.keys ∙ length-map c.args.registry.now.keys (λ k. (k.size, k.init)) in let k = c.requires.key in omega (arith, l, k)) in
    let low = there c.args.passes.now.benches.items 0 bench at in
    let count = c.requires.passes.bench_count in
    fresh_ready cells (slots_of bench.global) 0 0 t.0 _ (c.requires.passes.benches_so 0 bench at).global t.1 (subst (λ n. 0 < n) (sym (f.globals 0 t.0 t.1).3) (subst (λ n. 0 < n) count low)) (λ p. (tt, tt))

pub returns : goal.returns
returns g c =
    let d = c.args.registry.now in
    let o = c.args.objects.now in
    let p = c.args.passes.now in
    let bench = c.index_mut-bench.result.now in
    let at = read_at p.benches.items 0 bench (some_bench d o p c.requires.limits c.requires.passes) c.index_mut-bench.ensures.value in
    let e = c.access.ensures in
    let row = row_put (cells_of o.globals) (slots_of bench.global) (slots_of c.access.new.passes) 0 0 e.cell e.before e.after (row_of o.globals 0 bench.global (c.requires.passes.benches_so 0 bench at).global) e.at_cell e.at_before e.put e.sits e.number in
    record {
      bench_count = length-set p.benches.items 0 _ ∙ c.requires.passes.bench_count;
      benches_so = used_one d o p bench c.access.new.passes c.requires.passes at row;
      worker_count = c.requires.passes.worker_count;
      workers_so = workers_back d o p c.requires.passes;
      session = (c.requires.passes.session.0, c.requires.passes.session.1);
    }
