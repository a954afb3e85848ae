use Rattle.std.proofs.Common.{[], refl, ◌∙◌}
use Rattle.faasm_top.proofs.Snapshots.{starts_fresh, ran_once, broken_runs}
use Rattle.faasm_top.proofs.run.run.Goals as goal

pub returns-in-Err-Broken-clause-runs : goal.returns-in-Err-Broken-clause-runs
returns-in-Err-Broken-clause-runs c = rw c.in-Err-Broken.kind-is (broken_runs c.args.module.now c.args.fuel c.in-Err-Broken.field-0 _ c.in-Err-Broken.field-0-is c.in-Err-Broken.ensures.broken c.args.input.now c.new.result.items c.new.ensures.items)

pub finish-requires : goal.finish-requires
finish-requires c =
    let begun = starts_fresh c.args.module.now c.args.fuel c.in-Ok.proto c.in-Ok.ensures.snapshot c.start.new.self c.job.result.fuel c.job.result.len c.job.result.room c.of-grants.result [] c.in_ok-faaslet.faaslet.input c.args.input.now c.job.ensures.fuel c.job.ensures.len c.job.ensures.room (c.of-grants.ensures ∙ c.new-2.ensures.items) refl c.in_ok-faaslet.ensures.front c.start.ensures.started in
    (c.args.module.now, c.args.fuel, c.args.input.now, begun)

pub returns-clause-runs : goal.returns-clause-runs
returns-clause-runs c =
    let begun = starts_fresh c.args.module.now c.args.fuel c.in-Ok.proto c.in-Ok.ensures.snapshot c.start.new.self c.job.result.fuel c.job.result.len c.job.result.room c.of-grants.result [] c.in_ok-faaslet.faaslet.input c.args.input.now c.job.ensures.fuel c.job.ensures.len c.job.ensures.room (c.of-grants.ensures ∙ c.new-2.ensures.items) refl c.in_ok-faaslet.ensures.front c.start.ensures.started in
    ran_once c.start.new.self c.finish.result c.args.module.now c.args.fuel c.args.input.now begun c.finish.ensures.runs
