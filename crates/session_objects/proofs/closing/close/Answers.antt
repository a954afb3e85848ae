-- All passes are back, and each object has ended.
use Rattle.std.proofs.Common.{◌*◌, ◌<◌, length, sym, ap, ◌∙◌, subst}
use Rattle.std.proofs.lemmas.List.{length-map}
use Rattle.session_objects.proofs.Limits.{benches_are}
use Rattle.session_objects.proofs.Returned.{global_ends, globals_back, replica_ends, rows_of_benches, table_back, table_ends}
use Rattle.session_objects.proofs.closing.close.Goals as goal

pub close_hosts-requires-clause-count : goal.close_hosts-requires-clause-count
close_hosts-requires-clause-count c =
    let d = c.args.registry.now in
    ap length c.take_back.ensures.locals ∙ (length-map c.args.passes.benches.items (λ p. p.local) ∙ (c.requires.passes.bench_count ∙ (sym (benches_are d)
    ∙ (ap (λ n. d.hosts * n) (sym c.bench_each-each.ensures.value) ∙ ap (λ n. n * c.bench_each-each.result) (sym c.requires.objects.hosts)))))

pub close_hosts-requires-clause-rows : goal.close_hosts-requires-clause-rows
close_hosts-requires-clause-rows c = rows_of_benches c.args.registry.now c.args.objects c.args.passes c.take_back.new.columns.locals.items c.bench_each-each.result c.requires.passes c.take_back.ensures.locals c.bench_each-each.ensures.value

pub close-requires-clause-passes : goal.close-requires-clause-passes
close-requires-clause-passes c = globals_back c.args.registry.now c.args.objects c.args.passes c.take_back.new.columns.globals.items c.requires.objects c.requires.passes c.take_back.ensures.globals

pub close-requires-2-clause-passes : goal.close-requires-2-clause-passes
close-requires-2-clause-passes c = table_back c.args.registry.now c.args.objects c.args.passes c.take_back.new.columns.table.items c.requires.passes c.take_back.ensures.table

pub returns : goal.returns
returns c =
    let d = c.args.registry.now in
    let e = c.close_hosts.ensures in
    let t = c.take_back.ensures in
    let many = c.bench_each-each.ensures in
    record {
      hosts = sym (length-map c.close_hosts.result.items (λ v. v.items)) ∙ (e.0 ∙ c.requires.objects.hosts);
      locals = λ h tier at. let o = e.1 h tier at in
          (o.0, o.1, replica_ends d c.args.objects c.args.passes c.take_back.new.columns.locals.items c.bench_each-each.result h tier o.0 (subst (λ n. 0 < n) many.value many.some.0) c.requires.objects c.requires.passes t.locals many.value at o.2);
      globals = global_ends d c.args.objects c.args.passes c.take_back.new.columns.globals.items c.close.result.items c.requires.objects t.globals c.close.ensures;
      table = table_ends d c.args.objects c.args.passes c.take_back.new.columns.table.items c.close-2.result c.requires.objects c.requires.passes t.table c.close-2.ensures.stands c.close-2.ensures.lists c.close-2.ensures.makers;
    }
