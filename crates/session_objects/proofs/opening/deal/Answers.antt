-- All passes are dealt out, fresh.
use Rattle.std.proofs.Common.{◌≡◌, ◌+◌, ◌*◌, ◌≤◌, ◌∷◌, ◌++◌, [], length, sym, ap, ◌∙◌, subst, arith, append_assoc, length-append}
use Rattle.turn_cell.specs.History.{Each}
use Rattle.session_objects.specs.declared.objects.Objects.{Objects}
use Rattle.session_objects.specs.Rests.{AreDealt, IsDealt, IsFreshPass}
use Rattle.session_objects.specs.Shape.{benches, makers, workers}
use Rattle.session_objects.proofs.Dealing.{bench_total, benches_fresh, last_pass}
use Rattle.session_objects.proofs.Limits.{benches_are}
use Rattle.session_objects.proofs.Rows.{each_behind, each_of_front}
use Rattle.session_objects.proofs.opening.deal.Goals as goal

pub deal_hosts-locals-requires-clause-many : goal.deal_hosts-locals-requires-clause-many
deal_hosts-locals-requires-clause-many c =
    ap (λ l. length l * c.bench_each-each.result) c.deref.ensures.value
    ∙ (ap (λ n. n * c.bench_each-each.result) c.requires.whole.objects.hosts
    ∙ (ap (λ n. c.args.registry.now.hosts * n) c.bench_each-each.ensures.value ∙ (benches_are c.args.registry.now ∙ sym c.bench_count-count.ensures.value)))

pub returns : goal.returns
returns c =
    let d = c.args.registry.now in
    let w = c.requires.whole in
    let o : Objects = c.args.whole.objects in
    let t = c.deal_table-workers.ensures in
    let h = c.deal_hosts-locals.ensures in
    let z = c.zip-benches.ensures in
    let each_is = c.bench_each-each.ensures.value in
    let count_is = c.bench_count-count.ensures.value in
    let front = c.deal_table-workers.new.column.items in
    let ws = c.deal_table-workers.result.0.items in
    let session = c.deal_table-workers.result.1 in
    let whole = t.whole ∙ append_assoc front ws (session ∷ []) in
    let column = subst (λ l. Each l (IsFreshPass o.table)) whole w.column in
    let front_long : length front ≡ benches d = t.count ∙ count_is in
    let behind = subst (λ n. Each (ws ++ session ∷ []) (λ j x. IsFreshPass o.table (n + j) x)) front_long (each_behind front (ws ++ session ∷ []) (IsFreshPass o.table) column) in
    let ws_long : length ws ≡ workers d = let a = ap length whole ∙ length-append front (ws ++ session ∷ []) in let b = length-append ws (session ∷ []) in let e = w.column_count in omega (arith, a, b, e, front_long) in
    let dealt = subst (λ n. Each c.deal_hosts-locals.result.items (IsDealt o.locals.items n)) each_is (subst (λ l. Each c.deal_hosts-locals.result.items (IsDealt l c.bench_each-each.result)) c.deref.ensures.value h.dealt) in
    record {
      objects = w.objects;
      passes = record {
        bench_count = bench_total c.zip-benches.result.items c.deal_hosts-locals.result.items z.locals ∙ (h.count ∙ count_is);
        benches_so = benches_fresh d o c.zip-benches.result.items _ _ _ z.locals z.globals z.table dealt w.rows.1 (each_of_front front (ws ++ session ∷ []) (IsFreshPass o.table) column);
        worker_count = ws_long;
        workers_so = each_of_front ws (session ∷ []) (λ j x. IsFreshPass o.table (benches d + j) x) behind;
        session = last_pass o.table (benches d) (workers d) ws session ws_long behind;
      };
      closing = record {
        rests = subst (λ n. AreDealt o.locals.items n 0 c.deal_hosts-locals.new.rests.items) each_is (subst (λ l. AreDealt l c.bench_each-each.result 0 c.deal_hosts-locals.new.rests.items) c.deref.ensures.value h.rests);
        globals = w.globals;
        emptied = (z.emptied.0, z.emptied.1, z.emptied.2, c.requires.ends.0);
        local_room = subst (λ n. benches d ≤ n) (sym (z.rooms.0 ∙ h.same)) c.requires.locals.1;
        global_room = subst (λ n. benches d ≤ n) (sym z.rooms.1) w.rows_room;
        table_room = subst (λ n. makers d ≤ n) (sym (z.rooms.2 ∙ t.same)) w.column_room;
        end_room = c.requires.ends.1;
      };
    }
