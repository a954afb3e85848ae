-- The record that was read is the call's, and is queued.
use Rattle.std.proofs.Common.{◌≡◌, ◌<◌, ap, sym, subst, ◌∙◌, true}
use Rattle.faaslet_meaning.specs.Lists.{passes_at}
use Rattle.faaslet_meaning.specs.Records.{is_queued, takes}
use Rattle.faaslet_meaning.specs.Table.{Table, taken}
use Rattle.call_table.specs.Handed.{Handed}
use Rattle.call_table.specs.Inside.{table_in}
use Rattle.call_table.proofs.Held.{table_taken}
use Rattle.call_table.proofs.Places.{read_at}
use Rattle.call_table.proofs.Take.{taken_so}
use Rattle.call_table.proofs.store.Store.take.Goals as goal

pub invariant_of-self : goal.invariant_of-self
invariant_of-self c =
    let records = c.self.inside.records.items in
    let queued : passes_at (λ r. is_queued r.state) records c.args.call ≡ true = subst (λ (t : Table). passes_at (λ r. is_queued r.state) t.records c.args.call ≡ true) (sym c.self.view_is) c.requires.call in
    let host : c.args.host < c.self.inside.hosts = subst (λ (t : Table). c.args.host < t.hosts) (sym c.self.view_is) c.requires.host in
    let read = read_at (λ r. is_queued r.state) records c.args.call c.index_mut.result.now queued c.index_mut.ensures.value in
    table_taken c.self.inside.hosts c.self.inside.functions.items records c.self.inside.spares.items c.self.invariant c.args.call c.index_mut.result.now c.args.host c.args.bench c.args.order read.there read.passes host

pub returns-clause-taken : goal.returns-clause-taken
returns-clause-taken c =
    let records = c.self.inside.records.items in
    let queued : passes_at (λ r. is_queued r.state) records c.args.call ≡ true = subst (λ (t : Table). passes_at (λ r. is_queued r.state) t.records c.args.call ≡ true) (sym c.self.view_is) c.requires.call in
    let read = read_at (λ r. is_queued r.state) records c.args.call c.index_mut.result.now queued c.index_mut.ensures.value in
    let order : c.args.order ≡ takes records = subst (λ (t : Table). c.args.order ≡ takes t.records) (sym c.self.view_is) c.requires.order in
    taken_so (table_in c.self.inside) c.args.call c.args.host c.args.bench c.args.order c.index_mut.result.now read.there order
    ∙ ap (λ (t : Table). taken t c.args.call c.args.host c.args.bench) c.self.view_is

pub returns-clause-handed : goal.returns-clause-handed
returns-clause-handed c =
    let records = c.self.inside.records.items in
    let queued : passes_at (λ r. is_queued r.state) records c.args.call ≡ true = subst (λ (t : Table). passes_at (λ r. is_queued r.state) t.records c.args.call ≡ true) (sym c.self.view_is) c.requires.call in
    let read = read_at (λ r. is_queued r.state) records c.args.call c.index.result.now queued c.index.ensures in
    let job = c.handed-job.ensures in
    let handed : Handed records c.args.call c.handed-job.result c.args.input.now c.handed-job.new.buffer = record {
      of = c.index.result.now;
      there = read.there;
      call_so = job.call;
      function_so = job.function;
      len_so = job.len;
      fuel_so = job.fuel;
      room_so = job.room;
      input_so = job.input;
    } in
    subst (λ (t : Table). Handed t.records c.args.call c.handed-job.result c.args.input.now c.handed-job.new.buffer) c.self.view_is handed
