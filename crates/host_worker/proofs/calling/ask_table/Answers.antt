-- A question on the call table is served and answered, or its child isn't finished.
use Rattle.std.proofs.Common.{ap, length, refl, sym, ◌∙◌, subst, arith}
use Rattle.faaslet_meaning.specs.Call.{replied}
use Rattle.call_service.specs.May.{MayCall}
use Rattle.call_service.specs.Served.{Serves}
use Rattle.turn_cell.specs.Cell.{pass_list, start_of}
use Rattle.host_worker.specs.Busy.{first_of, invocation_of}
use Rattle.call_service.proofs.Adds.{serving_adds}
use Rattle.host_worker.proofs.Growing.{longer_same}
use Rattle.host_worker.proofs.Parts.{laid_over}
use Rattle.host_worker.proofs.Table.{may_call, table_asked, table_awaits, table_busy, table_fits, table_laid, table_more}
use Rattle.host_worker.proofs.calling.ask_table.Goals as goal

pub serve_call-table-requires-clause-may : goal.serve_call-table-requires-clause-may
serve_call-table-requires-clause-may g c =
    let r = c.requires.asks in
    let b = c.args.bench in
    let bytes = c.scratch_mut.ensures.bytes in
    subst (MayCall b.callees.now (start_of c.args.tiers.table.now) b.call c.args.ask.now (pass_list b.passes.table)) (sym bytes)
    (may_call c.args.tiers b r.0 r.1 c.args.ask.now r.2 c.requires.kind (ap length (sym bytes) ∙ c.scratch_mut.ensures.long))

pub answer-requires-clause-at : goal.answer-requires-clause-at
answer-requires-clause-at g c =
    let r = c.requires.asks in
    let b = c.args.bench in
    let bytes = c.scratch_mut.ensures.bytes in
    let start = start_of c.args.tiers.table.now in
    let new = pass_list c.serve_call-table.result.0 in
    let told = c.serve_call-table.new.scratch in
    let served = subst (λ v. Serves b.callees.now start b.number b.call c.args.ask.now (pass_list b.passes.table) new v b.faaslet.scratch told) c.in-Replied.is
    (subst (λ old. Serves b.callees.now start b.number b.call c.args.ask.now (pass_list b.passes.table) new c.serve_call-table.result.1 old told) bytes
    (subst (λ m. Serves b.callees.now start m b.call c.args.ask.now (pass_list b.passes.table) new c.serve_call-table.result.1 c.scratch_mut.result.now told) r.2.busy.seats.number c.serve_call-table.ensures.serves)) in
    let same = c.serve_call-table.auto.scratch in
    let long = c.scratch_mut.ensures.long in
    let laid = laid_over b.faaslet.scratch told (same ∙ ap length bytes) in (
      invocation_of r.0,
      first_of r.0,
      r.1,
      r.2.asks.state,
      served.question,
      served.answer,
      table_asked c.args.tiers b r.0 r.1 c.args.ask.now r.2 c.requires.kind _ _ _ served _,
      table_laid c.args.tiers b r.0 r.1 c.args.ask.now r.2 c.requires.kind _ _ _ served _ laid,
      table_fits c.args.tiers b r.0 r.1 c.args.ask.now r.2 c.requires.kind _ _ _ served (omega (arith, same, long)),
    )

pub returns-in-Replied-clause-comes : goal.returns-in-Replied-clause-comes
returns-in-Replied-clause-comes g c e t a =
    let b = c.args.bench in
    let bytes = c.scratch_mut.ensures.bytes in
    let start = start_of c.args.tiers.table.now in
    let new = pass_list c.serve_call-table.result.0 in
    let told = c.serve_call-table.new.scratch in
    let served = subst (λ v. Serves b.callees.now start b.number b.call c.args.ask.now (pass_list b.passes.table) new v b.faaslet.scratch told) c.in-Replied.is
    (subst (λ old. Serves b.callees.now start b.number b.call c.args.ask.now (pass_list b.passes.table) new c.serve_call-table.result.1 old told) bytes
    (subst (λ m. Serves b.callees.now start m b.call c.args.ask.now (pass_list b.passes.table) new c.serve_call-table.result.1 c.scratch_mut.result.now told) a.busy.seats.number c.serve_call-table.ensures.serves)) in
    let same = c.serve_call-table.auto.scratch in
    let long = c.scratch_mut.ensures.long in
    let laid = laid_over b.faaslet.scratch told (same ∙ ap length bytes) in
    let on = c.requires.kind in
    let x = c.answer.ensures.answered (invocation_of e) (first_of e) t a.asks.state served.question served.answer
    (table_asked c.args.tiers b e t c.args.ask.now a on _ _ _ served _) (table_laid c.args.tiers b e t c.args.ask.now a on _ _ _ served _ laid) (table_fits c.args.tiers b e t c.args.ask.now a on _ _ _ served (omega (arith, same, long))) in
    let cell = c.serve_call-table.ensures.cell in
    record {
      trail = table_more c.args.tiers b e t c.args.ask.now a on _ _ _ served;
      busy = table_busy c.args.tiers b e t c.args.ask.now a on _ _ _ served _ refl refl refl refl refl cell.0 (cell.1 ∙ a.busy.seats.number) (record { progress = replied (invocation_of e) a.asks.state served.answer; at = x.0; ready = x.1 });
    }

pub returns-in-Awaits-clause-comes : goal.returns-in-Awaits-clause-comes
returns-in-Awaits-clause-comes g c e t a =
    let b = c.args.bench in
    let bytes = c.scratch_mut.ensures.bytes in
    let start = start_of c.args.tiers.table.now in
    let new = pass_list c.serve_call-table.result.0 in
    let told = c.serve_call-table.new.scratch in
    let served = subst (λ v. Serves b.callees.now start b.number b.call c.args.ask.now (pass_list b.passes.table) new v b.faaslet.scratch told) c.in-Awaits.is
    (subst (λ old. Serves b.callees.now start b.number b.call c.args.ask.now (pass_list b.passes.table) new c.serve_call-table.result.1 old told) bytes
    (subst (λ m. Serves b.callees.now start m b.call c.args.ask.now (pass_list b.passes.table) new c.serve_call-table.result.1 c.scratch_mut.result.now told) a.busy.seats.number c.serve_call-table.ensures.serves)) in
    let cell = c.serve_call-table.ensures.cell in
    table_awaits c.args.tiers b e t c.args.ask.now a new c.in-Awaits.child told served _ _ refl refl refl refl refl cell.0 (cell.1 ∙ a.busy.seats.number) refl

pub returns-in-Replied-clause-grew : goal.returns-in-Replied-clause-grew
returns-in-Replied-clause-grew g c = record {
  locals = λ key. longer_same _ key;
  globals = λ key. longer_same _ key;
  table = serving_adds _ _ _ _ _ _ _ _ _ _ c.serve_call-table.ensures.serves;
}

pub returns-in-Awaits-clause-grew : goal.returns-in-Awaits-clause-grew
returns-in-Awaits-clause-grew g c = record {
  locals = λ key. longer_same _ key;
  globals = λ key. longer_same _ key;
  table = serving_adds _ _ _ _ _ _ _ _ _ _ c.serve_call-table.ensures.serves;
}
