-- A question on shared state is served, and answered.
use Rattle.std.proofs.Common.{[], ap, length, sym, ◌∙◌, subst}
use Rattle.std.proofs.lemmas.List.{append-nil}
use Rattle.turn_cell.specs.Cell.{pass_list}
use Rattle.faaslet_meaning.specs.Call.{replied}
use Rattle.region_tier.specs.Tiers.{cells_of, slots_of}
use Rattle.state_service.specs.Asked.{moved_size}
use Rattle.state_service.specs.May.{MayServe}
use Rattle.state_service.specs.Served.{Served}
use Rattle.host_worker.specs.Busy.{first_of, invocation_of}
use Rattle.host_worker.proofs.Growing.{made_longer}
use Rattle.host_worker.proofs.Keys.{may_serve}
use Rattle.host_worker.proofs.Parts.{laid_over}
use Rattle.host_worker.proofs.State.{fits_so, more, replies_laid, stands_asked, state_busy}
use Rattle.host_worker.proofs.calling.ask_state.Goals as goal

pub serve_state-reply-requires : goal.serve_state-reply-requires
serve_state-reply-requires g c =
    let r = c.requires.asks in
    let b = c.args.bench in
    let bytes = c.scratch_mut.ensures.bytes in
    subst (MayServe c.args.ask.now (cells_of c.args.tiers.local.now) (cells_of c.args.tiers.global.now) (slots_of b.passes.state.local) (slots_of b.passes.state.global)) (sym bytes)
    (may_serve c.args.tiers b r.0 r.1 c.args.ask.now r.2 c.requires.kind (ap length (sym bytes) ∙ c.scratch_mut.ensures.long))

pub answer-requires-clause-at : goal.answer-requires-clause-at
answer-requires-clause-at g c =
    let r = c.requires.asks in
    let b = c.args.bench in
    let l = cells_of c.args.tiers.local.now in
    let h = cells_of c.args.tiers.global.now in
    let bytes = c.scratch_mut.ensures.bytes in
    let served = subst (λ old. Served c.args.ask.now (moved_size l c.args.ask.now) l h (slots_of b.passes.state.local) (slots_of c.serve_state-reply.new.passes.local) (slots_of b.passes.state.global) (slots_of c.serve_state-reply.new.passes.global) c.serve_state-reply.result old c.serve_state-reply.new.scratch) bytes c.serve_state-reply.ensures in
    let laid = laid_over b.faaslet.scratch c.serve_state-reply.new.scratch (c.serve_state-reply.auto.scratch ∙ ap length bytes) in (
      invocation_of r.0,
      first_of r.0,
      r.1,
      r.2.asks.state,
      served.question,
      served.answer,
      stands_asked c.args.tiers b r.0 r.1 c.args.ask.now r.2 c.requires.kind c.serve_state-reply.new.passes _ _ served _,
      replies_laid c.args.tiers b r.0 r.1 c.args.ask.now r.2 c.requires.kind c.serve_state-reply.new.passes _ _ served _ laid,
      fits_so c.args.tiers b r.0 r.1 c.args.ask.now r.2 c.requires.kind c.serve_state-reply.new.passes _ _ served,
    )

pub returns-clause-went : goal.returns-clause-went
returns-clause-went g c e t a =
    let b = c.args.bench in
    let l = cells_of c.args.tiers.local.now in
    let h = cells_of c.args.tiers.global.now in
    let bytes = c.scratch_mut.ensures.bytes in
    let st = c.serve_state-reply.new.passes in
    let served = subst (λ old. Served c.args.ask.now (moved_size l c.args.ask.now) l h (slots_of b.passes.state.local) (slots_of st.local) (slots_of b.passes.state.global) (slots_of st.global) c.serve_state-reply.result old c.serve_state-reply.new.scratch) bytes c.serve_state-reply.ensures in
    let laid = laid_over b.faaslet.scratch c.serve_state-reply.new.scratch (c.serve_state-reply.auto.scratch ∙ ap length bytes) in
    let on = c.requires.kind in
    let x = c.answer.ensures.answered (invocation_of e) (first_of e) t a.asks.state served.question served.answer
    (stands_asked c.args.tiers b e t c.args.ask.now a on st _ _ served _) (replies_laid c.args.tiers b e t c.args.ask.now a on st _ _ served _ laid) (fits_so c.args.tiers b e t c.args.ask.now a on st _ _ served) in
    record {
      trail = more c.args.tiers b e t c.args.ask.now a on st _ _ served;
      busy = state_busy c.args.tiers b e t c.args.ask.now a on st _ _ served c.answer.new.self (record { progress = replied (invocation_of e) a.asks.state served.answer; at = x.0; ready = x.1 });
    }

pub returns-clause-grew : goal.returns-clause-grew
returns-clause-grew g c = record {
  locals = λ key. made_longer _ _ _ key _ (c.serve_state-reply.ensures.local_made key);
  globals = λ key. made_longer _ _ _ key _ (c.serve_state-reply.ensures.global_made key);
  table = ([], append-nil (pass_list c.args.bench.passes.table));
}
