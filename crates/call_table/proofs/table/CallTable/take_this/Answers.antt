-- The take of a call that is queued is an entry of the table.
use Rattle.std.proofs.Common.{◌≡◌, true, ap, refl, subst, sym, ◌∙◌}
use Rattle.faaslet_meaning.specs.Channels.{Reply}
use Rattle.faaslet_meaning.specs.Lists.{passes_at}
use Rattle.faaslet_meaning.specs.Records.{is_queued}
use Rattle.faaslet_meaning.specs.Table.{TableOperation, take_this}
use Rattle.call_table.specs.Session.{SessionTable}
use Rattle.call_table.proofs.Entries.{made}
use Rattle.call_table.proofs.table.CallTable.take_this.Goals as goal

pub returns-then-is_queued : goal.returns-then-is_queued
returns-then-is_queued c =
    let now = c.args.self.now in
    let o : TableOperation = take_this c.args.call c.args.host c.args.bench in
    let is = c.take.ensures.taken in
    let inside : passes_at (λ r. is_queued r.state) c.self.inside.store.records c.args.call ≡ true = sym c.is_queued.ensures ∙ c.if-is_queued.true in
    let queued : passes_at (λ r. is_queued r.state) now.table.records c.args.call ≡ true = subst (λ (s : SessionTable). passes_at (λ r. is_queued r.state) s.table.records c.args.call ≡ true) c.self.view_is inside in (
      made now c.take.new.self o (Reply.number c.args.call) (record { may_stand = λ m. queued; after_so = λ m. ap (λ (s : SessionTable). s.table) is; reply_so = λ m. refl })
          (ap (λ (s : SessionTable). s.workers) is) (ap (λ (s : SessionTable). s.requests) is) tt,
      c.take.ensures.handed,
    )
