-- The maker is taken out of the readers, and is no writer.
use Rattle.std.proofs.Common.{◌≡◌, ◌∙◌, ap, sym, rules}
use Rattle.std.proofs.lemmas.Fn.{filter_same}
use Rattle.state_locks.specs.Held.{Locks}
use Rattle.state_locks.specs.Locks.{apart_from}
use Rattle.state_locks.proofs.Freed.{freed, kept, given_up}
use Rattle.state_locks.proofs.locks.LockState.unlock.Goals as goal
use Rattle.state_locks.proofs.locks.LockState.unlock.Goals.{then-eq, else-eq}

pub returns-clause-given_up : goal.returns-clause-given_up
returns-clause-given_up c =
    let old : Locks = record { writer = c.self.inside.writer; readers = c.self.inside.readers.items; room = c.self.inside.room } in
    let new : Locks = record { writer = c.if-eq.self-inside.writer; readers = c.retain.new.self.items; room = c.if-eq.self-inside.room } in
    let r : new.readers ≡ apart_from c.args.maker c.if-eq.self-inside.readers.items = filter_same _ _ _ (λ x b f' k. search rules) _ _ c.retain.ensures.filtered in
    rw (← c.self.view_is)
    (elim c.if-eq.branch [
      | then-eq w ↦
          given_up c.args.maker old new
          (ap (λ i. i.writer) w.self-inside-is ∙ freed c.args.maker old.writer (sym c.eq.ensures ∙ w.if-eq.true))
          (r ∙ ap (λ i. apart_from c.args.maker i.readers.items) w.self-inside-is)
      | else-eq w ↦
          given_up c.args.maker old new
          (ap (λ i. i.writer) w.self-inside-is ∙ kept c.args.maker old.writer (sym c.eq.ensures ∙ w.if-eq.false))
          (r ∙ ap (λ i. apart_from c.args.maker i.readers.items) w.self-inside-is)
    ])
