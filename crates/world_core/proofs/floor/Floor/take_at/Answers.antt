-- A call that may be taken has a Take for each host.
use Rattle.std.proofs.Common.{ℕ, ◌+◌, slice_get, drop, sym, ap, ◌∙◌}
use Rattle.world_core.proofs.Counting.{no_call, takes_of, take_found, take_later, take_not}
use Rattle.world_core.proofs.floor.Floor.take_at.Goals as goal
use Rattle.world_core.proofs.floor.Floor.take_at.Goals.{then-may_be_taken+else-left-self, else-may_be_taken}

pub loop-q-preserved : goal.loop-q-preserved
loop-q-preserved c =
    let hosts = c.args.self.now.hosts in
    let free = c.has_worker-free.result in
    let items = c.args.self.now.queued.items in
    let got = c.deref-q-items.result.now in
    let at = λ (n : ℕ). slice_get (takes_of hosts free (drop (c.loop-q.q-index + 1) items)) n in
    elim c.if-may_be_taken.branch [
      | then-may_be_taken+else-left-self w ↦ record {
        left_so = c.loop-q.invariant.left_so ∙ (take_later hosts free got items c.loop-q.q-index c.loop-q.left no_call c.deref-q-items.ensures.value c.loop-q-test.true (sym c.may_be_taken.ensures ∙ w.if-may_be_taken.true) w.if-left-self.false ∙ ap at (sym w.left-is));
        free_so = c.loop-q.invariant.free_so;
      }
      | else-may_be_taken w ↦ record {
        left_so = c.loop-q.invariant.left_so ∙ (take_not hosts free got items c.loop-q.q-index c.loop-q.left no_call c.deref-q-items.ensures.value c.loop-q-test.true (sym c.may_be_taken.ensures ∙ w.if-may_be_taken.false) ∙ ap at (sym w.left-is));
        free_so = c.loop-q.invariant.free_so;
      }
    ]

pub returns-then-left-self : goal.returns-then-left-self
returns-then-left-self c =
    sym (c.loop-q.invariant.left_so ∙ take_found c.args.self.now.hosts c.has_worker-free.result c.deref-q-items.result.now c.args.self.now.queued.items c.loop-q.q-index c.loop-q.left no_call c.deref-q-items.ensures.value c.loop-q-test.true (sym c.may_be_taken.ensures ∙ c.if-may_be_taken.true) c.if-left-self.true)
