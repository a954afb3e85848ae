-- What is known between two turns, and what the last turn leaves.
use Rattle.std.proofs.Common.{◌<◌, ◌∙◌, length, refl, sym, ap, subst}
use Rattle.shared_region.specs.Operations.{operation_of}
use Rattle.turn_cell.specs.Cell.{pass_list, pass_number, start_of, numbers_of}
use Rattle.turn_cell.specs.History.{Extends}
use Rattle.region_tier.specs.Holding.{has_lock, LocksInTurn}
use Rattle.region_tier.specs.Opened.{InRange}
use Rattle.region_tier.proofs.Lists.{extends_none, extends_more, told_as}
use Rattle.region_tier.proofs.Sound.{still_locked}
use Rattle.region_tier.proofs.attempt.access_named.Goals as goal

pub loop-init : goal.loop-init
loop-init g c = record { cell = (c.requires.cell, refl); list = extends_none _ _; scratch = refl }

pub attempt-next-requires : goal.attempt-next-requires
attempt-next-requires g c =
    let i = c.loop.invariant in
    let locks = ap (λ n. has_lock n (pass_list c.loop.pass)) i.cell.1 ∙ still_locked (pass_number c.args.pass) (pass_list c.args.pass) (pass_list c.loop.pass) i.list in
    record {
      entry = c.requires.entry;
      cell = i.cell.0;
      number = subst (λ n. n < numbers_of c.args.cell.now) (sym i.cell.1) c.requires.number;
      opened = c.requires.opened;
      range = subst (λ s. InRange (start_of c.args.cell.now) c.args.op.now (length s)) (sym i.scratch) c.requires.range;
      locks = subst (LocksInTurn (operation_of c.args.op.now)) (sym locks) c.requires.locks;
    }

pub loop-preserved : goal.loop-preserved
loop-preserved g c =
    let i = c.loop.invariant in
    let b = rw c.in_default.is at c.attempt-next.ensures.blocked in
    record {
      cell = (c.attempt-next.ensures.cell.0, c.attempt-next.ensures.cell.1 ∙ i.cell.1);
      list = extends_more _ _ _ _ i.list (subst (λ n. Extends n (pass_list c.loop.pass) (pass_list c.attempt-next.result.0)) i.cell.1 b.0);
      scratch = b.1 ∙ i.scratch;
    }

pub returns-in-Some-reply-clause-answered : goal.returns-in-Some-reply-clause-answered
returns-in-Some-reply-clause-answered g c =
    let i = c.loop.invariant in
    told_as _ _ _ _ _ _ _ _ _ _ _ i.cell.1 i.scratch i.list (rw c.in-Some-reply.is at c.attempt-next.ensures.answered)
