-- The operation finds what it asks for, and makes its entry.
use Rattle.std.proofs.Common.{◌∙◌, sym, subst, length}
use Rattle.shared_region.specs.Entries.{MakesShared, OwnLocks}
use Rattle.shared_region.specs.Operations.{operation_of}
use Rattle.turn_cell.specs.Cell.{pass_list, pass_number, start_of, numbers_of, turn_list}
use Rattle.turn_cell.specs.History.{Stands}
use Rattle.region_tier.specs.Holding.{has_lock}
use Rattle.region_tier.proofs.Sound.{in_turn, fits_so, own_so, makes_moved}
use Rattle.region_tier.proofs.attempt.attempt.Goals as goal

pub apply-requires : goal.apply-requires
apply-requires g c =
    let start = start_of c.args.cell.now in
    let n = pass_number c.args.pass in
    let h = c.take-held.ensures in
    let st = subst (λ s. Stands MakesShared start (turn_list c.take-held.result) s) (sym c.value_mut.ensures.value) h.stands in
    let t = in_turn start c.value_mut.result.now (numbers_of c.args.cell.now) n (pass_list c.args.pass) (turn_list c.take-held.result) c.requires.opened h.makers st h.list in
    record { fits = fits_so start c.value_mut.result.now (numbers_of c.args.cell.now) n c.args.op.now (length c.args.scratch.now) (has_lock n (pass_list c.args.pass)) c.requires.opened t.sound c.requires.number t.locks c.requires.locks c.requires.range }

pub give-requires-clause-makes : goal.give-requires-clause-makes
give-requires-clause-makes g c =
    let start = start_of c.args.cell.now in
    let n = pass_number c.args.pass in
    let h = c.take-held.ensures in
    let o = operation_of c.args.op.now in
    let st = subst (λ s. Stands MakesShared start (turn_list c.take-held.result) s) (sym c.value_mut.ensures.value) h.stands in
    let t = in_turn start c.value_mut.result.now (numbers_of c.args.cell.now) n (pass_list c.args.pass) (turn_list c.take-held.result) c.requires.opened h.makers st h.list in
    let own = subst (λ m. OwnLocks c.value_mut.result.now.region m o) (sym c.number-maker.ensures) (own_so c.value_mut.result.now.region n o (has_lock n (pass_list c.args.pass)) t.locks c.requires.locks) in
    makes_moved _ _ _ _ _ _ _ (c.number-maker.ensures ∙ sym h.cell.1) (sym c.requires.entry) (c.value_mut.ensures.value ∙ sym h.taken) (c.in-Ok.ensures.entry own)
