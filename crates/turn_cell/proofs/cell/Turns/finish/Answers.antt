-- Once every pass was taken back the list is whole, and the value at home stands for it.
use Rattle.std.proofs.Common.{rules, ◌≡◌, Some, sym, ◌∙◌}
use mathlib.Core.Option.{some-injective}
use Rattle.turn_cell.specs.declared.view.Role.TheVariants.{Sealed}
use Rattle.turn_cell.proofs.NoteSteps.{writes}
use Rattle.turn_cell.proofs.CloseSteps.{seals_as, ends}
use Rattle.turn_cell.proofs.cell.Turns.finish.Goals as goal

pub load-requires : goal.load-requires
load-requires g c = let k = c.args.keeper in
    (search rules, search rules, seals_as g.S.Kept.makes _ (Some c.args.self.table.shared.key) _ _ k.me.0.seen k.me.0.retired _ (search rules) c.requires.keeper.1 c.requires.all)

pub split_seat-seat-requires : goal.split_seat-seat-requires
split_seat-seat-requires g c = (search rules, search rules, writes g.S.Kept.makes _ _ _)

pub unwrap-value-requires : goal.unwrap-value-requires
unwrap-value-requires g c = let role : c.split_seat-seat.new.seat.me.0.role ≡ Sealed = search rules in
    let e = ends g.S.Kept.makes c.args.self.table.shared.key _ _ _ _ role c.close_with-closed.ensures.values.2 in
    let is : c.take.result ≡ Some e.0 = some-injective _ _ (sym c.take.ensures.value ∙ e.1) in search rules

pub returns-clause-stands : goal.returns-clause-stands
returns-clause-stands g c = let role : c.split_seat-seat.new.seat.me.0.role ≡ Sealed = search rules in
    let e = ends g.S.Kept.makes c.args.self.table.shared.key _ _ _ _ role c.close_with-closed.ensures.values.2 in
    let is : Some c.unwrap-value.result ≡ Some e.0 = sym c.unwrap-value.ensures ∙ some-injective _ _ (sym c.take.ensures.value ∙ e.1) in
    let same : e.0 ≡ c.unwrap-value.result = cc (is) in
    let seen : c.split_seat-seat.new.seat.me.0.seen ≡ c.split_seat-seat.result.me.0.seen = search rules in
    rw (sym seen, sym same) e.2
