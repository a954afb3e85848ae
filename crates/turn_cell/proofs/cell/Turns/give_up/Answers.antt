-- Before the first turn is over, the value at home is the one at the start.
use Rattle.std.proofs.Common.{rules, ◌≡◌, Some, sym, ◌∙◌}
use mathlib.Core.Option.{some-injective}
use Rattle.turn_cell.proofs.OpenSteps.{gives_up}
use Rattle.turn_cell.proofs.cell.Turns.give_up.Goals as goal

pub unwrap-value-requires : goal.unwrap-value-requires
unwrap-value-requires g c = let e = gives_up g.S.Kept.makes c.args.self.table.shared.key _ _ _ _ _ c.requires.1 c.close_with-closed.ensures.values.2 in
    let is : c.take.result ≡ Some c.args.self.table.shared.key.start.value = some-injective _ _ (sym c.take.ensures.value ∙ e) in search rules

pub returns : goal.returns
returns g c = let e = gives_up g.S.Kept.makes c.args.self.table.shared.key _ _ _ _ _ c.requires.1 c.close_with-closed.ensures.values.2 in
    let is : Some c.unwrap-value.result ≡ Some c.args.self.table.shared.key.start.value = sym c.unwrap-value.ensures ∙ some-injective _ _ (sym c.take.ensures.value ∙ e) in cc is
