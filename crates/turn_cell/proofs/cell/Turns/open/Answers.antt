-- A new table meets the rule.
use Rattle.std.proofs.Common.{rules, ◌≡◌, [], ◌∷◌, Some}
use Rattle.turn_cell.proofs.OpenSteps.{opens}
use Rattle.turn_cell.proofs.cell.Turns.open.Goals as goal

pub new-made-requires : goal.new-made-requires
new-made-requires g c = let items : c.push_reserved.new.self.items ≡ Some c.args.state ∷ [] = search rules in
    rw items (opens g.S.Kept.makes _ c.args.state c.of.ensures c.ranges.numbers.fits)
