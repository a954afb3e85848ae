-- The pass that is there tells its number.
use Rattle.std.proofs.Common.{rules, ◌≡◌, ◌<◌, Some, None, length, sym, ap, ◌∙◌}
use mathlib.Core.Option.{some}
use Rattle.turn_cell.proofs.Frames.{there, reads}
use Rattle.region_tier.specs.Tiers.{slots_of}
use Rattle.region_tier.proofs.cells.Passes.number.Goals as goal

pub index-requires : goal.index-requires
index-requires c = let h : c.args.key < length (slots_of c.args.self.now) = there (slots_of c.args.self.now) c.args.key (Some c.requires.0) c.requires.1 in search rules

pub unreachable-requires : goal.unreachable-requires
unreachable-requires c =
    let e : c.index.result.now ≡ Some c.requires.0 = c.index.ensures ∙ reads (slots_of c.args.self.now) c.args.key (Some c.requires.0) c.index.result.now c.requires.1 in
    let f = c.in_default.is in
    let d : None ≡ Some c.requires.0 = sym f ∙ e in
    cc

pub returns : goal.returns
returns c =
    let e : c.index.result.now ≡ Some c.requires.0 = c.index.ensures ∙ reads (slots_of c.args.self.now) c.args.key (Some c.requires.0) c.index.result.now c.requires.1 in
    (c.in-Some.pass, c.requires.1 ∙ ap some (sym e ∙ c.in-Some.is), c.number.ensures)
