-- The pass that is there is taken.
use Rattle.std.proofs.Common.{rules, ◌≡◌, ◌<◌, Some, length, sym, ap, ◌∙◌, subst, IsSome}
use mathlib.Core.Option.{some}
use Rattle.turn_cell.proofs.Frames.{there, reads}
use Rattle.region_tier.specs.Tiers.{slots_of}
use Rattle.region_tier.proofs.cells.Passes.take_out.Goals as goal

pub index_mut-requires : goal.index_mut-requires
index_mut-requires c = let h : c.args.key < length (slots_of c.args.self.now) = there (slots_of c.args.self.now) c.args.key (Some c.requires.0) c.requires.1 in search rules

pub unwrap-requires : goal.unwrap-requires
unwrap-requires c =
    let e : c.take.result ≡ Some c.requires.0 = c.take.ensures.value ∙ (c.index_mut.ensures.value ∙ reads (slots_of c.args.self.now) c.args.key (Some c.requires.0) c.index_mut.result.now c.requires.1) in
    subst (λ o. IsSome o) (sym e) (search rules)

pub returns-clause-at : goal.returns-clause-at
returns-clause-at c =
    let e : c.take.result ≡ Some c.requires.0 = c.take.ensures.value ∙ (c.index_mut.ensures.value ∙ reads (slots_of c.args.self.now) c.args.key (Some c.requires.0) c.index_mut.result.now c.requires.1) in
    c.requires.1 ∙ ap some (sym e ∙ c.unwrap.ensures)
