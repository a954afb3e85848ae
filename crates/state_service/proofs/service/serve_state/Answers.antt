-- Both operations of a move were made.
use Rattle.std.proofs.Common.{sym, subst}
use Rattle.faaslet_meaning.specs.declared.ask.Ask.{Ask}
use Rattle.region_tier.specs.Tiers.{cells_of, slots_of}
use Rattle.state_service.specs.Asked.{moved_size}
use Rattle.state_service.specs.Served.{Served}
use Rattle.state_service.proofs.Moves.{moved_served}
use Rattle.state_service.proofs.service.serve_state.Goals as goal

pub returns-in-Move : goal.returns-in-Move
returns-in-Move g c =
    let i = c.in-Move in
    let l = cells_of c.args.locals.now in
    let h = cells_of c.args.globals.now in
    subst (λ (a : Ask). Served a (moved_size l a) l h (slots_of c.args.passes.now.local) (slots_of c.move_key.new.passes.local) (slots_of c.args.passes.now.global) (slots_of c.move_key.new.passes.global) _ c.args.scratch.now c.args.scratch.now)
    (sym i.is) (moved_served l h _ _ _ _ i.key i.kind c.args.scratch.now c.move_key.ensures)
