-- One host more.
use Rattle.std.proofs.Common.{◌+◌, ◌∷◌, [], length, sym, ap, ◌∙◌, subst, length-append}
use Rattle.turn_cell.specs.History.{Each}
use Rattle.turn_cell.proofs.Places.{each_push}
use Rattle.session_objects.specs.Rests.{IsLocal}
use Rattle.session_objects.proofs.Holding.{whole_more}
use Rattle.session_objects.proofs.hosts.open_hosts.Goals as goal

pub loop-preserved : goal.loop-preserved
loop-preserved c =
    let i = c.loop.invariant in
    let e = c.in-Ok.ensures in
    let tiers = c.push_reserved.ensures.items in
    record {
      count = ap length tiers ∙ (length-append c.loop.tiers.items (c.in-Ok.tier ∷ []) ∙ ap (λ n. n + 1) i.count);
      tier_room = c.push_reserved.ensures.capacity ∙ i.tier_room;
      rest_room = c.push_reserved-in-loop.ensures.capacity ∙ i.rest_room;
      locals = subst (λ l. Each l (λ h t. IsLocal c.args.sizes.now c.args.numbers t)) (sym tiers) (each_push c.loop.tiers.items c.in-Ok.tier (λ h t. IsLocal c.args.sizes.now c.args.numbers t) i.locals e.tier);
      rests = whole_more c.loop.tiers.items c.push_reserved.new.self.items c.in-Ok.tier c.loop.rests.items c.push_reserved-in-loop.new.self.items c.in-Ok.rest c.args.numbers tiers c.push_reserved-in-loop.ensures.items e.tier.numbered e.rest i.rests;
    }
