-- What is kept of the host, and the passes that went out.
use Rattle.std.proofs.Common.{refl, ◌∙◌}
use Rattle.session_objects.proofs.Dealt.{keeps_less, own_rows}
use Rattle.session_objects.proofs.hosts.deal_host.Goals as goal

pub returns-clause-rest : goal.returns-clause-rest
returns-clause-rest c =
    keeps_less c.args.tier.now c.args.before c.args.from c.args.rest.now _ c.shift.new.from.items c.args.locals.now.items c.shift-2.new.to.items refl c.requires.whole c.shift.ensures.moves c.shift-2.ensures.moves (c.shift-2.ensures.from ∙ c.shift.ensures.from) c.shift.ensures.to

pub returns-clause-locals : goal.returns-clause-locals
returns-clause-locals c =
    let o = own_rows c.args.tier.now c.args.before c.args.from c.args.rest.now c.shift.new.to.items c.shift.new.from.items c.shift-2.new.from.items c.args.locals.now.items c.shift-2.new.to.items c.requires.whole c.shift.ensures.moves c.shift-2.ensures.moves in
    (o.own, o.count, o.put, o.fresh)
