-- The one operation was made on its channel.
use Rattle.std.proofs.Common.{sym, subst}
use Rattle.faaslet_meaning.specs.declared.ask.Ask.TheVariants as an_ask
use Rattle.faaslet_meaning.specs.declared.grant.Channel.{Channel}
use Rattle.region_tier.specs.Tiers.{cells_of, slots_of}
use Rattle.region_tier.proofs.At.{opened_at}
use Rattle.state_service.specs.May.{MayServe}
use Rattle.state_service.specs.Served.{Served}
use Rattle.state_service.proofs.Asks.{served_local, served_global}
use Rattle.state_service.proofs.service.ask_channel.Goals as goal

pub returns-in-Local : goal.returns-in-Local
returns-in-Local g c =
    let key = c.in-Local.key in
    let l = cells_of c.args.locals.now in
    let h = cells_of c.args.globals.now in
    let may = subst (λ (ch : Channel). MayServe (an_ask.Region ch c.args.op) l h (slots_of c.args.passes.now.local) (slots_of c.args.passes.now.global) c.args.scratch.now) c.in-Local.is c.requires in
    subst (λ (ch : Channel). Served (an_ask.Region ch c.args.op) 0 l h (slots_of c.args.passes.now.local) (slots_of c.ask_region.new.passes) (slots_of c.args.passes.now.global) (slots_of c.args.passes.now.global) c.ask_region.result c.args.scratch.now c.ask_region.new.scratch)
    (sym c.in-Local.is) (served_local l h _ _ _ key c.args.op c.ask_region.result _ _ (opened_at c.args.locals.now key) may c.ask_region.ensures)

pub returns-in-Global : goal.returns-in-Global
returns-in-Global g c =
    let key = c.in-Global.key in
    let asked = c.ask_region-in-Global in
    let l = cells_of c.args.locals.now in
    let h = cells_of c.args.globals.now in
    let may = subst (λ (ch : Channel). MayServe (an_ask.Region ch c.args.op) l h (slots_of c.args.passes.now.local) (slots_of c.args.passes.now.global) c.args.scratch.now) c.in-Global.is c.requires in
    subst (λ (ch : Channel). Served (an_ask.Region ch c.args.op) 0 l h (slots_of c.args.passes.now.local) (slots_of c.args.passes.now.local) (slots_of c.args.passes.now.global) (slots_of asked.new.passes) asked.result c.args.scratch.now asked.new.scratch)
    (sym c.in-Global.is) (served_global l h _ _ _ key c.args.op asked.result _ _ (opened_at c.args.globals.now key) may asked.ensures)
