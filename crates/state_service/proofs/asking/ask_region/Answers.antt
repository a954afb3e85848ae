-- The access finds what it asks for, and leaves what was asked.
use Rattle.std.proofs.Common.{◌∙◌, sym}
use Rattle.state_service.proofs.Asks.{carried_may, plain_may, carried_goes, plain_goes}
use Rattle.state_service.proofs.asking.ask_region.Goals as goal

pub access-requires : goal.access-requires
access-requires g c = carried_may _ _ _ _ c.operation-carried.result c.args.scratch.now (sym c.carries.ensures ∙ c.if-carries.true) c.operation-carried.ensures c.requires

pub access-requires-else-carries : goal.access-requires-else-carries
access-requires-else-carries g c = plain_may _ _ _ _ c.operation-plain.result _ c.args.scratch.now (sym c.carries.ensures ∙ c.if-carries.false) c.operation-plain.ensures c.requires

pub returns-then-carries : goal.returns-then-carries
returns-then-carries g c = carried_goes _ _ _ _ _ c.operation-carried.result c.access.result c.args.scratch.now _ (sym c.carries.ensures ∙ c.if-carries.true) c.operation-carried.ensures c.access.ensures

pub returns-else-carries : goal.returns-else-carries
returns-else-carries g c = plain_goes _ _ _ _ _ c.operation-plain.result c.access-else-carries.result _ c.args.scratch.now c.access-else-carries.new.scratch (sym c.carries.ensures ∙ c.if-carries.false) c.operation-plain.ensures c.access-else-carries.ensures
