-- What nobody blocks makes an entry.
use Rattle.std.proofs.Common.{sym, ◌∙◌}
use Rattle.shared_region.specs.Operations.{operation_of}
use Rattle.shared_region.proofs.Entered.{entered, inside}
use Rattle.shared_region.proofs.region.Region.apply.Goals as goal

pub returns-clause-entry : goal.returns-clause-entry
returns-clause-entry c own =
    entered c.args.maker (operation_of c.args.op.now) c.args.self.now c.perform.new.self (sym c.blocked.ensures ∙ c.in_default.is) (inside c.args.self.now c.args.op.now _ c.requires.fits) own c.perform.ensures.after
