use Rattle.std.proofs.Common.{ap, length}
use Rattle.function_rules.proofs.Owns.{is_own, none_own, below_own}
use Rattle.function_rules.proofs.exports.own_type.Goals as goal

pub returns-clause-own : goal.returns-clause-own
returns-clause-own c = is_own c.args.module.now c.args.index _ c.requires (ap length c.as_slice-imported.ensures) c.if-index-imported.false c.type_number.result c.type_number.ensures

pub returns-clause-none : goal.returns-clause-none
returns-clause-none c = none_own c.args.module.now c.args.index _ c.requires (ap length c.as_slice-imported.ensures) c.if-index-imported.false c.type_number.result c.type_number.ensures

pub returns-then-index-imported-clause-none : goal.returns-then-index-imported-clause-none
returns-then-index-imported-clause-none c = λ t. below_own c.args.module.now c.args.index _ t c.requires (ap length c.as_slice-imported.ensures) c.if-index-imported.true
