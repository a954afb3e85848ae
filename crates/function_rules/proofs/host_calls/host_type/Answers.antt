use Rattle.std.proofs.Common.{ap, ◌∙◌}
use Rattle.std.specs.Prelude.{option_map}
use Rattle.function_rules.specs.Signatures.{func_type}
use Rattle.function_rules.proofs.Tables.{type_found}
use Rattle.function_rules.proofs.host_calls.host_type.Goals as goal

pub returns : goal.returns
returns c = ap (option_map func_type) c.type_at.ensures ∙ type_found c.args.number
