use Rattle.std.proofs.Common.{◌∙◌}
use Rattle.proto_faaslet.proofs.entries.kept_by.Goals as goal

pub returns : goal.returns
returns g c = λ code grants given n d h is. (
  c.of.ensures ∙ c.in_ok-globals.ensures.items ∙ c.globals.ensures code grants given n d h is,
  c.of-2.ensures ∙ c.in_ok-table.ensures.items ∙ c.table.ensures code grants given n d h is,
)
