use Rattle.std.proofs.Common.{◌∙◌, append_assoc}
use Rattle.faasm_top.proofs.session_lines.function_line.Goals as goal

pub returns : goal.returns
returns c = c.in_ok-format.ensures.ok ∙ simp append_assoc
