use Rattle.faasm_top.proofs.OneLine.{one_line}
use Rattle.faasm_top.proofs.commands.one_line.Goals as goal

pub returns : goal.returns
returns c = one_line
