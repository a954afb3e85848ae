use Rattle.faaslet_meaning.proofs.OneCommand.{one_command}
use Rattle.faaslet_meaning.proofs.laws.one_command.Goals as goal

pub returns : goal.returns
returns c = one_command
