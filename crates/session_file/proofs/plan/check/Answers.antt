use Rattle.session_meaning.specs.Registry.{check_budget}
use Rattle.session_file.proofs.Refusing.{refuses}
use Rattle.session_file.proofs.plan.check.Goals as goal

pub returns-in-Err-clause-refused : goal.returns-in-Err-clause-refused
returns-in-Err-clause-refused c = let answer = check_budget c.args.registry.now in c.at_entry.ensures answer (refuses c.in-Err.fault answer c.in-Err.ensures.refused)
