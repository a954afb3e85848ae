use Rattle.host_calls.proofs.StateForms.{belongs}
use Rattle.host_calls.proofs.state_laws.state_replies_belong.Goals as goal

pub returns : goal.returns
returns c t h j s q r answer a at e said form = belongs t h j s q r answer a at e said form
