use Rattle.faaslet_meaning.proofs.CallAsks.{own_channels}
use Rattle.faaslet_meaning.proofs.call_laws.locks_have_own_channels.Goals as goal

pub returns : goal.returns
returns c = own_channels
