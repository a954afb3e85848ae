-- By where the Faaslet stands.
use Rattle.std.proofs.Common.{refl}
use Rattle.faaslet_meaning.specs.CallState.{over}
use Rattle.host_worker.specs.Busy.{first_of, invocation_of}
use Rattle.host_worker.proofs.bench.Bench.output.Goals as goal

pub returns : goal.returns
returns c e t o x = c.output.ensures (invocation_of e) (first_of e) t (over x.last o) x.last x.at refl
