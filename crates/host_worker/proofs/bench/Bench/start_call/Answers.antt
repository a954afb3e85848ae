-- The call begins at the first state of its function.
use Rattle.host_worker.proofs.Begins.{begins}
use Rattle.host_worker.proofs.bench.Bench.start_call.Goals as goal

pub returns-clause-busy : goal.returns-clause-busy
returns-clause-busy c tiers e seated handed =
    begins tiers c.args.self.now c.args.job.call e seated c.args.proto.now c.args.grants.now (record { number = c.args.self.now.number; call = c.args.job.call; callees = c.args.callees; faaslet = c.start.new.self; passes = c.args.self.now.passes }) c.args.job c.args.self.now.faaslet.input handed c.start.ensures.started
