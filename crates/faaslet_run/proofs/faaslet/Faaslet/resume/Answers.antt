use Rattle.faaslet_run.proofs.Placing.{placed_result, value_given, done_fuel}
use Rattle.faaslet_run.proofs.faaslet.Faaslet.resume.Goals as goal

pub resume_host-requires : goal.resume_host-requires
resume_host-requires c =
    let (j, start, t, p, h) = c.requires in
    (h.stands.code, j.program.grants, start.config.fuel, h.state.config, h.host, h.stands.stands, value_given c.args.value h.host h.gives)

pub returns-clause-goes : goal.returns-clause-goes
returns-clause-goes c = λ j start t p h.
    let stands = c.resume_host.ensures.done h.stands.code j.program.grants start.config.fuel h.state.config h.host h.stands.stands (value_given c.args.value h.host h.gives) in
    placed_result c.args.self.now j start t p c.args.value h c.resume_host.new.self stands

pub returns-clause-fuel : goal.returns-clause-fuel
returns-clause-fuel c =
    let (j, start, t, p, h) = c.requires in
    let stands = c.resume_host.ensures.done h.stands.code j.program.grants start.config.fuel h.state.config h.host h.stands.stands (value_given c.args.value h.host h.gives) in
    done_fuel c.args.self.now.machine c.resume_host.new.self h.stands.code j.program.grants start.config.fuel h.state.config h.host c.args.value h.stands.stands stands
