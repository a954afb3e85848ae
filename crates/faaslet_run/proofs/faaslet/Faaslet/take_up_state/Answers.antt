use Rattle.std.proofs.Common.{subst}
use Rattle.faaslet_run.specs.Hosts.{StateHasCome}
use Rattle.faaslet_run.proofs.Placing.{state_ask, state_done, state_trap}
use Rattle.faaslet_run.proofs.faaslet.Faaslet.take_up_state.Goals as goal

pub returns-in-Ask-clause-goes : goal.returns-in-Ask-clause-goes
returns-in-Ask-clause-goes c = λ j start t p h.
    state_ask c.args.self.now j start t p c.args.call c.in-Ask.ask (subst (λ y. StateHasCome c.args.self.now j start t p y c.args.call.stage) c.in-Ask.is h)

pub resume-requires : goal.resume-requires
resume-requires c =
    let (j, start, t, p, h) = c.requires in
    (j, start, t, p, state_done c.args.self.now j start t p c.args.call c.in-Done.value (subst (λ x. StateHasCome c.args.self.now j start t p x c.args.call.stage) c.in-Done.is h))

pub returns-in-Done-clause-goes : goal.returns-in-Done-clause-goes
returns-in-Done-clause-goes c = λ j start t p h.
    c.resume.ensures.goes j start t p (state_done c.args.self.now j start t p c.args.call c.in-Done.value (subst (λ x. StateHasCome c.args.self.now j start t p x c.args.call.stage) c.in-Done.is h))

pub end-requires : goal.end-requires
end-requires c =
    let (j, start, t, p, h) = c.requires in
    (j, start, t, p, state_trap c.args.self.now j start t p c.args.call c.in-Trap.trap (subst (λ x. StateHasCome c.args.self.now j start t p x c.args.call.stage) c.in-Trap.is h))

pub returns-in-Trap-clause-goes : goal.returns-in-Trap-clause-goes
returns-in-Trap-clause-goes c = λ j start t p h.
    c.end.ensures.goes j start t p (state_trap c.args.self.now j start t p c.args.call c.in-Trap.trap (subst (λ x. StateHasCome c.args.self.now j start t p x c.args.call.stage) c.in-Trap.is h))
