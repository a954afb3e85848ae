use Rattle.std.proofs.Common.{subst}
use Rattle.faaslet_run.specs.Hosts.{HasCome}
use Rattle.faaslet_run.proofs.Placing.{come_ask, come_trap, come_want}
use Rattle.faaslet_run.proofs.faaslet.Faaslet.take_up.Goals as goal

pub returns-in-Ask-clause-goes : goal.returns-in-Ask-clause-goes
returns-in-Ask-clause-goes c = λ j start t p h.
    come_ask c.args.self.now j start t p c.args.call c.in-Ask.ask (subst (λ y. HasCome c.args.self.now j start t p y c.args.call.stage) c.in-Ask.is h)

pub go_on-requires : goal.go_on-requires
go_on-requires c =
    let (j, start, t, p, h) = c.requires in
    (j, start, t, p, subst (λ x. HasCome c.args.self.now j start t p x c.args.call.stage) c.in-Done.is h)

pub returns-in-Done-clause-goes : goal.returns-in-Done-clause-goes
returns-in-Done-clause-goes c = λ j start t p h.
    c.go_on.ensures.goes j start t p (subst (λ x. HasCome c.args.self.now j start t p x c.args.call.stage) c.in-Done.is h)

pub end-requires : goal.end-requires
end-requires c =
    let (j, start, t, p, h) = c.requires in
    (j, start, t, p, come_trap c.args.self.now j start t p c.args.call c.in-Trap.trap (subst (λ x. HasCome c.args.self.now j start t p x c.args.call.stage) c.in-Trap.is h))

pub returns-in-Trap-clause-goes : goal.returns-in-Trap-clause-goes
returns-in-Trap-clause-goes c = λ j start t p h.
    c.end.ensures.goes j start t p (come_trap c.args.self.now j start t p c.args.call c.in-Trap.trap (subst (λ x. HasCome c.args.self.now j start t p x c.args.call.stage) c.in-Trap.is h))

pub end-requires-in-Want : goal.end-requires-in-Want
end-requires-in-Want c =
    let (j, start, t, p, h) = c.requires in
    (j, start, t, p, come_want c.args.self.now j start t p c.args.call (subst (λ x. HasCome c.args.self.now j start t p x c.args.call.stage) c.in-Want.is h))

pub returns-in-Want-clause-goes : goal.returns-in-Want-clause-goes
returns-in-Want-clause-goes c = λ j start t p h.
    c.end-in-Want.ensures.goes j start t p (come_want c.args.self.now j start t p c.args.call (subst (λ x. HasCome c.args.self.now j start t p x c.args.call.stage) c.in-Want.is h))
