use Rattle.std.proofs.Common.{◌∙◌, sym, subst}
use Rattle.std.proofs.lemmas.Option.{same_Some}
use Rattle.faaslet_meaning.specs.Asks.{RepliesAs}
use Rattle.host_calls.specs.States.{AtQuestion}
use Rattle.host_calls.proofs.state_call.StateCall.step.Goals as goal

pub after-requires-clause-at : goal.after-requires-clause-at
after-requires-clause-at g c =
    subst (λ gs. AtQuestion c.args.self.now.stage gs c.args.known.now (g.M.Linear.memory c.args.machine.now.memory)) (sym c.as_slice-in-Some.ensures) (c.requires.after c.in-Some.reply c.in-Some.is).0

pub returns-in-Some-clause-after : goal.returns-in-Some-clause-after
returns-in-Some-clause-after g c j s r q answer e same differ own amid asked said =
    c.after.ensures.comes j s q answer (same ∙ sym c.as_slice-in-Some.ensures) differ own amid asked (subst (λ x. RepliesAs q x c.args.machine.now.scratch answer) (same_Some r c.in-Some.reply (sym e ∙ c.in-Some.is)) said)
