use Rattle.faaslet_meaning.specs.CallState.{fresh_state}
use Rattle.faaslet_meaning.specs.Runs.{invocation}
use Rattle.faaslet_run_tests.proofs.Answering.{asked_kept, may_answer, answered_at}
use Rattle.faaslet_run_tests.proofs.serving.reply_to.Goals as goal

pub answer-requires-clause-waits : goal.answer-requires-clause-waits
answer-requires-clause-waits c = (let (kids, x, m) = c.requires in (asked_kept c.args.faaslet.now c.put.new.faaslet c.args.ask kids c.put.ensures.only x).waits)

pub answer-requires-clause-at : goal.answer-requires-clause-at
answer-requires-clause-at c =
    let (kids, x, m) = c.requires in
    let y = asked_kept c.args.faaslet.now c.put.new.faaslet c.args.ask kids c.put.ensures.only x in
    let a = may_answer c.put.new.faaslet c.args.ask c.args.reply kids y m c.put.ensures.long in
    (invocation y.function y.input, fresh_state y.config, y.transcript, y.state, y.question, a.reply, y.at, a.replies, a.fit)

pub returns : goal.returns
returns c = λ kids x m.
    let y = asked_kept c.args.faaslet.now c.put.new.faaslet c.args.ask kids c.put.ensures.only x in
    let a = may_answer c.put.new.faaslet c.args.ask c.args.reply kids y m c.put.ensures.long in
    answered_at c.put.new.faaslet c.answer.new.self c.args.ask c.args.reply kids y a (c.answer.ensures.answered (invocation y.function y.input) (fresh_state y.config) y.transcript y.state y.question a.reply y.at a.replies a.fit)
