use Rattle.faaslet_meaning.specs.CallState.{fresh_state}
use Rattle.faaslet_meaning.specs.Runs.{invocation}
use Rattle.faaslet_run_tests.proofs.Answering.{asked_at}
use Rattle.faaslet_run_tests.proofs.serving.asked.Goals as goal

pub next-requires : goal.next-requires
next-requires c = (let (kids, x) = c.requires in (invocation x.function x.input, fresh_state x.config, x.transcript, x.at.progress, x.at.at))

pub returns-in-Asks : goal.returns-in-Asks
returns-in-Asks c = λ kids x. asked_at c.args.faaslet.now c.next.new.self c.next.result c.in-Asks.ask kids x c.in-Asks.is (c.next.ensures.tells (invocation x.function x.input) (fresh_state x.config) x.transcript x.at.progress x.at.at x.at.ready)
