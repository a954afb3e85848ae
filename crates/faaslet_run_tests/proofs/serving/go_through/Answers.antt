use Rattle.faaslet_meaning.specs.CallState.{fresh_state}
use Rattle.faaslet_meaning.specs.Runs.{invocation}
use Rattle.faaslet_run_tests.proofs.serving.go_through.Goals as goal

pub next-requires : goal.next-requires
next-requires c = (let x = c.rows.invariant in (invocation x.function x.input, fresh_state x.config, x.transcript, x.at.progress, x.at.at))
