use Rattle.std.proofs.Common.{arith}
use Rattle.faaslet_meaning.specs.Call.{settled}
use Rattle.faaslet_meaning.specs.Configuration.{ends, touches}
use Rattle.faaslet_run.proofs.Stepping.{run_at}
use Rattle.faaslet_run.proofs.Standing.{told_end, told_host, told_piece, at_runs, run_ended, run_at_host, run_asks, run_paid, run_stopped, left_less, was_running}
use Rattle.faaslet_run.proofs.faaslet.Faaslet.run_on.Goals as goal

pub run-requires : goal.run-requires
run-requires c =
    let (j, start, t, p, a) = c.requires.at in
    let r = at_runs c.args.self.now j start.config.fuel p c.requires.runs a.stage in
    (r.stands.code, j.program.grants, start.config.fuel, r.next, r.stands.stands)

pub end-requires : goal.end-requires
end-requires c =
    let f = c.args.self.now in
    let (j, start, t, p, a) = c.requires.at in
    let r = at_runs f j start.config.fuel p c.requires.runs a.stage in
    let ran = c.run.ensures.ran r.stands.code j.program.grants start.config.fuel r.next r.stands.stands in
    let (d, e) = told_end c.run.result _ ran.next c.in-Ended.outcome c.in-Ended.is ran.event in
    (j, start, t, settled j r.state (ends d c.in-Ended.outcome), run_ended f j start t p a r c.run.new.self ran.next ran.comes ran.stands d c.in-Ended.outcome e)

pub returns-in-Ended-clause-goes : goal.returns-in-Ended-clause-goes
returns-in-Ended-clause-goes c = λ j start t p a.
    let f = c.args.self.now in
    let r = at_runs f j start.config.fuel p c.requires.runs a.stage in
    let ran = c.run.ensures.ran r.stands.code j.program.grants start.config.fuel r.next r.stands.stands in
    let (d, e) = told_end c.run.result _ ran.next c.in-Ended.outcome c.in-Ended.is ran.event in
    let q = settled j r.state (ends d c.in-Ended.outcome) in
    let g = c.end.ensures.goes j start t q (run_ended f j start t p a r c.run.new.self ran.next ran.comes ran.stands d c.in-Ended.outcome e) in
    record { progress = q; at = g.0; ready = g.1 }

pub returns-in-Ended-clause-less : goal.returns-in-Ended-clause-less
returns-in-Ended-clause-less c =
    let f = c.args.self.now in
    let new = c.end.new.self in
    let less = left_less new.stage new.machine.thread.fuel f.machine.thread.fuel (λ runs. absurd (c.end.ensures.rests runs)) in
    omega (arith, less, was_running f c.requires.runs)

pub serve-requires : goal.serve-requires
serve-requires c =
    let f = c.args.self.now in
    let (j, start, t, p, a) = c.requires.at in
    let r = at_runs f j start.config.fuel p c.requires.runs a.stage in
    let ran = c.run.ensures.ran r.stands.code j.program.grants start.config.fuel r.next r.stands.stands in
    let (d, h, e, asks) = told_host c.run.result _ ran.next c.in-Host.ask c.in-Host.is ran.event in
    (j, start, t, run_at r.state d, h, run_at_host f j start t p a r c.run.new.self ran.next ran.comes ran.stands d h e, run_asks f j start t p a r c.run.new.self ran.next ran.comes ran.stands c.in-Host.ask d h e asks)

pub returns-in-Host-clause-goes : goal.returns-in-Host-clause-goes
returns-in-Host-clause-goes c = λ j start t p a.
    let f = c.args.self.now in
    let r = at_runs f j start.config.fuel p c.requires.runs a.stage in
    let ran = c.run.ensures.ran r.stands.code j.program.grants start.config.fuel r.next r.stands.stands in
    let (d, h, e, asks) = told_host c.run.result _ ran.next c.in-Host.ask c.in-Host.is ran.event in
    c.serve.ensures.goes j start t (run_at r.state d) h (run_at_host f j start t p a r c.run.new.self ran.next ran.comes ran.stands d h e) (run_asks f j start t p a r c.run.new.self ran.next ran.comes ran.stands c.in-Host.ask d h e asks)

pub returns-in-Host-clause-less : goal.returns-in-Host-clause-less
returns-in-Host-clause-less c =
    let f = c.args.self.now in
    let (j, start, t, p, a) = c.requires.at in
    let r = at_runs f j start.config.fuel p c.requires.runs a.stage in
    let ran = c.run.ensures.ran r.stands.code j.program.grants start.config.fuel r.next r.stands.stands in
    let (d, h, e, asks) = told_host c.run.result _ ran.next c.in-Host.ask c.in-Host.is ran.event in
    let paid = run_paid f j start t p a r c.run.new.self ran.next ran.comes ran.stands d h e in
    let new = c.serve.new.self in
    let less = left_less new.stage new.machine.thread.fuel f.machine.thread.fuel (λ runs. (let same = c.serve.ensures.fuel runs in omega (arith, same, paid))) in
    omega (arith, less, was_running f c.requires.runs)

pub stop_at-requires : goal.stop_at-requires
stop_at-requires c =
    let f = c.args.self.now in
    let (j, start, t, p, a) = c.requires.at in
    let r = at_runs f j start.config.fuel p c.requires.runs a.stage in
    let ran = c.run.ensures.ran r.stands.code j.program.grants start.config.fuel r.next r.stands.stands in
    let (d, b, e, told) = told_piece c.run.result _ ran.next c.in-Piece.piece c.in-Piece.is ran.event in
    (j, start, t, settled j r.state (touches d b), run_stopped f j start t p a r c.run.new.self ran.next ran.comes ran.stands c.in-Piece.piece d b e told)

pub returns-in-Piece-clause-goes : goal.returns-in-Piece-clause-goes
returns-in-Piece-clause-goes c = λ j start t p a.
    let f = c.args.self.now in
    let r = at_runs f j start.config.fuel p c.requires.runs a.stage in
    let ran = c.run.ensures.ran r.stands.code j.program.grants start.config.fuel r.next r.stands.stands in
    let (d, b, e, told) = told_piece c.run.result _ ran.next c.in-Piece.piece c.in-Piece.is ran.event in
    let q = settled j r.state (touches d b) in
    let g = c.stop_at.ensures.goes j start t q (run_stopped f j start t p a r c.run.new.self ran.next ran.comes ran.stands c.in-Piece.piece d b e told) in
    record { progress = q; at = g.0; ready = g.1 }

pub returns-in-Piece-clause-less : goal.returns-in-Piece-clause-less
returns-in-Piece-clause-less c =
    let f = c.args.self.now in
    let new = c.stop_at.new.self in
    let less = left_less new.stage new.machine.thread.fuel f.machine.thread.fuel (λ runs. absurd (c.stop_at.ensures.rests runs)) in
    omega (arith, less, was_running f c.requires.runs)
