-- One open call after another.
use Rattle.std.proofs.Common.{length, ap, arith}
use Rattle.world_core.proofs.Settles.{all_settled, settle_step}
use Rattle.world_core.proofs.running.Running.settle.Goals as goal

pub loop-seat-preserved : goal.loop-seat-preserved
loop-seat-preserved c =
    let many = ap (λ ps. length ps.items) c.loop-seat.invariant.players in
    let end = c.len-seat-end.ensures in
    let l = c.loop-seat-test.true in
    settle_step c.args.self.now c.loop-seat.self c.set_stand.new.self c.loop-seat.seat c.stand-stand.result c.loop-seat.invariant (omega (arith, many, end, l)) c.stand-stand.ensures c.set_stand.ensures.seats c.set_stand.ensures.rest

pub returns-clause-lives : goal.returns-clause-lives
returns-clause-lives c =
    let many = ap (λ ps. length ps.items) c.loop-seat.invariant.players in
    let end = c.len-seat-end.ensures in
    let l = c.loop-seat-test.false in
    all_settled c.args.self.now c.loop-seat.self c.loop-seat.seat c.loop-seat.invariant (omega (arith, many, end, l))
