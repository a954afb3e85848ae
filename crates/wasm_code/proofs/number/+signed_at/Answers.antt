use Rattle.std.proofs.Common.{arith}
use Rattle.std.proofs.lemmas.Int.{ints}
use Rattle.wasm_code.proofs.Signed.{narrow, widened, signed_more}
use Rattle.wasm_code.proofs.number.+signed_at.Goals as goal

pub overflow_mul-z : goal.overflow_mul-z
overflow_mul-z t c =
    let n = narrow c.args.bits c.in_ok-m.m c.if-bits-le7.false c.requires.1 c.in_ok-m.ensures.bounded in
    omega (arith, ints)

pub returns-clause-bounded : goal.returns-clause-bounded
returns-clause-bounded t c =
    let n = narrow c.args.bits c.in_ok-m.m c.if-bits-le7.false c.requires.1 c.in_ok-m.ensures.bounded in
    widened _ _ _ c.in_ok-m.m c.if-bits-le7.false c.if-b-lt128.false c.in_ok-b.ensures.byte (omega (arith, ints, c.from-2.ensures, c.in_ok-b.ensures.byte)) c.in_ok-m.ensures.bounded

pub returns-clause-exact : goal.returns-clause-exact
returns-clause-exact t c =
    let n = narrow c.args.bits c.in_ok-m.m c.if-bits-le7.false c.requires.1 c.in_ok-m.ensures.bounded in
    signed_more _ _ _ _ _ c.in_ok-m.m _ c.in_ok-b.ensures.parts c.if-bits-le7.false c.if-b-lt128.false c.in_ok-m.ensures.exact (omega (arith, ints, c.from-2.ensures, c.in_ok-b.ensures.byte))
