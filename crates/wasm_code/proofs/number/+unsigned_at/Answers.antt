use Rattle.std.proofs.Common.{arith}
use Rattle.wasm_code.proofs.Leb.{pow_at_64, pow_seven}
use Rattle.wasm_code.proofs.number.+unsigned_at.Goals as goal

pub overflow_mul-n : goal.overflow_mul-n
overflow_mul-n t c = omega (arith, c.in_ok-m.ensures.bounded, pow_at_64 c.args.bits c.requires, pow_seven c.args.bits (omega arith))

pub overflow_add-n : goal.overflow_add-n
overflow_add-n t c = omega (arith, c.in_ok-m.ensures.bounded, pow_at_64 c.args.bits c.requires, pow_seven c.args.bits (omega arith), c.from-2.ensures, c.in_ok-b.ensures.byte)

pub returns-clause-bounded : goal.returns-clause-bounded
returns-clause-bounded t c = omega (arith, c.in_ok-m.ensures.bounded, pow_seven c.args.bits (omega arith), c.from-2.ensures, c.in_ok-b.ensures.byte)
