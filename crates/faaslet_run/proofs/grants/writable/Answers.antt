use Rattle.std.proofs.Common.{arith}
use Rattle.faaslet_run.proofs.Granted.{small_bits}
use Rattle.faaslet_run.proofs.grants.writable.Goals as goal

pub overflow_mul-bits : goal.overflow_mul-bits
overflow_mul-bits c = let i = c.grants.invariant.0 in let s = small_bits c.args.grants.now c.grants.left c.requires in omega (arith, i, s)

pub overflow_add-bits : goal.overflow_add-bits
overflow_add-bits c = let i = c.grants.invariant.0 in let s = small_bits c.args.grants.now c.grants.left c.requires in let b = c.write_bit.ensures.small in omega (arith, i, s, b)

pub overflow_cast-result : goal.overflow_cast-result
overflow_cast-result c = let i = c.grants.invariant.0 in let s = small_bits c.args.grants.now c.grants.left c.requires in omega (arith, i, s)
