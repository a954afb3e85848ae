-- The number of free pages fits its type, and is as the model has it.
use Rattle.std.proofs.Common.{arith}
use Rattle.page_pool.proofs.Changes.{few, free_many, pages_are}
use Rattle.page_pool.specs.PagePool.{pool_in}
use Rattle.page_pool.proofs.pool.PagePool.free.Goals as goal

pub overflow_cast-result : goal.overflow_cast-result
overflow_cast-result c = omega (arith, few (pool_in c.self.inside) c.self.invariant.are, free_many c.self.inside, pages_are c.self.inside c.self.invariant)

pub overflow_add-result : goal.overflow_add-result
overflow_add-result c = omega (arith, few (pool_in c.self.inside) c.self.invariant.are, free_many c.self.inside, pages_are c.self.inside c.self.invariant, c.len.ensures, c.self.inside.given_back.ok.0)

pub returns-clause-count : goal.returns-clause-count
returns-clause-count c = rw (← c.self.view_is) (omega (arith, free_many c.self.inside, c.len.ensures, c.self.inside.given_back.ok.0))
