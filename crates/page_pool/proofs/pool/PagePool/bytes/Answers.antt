-- The part of the bytes that is lent is the content of the page.
use Rattle.std.proofs.Common.{◌≡◌, ◌+◌, ◌-◌, ◌*◌, arith, sym}
use Rattle.page_pool.specs.Pool.{page_size}
use Rattle.page_pool.proofs.Changes.{among, content_is}
use Rattle.page_pool.proofs.pool.PagePool.bytes.Goals as goal

pub slice_bounds-result-end : goal.slice_bounds-result-end
slice_bounds-result-end c =
    let l = among c.self.inside c.args.self.now c.args.page.now c.self.view_is c.self.invariant c.requires in
    omega (arith, c.self.invariant.whole, c.deref.ensures.len)

pub returns-clause-content : goal.returns-clause-content
returns-clause-content c =
    let k : c.page.inside.number * 65536 + 65536 - c.page.inside.number * 65536 ≡ page_size = omega arith in
    rw (k, c.deref.ensures.value, c.page.view_is) (sym (content_is c.self.inside c.args.self.now c.args.page.now c.self.view_is c.self.invariant c.requires))
