use Rattle.std.proofs.Common.{ℕ, ◌<◌, IsTrue}
use Rattle.faasm_top.specs.Traced.{is_done_at}
use Rattle.faasm_top.proofs.tracing.all_done.Given as goal

abbrev pub invariant-loop-request : goal.invariant-loop-request
invariant-loop-request g l = (n : ℕ) → n < l.request → IsTrue (is_done_at (g.S.Reported.records l.session) n)
