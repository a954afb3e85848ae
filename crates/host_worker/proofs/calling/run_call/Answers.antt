-- It goes on until it halts.
use Rattle.std.proofs.Common.{[], ◌++◌, refl, sym, subst}
use Rattle.std.proofs.lemmas.List.{append-nil}
use Rattle.host_worker.specs.Busy.{Busy}
use Rattle.host_worker.specs.Halts.{Halts}
use Rattle.host_worker.proofs.Growing.{grew_none, grew_then}
use Rattle.host_worker.proofs.Parts.{bench_then, halts_more, same_bench, went_more}
use Rattle.host_worker.proofs.calling.run_call.Goals as goal

pub loop-init : goal.loop-init
loop-init g c = record {
  went = λ e t h. record { trail = []; busy = subst (Busy c.args.tiers c.args.bench e) (sym (append-nil t)) h };
  same = same_bench c.args.bench;
  grew = grew_none c.args.bench c.args.bench refl;
}

pub go_on-next-requires : goal.go_on-next-requires
go_on-next-requires g c =
    let r = c.requires.busy in
    let w = c.loop.invariant.went r.0 r.1 r.2 in
    record { busy = (r.0, r.1 ++ w.trail, w.busy) }

pub loop-preserved : goal.loop-preserved
loop-preserved g c =
    let i = c.loop.invariant in
    let n = rw c.in_default.is at c.go_on-next.ensures.comes in
    record {
      went = λ e t h. (let w = i.went e t h in went_more c.args.tiers c.loop.bench c.go_on-next.result.0 e t w (n e (t ++ w.trail) w.busy));
      same = bench_then c.args.bench c.loop.bench c.go_on-next.result.0 i.same c.go_on-next.ensures.same;
      grew = grew_then c.args.bench c.loop.bench c.go_on-next.result.0 i.grew c.go_on-next.ensures.grew;
    }

pub returns-in-Some-halt-clause-went : goal.returns-in-Some-halt-clause-went
returns-in-Some-halt-clause-went g c e t h =
    let i = c.loop.invariant in
    let w = i.went e t h in
    let n = rw c.in-Some-halt.is at c.go_on-next.ensures.comes in
    halts_more c.args.tiers c.loop.bench c.go_on-next.result.0 e t (λ u. Halts c.args.tiers c.go_on-next.result.0 e u c.in-Some-halt.halt) w (n e (t ++ w.trail) w.busy)

pub returns-in-Some-halt-clause-same : goal.returns-in-Some-halt-clause-same
returns-in-Some-halt-clause-same g c = bench_then c.args.bench c.loop.bench c.go_on-next.result.0 c.loop.invariant.same c.go_on-next.ensures.same

pub returns-in-Some-halt-clause-grew : goal.returns-in-Some-halt-clause-grew
returns-in-Some-halt-clause-grew g c = grew_then c.args.bench c.loop.bench c.go_on-next.result.0 c.loop.invariant.grew c.go_on-next.ensures.grew
