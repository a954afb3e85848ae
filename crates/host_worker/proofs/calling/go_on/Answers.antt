-- The question that comes next is served, or the call is over.
use Rattle.std.proofs.Common.{refl}
use Rattle.faaslet_meaning.specs.CallState.{over}
use Rattle.host_worker.specs.Busy.{first_of, invocation_of}
use Rattle.host_worker.specs.Halts.{HasEnded}
use Rattle.host_worker.proofs.Ends.{has_ended}
use Rattle.host_worker.proofs.Growing.{grew_none, grew_then}
use Rattle.host_worker.proofs.Parts.{asks_next, busy_with, stays, with_faaslet}
use Rattle.host_worker.proofs.calling.go_on.Goals as goal

pub serve-requires : goal.serve-requires
serve-requires g c =
    let r = c.requires.busy in
    let h = r.2 in
    record { asks = (r.0, r.1, asks_next c.args.tiers c.args.bench r.0 r.1 c.in-Asks.ask c.next.new.self h (c.in-Asks.ensures.tells (invocation_of r.0) (first_of r.0) r.1 h.goes.progress h.goes.at h.goes.ready)) }

pub returns-in-Ended-clause-comes : goal.returns-in-Ended-clause-comes
returns-in-Ended-clause-comes g c e t h =
    let x = c.in-Ended.ensures.tells (invocation_of e) (first_of e) t h.goes.progress h.goes.at h.goes.ready in
    let b = with_faaslet c.args.bench c.next.new.self in
    let o = c.in-Ended.outcome in
    let busy = busy_with c.args.tiers c.args.bench e t c.next.new.self h (record { progress = over x.state o; at = x.at; ready = tt }) in
    stays c.args.tiers b e t (λ u. HasEnded b e u o) busy (has_ended c.args.tiers b e t o busy x c.used-used.result (c.used-used.ensures (invocation_of e) (first_of e) t (over x.state o) x.state x.at refl))

pub returns-in-Asks-clause-comes : goal.returns-in-Asks-clause-comes
returns-in-Asks-clause-comes g c e t h =
    c.serve.ensures.comes e t (asks_next c.args.tiers c.args.bench e t c.in-Asks.ask c.next.new.self h (c.in-Asks.ensures.tells (invocation_of e) (first_of e) t h.goes.progress h.goes.at h.goes.ready))

pub returns-in-Ended-clause-grew : goal.returns-in-Ended-clause-grew
returns-in-Ended-clause-grew g c = grew_none c.args.bench (with_faaslet c.args.bench c.next.new.self) refl

pub returns-in-Asks-clause-grew : goal.returns-in-Asks-clause-grew
returns-in-Asks-clause-grew g c = grew_then c.args.bench (with_faaslet c.args.bench c.next.new.self) c.serve.result.0 (grew_none c.args.bench (with_faaslet c.args.bench c.next.new.self) refl) c.serve.ensures.grew
