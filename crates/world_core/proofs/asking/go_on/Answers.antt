-- A Faaslet goes on from the question that it told by the reply that fits it, and so does the open call of the world.
use Rattle.std.proofs.Common.{[], ◌∷◌, ◌++◌}
use Rattle.faaslet_meaning.specs.Call.{replied}
use Rattle.world_core.proofs.Turning.{answered_on}
use Rattle.world_core.proofs.asking.go_on.Goals as goal

pub next-requires : goal.next-requires
next-requires c =
    let r = c.requires in (
      r.j,
      r.start,
      r.transcript ++ (r.question, r.told) ∷ [],
      replied r.j r.state r.told,
      (c.answer.ensures.answered r.j r.start r.transcript r.state r.question r.told r.at r.replies r.fits_so).0,
    )

pub returns-clause-goes : goal.returns-clause-goes
returns-clause-goes c o start t s q r at replies fit tallies =
    let a = c.answer.ensures.answered o.invocation start t s q r at replies fit in
    answered_on o start t s q r at.way fit tallies c.next.new.self c.next.result (c.next.ensures.tells o.invocation start (t ++ (q, r) ∷ []) (replied o.invocation s r) a.0 a.1)
