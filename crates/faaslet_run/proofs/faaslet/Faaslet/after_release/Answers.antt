use Rattle.std.proofs.Common.{arith}
use Rattle.faaslet_meaning.specs.Call.{replied}
use Rattle.faaslet_run.proofs.Ending.{released, released_held, released_place}
use Rattle.faaslet_run.proofs.faaslet.Faaslet.after_release.Goals as goal

pub end-requires : goal.end-requires
end-requires c =
    let (j, start, t, s, q, r, h) = c.requires in
    let f = c.args.self.now in
    let a = c.args in
    let below = released_place f j start t s q r a.place a.local a.outcome a.reply h in
    let few = h.amidst.called.allowed.few in
    let keeps = c.unlocked.ensures.keeps s h.work.keeps.keys_are (omega (arith, below, few)) (released_held f j start t s q r a.place a.local a.outcome a.reply h) in
    (j, start, t, replied j s r, released f j start t s q r a.place a.local a.outcome a.reply h c.unlocked.new.self keeps)

pub returns-clause-goes : goal.returns-clause-goes
returns-clause-goes c = λ j start t s q r h.
    let f = c.args.self.now in
    let a = c.args in
    let below = released_place f j start t s q r a.place a.local a.outcome a.reply h in
    let few = h.amidst.called.allowed.few in
    let keeps = c.unlocked.ensures.keeps s h.work.keeps.keys_are (omega (arith, below, few)) (released_held f j start t s q r a.place a.local a.outcome a.reply h) in
    c.end.ensures.goes j start t (replied j s r) (released f j start t s q r a.place a.local a.outcome a.reply h c.unlocked.new.self keeps)
