use Rattle.std.proofs.Common.{refl}
use Rattle.faaslet_meaning.specs.Call.{replied}
use Rattle.faaslet_run.proofs.Replying.{own, has_come, own_grants, call_stands, call_reply, was_called}
use Rattle.faaslet_run.proofs.faaslet.Faaslet.after_call.Goals as goal

pub called-called-requires : goal.called-called-requires
called-called-requires c = (let (j, start, t, s, q, r, h) = c.requires in was_called c.args.self.now.called c.args.self.now.input j h.amidst.called)

pub take_up-requires : goal.take_up-requires
take_up-requires c =
    let (j, start, t, s, q, r, h) = c.requires in
    let f = c.args.self.now in
    let d = c.step-told in
    let w = h.work in
    let at = call_stands f j start.config.fuel s c.args.call.stage w in
    let grants = own_grants f.called f.input j c.called-called.result h.amidst.called c.called-called.ensures in
    let is = call_reply f j start t s q r c.args.call.stage c.args.reply w h.asked h.replies h.fit in
    let comes = d.ensures.after j s c.args.reply r refl grants (own f j start.config.fuel s w.host at) w.amid is in
    (j, start, t, replied j s r, has_come f j start t s w.host (replied j s r) c.args.call.stage d.new.self.stage d.result d.new.known d.new.machine h.amidst at w.gives d.ensures.only d.ensures.gives comes)

pub returns-clause-goes : goal.returns-clause-goes
returns-clause-goes c = λ j start t s q r h.
    let f = c.args.self.now in
    let d = c.step-told in
    let w = h.work in
    let at = call_stands f j start.config.fuel s c.args.call.stage w in
    let grants = own_grants f.called f.input j c.called-called.result h.amidst.called c.called-called.ensures in
    let is = call_reply f j start t s q r c.args.call.stage c.args.reply w h.asked h.replies h.fit in
    let comes = d.ensures.after j s c.args.reply r refl grants (own f j start.config.fuel s w.host at) w.amid is in
    c.take_up.ensures.goes j start t (replied j s r) (has_come f j start t s w.host (replied j s r) c.args.call.stage d.new.self.stage d.result d.new.known d.new.machine h.amidst at w.gives d.ensures.only d.ensures.gives comes)
