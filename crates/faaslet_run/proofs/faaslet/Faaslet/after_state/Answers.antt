use Rattle.std.proofs.Common.{refl}
use Rattle.faaslet_meaning.specs.Call.{replied}
use Rattle.faaslet_run.proofs.Replying.{state_own, state_come, state_stands, keys_differ, was_called, own_grants}
use Rattle.faaslet_run.proofs.faaslet.Faaslet.after_state.Goals as goal

pub called-called-requires : goal.called-called-requires
called-called-requires c = (let (j, start, t, s, q, r, h) = c.requires in was_called c.args.self.now.called c.args.self.now.input j h.amidst.called)

pub take_up_state-requires : goal.take_up_state-requires
take_up_state-requires c =
    let (j, start, t, s, q, r, h) = c.requires in
    let f = c.args.self.now in
    let d = c.step-told in
    let w = h.work in
    let at = state_stands f j start.config.fuel s c.args.call.stage w in
    let grants = own_grants f.called f.input j c.called-called.result h.amidst.called c.called-called.ensures in
    let comes = d.ensures.after j s c.args.reply q r refl grants (keys_differ f.called f.input j h.amidst.called) (state_own f j start.config.fuel s w.host at) w.amid h.asked h.replies in
    (j, start, t, replied j s r, state_come f j start t s w.host (replied j s r) c.args.call.stage d.new.self.stage d.result d.new.known d.new.machine h.amidst at w.gives d.ensures.only d.ensures.gives comes)

pub returns-clause-goes : goal.returns-clause-goes
returns-clause-goes c = λ j start t s q r h.
    let f = c.args.self.now in
    let d = c.step-told in
    let w = h.work in
    let at = state_stands f j start.config.fuel s c.args.call.stage w in
    let grants = own_grants f.called f.input j c.called-called.result h.amidst.called c.called-called.ensures in
    let comes = d.ensures.after j s c.args.reply q r refl grants (keys_differ f.called f.input j h.amidst.called) (state_own f j start.config.fuel s w.host at) w.amid h.asked h.replies in
    c.take_up_state.ensures.goes j start t (replied j s r) (state_come f j start t s w.host (replied j s r) c.args.call.stage d.new.self.stage d.result d.new.known d.new.machine h.amidst at w.gives d.ensures.only d.ensures.gives comes)
