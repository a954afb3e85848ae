use Rattle.std.proofs.Common.{refl}
use Rattle.faaslet_meaning.specs.Call.{serve}
use Rattle.faaslet_run.proofs.Replying.{state_own, state_come, tied_keys, was_called, own_grants}
use Rattle.faaslet_run.proofs.faaslet.Faaslet.first_state.Goals as goal

pub called-called-requires : goal.called-called-requires
called-called-requires c = (let (j, start, t, s, h, a, b) = c.requires in was_called c.args.self.now.called c.args.self.now.input j a.amidst.called)

pub step-told-requires-clause-tied : goal.step-told-requires-clause-tied
step-told-requires-clause-tied c = λ e m. (let (j, start, t, s, h, a, b) = c.requires in tied_keys c.args.self.now j start t s h a)

pub take_up_state-requires : goal.take_up_state-requires
take_up_state-requires c =
    let (j, start, t, s, h, a, b) = c.requires in
    let f = c.args.self.now in
    let d = c.step-told in
    let grants = own_grants f.called f.input j c.called-called.result a.amidst.called c.called-called.ensures in
    let comes = d.ensures.first j s h refl grants (state_own f j start.config.fuel s h a.at) b.begun in
    (j, start, t, serve j s h, state_come f j start t s h (serve j s h) c.args.call.stage d.new.self.stage d.result d.new.known d.new.machine a.amidst a.at b.gives d.ensures.only d.ensures.gives comes)

pub returns-clause-goes : goal.returns-clause-goes
returns-clause-goes c = λ j start t s h a b.
    let f = c.args.self.now in
    let d = c.step-told in
    let grants = own_grants f.called f.input j c.called-called.result a.amidst.called c.called-called.ensures in
    let comes = d.ensures.first j s h refl grants (state_own f j start.config.fuel s h a.at) b.begun in
    let g = c.take_up_state.ensures.goes j start t (serve j s h) (state_come f j start t s h (serve j s h) c.args.call.stage d.new.self.stage d.result d.new.known d.new.machine a.amidst a.at b.gives d.ensures.only d.ensures.gives comes) in
    record { progress = serve j s h; at = g.0; ready = g.1 }
