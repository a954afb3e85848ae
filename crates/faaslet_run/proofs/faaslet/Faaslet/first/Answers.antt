use Rattle.std.proofs.Common.{take, refl, sym, ap, ◌∙◌}
use Rattle.faaslet_meaning.specs.Call.{serve}
use Rattle.faaslet_run.proofs.Replying.{own, has_come, was_called, own_grants, own_input}
use Rattle.faaslet_run.proofs.faaslet.Faaslet.first.Goals as goal

pub called-called-requires : goal.called-called-requires
called-called-requires c = (let (j, start, t, s, h, a, b) = c.requires.at in was_called c.args.self.now.called c.args.self.now.input j a.amidst.called)

pub take_up-requires : goal.take_up-requires
take_up-requires c =
    let (j, start, t, s, h, a, b) = c.requires.at in
    let f = c.args.self.now in
    let x = c.called-called.result in
    let k = a.amidst.called in
    let grants = own_grants f.called f.input j x k c.called-called.ensures in
    let input = own_input f.called f.input j x k c.called-called.ensures ∙ ap (take x.len) (sym c.as_slice.ensures.bytes) in
    let comes = c.step-told.ensures.first j s h refl grants input (own f j start.config.fuel s h a.at) b.begun in
    (j, start, t, serve j s h, has_come f j start t s h (serve j s h) c.args.call.stage c.step-told.new.self.stage c.step-told.result c.step-told.new.known c.step-told.new.machine a.amidst a.at b.gives c.step-told.ensures.only c.step-told.ensures.gives comes)

pub returns-clause-goes : goal.returns-clause-goes
returns-clause-goes c = λ j start t s h a b.
    let f = c.args.self.now in
    let x = c.called-called.result in
    let k = a.amidst.called in
    let grants = own_grants f.called f.input j x k c.called-called.ensures in
    let input = own_input f.called f.input j x k c.called-called.ensures ∙ ap (take x.len) (sym c.as_slice.ensures.bytes) in
    let comes = c.step-told.ensures.first j s h refl grants input (own f j start.config.fuel s h a.at) b.begun in
    let come = has_come f j start t s h (serve j s h) c.args.call.stage c.step-told.new.self.stage c.step-told.result c.step-told.new.known c.step-told.new.machine a.amidst a.at b.gives c.step-told.ensures.only c.step-told.ensures.gives comes in
    let g = c.take_up.ensures.goes j start t (serve j s h) come in
    record { progress = serve j s h; at = g.0; ready = g.1 }
