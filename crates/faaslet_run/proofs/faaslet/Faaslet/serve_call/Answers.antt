use Rattle.faaslet_meaning.specs.Call.{serve}
use Rattle.faaslet_run.proofs.Placing.{refused_at}
use Rattle.faaslet_run.proofs.faaslet.Faaslet.serve_call.Goals as goal

pub end-requires : goal.end-requires
end-requires c =
    let (j, start, t, s, h, a, asks) = c.requires.at in
    (j, start, t, serve j s h, refused_at c.args.self.now j start t s h c.in-Err.trap a (c.in-Err.ensures.trap j start t s h a asks))

pub returns-in-Err-clause-goes : goal.returns-in-Err-clause-goes
returns-in-Err-clause-goes c = λ j start t s h a asks.
    let g = c.end.ensures.goes j start t (serve j s h) (refused_at c.args.self.now j start t s h c.in-Err.trap a (c.in-Err.ensures.trap j start t s h a asks)) in
    record { progress = serve j s h; at = g.0; ready = g.1 }
