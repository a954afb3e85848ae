-- Leaving a frame keeps its results and drops its locals.
use Rattle.wasm_interp.proofs.Leaving.{results_fit, frame_left}
use Rattle.wasm_interp.proofs.thread.Thread.leave_frame.Goals as goal

pub unwind-requires : goal.unwind-requires
unwind-requires c =
    let (memory, d, s, ok) = c.requires in
    let fits = results_fit memory c.args.self.now d s ok in
    record { few = fits.0; within = fits.1 }

pub returns-clause-done : goal.returns-clause-done
returns-clause-done c memory d s ok =
    frame_left memory c.args.self.now d s c.pop-self.result c.pop-self.new.self c.unwind.new.self c.cut.new.self c.pop-self.ensures c.unwind.ensures c.cut.ensures ok
