-- So far it went on by some questions.
use Rattle.faaslet_meaning.specs.Channels.{Transcript}
use Rattle.host_worker.specs.Busy.{Busy, Errand, SameBench, Went}
use Rattle.host_worker.specs.Grew.{Grew}
use Rattle.host_worker.proofs.calling.run_call.Given as goal

abbrev pub invariant-loop : goal.invariant-loop
invariant-loop g l = record {
  went : (e : Errand) (t : Transcript) → Busy l.fn.tiers l.fn.bench e t → Went l.fn.tiers l.bench e t;
  same : SameBench l.fn.bench l.bench;
  grew : Grew l.fn.bench l.bench;
}
