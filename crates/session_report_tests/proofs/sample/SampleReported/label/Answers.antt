use Rattle.std.proofs.Common.{map, sym}
use Rattle.session_report_tests.proofs.Labels.{label_at}
use Rattle.session_report_tests.proofs.sample.SampleReported.label.Goals as goal

pub returns : goal.returns
returns c = let s = c.args.self.now in sym (label_at (λ l. l.now) s.labels.now (map (λ k. k.name.now) s.keys.now) c.args.request _ c.requires)
