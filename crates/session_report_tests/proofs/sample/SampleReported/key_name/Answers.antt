use Rattle.std.proofs.Common.{map, sym}
use Rattle.session_report_tests.proofs.Labels.{name_at}
use Rattle.session_report_tests.proofs.sample.SampleReported.key_name.Goals as goal

pub returns : goal.returns
returns c = let s = c.args.self.now in sym (name_at (λ k. k.name.now) s.keys.now (map (λ l. l.now) s.labels.now) c.args.key _ c.requires)
