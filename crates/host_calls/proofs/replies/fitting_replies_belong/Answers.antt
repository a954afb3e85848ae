use Rattle.host_calls.proofs.Fitting.{belongs}
use Rattle.host_calls.proofs.replies.fitting_replies_belong.Goals as goal

pub returns : goal.returns
returns c = λ t h j s q r x amid own at known fit rep. belongs t h j s q r x amid.stage_is amid.allowed own.children at known fit rep
