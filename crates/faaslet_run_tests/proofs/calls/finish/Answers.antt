use Rattle.std.proofs.Common.{sym, subst}
use Rattle.faaslet_run_tests.specs.Standing.{IsAt}
use Rattle.faaslet_run_tests.proofs.calls.finish.Goals as goal

pub go_through-requires : goal.go_through-requires
go_through-requires c = subst (IsAt c.args.faaslet.now) (sym c.new-children.ensures.items) c.requires
