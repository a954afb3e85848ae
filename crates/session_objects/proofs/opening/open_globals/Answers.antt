-- The initial bytes of each key fit its size.
use Rattle.std.proofs.Common.{◌≤◌, length, sym, ◌∙◌, subst}
use Rattle.turn_cell.specs.History.{Each}
use Rattle.session_objects.proofs.Limits.{values_fit}
use Rattle.session_objects.proofs.opening.open_globals.Goals as goal

pub global-requires-clause-fit : goal.global-requires-clause-fit
global-requires-clause-fit c = subst (λ l. Each l (λ k v. length v.1 ≤ v.0)) (sym (c.deref.ensures.value ∙ c.in_ok-values.ensures)) (values_fit c.args.registry.now c.bench_count.ensures.limits)
