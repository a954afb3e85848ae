-- The rooms of all functions are within the limit.
use Rattle.std.proofs.Common.{◌≤◌, sym, ◌∙◌, subst}
use Rattle.std.specs.List.{All}
use Rattle.session_objects.proofs.Limits.{rooms_fit}
use Rattle.session_objects.proofs.opening.open_table.Goals as goal

pub new-requires-clause-rooms : goal.new-requires-clause-rooms
new-requires-clause-rooms c = subst (All (λ f. f.room ≤ 65536)) (sym (c.deref.ensures.value ∙ c.in_ok-functions.ensures)) (rooms_fit c.args.registry.now c.hosts-hosts.ensures.limits)
