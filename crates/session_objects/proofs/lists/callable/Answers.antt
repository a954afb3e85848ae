-- A call has two channels for each grant, and the table.
use Rattle.std.proofs.Common.{refl, ◌∙◌}
use Rattle.session_objects.proofs.Growing.{callable_so}
use Rattle.session_objects.proofs.lists.callable.Goals as goal

pub returns : goal.returns
returns c = callable_so c.args.registry.now c.args.f c.function_plan-plan.result c.as_slice.result.now _ c.requires.there c.function_plan-plan.ensures (c.as_slice.ensures ∙ c.grants_of.ensures) refl
