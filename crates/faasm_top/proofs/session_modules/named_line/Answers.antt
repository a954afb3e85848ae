use Rattle.faasm_top.proofs.Sessions.{name_at}
use Rattle.faasm_top.proofs.session_modules.named_line.Goals as goal

pub returns : goal.returns
returns c =
    record {
      name = c.function_plan-plan.result.name.now;
      is_name = name_at c.args.registry.now.functions c.args.f c.function_plan-plan.result c.requires c.function_plan-plan.ensures;
      is_line = c.in_ok-line.ensures;
    }
