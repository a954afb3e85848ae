use Rattle.function_rules.specs.Reasons.{reason_of}
use Rattle.faasm_top.specs.ModuleFiles.{refused, unfit}
use Rattle.faasm_top.proofs.Sessions.{names_after}
use Rattle.faasm_top.proofs.session_modules.give_module.Goals as goal
use Rattle.faasm_top.proofs.session_modules.give_module.Goals.{in-Ok-set_module, in-Err-set_module+in_ok-unfit-in-Err-set_module}

pub returns-in-Err-clause-refused : goal.returns-in-Err-clause-refused
returns-in-Err-clause-refused c = refused (rw c.in-Err.is at c.in_ok-module.ensures.refused)

pub returns-clause-given : goal.returns-clause-given
returns-clause-given c =
    let accepted = rw c.in-Ok.is at c.in_ok-module.ensures.accepted in
    elim c.match-set_module.branch [
      | in-Ok-set_module w ↦ rw w.result-is (record { code = c.in-Ok.module; accepted = accepted; runnable = w.in-Ok-set_module.ensures.runnable; is_given = w.in-Ok-set_module.ensures.ok })
      | in-Err-set_module+in_ok-unfit-in-Err-set_module w ↦ rw w.result-is tt
    ]

pub returns-clause-refused : goal.returns-clause-refused
returns-clause-refused c =
    let accepted = rw c.in-Ok.is at c.in_ok-module.ensures.accepted in
    elim c.match-set_module.branch [
      | in-Ok-set_module w ↦ rw w.result-is tt
      | in-Err-set_module+in_ok-unfit-in-Err-set_module w ↦
          rw w.result-is (unfit c.in-Ok.module accepted (reason_of w.unfit_of.result) (w.unfit_of.ensures c.in-Ok.module w.in-Err-set_module.ensures.refused) w.in_ok-unfit-in-Err-set_module.ensures.line)
    ]

pub returns-clause-names : goal.returns-clause-names
returns-clause-names c = names_after c.args.registry.now c.set_module.new.self c.args.f c.in-Ok.module c.set_module.result c.set_module.ensures.ok c.set_module.ensures.unchanged
