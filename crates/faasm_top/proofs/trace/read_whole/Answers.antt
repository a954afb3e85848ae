-- What comes of the file and of the modules comes of the session.
use Rattle.std.proofs.Common.{arith, refl, sym}
use Rattle.session_file.specs.Told.{planned_of}
use Rattle.faasm_top.specs.Sessions.{refused, planned}
use Rattle.faasm_top.proofs.Modules.{has_modules}
use Rattle.faasm_top.proofs.Sessions.{handed_on, stops_later, moved_gets, moved_modules}
use Rattle.faasm_top.proofs.trace.read_whole.Goals as goal

pub returns-in_err-plan-clause-stopped : goal.returns-in_err-plan-clause-stopped
returns-in_err-plan-clause-stopped g c =
    handed_on c.from_residual.result c.in_err-plan.field-0.0 _ c.from_residual.ensures.1
    (stops_later c.in_err-plan.field-0.0 _ _ _ _ _ _ (omega arith) (λ line refuses. refused line refuses refl) c.in_err-plan.ensures.stopped)

pub returns-in_err-take_modules-clause-stopped : goal.returns-in_err-take_modules-clause-stopped
returns-in_err-take_modules-clause-stopped g c =
    handed_on c.from_residual-in_err-take_modules.result c.in_err-take_modules.field-0.0 _ c.from_residual-in_err-take_modules.ensures.1
    (stops_later c.in_err-take_modules.field-0.0 _ _ _ _ _ _ c.read_plan.ensures.counted
    (λ line come. planned (planned_of c.in_ok-plan.plan) c.in_ok-plan.ensures.read (moved_modules _ _ _ _ _ _ c.read_plan.ensures.told c.as_slice.ensures come))
    c.in_err-take_modules.ensures.stopped)

pub returns-clause-accepted : goal.returns-clause-accepted
returns-clause-accepted g c =
    rw c.of.ensures record {
      comes = planned (planned_of c.in_ok-plan.plan) c.in_ok-plan.ensures.read (moved_modules _ _ _ _ _ _ c.read_plan.ensures.told c.as_slice.ensures c.in_ok-take_modules.ensures.taken);
      planned = planned_of c.in_ok-plan.plan;
      is_session = c.in_ok-plan.ensures.read;
      modules = moved_gets _ _ _ _ _ _ c.read_plan.ensures.told c.as_slice.ensures c.in_ok-take_modules.ensures.given;
      is_draft = c.in_ok-take_modules.ensures.rest;
    }

pub of-requires-clause-modules : goal.of-requires-clause-modules
of-requires-clause-modules g c = has_modules _ _ _ c.take_modules.new.registry c.in_ok-take_modules.ensures.given
