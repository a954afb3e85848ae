-- What an answer tells of a session file. This project's own.
use Rattle.std.specs.Prelude.{◌≡◌, Option, Some, None, Err}
use Rattle.std.specs.Option.{ForSome}
use Rattle.session_meaning.specs.declared.fault.SessionFault.{SessionFault}
use Rattle.session_meaning.specs.declared.fault.SessionFault.TheVariants as fault
use Rattle.session_meaning.specs.SessionFile.{Answer, Planned, Refused, refused}
use Rattle.session_file.specs.declared.plan.SessionPlan.{SessionPlan}

abbrev pub planned_of : SessionPlan → Planned
planned_of p = record { draft = p.registry; paths = p.paths }

-- the refusal that a fault is; want of memory is none
abbrev pub refusal : SessionFault → Option Refused
refusal (fault.Refused kind list place) = Some (refused kind list place)
refusal fault.Want = None

-- a refusal is that of the answer; want of memory tells nothing of it
abbrev pub Tells : {A : Type 0} → SessionFault → Answer A → Type 0
Tells e answer = ForSome (refusal e) (λ r. answer ≡ Err r)
