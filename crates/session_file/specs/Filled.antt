-- What a file makes of the registry once hosts and workers are told. This project's own.
use Rattle.session_meaning.specs.declared.fault.SessionList.TheVariants.{Session}
use Rattle.session_meaning.specs.Draft.{Draft}
use Rattle.session_meaning.specs.Registry as registry
use Rattle.session_meaning.specs.SessionText.{SessionText}
use Rattle.session_meaning.specs.SessionFile.{Answer, then_do, on, in_turn, add_key, add_function, entitle, add_request}

abbrev pub filled : SessionText → Draft → Answer Draft
filled s d =
    then_do (in_turn 0 add_key d s.keys) λ d.
    then_do (in_turn 0 add_function d s.functions) λ d.
    then_do (in_turn 0 entitle d s.functions) λ d.
    then_do (in_turn 0 add_request d s.requests) λ d.
    on Session 0 (registry.check_budget d)
