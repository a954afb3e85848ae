-- Worked sessions of `load`, and its lines.
use Rattle.std.proofs.Common.{◌≡◌, List, [], ◌∷◌, map, refl}
use Rattle.std.specs.Prelude.{◌++◌, Some, None, codes, pos}
use Rattle.std.specs.Fmt.{digits}
use Rattle.faaslet_meaning.specs.declared.call.CallRecord.{CallRecord}
use Rattle.faaslet_meaning.specs.declared.call.CallState.{CallState}
use Rattle.faaslet_meaning.specs.declared.call.CallState.TheVariants.{Queued, Finished}
use Rattle.faaslet_meaning.specs.declared.outcome.Outcome.{Outcome}
use Rattle.faaslet_meaning.specs.declared.outcome.Outcome.TheVariants as outcome
use Rattle.faaslet_meaning.specs.declared.outcome.Broken.TheVariants as broken
use Rattle.faaslet_meaning.specs.declared.outcome.Trap.TheVariants as trap
use Rattle.faaslet_meaning.specs.Report.{line}
use Rattle.session_meaning.specs.LoadPlan.{load_plan}
use Rattle.session_meaning.specs.SessionReport.{values, load_line, load_report}
use Rattle.session_meaning.proofs.ExampleWorlds.{seen_of}

-- each request adds one to the counter, whatever a seed picks
two_loads : seen_of (load_plan 2) 30 5 (λ w. load_report (load_plan 2) w.table.records (values w)) ≡ Some (line (codes "load 2 done 2 trap 0 fuel 0 broken 0 want 0") ++ line (codes "state counter 02000000"))
unfolding digits
two_loads = refl

two_loads_again : seen_of (load_plan 2) 30 0 (λ w. load_report (load_plan 2) w.table.records (values w)) ≡ Some (line (codes "load 2 done 2 trap 0 fuel 0 broken 0 want 0") ++ line (codes "state counter 02000000"))
unfolding digits
two_loads_again = refl

-- a record of a call that is so far
abbrev in_state : CallState → CallRecord
in_state state =
    record { request = 0; parent = None; child = 0; depth = 1; function = 0; input = []; room = 0; fuel = 0; from = 0; placed = 0; state = state; children = 0 }

abbrev ended_by : Outcome → CallRecord
ended_by o = in_state (Finished 0 0 0 o 0 [] [])

-- each outcome is counted under its own word, of the requests alone; what is not finished counts nowhere
abbrev each_outcome : List CallRecord
each_outcome =
    map ended_by (outcome.Done (pos 0) ∷ outcome.Trap trap.Denied ∷ outcome.Trap trap.BadKey ∷ outcome.FuelOut ∷ outcome.Broken broken.Quota ∷ outcome.Want ∷ []) ++ in_state Queued ∷ ended_by (outcome.Done (pos 1)) ∷ []

each_counted : load_line 7 each_outcome ≡ line (codes "load 7 done 1 trap 2 fuel 1 broken 1 want 1")
unfolding digits
each_counted = refl
