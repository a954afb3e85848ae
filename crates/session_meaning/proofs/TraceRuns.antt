-- Worked traces, each under two seeds.
use Rattle.std.proofs.Common.{◌≡◌, ℕ, List, [], ◌∷◌, length, map, refl}
use Rattle.std.specs.Prelude.{◌++◌, Some, codes, pos, true, false}
use Rattle.std.specs.Fmt.{digits}
use Rattle.faaslet_meaning.specs.declared.grant.Grant.{Grant}
use Rattle.faaslet_meaning.specs.declared.grant.Mode.{Mode}
use Rattle.faaslet_meaning.specs.declared.grant.Mode.TheVariants.{Read, Write}
use Rattle.faaslet_meaning.specs.declared.outcome.Outcome.TheVariants as outcome
use Rattle.faaslet_meaning.specs.declared.outcome.Trap.TheVariants as trap
use Rattle.faaslet_meaning.specs.Channels.{RegionOperation}
use Rattle.faaslet_meaning.specs.Report.{line}
use Rattle.session_meaning.specs.Plan.{Key, NamedFunction, Plan}
use Rattle.session_meaning.specs.World.{World}
use Rattle.session_meaning.specs.Schedule.{is_stuck}
use Rattle.session_meaning.specs.SessionReport.{world_report, outcome_of, is_done, how_many}
use Rattle.session_meaning.proofs.ExampleWorlds.{of_module, writes_key, wr, lock, span, app, mom, par, kid, many, grow, named, request, one_key, plan_of, with_workers, local_operations, seen_of, traced}

abbrev grant : ℕ → Mode → List Grant
grant size mode = record { key = 0; size = size; mode = mode } ∷ []

abbrev key : List ℕ → ℕ → List ℕ → List Key
key name size init = record { name = name; size = size; init = init } ∷ []

-- a load over a border into a replica
abbrev spanning : Plan
spanning = plan_of 1 (key (codes "k") 8 (8 ∷ 7 ∷ 6 ∷ 5 ∷ 4 ∷ 3 ∷ 2 ∷ 1 ∷ [])) (named (codes "span") (of_module span (grant 8 Read) []) ∷ []) (request (codes "s") 0 ∷ [])

spanning_report : traced spanning 9 5 ≡ Some (line (codes "s done 84281096 used 8 output ") ++ line (codes "state k 0807060504030201"))
unfolding digits
spanning_report = refl

-- the replica was asked whether it is present, filled, and read
spanning_replica : seen_of spanning 9 5 (λ w. local_operations w 0 0) ≡ Some (RegionOperation.probe ∷ RegionOperation.fill (8 ∷ 7 ∷ 6 ∷ 5 ∷ 4 ∷ 3 ∷ 2 ∷ 1 ∷ []) ∷ RegionOperation.read 0 4 ∷ [])
spanning_replica = refl

spanning_not_stuck : seen_of spanning 9 5 (is_stuck spanning) ≡ Some false
spanning_not_stuck = refl

spanning_again : traced spanning 9 0 ≡ traced spanning 9 5
spanning_again = refl

-- a store without the mode
abbrev denied : Plan
denied = plan_of 1 one_key (named (codes "wr") (of_module wr (grant 1 Read) []) ∷ []) (request (codes "w") 0 ∷ [])

denied_report : traced denied 9 5 ≡ Some (line (codes "w trap denied used 4") ++ line (codes "state k 00"))
unfolding digits
denied_report = refl

denied_again : traced denied 9 0 ≡ traced denied 9 5
denied_again = refl

-- an Append without room
abbrev appending : Plan
appending = plan_of 1 (key (codes "log") 4 []) (named (codes "app") (of_module app (grant 4 Write) []) ∷ []) (request (codes "p") 0 ∷ [])

appending_report : traced appending 9 5 ≡ Some (line (codes "p trap append full used 9") ++ line (codes "state log 61626364"))
unfolding digits
appending_report = refl

appending_again : traced appending 9 0 ≡ traced appending 9 5
appending_again = refl

-- a parent that holds a lock awaits a child that wants it
abbrev holding_parent : Plan
holding_parent = plan_of 1 one_key (named (codes "mom") (of_module mom writes_key (1 ∷ [])) ∷ named (codes "lock") (of_module lock writes_key []) ∷ []) (request (codes "r") 0 ∷ [])

stuck_report : traced holding_parent 9 5 ≡ Some (line (codes "r stuck") ++ line (codes "blocked r child r.0") ++ line (codes "blocked r.0 global k holder r") ++ line (codes "state k 00"))
unfolding digits
stuck_report = refl

stuck_so : seen_of holding_parent 9 5 (is_stuck holding_parent) ≡ Some true
stuck_so = refl

stuck_again : traced holding_parent 9 0 ≡ traced holding_parent 9 5
stuck_again = refl

-- two children that trap
abbrev bad_children : Plan
bad_children = plan_of 1 [] (named (codes "par") (of_module par [] (1 ∷ [])) ∷ named (codes "span") (of_module span [] []) ∷ []) (request (codes "p") 0 ∷ [])

bad_children_report : traced bad_children 12 5 ≡ Some (line (codes "p done 0 used 17 output "))
unfolding digits
bad_children_report = refl

bad_children_outcomes : seen_of bad_children 12 5 (λ w. map (λ r. outcome_of r.state) w.table.records) ≡ Some (Some (outcome.Done (pos 0)) ∷ Some (outcome.Trap trap.BadKey) ∷ Some (outcome.Trap trap.BadKey) ∷ [])
bad_children_outcomes = refl

bad_children_again : traced bad_children 12 0 ≡ traced bad_children 12 5
bad_children_again = refl

-- two children whose results are added
abbrev adding : Plan
adding = plan_of 1 [] (named (codes "par") (of_module par [] (1 ∷ [])) ∷ named (codes "kid") (of_module kid [] []) ∷ []) (request (codes "two") 0 ∷ [])

adding_report : traced adding 12 7 ≡ Some (line (codes "two done 42 used 17 output "))
unfolding digits
adding_report = refl

adding_again : traced adding 12 0 ≡ traced adding 12 7
adding_again = refl

-- pages up to a quota
abbrev growing : ℕ → Plan
growing quota = plan_of 1 [] (named (codes "grow") (record (of_module grow [] []) { quota = quota }) ∷ []) (request (codes "g") 0 ∷ [])

grown_report : traced (growing 3) 9 5 ≡ Some (line (codes "g done 3 used 8 output "))
unfolding digits
grown_report = refl

grown_again : traced (growing 3) 9 0 ≡ traced (growing 3) 9 5
grown_again = refl

not_grown_report : traced (growing 2) 9 5 ≡ Some (line (codes "g done 2 used 8 output "))
unfolding digits
not_grown_report = refl

not_grown_again : traced (growing 2) 9 0 ≡ traced (growing 2) 9 5
not_grown_again = refl

-- A request that submits children until their rooms are too many, beside one with two children of the same function.
abbrev roomy_kid : NamedFunction
roomy_kid = named (codes "kid") (record (of_module kid [] []) { room = 65536 })

abbrev full_chain : Plan
full_chain = plan_of 1 [] (named (codes "many") (of_module many [] (2 ∷ [])) ∷ named (codes "par") (of_module par [] (2 ∷ [])) ∷ roomy_kid ∷ []) (request (codes "big") 0 ∷ request (codes "two") 1 ∷ [])

-- its report, how many calls there are, and how many of them are done: all but the first
abbrev report_and_done : World → List ℕ × ℕ × ℕ
report_and_done w = (world_report full_chain w, length w.table.records, how_many is_done (length w.table.records) w.table.records)

full_report : seen_of full_chain 200 5 report_and_done ≡ Some (line (codes "big trap chain full used 191") ++ line (codes "two done 42 used 17 output "), 35, 34)
unfolding digits
full_report = refl

full_again : traced full_chain 200 0 ≡ Some (line (codes "big trap chain full used 191") ++ line (codes "two done 42 used 17 output "))
unfolding digits
full_again = refl

-- A session beside one that locks itself out, with three workers; and alone.
abbrev size_8 : Key
size_8 = record { name = codes "k"; size = 8; init = 8 ∷ 7 ∷ 6 ∷ 5 ∷ 4 ∷ 3 ∷ 2 ∷ 1 ∷ [] }

abbrev size_1 : Key
size_1 = record { name = codes "m"; size = 1; init = 0 ∷ [] }

abbrev writes_m : List Grant
writes_m = record { key = 1; size = 1; mode = Write } ∷ []

abbrev neighbours : Plan
neighbours =
    with_workers 3 (plan_of 1 (size_8 ∷ size_1 ∷ []) (named (codes "span") (of_module span (grant 8 Read) []) ∷ named (codes "mom") (of_module mom writes_m (2 ∷ [])) ∷ named (codes "lock") (of_module lock writes_m []) ∷ []) (request (codes "s") 0 ∷ request (codes "r") 1 ∷ []))

neighbours_report : traced neighbours 20 5 ≡ Some (line (codes "s done 84281096 used 8 output ") ++ line (codes "r stuck") ++ line (codes "blocked r child r.0") ++ line (codes "blocked r.0 global m holder r") ++ line (codes "state k 0807060504030201") ++ line (codes "state m 00"))
unfolding digits
neighbours_report = refl

neighbours_again : traced neighbours 20 0 ≡ traced neighbours 20 5
neighbours_again = refl

abbrev alone : Plan
alone = with_workers 3 (plan_of 1 (size_8 ∷ []) (named (codes "span") (of_module span (grant 8 Read) []) ∷ []) (request (codes "s") 0 ∷ []))

alone_report : traced alone 9 5 ≡ Some (line (codes "s done 84281096 used 8 output ") ++ line (codes "state k 0807060504030201"))
unfolding digits
alone_report = refl

alone_again : traced alone 9 0 ≡ traced alone 9 5
alone_again = refl
