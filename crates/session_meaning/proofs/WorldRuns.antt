-- Worked worlds.
use Rattle.std.proofs.Common.{◌≡◌, [], ◌∷◌, refl}
use Rattle.std.specs.Prelude.{◌++◌, Some, replicate, codes}
use Rattle.std.specs.Fmt.{digits}
use Rattle.session_meaning.specs.declared.event.Event.TheVariants.{Take, Ask, End}
use Rattle.session_meaning.specs.declared.event.Why.TheVariants.{NoCall, NoHost, NotQueued, NotOpen, NotEnded, HasEnded, Holder, Child}
use Rattle.faaslet_meaning.specs.Report.{line}
use Rattle.faaslet_meaning.specs.Channels.{RegionOperation}
use Rattle.session_meaning.specs.Plan.{NamedFunction, Plan}
use Rattle.session_meaning.specs.Schedule.{number_of, next_of}
use Rattle.session_meaning.proofs.ExampleWorlds.{of_module, writes_key, wr, rd, pu, pl, hold, lock, sec, par, kid, named, request, one_key, plan_of, SeenWorld, run_world, refused, reported, at_end, global_operations, local_operations, picked}

-- a lock holds another call back until its holder has ended
abbrev a_hold : NamedFunction
a_hold = named (codes "hold") (of_module hold writes_key [])

abbrev hold_and_lock : Plan
hold_and_lock = plan_of 1 one_key (a_hold ∷ named (codes "lock") (of_module lock writes_key []) ∷ []) (request (codes "a") 0 ∷ request (codes "b") 1 ∷ [])

abbrev held_back : SeenWorld
held_back = run_world hold_and_lock (Take 0 0 ∷ Ask 0 ∷ Take 1 0 ∷ Ask 1 ∷ Ask 0 ∷ End 0 ∷ Ask 1 ∷ Ask 1 ∷ End 1 ∷ [])

held_back_by : refused held_back ≡ Holder 0 ∷ []
held_back_by = refl

held_back_report : reported hold_and_lock held_back ≡ line (codes "a trap unreachable used 3") ++ line (codes "b done 0 used 5 output ") ++ line (codes "state k 00")
unfolding digits
held_back_report = refl

-- a byte goes from one host to the other through the global value
abbrev through_global : Plan
through_global =
    plan_of 2 one_key (named (codes "wr") (of_module wr writes_key []) ∷ named (codes "rd") (of_module rd writes_key []) ∷ named (codes "pu") (of_module pu writes_key []) ∷ named (codes "pl") (of_module pl writes_key []) ∷ []) (request (codes "a") 0 ∷ request (codes "b") 1 ∷ request (codes "c") 2 ∷ request (codes "d") 3 ∷ [])

abbrev went_through : SeenWorld
went_through =
    run_world through_global ((Take 0 0 ∷ replicate 3 (Ask 0) ++ End 0 ∷ []) ++ (Take 1 1 ∷ replicate 3 (Ask 1) ++ End 1 ∷ []) ++ (Take 2 0 ∷ replicate 2 (Ask 2) ++ End 2 ∷ []) ++ (Take 3 1 ∷ replicate 3 (Ask 3) ++ End 3 ∷ []))

went_through_all : refused went_through ≡ []
went_through_all = refl

went_through_report : reported through_global went_through ≡ line (codes "a done 0 used 5 output ") ++ line (codes "b done 0 used 3 output ") ++ line (codes "c done 0 used 3 output ") ++ line (codes "d done 1 used 5 output ") ++ line (codes "state k 01")
unfolding digits
went_through_report = refl

went_through_global : global_operations (at_end went_through) 0 ≡ RegionOperation.send 0 1 ∷ RegionOperation.send 0 1 ∷ RegionOperation.put 0 (1 ∷ []) ∷ RegionOperation.send 0 1 ∷ []
went_through_global = refl

-- each reason why an event may not stand, but for a child
abbrev two_holds : Plan
two_holds = plan_of 1 one_key (a_hold ∷ []) (request (codes "a") 0 ∷ request (codes "b") 0 ∷ [])

each_reason : refused (run_world two_holds (Take 0 0 ∷ Ask 0 ∷ Take 1 0 ∷ Ask 1 ∷ End 0 ∷ Ask 0 ∷ Ask 0 ∷ End 0 ∷ End 0 ∷ Take 0 0 ∷ Take 2 0 ∷ Take 1 1 ∷ [])) ≡ Holder 0 ∷ NotEnded ∷ HasEnded ∷ NotOpen ∷ NotQueued ∷ NoCall ∷ NoHost ∷ []
each_reason = refl

-- a parent waits for the first of its children, which is call 1
abbrev adding : Plan
adding = plan_of 1 [] (named (codes "par") (of_module par [] (1 ∷ [])) ∷ named (codes "kid") (of_module kid [] []) ∷ []) (request (codes "p") 0 ∷ [])

abbrev awaiting : SeenWorld
awaiting = run_world adding (Take 0 0 ∷ Ask 0 ∷ Ask 0 ∷ Ask 0 ∷ Take 2 0 ∷ End 2 ∷ Ask 0 ∷ [])

awaiting_by : refused awaiting ≡ Child 1 ∷ Child 1 ∷ []
awaiting_by = refl

awaiting_report : reported adding awaiting ≡ line (codes "p stuck") ++ line (codes "blocked p child p.0")
unfolding digits
awaiting_report = refl

-- a lock on a replica
abbrev section : Plan
section = plan_of 1 one_key (named (codes "sec") (of_module sec writes_key []) ∷ named (codes "wr") (of_module wr writes_key []) ∷ []) (request (codes "a") 0 ∷ request (codes "b") 1 ∷ [])

abbrev after_section : SeenWorld
after_section = run_world section (Take 0 0 ∷ Ask 0 ∷ Take 1 0 ∷ Ask 1 ∷ Ask 0 ∷ End 0 ∷ Ask 1 ∷ Ask 1 ∷ Ask 1 ∷ End 1 ∷ [])

after_section_by : refused after_section ≡ Holder 0 ∷ []
after_section_by = refl

after_section_report : reported section after_section ≡ line (codes "a done 0 used 5 output ") ++ line (codes "b done 0 used 5 output ") ++ line (codes "state k 00")
unfolding digits
after_section_report = refl

after_section_local : local_operations (at_end after_section) 0 0 ≡ RegionOperation.lock_write ∷ RegionOperation.unlock ∷ RegionOperation.probe ∷ RegionOperation.fill (0 ∷ []) ∷ RegionOperation.write 0 (1 ∷ []) ∷ []
after_section_local = refl

-- what two seeds pick
abbrev two_kids : Plan
two_kids = plan_of 1 [] (named (codes "kid") (of_module kid [] []) ∷ []) (request (codes "a") 0 ∷ request (codes "b") 0 ∷ [])

first_number : number_of (next_of 1) ≡ 908834774
first_number = refl

seed_1 : picked two_kids 5 1 ≡ Some (Take 0 0 ∷ End 0 ∷ Take 1 0 ∷ End 1 ∷ [])
seed_1 = refl

other_number : number_of (next_of 0) ≡ 167951807
other_number = refl

seed_0 : picked two_kids 5 0 ≡ Some (Take 1 0 ∷ End 1 ∷ Take 0 0 ∷ End 0 ∷ [])
seed_0 = refl
