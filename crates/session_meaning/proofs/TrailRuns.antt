-- What calls of worked worlds were told, and the rows of their histories.
use Rattle.std.proofs.Common.{◌≡◌, ℕ, [], ◌∷◌, refl}
use Rattle.std.specs.Prelude.{◌++◌, replicate, codes, pos, true, false, map}
use Rattle.session_meaning.specs.declared.event.Event.TheVariants.{Take, Ask, End}
use Rattle.session_meaning.specs.declared.mark.Mark.{Mark}
use Rattle.faaslet_meaning.specs.declared.grant.Channel.TheVariants.{Local, Global, Table as OnTable}
use Rattle.faaslet_meaning.specs.declared.outcome.Outcome.TheVariants as outcome
use Rattle.faaslet_meaning.specs.Channels.{RegionOperation, Operation, on_region, Reply}
use Rattle.session_meaning.specs.Plan.{Plan}
use Rattle.session_meaning.specs.World.{World}
use Rattle.session_meaning.specs.WorldTold.{told}
use Rattle.session_meaning.specs.Trail.{trail, mark}
use Rattle.session_meaning.proofs.ExampleWorlds.{of_module, writes_key, wr, rd, pu, pl, hold, lock, par, kid, named, request, one_key, plan_of, run_world, at_end}

abbrev a_mark : ℕ → ℕ → ℕ → ℕ → Mark
a_mark maker row off len = record { maker = maker; row = row; off = off; len = len }

-- a lock holds another call back until its holder has ended, and each call is told of its own entries alone
abbrev hold_and_lock : Plan
hold_and_lock = plan_of 1 one_key (named (codes "hold") (of_module hold writes_key []) ∷ named (codes "lock") (of_module lock writes_key []) ∷ []) (request (codes "a") 0 ∷ request (codes "b") 1 ∷ [])

abbrev held_back : World
held_back = at_end (run_world hold_and_lock (Take 0 0 ∷ Ask 0 ∷ Take 1 0 ∷ Ask 0 ∷ End 0 ∷ Ask 1 ∷ Ask 1 ∷ End 1 ∷ []))

two_sections : trail held_back (Global 0) 0 ≡ a_mark 0 10 0 0 ∷ a_mark 0 11 0 0 ∷ a_mark 1 10 0 0 ∷ a_mark 1 11 0 0 ∷ []
two_sections = refl

its_own_section : told hold_and_lock held_back 1 (Global 0) ≡ (on_region RegionOperation.lock_write, Reply.done) ∷ (on_region RegionOperation.unlock, Reply.done) ∷ []
its_own_section = refl

nothing_on_the_table : told hold_and_lock held_back 1 OnTable ≡ []
nothing_on_the_table = refl

-- A byte goes from one host to the other through the global value. The call that reads it is told of it, and the one
-- that read before is not.
abbrev through_global : Plan
through_global =
    plan_of 2 one_key (named (codes "wr") (of_module wr writes_key []) ∷ named (codes "rd") (of_module rd writes_key []) ∷ named (codes "pu") (of_module pu writes_key []) ∷ named (codes "pl") (of_module pl writes_key []) ∷ []) (request (codes "a") 0 ∷ request (codes "b") 1 ∷ request (codes "c") 2 ∷ request (codes "d") 3 ∷ [])

abbrev went_through : World
went_through =
    at_end (run_world through_global ((Take 0 0 ∷ replicate 3 (Ask 0) ++ End 0 ∷ []) ++ (Take 1 1 ∷ replicate 3 (Ask 1) ++ End 1 ∷ []) ++ (Take 2 0 ∷ replicate 2 (Ask 2) ++ End 2 ∷ []) ++ (Take 3 1 ∷ replicate 3 (Ask 3) ++ End 3 ∷ [])))

global_rows : trail went_through (Global 0) 1 ≡ a_mark 0 2 0 1 ∷ a_mark 1 2 0 1 ∷ a_mark 2 7 0 1 ∷ a_mark 3 2 0 1 ∷ []
global_rows = refl

first_host_rows : trail went_through (Local 0) 0 ≡ a_mark 0 0 0 0 ∷ a_mark 0 4 0 1 ∷ a_mark 0 5 0 1 ∷ a_mark 2 0 0 0 ∷ a_mark 2 2 0 1 ∷ []
first_host_rows = refl

second_host_rows : trail went_through (Local 0) 1 ≡ a_mark 1 0 0 0 ∷ a_mark 1 4 0 1 ∷ a_mark 1 1 0 1 ∷ a_mark 3 0 0 0 ∷ a_mark 3 6 0 1 ∷ a_mark 3 1 0 1 ∷ []
second_host_rows = refl

none_of_the_table : trail went_through OnTable 0 ≡ []
none_of_the_table = refl

read_before : told through_global went_through 1 (Local 0) ≡ (on_region RegionOperation.probe, Reply.present false) ∷ (on_region (RegionOperation.fill (0 ∷ [])), Reply.done) ∷ (on_region (RegionOperation.read 0 1), Reply.bytes (0 ∷ [])) ∷ []
read_before = refl

read_after : told through_global went_through 3 (Local 0) ≡ (on_region RegionOperation.probe, Reply.present true) ∷ (on_region (RegionOperation.take 0 (1 ∷ [])), Reply.done) ∷ (on_region (RegionOperation.read 0 1), Reply.bytes (1 ∷ [])) ∷ []
read_after = refl

-- A parent is told of its own Submits and Looks, in the order in which the table has them; a child that asks nothing is
-- told nothing, though it was submitted, taken and finished.
abbrev adding : Plan
adding = plan_of 1 [] (named (codes "par") (of_module par [] (1 ∷ [])) ∷ named (codes "kid") (of_module kid [] []) ∷ []) (request (codes "two") 0 ∷ [])

abbrev added : World
added = at_end (run_world adding (Take 0 0 ∷ Ask 0 ∷ Ask 0 ∷ Take 2 0 ∷ End 2 ∷ Take 1 0 ∷ End 1 ∷ Ask 0 ∷ Ask 0 ∷ End 0 ∷ []))

told_of_children : told adding added 0 OnTable ≡ (Operation.submit 1 [], Reply.child 0) ∷ (Operation.submit 1 [], Reply.child 1) ∷ (Operation.look 0, Reply.finished (outcome.Done (pos 21)) []) ∷ (Operation.look 1, Reply.finished (outcome.Done (pos 21)) []) ∷ []
told_of_children = refl

a_child_is_told_nothing : told adding added 1 OnTable ≡ []
a_child_is_told_nothing = refl

-- each operation on a region has its row
each_row : map mark ((7, RegionOperation.probe) ∷ (7, RegionOperation.read 2 3) ∷ (7, RegionOperation.send 2 3) ∷ (7, RegionOperation.size) ∷ (7, RegionOperation.fill (8 ∷ 9 ∷ [])) ∷ (7, RegionOperation.write 4 (8 ∷ 9 ∷ [])) ∷ (7, RegionOperation.take 4 (8 ∷ 9 ∷ [])) ∷ (7, RegionOperation.put 4 (8 ∷ 9 ∷ [])) ∷ (7, RegionOperation.append (8 ∷ 9 ∷ [])) ∷ (7, RegionOperation.lock_read) ∷ (7, RegionOperation.lock_write) ∷ (7, RegionOperation.unlock) ∷ [])
    ≡ a_mark 7 0 0 0 ∷ a_mark 7 1 2 3 ∷ a_mark 7 2 2 3 ∷ a_mark 7 3 0 0 ∷ a_mark 7 4 0 2 ∷ a_mark 7 5 4 2 ∷ a_mark 7 6 4 2 ∷ a_mark 7 7 4 2 ∷ a_mark 7 8 0 2 ∷ a_mark 7 9 0 0 ∷ a_mark 7 10 0 0 ∷ a_mark 7 11 0 0 ∷ []
each_row = refl
