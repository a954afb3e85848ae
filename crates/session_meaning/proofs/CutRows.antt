-- A worked cut: a table history of a parent with its child, between which a stranger is taken and ends; names of calls; lines.
use Rattle.std.proofs.Common.{◌≡◌, zero, suc, [], ◌∷◌, ◌++◌, Some, length, slice_get, refl, sym, ap, arith}
use Rattle.std.specs.Prelude.{pos, codes, nat_le, true, false, All}
use Rattle.faaslet_meaning.specs.declared.outcome.Outcome.TheVariants as outcome
use Rattle.faaslet_meaning.specs.Channels.{Operation, Reply}
use Rattle.faaslet_meaning.specs.History.{History, left, table_rules}
use Rattle.faaslet_meaning.specs.Table.{TableOperation, submit_request, submit, take_next, take_this, finish, look}
use Rattle.session_meaning.specs.Plan.{Plan, Names, is_function_of, is_key_of, ClosedAt, Closed}
use Rattle.session_meaning.specs.declared.event.Event.TheVariants.{Take, Ask}
use Rattle.session_meaning.specs.World.{first_world}
use Rattle.session_meaning.specs.CallNames.{call_name}
use Rattle.session_meaning.specs.NamedCut.{plan_by_name, takes, asks, events_by_name, world_by_name}
use Rattle.session_meaning.specs.CutReport.{joined, lines_of}
use Rattle.session_meaning.specs.HistoryCut.{first_table, requests_first, CallsGranted, HistoryOfCut, cut_history, asked_in, part_in}
use Rattle.session_meaning.specs.Cut.{cut_plan}
use Rattle.session_meaning.proofs.HistoryCuts.{history_of_cut}
use Rattle.session_meaning.proofs.ExampleWorlds.{of_module, writes_key, wr, par, kid, named, request, one_key, plan_of}

-- `par` may call `kid`, and `wr` is a stranger to both
abbrev plan : Plan
plan = plan_of 1 one_key (named (codes "wr") (of_module wr writes_key []) ∷ named (codes "par") (of_module par [] (2 ∷ [])) ∷ named (codes "kid") (of_module kid [] []) ∷ []) (request (codes "a") 0 ∷ request (codes "b") 1 ∷ [])

-- the names of three letters
abbrev long : Names
long name = nat_le 3 (length name)

abbrev no_keys : Names
no_keys name = false

-- The benches 3 to 5 take the lowest queued call each, the last of them the child.
abbrev history : History TableOperation
history =
    (8, submit_request 0 0 [])
    ∷ (8, submit_request 1 0 [])
    ∷ (3, take_next 0 3)
    ∷ (4, take_next 0 4)
    ∷ (4, submit 1 2 (7 ∷ []))
    ∷ (5, take_next 0 5)
    ∷ (3, finish 0 (outcome.Done (pos 0)) 9 [] (0 ∷ 0 ∷ 0 ∷ []))
    ∷ (5, finish 2 (outcome.Done (pos 21)) 5 (1 ∷ []) (0 ∷ []))
    ∷ (4, look 1 0)
    ∷ []

requests_are_first : requests_first history ≡ true
requests_are_first = refl

-- the parent is call 0 of the cut and the child call 1, `par` is function 0 and `kid` function 1
cut_so : cut_history (part_in plan long no_keys history) (first_table plan) history ≡ (0, submit_request 0 0 []) ∷ (0, take_this 0 0 0) ∷ (0, submit 0 1 (7 ∷ [])) ∷ (0, take_this 1 0 0) ∷ (0, finish 1 (outcome.Done (pos 21)) 5 (1 ∷ []) (0 ∷ [])) ∷ (0, look 0 0) ∷ []
cut_so = refl

asked_so : asked_in (first_table plan) history ≡ (1, (Operation.submit 2 (7 ∷ []), Reply.child 0)) ∷ (1, (Operation.look 0, Reply.finished (outcome.Done (pos 21)) (1 ∷ []))) ∷ []
asked_so = refl

asked_in_cut : asked_in (first_table (cut_plan (part_in plan long no_keys history) plan)) (cut_history (part_in plan long no_keys history) (first_table plan) history) ≡ (0, (Operation.submit 1 (7 ∷ []), Reply.child 0)) ∷ (0, (Operation.look 0, Reply.finished (outcome.Done (pos 21)) (1 ∷ []))) ∷ []
asked_in_cut = refl

-- the child is the first of the call of request b
name_of_child : call_name plan (left table_rules (first_table plan) history).records 2 ≡ record { label = codes "b"; steps = 0 ∷ [] }
name_of_child = refl

-- ---- The same functions without the stranger: other numbers, and one cut by names.

abbrev alone : Plan
alone = plan_of 1 one_key (named (codes "par") (of_module par [] (1 ∷ [])) ∷ named (codes "kid") (of_module kid [] []) ∷ []) (request (codes "b") 0 ∷ [])

one_cut : plan_by_name plan long no_keys ≡ plan_by_name alone long no_keys
one_cut = refl

-- the call of request b is call 1 of the one world and call 0 of the other
named_events : events_by_name plan long (first_world plan) (Take 1 0 ∷ Take 0 0 ∷ Ask 0 ∷ Ask 1 ∷ []) ≡ events_by_name alone long (first_world alone) (Take 0 0 ∷ Ask 0 ∷ [])
named_events = refl

named_so : events_by_name alone long (first_world alone) (Take 0 0 ∷ Ask 0 ∷ []) ≡ takes (record { label = codes "b"; steps = [] }) 0 ∷ asks (record { label = codes "b"; steps = [] }) ∷ []
named_so = refl

one_world : world_by_name plan long no_keys (first_world plan) ≡ world_by_name alone long no_keys (first_world alone)
one_world = refl

lines_so : joined (lines_of plan long no_keys (first_world plan)) ≡ codes "b stuck" ++ 10 ∷ []
lines_so = refl

-- ---- What the laws ask for holds of these.

stranger_closed : ClosedAt plan long no_keys (named (codes "wr") (of_module wr writes_key []))
stranger_closed = record { grants = grants; callees = λ k d h. let no : ⊥ = omega (arith, h) in absurd no }
  where
    grants : All (λ g. is_key_of plan no_keys g.key ≡ false) writes_key
    grants zero d h = refl
    grants (suc k) d h = let no : ⊥ = omega (arith, h) in absurd no

parent_closed : ClosedAt plan long no_keys (named (codes "par") (of_module par [] (2 ∷ [])))
parent_closed = record { grants = λ k d h. let no : ⊥ = omega (arith, h) in absurd no; callees = callees }
  where
    callees : All (λ g. is_function_of plan long g ≡ true) (2 ∷ [])
    callees zero d h = refl
    callees (suc k) d h = let no : ⊥ = omega (arith, h) in absurd no

child_closed : ClosedAt plan long no_keys (named (codes "kid") (of_module kid [] []))
child_closed = record { grants = λ k d h. let no : ⊥ = omega (arith, h) in absurd no; callees = λ k d h. let no : ⊥ = omega (arith, h) in absurd no }

closed : Closed plan long no_keys
closed zero d h = stranger_closed
closed (suc zero) d h = parent_closed
closed (suc (suc zero)) d h = child_closed
closed (suc (suc (suc k))) d h = let no : ⊥ = omega (arith, h) in absurd no

some_same : {A : Type 0} {x y : A} → Some x ≡ Some y → x ≡ y
some_same e = cc

granted : CallsGranted plan (first_table plan) history
granted =
    (tt, (tt, (tt, (tt, (λ p e. (named (codes "par") (of_module par [] (2 ∷ [])), sym (ap (λ r. slice_get plan.functions r.function) (some_same e)), 0, refl), (tt, (tt, (tt, (tt, tt)))))))))

-- so the law speaks of this history
followed : HistoryOfCut plan (part_in plan long no_keys history) history
followed = history_of_cut plan long no_keys history closed refl granted
