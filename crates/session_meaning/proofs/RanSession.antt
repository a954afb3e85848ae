-- A session of two hosts that ended, with all that is so of it: a call whose two children ran one after the other on the bench
-- above its own, and a call of the other host under a lock.
use Rattle.std.proofs.Common.{◌≡◌, ℕ, zero, suc, Bool, true, false, List, [], ◌∷◌, Option, Some, None, refl, sym, subst, ap, ◌∙◌, arith}
use Rattle.std.proofs.Math.Dec.{eqb-zero-suc, eqb-suc-zero}
use Rattle.std.proofs.lemmas.Bool.{and_parts, eqb-true, eqb-false}
use Rattle.std.specs.Prelude.{◌<◌, ◌&&◌, ◌==◌, All, IsTrue, pos, codes, length, nat_le, slice_get, drop}
use Rattle.std.specs.List.{list_all}
use Rattle.faaslet_meaning.specs.declared.call.CallRecord.{CallRecord}
use Rattle.faaslet_meaning.specs.declared.call.CallState.TheVariants.{Queued}
use Rattle.faaslet_meaning.specs.declared.grant.Channel.{Channel}
use Rattle.faaslet_meaning.specs.declared.grant.Channel.TheVariants.{Local, Global, Table as OnTable}
use Rattle.faaslet_meaning.specs.declared.outcome.Outcome.{Outcome}
use Rattle.faaslet_meaning.specs.declared.outcome.Outcome.TheVariants as outcome
use Rattle.faaslet_meaning.specs.Channels.{RegionOperation, Operation, on_region, Reply, Transcript, Told, ask, told_by}
use Rattle.faaslet_meaning.specs.Configuration.{Configuration}
use Rattle.faaslet_meaning.specs.Table.{Table, TableOperation, empty_table, submit_request, submit, take_next, take_this, finish, look}
use Rattle.faaslet_meaning.specs.History.{left, History, table_rules}
use Rattle.faaslet_meaning.specs.Fresh.{Function, Made, makes, breaks, nothing, fresh}
use Rattle.faaslet_meaning.specs.Runs.{Runs, runs_by}
use Rattle.session_meaning.specs.Own.{Session, own, told, used_up}
use Rattle.session_meaning.specs.Plan.{Key, Plan, Names, is_function_of, is_key_of, ClosedAt, Closed, callables}
use Rattle.session_meaning.specs.Ran.{Ran, ReplicaRan, CallRan, is_granted}
use Rattle.session_meaning.specs.RanPart.{no_call, only_part, table_cut, RanPart}
use Rattle.session_meaning.specs.Seen.{Seen, SpellsSession}
use Rattle.session_meaning.proofs.RanParts.{ran_part}
use Rattle.faaslet_meaning.proofs.ExampleRuns.{run, seen, seen_runs}
use Rattle.session_meaning.proofs.ExampleWorlds.{of_module, writes_key, par, kid, lock, named, request, one_key, plan_of}

abbrev parent : Function
parent = of_module par [] (1 ∷ [])

abbrev child : Function
child = of_module kid [] []

abbrev locks : Function
locks = of_module lock writes_key []

abbrev plan : Plan
plan =
    plan_of 2 one_key (named (codes "par") parent ∷ named (codes "kid") child ∷ named (codes "lock") locks ∷ []) (request (codes "p") 0 ∷ record (request (codes "l") 2) { host = 1 } ∷ [])

-- benches 0 to 7 are of the first host, 8 to 15 of the second; 16 and 17 are the session's makers
abbrev history : History TableOperation
history =
    (16, submit_request 0 0 [])
    ∷ (16, submit_request 2 1 [])
    ∷ (16, take_next 0 0)
    ∷ (17, take_next 1 8)
    ∷ (0, submit 0 1 [])
    ∷ (0, submit 0 1 [])
    ∷ (16, take_this 2 0 1)
    ∷ (16, finish 2 (outcome.Done (pos 21)) 1 [] (0 ∷ []))
    ∷ (0, look 0 0)
    ∷ (17, finish 1 (outcome.Done (pos 0)) 5 [] (0 ∷ 2 ∷ 0 ∷ []))
    ∷ (16, take_this 3 0 1)
    ∷ (16, finish 3 (outcome.Done (pos 21)) 1 [] (0 ∷ []))
    ∷ (0, look 0 1)
    ∷ (16, finish 0 (outcome.Done (pos 42)) 17 [] (4 ∷ []))
    ∷ []

abbrev end : Table
end = left table_rules (empty_table 2 (callables plan)) history

abbrev session : Session
session =
    record {
      records = end.records;
      locals = ([] ∷ []) ∷ ([] ∷ []) ∷ [];
      globals = ((8, RegionOperation.lock_write) ∷ (8, RegionOperation.unlock) ∷ []) ∷ [];
      table_history = history;
    }

-- ---- What each call was told, and its run.

abbrev done_21 : Reply
done_21 = Reply.finished (outcome.Done (pos 21)) []

abbrev parent_asks : Transcript
parent_asks =
    (ask OnTable (Operation.submit 1 []), Reply.child 0)
    ∷ (ask OnTable (Operation.submit 1 []), Reply.child 1)
    ∷ (ask OnTable (Operation.look 0), done_21)
    ∷ (ask OnTable (Operation.look 1), done_21)
    ∷ []

parent_seen : run parent [] 60 (Reply.child 0 ∷ Reply.child 1 ∷ done_21 ∷ done_21 ∷ []) ≡ seen parent_asks (outcome.Done (pos 42)) 17 []
parent_seen = refl

child_seen : run child [] 10 [] ≡ seen [] (outcome.Done (pos 21)) 1 []
child_seen = refl

abbrev lock_asks : Transcript
lock_asks = (ask (Global 0) (on_region RegionOperation.lock_write), Reply.done) ∷ (ask (Global 0) (on_region RegionOperation.unlock), Reply.done) ∷ []

lock_seen : run locks [] 20 (Reply.done ∷ Reply.done ∷ []) ≡ seen lock_asks (outcome.Done (pos 0)) 5 []
lock_seen = refl

-- ---- A run told the same on each channel is the same run.

told_by_made : (f : Function) (made : Made Configuration) (input : List ℕ) (a b : Told) (o : Outcome) (output : List ℕ) (used : ℕ) → ((ch : Channel) → b ch ≡ a ch) → runs_by f made input a o output used → runs_by f made input b o output used
told_by_made f (makes c) input a b o output used same r =
    record { transcript = r.transcript; last = r.last; run = r.run; told_so = λ ch. same ch ∙ r.told_so ch; output_so = r.output_so; used_so = r.used_so }
told_by_made f (breaks k) input a b o output used same r = (r.0, λ ch. same ch ∙ r.1 ch, r.2, r.3)
told_by_made f nothing input a b o output used same r = r

told_alike : (f : Function) (input : List ℕ) (a b : Told) (o : Outcome) (output : List ℕ) (used : ℕ) → ((ch : Channel) → b ch ≡ a ch) → Runs f input a o output used → Runs f input b o output used
told_alike f input a b o output used same r = told_by_made f (fresh f) input a b o output used same r

-- ---- The whole.

abbrev record_of : ℕ → Option CallRecord → CallRecord
record_of n None = record { request = n; parent = None; child = 0; depth = 0; function = 0; input = []; room = 0; fuel = 0; from = 0; placed = 0; state = Queued; children = 0 }
record_of n (Some r) = r

abbrev call : ℕ → CallRecord
call n = record_of n (slice_get session.records n)

parent_told : (ch : Channel) → told plan session (call 0) ch ≡ told_by parent_asks ch
parent_told (Local k) = refl
parent_told (Global k) = refl
parent_told OnTable = refl

lock_told : (ch : Channel) → told plan session (call 1) ch ≡ told_by lock_asks ch
lock_told (Local zero) = refl
lock_told (Local (suc k)) = rw (eqb-zero-suc k) refl
lock_told (Global zero) = refl
lock_told (Global (suc k)) = rw (eqb-zero-suc k, eqb-suc-zero k) refl
lock_told OnTable = refl

first_told : (ch : Channel) → told plan session (call 2) ch ≡ told_by [] ch
first_told (Local k) = refl
first_told (Global k) = refl
first_told OnTable = refl

second_told : (ch : Channel) → told plan session (call 3) ch ≡ told_by [] ch
second_told (Local k) = refl
second_told (Global k) = refl
second_told OnTable = refl

parent_granted : (ch : Channel) → IsTrue (list_all (is_granted 0 [] ch) (own plan session (call 0) ch))
parent_granted (Local k) = refl
parent_granted (Global k) = refl
parent_granted OnTable = refl

lock_granted : (ch : Channel) → IsTrue (list_all (is_granted 1 writes_key ch) (own plan session (call 1) ch))
lock_granted (Local zero) = refl
lock_granted (Local (suc k)) = rw (eqb-zero-suc k) refl
lock_granted (Global zero) = refl
lock_granted (Global (suc k)) = rw (eqb-zero-suc k) refl
lock_granted OnTable = refl

child_granted : (n : ℕ) (r : CallRecord) → ((ch : Channel) → own plan session r ch ≡ []) → (ch : Channel) → IsTrue (list_all (is_granted n [] ch) (own plan session r ch))
child_granted n r none ch = ap (list_all (is_granted n [] ch)) (none ch)

first_own : (ch : Channel) → own plan session (call 2) ch ≡ []
first_own (Local k) = refl
first_own (Global k) = refl
first_own OnTable = refl

second_own : (ch : Channel) → own plan session (call 3) ch ≡ []
second_own (Local k) = refl
second_own (Global k) = refl
second_own OnTable = refl

parent_ran : CallRan plan session 0 (call 0)
parent_ran =
    record {
      function = named (codes "par") parent;
      function_so = refl;
      host = 0;
      bench = 0;
      order = 0;
      outcome = outcome.Done (pos 42);
      used = 17;
      output = [];
      finished = refl;
      on_bench = omega arith;
      at_host = refl;
      runs = ∣ told_alike parent [] (told_by parent_asks) (told plan session (call 0)) (outcome.Done (pos 42)) [] 17 parent_told (seen_runs parent [] 60 (Reply.child 0 ∷ Reply.child 1 ∷ done_21 ∷ done_21 ∷ []) parent_asks (outcome.Done (pos 42)) 17 [] parent_seen) ∣₁;
      granted = parent_granted;
    }

lock_ran : CallRan plan session 1 (call 1)
lock_ran =
    record {
      function = named (codes "lock") locks;
      function_so = refl;
      host = 1;
      bench = 8;
      order = 1;
      outcome = outcome.Done (pos 0);
      used = 5;
      output = [];
      finished = refl;
      on_bench = omega arith;
      at_host = refl;
      runs = ∣ told_alike locks [] (told_by lock_asks) (told plan session (call 1)) (outcome.Done (pos 0)) [] 5 lock_told (seen_runs locks [] 20 (Reply.done ∷ Reply.done ∷ []) lock_asks (outcome.Done (pos 0)) 5 [] lock_seen) ∣₁;
      granted = lock_granted;
    }

first_ran : CallRan plan session 2 (call 2)
first_ran =
    record {
      function = named (codes "kid") child;
      function_so = refl;
      host = 0;
      bench = 1;
      order = 2;
      outcome = outcome.Done (pos 21);
      used = 1;
      output = [];
      finished = refl;
      on_bench = omega arith;
      at_host = refl;
      runs = ∣ told_alike child [] (told_by []) (told plan session (call 2)) (outcome.Done (pos 21)) [] 1 first_told (seen_runs child [] 10 [] [] (outcome.Done (pos 21)) 1 [] child_seen) ∣₁;
      granted = child_granted 2 (call 2) first_own;
    }

second_ran : CallRan plan session 3 (call 3)
second_ran =
    record {
      function = named (codes "kid") child;
      function_so = refl;
      host = 0;
      bench = 1;
      order = 3;
      outcome = outcome.Done (pos 21);
      used = 1;
      output = [];
      finished = refl;
      on_bench = omega arith;
      at_host = refl;
      runs = ∣ told_alike child [] (told_by []) (told plan session (call 3)) (outcome.Done (pos 21)) [] 1 second_told (seen_runs child [] 10 [] [] (outcome.Done (pos 21)) 1 [] child_seen) ∣₁;
      granted = child_granted 3 (call 3) second_own;
    }

-- each of the sixteen benches has as many entries as its calls count
abbrev all_below : ℕ → (ℕ → Bool) → Bool
all_below zero test = true
all_below (suc n) test = test n && all_below n test

below : (n : ℕ) (test : ℕ → Bool) → all_below n test ≡ true → (b : ℕ) → b < n → test b ≡ true
below zero test h b k = absurd (omega (arith, k))
below (suc n) test h b k =
    let g = and_parts (test n) (all_below n test) h in by (b == n) refl g.0 (below n test g.1 b)
  where
    by : (is : Bool) → (b == n) ≡ is → test n ≡ true → (b < n → test b ≡ true) → test b ≡ true
    by true e here rest = subst (λ m. test m ≡ true) (sym (eqb-true b n e)) here
    by false e here rest = let apart = eqb-false b n e in rest (omega (arith, k, apart))

all_used : (bench : ℕ) (ch : Channel) → bench < 16 → IsTrue (used_up plan session bench ch)
all_used bench (Local zero) h = below 16 (λ b. used_up plan session b (Local 0)) refl bench h
all_used bench (Local (suc k)) h = below 16 (λ b. used_up plan session b (Local (suc k))) (rw (eqb-zero-suc k) refl) bench h
all_used bench (Global zero) h = below 16 (λ b. used_up plan session b (Global 0)) refl bench h
all_used bench (Global (suc k)) h = below 16 (λ b. used_up plan session b (Global (suc k))) (rw (eqb-zero-suc k) refl) bench h
all_used bench OnTable h = below 16 (λ b. used_up plan session b OnTable) refl bench h

replica_ran : (host : ℕ) (k : Key) → ReplicaRan plan host k []
replica_ran host k = record { ran = record { legal = tt; free = refl }; by_its_host = refl }

-- the session is as the definition wants it
session_ran : Ran plan session ((0 ∷ []) ∷ [])
session_ran =
    record {
      hosts = refl;
      replicas = ((replica_ran 0 _, tt), ((replica_ran 1 _, tt), tt));
      globals = (record { ran = record { legal = (refl, (refl, (refl, tt))); free = refl }; by_benches = refl; final_so = refl }, tt);
      table =
          record {
            requested = (16, submit_request 0 0 []) ∷ (16, submit_request 2 1 []) ∷ [];
            rest = drop 2 history;
            split = refl;
            requests = refl;
            no_more = refl;
            makers = refl;
            end = end;
            leads = record { legal = (refl, (refl, (refl, (refl, (refl, (refl, (refl, (refl, (refl, (refl, (refl, (refl, (refl, (refl, tt)))))))))))))); end_so = refl };
            records = refl;
          };
      calls = (parent_ran, (lock_ran, (first_ran, (second_ran, tt))));
      all_used = all_used;
    }

-- ---- What is left of its objects, in lists of numbers: it spells this session.

abbrev left_of_it : Seen
left_of_it =
    record {
      records = session.records;
      locals = ([] ∷ []) ∷ ([] ∷ []) ∷ [];
      globals = ((8, 10 ∷ []) ∷ (8, 11 ∷ []) ∷ []) ∷ [];
      table =
          (16, 0 ∷ 0 ∷ 0 ∷ 0 ∷ [])
          ∷ (16, 0 ∷ 2 ∷ 1 ∷ 0 ∷ [])
          ∷ (16, 2 ∷ 0 ∷ 0 ∷ [])
          ∷ (17, 2 ∷ 1 ∷ 8 ∷ [])
          ∷ (0, 1 ∷ 0 ∷ 1 ∷ 0 ∷ [])
          ∷ (0, 1 ∷ 0 ∷ 1 ∷ 0 ∷ [])
          ∷ (16, 3 ∷ 2 ∷ 0 ∷ 1 ∷ [])
          ∷ (16, 4 ∷ 2 ∷ 0 ∷ 21 ∷ 1 ∷ 0 ∷ 1 ∷ 0 ∷ [])
          ∷ (0, 5 ∷ 0 ∷ 0 ∷ [])
          ∷ (17, 4 ∷ 1 ∷ 0 ∷ 0 ∷ 5 ∷ 0 ∷ 3 ∷ 0 ∷ 2 ∷ 0 ∷ [])
          ∷ (16, 3 ∷ 3 ∷ 0 ∷ 1 ∷ [])
          ∷ (16, 4 ∷ 3 ∷ 0 ∷ 21 ∷ 1 ∷ 0 ∷ 1 ∷ 0 ∷ [])
          ∷ (0, 5 ∷ 0 ∷ 1 ∷ [])
          ∷ (16, 4 ∷ 0 ∷ 0 ∷ 42 ∷ 17 ∷ 0 ∷ 1 ∷ 4 ∷ [])
          ∷ [];
    }

spells_it : SpellsSession left_of_it session
spells_it = record { records = refl; locals = ((refl, tt), ((refl, tt), tt)); globals = (refl, tt); table = refl }

-- ---- The part of the lock and its key.

abbrev locking : Names
locking name = nat_le 4 (length name)

abbrev any_key : Names
any_key name = true

parent_closed : ClosedAt plan locking any_key (named (codes "par") parent)
parent_closed = record { grants = λ k d h. let no : ⊥ = omega (arith, h) in absurd no; callees = callees }
  where
    callees : All (λ g. is_function_of plan locking g ≡ false) (1 ∷ [])
    callees zero d h = refl
    callees (suc k) d h = let no : ⊥ = omega (arith, h) in absurd no

child_closed : ClosedAt plan locking any_key (named (codes "kid") child)
child_closed = record { grants = λ k d h. let no : ⊥ = omega (arith, h) in absurd no; callees = λ k d h. let no : ⊥ = omega (arith, h) in absurd no }

lock_closed : ClosedAt plan locking any_key (named (codes "lock") locks)
lock_closed = record { grants = grants; callees = λ k d h. let no : ⊥ = omega (arith, h) in absurd no }
  where
    grants : All (λ g. is_key_of plan any_key g.key ≡ true) writes_key
    grants zero d h = refl
    grants (suc k) d h = let no : ⊥ = omega (arith, h) in absurd no

closed : Closed plan locking any_key
closed zero d h = parent_closed
closed (suc zero) d h = child_closed
closed (suc (suc zero)) d h = lock_closed
closed (suc (suc (suc k))) d h = let no : ⊥ = omega (arith, h) in absurd no

-- nothing is known of the parent, and the call of the lock was told the same
parent_gone : slice_get (only_part plan locking any_key session).records 0 ≡ Some no_call
parent_gone = refl

lock_told_alone : told plan (only_part plan locking any_key session) (call 1) (Global 0) ≡ told_by lock_asks (Global 0)
lock_told_alone = refl

-- in the cut of the table's history it is the only call
lock_alone : table_cut plan locking any_key session ≡ (0, submit_request 0 1 []) ∷ (0, take_this 0 1 0) ∷ (0, finish 0 (outcome.Done (pos 0)) 5 [] (0 ∷ 2 ∷ 0 ∷ [])) ∷ []
lock_alone = refl

lock_part : RanPart plan locking any_key session
lock_part = ran_part plan locking any_key session ((0 ∷ []) ∷ []) closed session_ran
