-- A worked session: what its calls were told, by their benches and counts. Two calls of a function that locks and unlocks a global
-- value share a bench; a third is on another bench.
use Rattle.std.proofs.Common.{◌≡◌, ℕ, List, [], ◌∷◌, map, refl}
use Rattle.std.specs.Prelude.{pos, codes, None, true, false}
use Rattle.faaslet_meaning.specs.declared.call.CallRecord.{CallRecord}
use Rattle.faaslet_meaning.specs.declared.call.CallState.TheVariants.{Finished}
use Rattle.faaslet_meaning.specs.declared.grant.Channel.TheVariants.{Local, Global}
use Rattle.faaslet_meaning.specs.declared.outcome.Outcome.TheVariants as outcome
use Rattle.faaslet_meaning.specs.Channels.{RegionOperation, on_region, Reply}
use Rattle.session_meaning.specs.Own.{Session, benches, host_of_bench, told, used_up}
use Rattle.session_meaning.specs.Plan.{Plan}
use Rattle.session_meaning.proofs.ExampleWorlds.{of_module, writes_key, wr, lock, named, request, one_key, plan_of, with_workers}

abbrev plan : Plan
plan = plan_of 1 one_key (named (codes "lock") (of_module lock writes_key []) ∷ named (codes "wr") (of_module wr writes_key []) ∷ []) (request (codes "a") 0 ∷ request (codes "b") 1 ∷ request (codes "c") 0 ∷ [])

-- with a bench, how many calls were taken before, and counts
abbrev record_of : ℕ → ℕ → ℕ → ℕ → List ℕ → CallRecord
record_of call function bench order counts =
    record {
      request = call;
      parent = None;
      child = 0;
      depth = 1;
      function = function;
      input = [];
      room = 1024;
      fuel = 100000000;
      from = 0;
      placed = 0;
      state = Finished 0 bench order (outcome.Done (pos 0)) 5 [] counts;
      children = 0;
    }

abbrev a : CallRecord
a = record_of 0 0 0 2 (0 ∷ 2 ∷ 0 ∷ [])

abbrev b : CallRecord
b = record_of 1 1 0 1 (3 ∷ 1 ∷ 0 ∷ [])

abbrev last : CallRecord
last = record_of 2 0 1 0 (0 ∷ 2 ∷ 0 ∷ [])

abbrev session : Session
session =
    record {
      records = a ∷ b ∷ last ∷ [];
      locals = (((0, RegionOperation.probe) ∷ (0, RegionOperation.fill (0 ∷ [])) ∷ (0, RegionOperation.write 0 (1 ∷ [])) ∷ []) ∷ []) ∷ [];
      globals = ((1, RegionOperation.lock_write) ∷ (1, RegionOperation.unlock) ∷ (0, RegionOperation.send 0 1) ∷ (0, RegionOperation.lock_write) ∷ (0, RegionOperation.unlock) ∷ []) ∷ [];
      table_history = [];
    }

told_a : told plan session a (Global 0) ≡ (on_region RegionOperation.lock_write, Reply.done) ∷ (on_region RegionOperation.unlock, Reply.done) ∷ []
told_a = refl

told_b : told plan session b (Global 0) ≡ (on_region (RegionOperation.send 0 1), Reply.bytes (0 ∷ [])) ∷ []
told_b = refl

told_b_local : told plan session b (Local 0) ≡ (on_region RegionOperation.probe, Reply.present false) ∷ (on_region (RegionOperation.fill (0 ∷ [])), Reply.done) ∷ (on_region (RegionOperation.write 0 (1 ∷ [])), Reply.done) ∷ []
told_b_local = refl

told_last : told plan session last (Global 0) ≡ (on_region RegionOperation.lock_write, Reply.done) ∷ (on_region RegionOperation.unlock, Reply.done) ∷ []
told_last = refl

all_used : used_up plan session 0 (Global 0) ≡ true
all_used = refl

-- ---- Two hosts with three workers each: benches 0 to 23 are of the first, 24 to 47 of the second, and the others are the session's.

abbrev wide : Plan
wide = with_workers 3 (plan_of 2 one_key [] [])

hosts_of_benches : map (host_of_bench wide) (0 ∷ 7 ∷ 8 ∷ 23 ∷ 24 ∷ 47 ∷ []) ≡ 0 ∷ 0 ∷ 0 ∷ 0 ∷ 1 ∷ 1 ∷ []
hosts_of_benches = refl

all_benches : benches wide ≡ 48
all_benches = refl
