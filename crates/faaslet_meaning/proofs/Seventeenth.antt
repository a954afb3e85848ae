-- Sixteen locks and sixteen mappings are the most; that a lock is held already comes before that there are too many.
use Rattle.std.proofs.Common.{◌≡◌, ℕ, zero, suc, ◌+◌, List, [], ◌∷◌, ◌++◌, refl, true}
use Rattle.std.specs.Prelude.{pos, codes, replicate}
use Rattle.faaslet_meaning.specs.declared.instr.ValType.TheVariants.{I32}
use Rattle.faaslet_meaning.specs.declared.instr.Instr.{Instr}
use Rattle.faaslet_meaning.specs.declared.instr.Instr.TheVariants.{Call, Drop, I32Const}
use Rattle.faaslet_meaning.specs.declared.grant.Channel.TheVariants.{Local}
use Rattle.faaslet_meaning.specs.declared.grant.Grant.{Grant}
use Rattle.faaslet_meaning.specs.declared.grant.Mode.TheVariants.{Read}
use Rattle.faaslet_meaning.specs.declared.outcome.Trap.TheVariants as trap
use Rattle.faaslet_meaning.specs.declared.outcome.Outcome.TheVariants as outcome
use Rattle.faaslet_meaning.specs.Channels.{RegionOperation, Operation, on_region, Reply, Transcript, ask}
use Rattle.faaslet_meaning.specs.Fresh.{Function}
use Rattle.faaslet_meaning.proofs.ExampleRuns.{module_of, function, body, one_page, host, func_type, seen, run}

abbrev c : ℕ → Instr
c n = I32Const (pos n)

-- a key at each of so many places, of its number
abbrev grants : ℕ → ℕ → List Grant
grants zero k = []
grants (suc n) k = record { key = k; size = 8; mode = Read } ∷ grants n (k + 1)

-- one host call at each of these places
abbrev calls : List Instr → ℕ → ℕ → List Instr
calls then zero k = []
calls then (suc n) k = c k ∷ Call 0 ∷ (then ++ calls then n (k + 1))

abbrev asked : Operation → Reply → ℕ → ℕ → Transcript
asked op r zero k = []
asked op r (suc n) k = (ask (Local k) op, r) ∷ asked op r n (k + 1)

-- `lock_state_read` at the places from 0 to 15, and then at one more
abbrev locking : ℕ → Function
locking last = function (module_of (func_type (I32 ∷ []) [] ∷ []) (host (codes "lock_state_read") 1 ∷ []) one_page (body (calls [] 16 0 ++ c last ∷ Call 0 ∷ c 0 ∷ []))) 1000 (grants 17 0) []

abbrev sixteen : Transcript
sixteen = asked (on_region RegionOperation.lock_read) Reply.done 16 0 ++ asked (on_region RegionOperation.unlock) Reply.done 16 0

too_many_locks : run (locking 16) [] 200 (replicate 32 Reply.done) ≡ seen sixteen (outcome.Trap trap.TooManyLocks) 34 []
too_many_locks = refl

held_already : run (locking 3) [] 200 (replicate 32 Reply.done) ≡ seen sixteen (outcome.Trap trap.LockMisuse) 34 []
held_already = refl

-- `get_state` at the places from 0 to 15, and then at one more
abbrev mapping : ℕ → Function
mapping last = function (module_of (func_type (I32 ∷ []) (I32 ∷ []) ∷ []) (host (codes "get_state") 1 ∷ []) one_page (body (calls (Drop ∷ []) 16 0 ++ c last ∷ Call 0 ∷ []))) 1000 (grants 17 0) []

abbrev all_seen : Transcript
all_seen = asked (on_region RegionOperation.probe) (Reply.present true) 16 0

too_many_mappings : run (mapping 16) [] 200 (replicate 16 (Reply.present true)) ≡ seen all_seen (outcome.Trap trap.TooManyMappings) 50 []
too_many_mappings = refl

-- one that is mapped already answers its address: the tenth lies behind the one private page and nine others
mapped_already : run (mapping 9) [] 200 (replicate 16 (Reply.present true)) ≡ seen all_seen (outcome.Done (pos 655360)) 50 []
mapped_already = refl
