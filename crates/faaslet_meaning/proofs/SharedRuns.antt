-- Worked runs that share memory: accesses over a border, presence, moves, locks.
use Rattle.std.proofs.Common.{◌≡◌, ℕ, List, [], ◌∷◌, refl}
use Rattle.std.specs.Prelude.{pos, codes, replicate, false, true}
use Rattle.faaslet_meaning.specs.declared.instr.ValType.TheVariants.{I32}
use Rattle.faaslet_meaning.specs.declared.instr.Instr.{Instr}
use Rattle.faaslet_meaning.specs.declared.instr.Instr.TheVariants.{Unreachable, Drop, Call, Load, Store, LocalTee, LocalGet, I32Const, I64Const, Num, End}
use Rattle.faaslet_meaning.specs.declared.module.FuncType.{FuncType}
use Rattle.faaslet_meaning.specs.declared.grant.Channel.TheVariants.{Local, Global}
use Rattle.faaslet_meaning.specs.declared.grant.Grant.{Grant}
use Rattle.faaslet_meaning.specs.declared.grant.Mode.{Mode}
use Rattle.faaslet_meaning.specs.declared.grant.Mode.TheVariants.{Read, Write}
use Rattle.faaslet_meaning.specs.declared.outcome.Trap.TheVariants as trap
use Rattle.faaslet_meaning.specs.declared.outcome.Outcome.TheVariants as outcome
use Rattle.faaslet_meaning.specs.Channels.{RegionOperation, Operation, on_region, Reply, Transcript, ask, fills, pulls, pushes, told_by, counts}
use Rattle.faaslet_meaning.specs.Fresh.{Function}
use Rattle.faaslet_meaning.proofs.ExampleRuns.{module_of, function, body, one_page, host, func_type, seen, stands, run}

abbrev c : ℕ → Instr
c n = I32Const (pos n)

-- key 5 with this size and mode
abbrev grant : ℕ → Mode → List Grant
grant size mode = record { key = 5; size = size; mode = mode } ∷ []

abbrev types : List FuncType
types = func_type (I32 ∷ []) (I32 ∷ []) ∷ func_type (I32 ∷ []) [] ∷ []

abbrev absent : Reply
absent = Reply.present false

-- A load past the end of one page
past : run (function (module_of [] [] one_page (body (c 65532 ∷ Load 0x29 3 0 ∷ Num 0xA7 ∷ []))) 10 [] []) [] 10 [] ≡ seen [] (outcome.Trap trap.OutOfBounds) 2 []
past = refl

-- a load of 8 bytes, 4 of them in the replica
abbrev span : Function
span = function (module_of types (host (codes "get_state") 1 ∷ []) one_page (body (c 0 ∷ Call 0 ∷ Drop ∷ c 65532 ∷ Load 0x29 3 0 ∷ I64Const (pos 32) ∷ Num 0x88 ∷ Num 0xA7 ∷ []))) 100 (grant 8 Read) []

abbrev eight : List ℕ
eight = 8 ∷ 7 ∷ 6 ∷ 5 ∷ 4 ∷ 3 ∷ 2 ∷ 1 ∷ []

abbrev four : List ℕ
four = 8 ∷ 7 ∷ 6 ∷ 5 ∷ []

spanning_load : run span [] 20 (absent ∷ Reply.bytes eight ∷ Reply.bytes four ∷ []) ≡ seen ((ask (Local 5) (on_region RegionOperation.probe), absent) ∷ (fills 5 8, Reply.bytes eight) ∷ (ask (Local 5) (on_region (RegionOperation.read 0 4)), Reply.bytes four) ∷ []) (outcome.Done (pos 84281096)) 8 []
spanning_load = refl

-- what it was told, channel by channel
abbrev spanning_talk : Transcript
spanning_talk = (ask (Local 5) (on_region RegionOperation.probe), absent) ∷ (fills 5 8, Reply.bytes eight) ∷ (ask (Local 5) (on_region (RegionOperation.read 0 4)), Reply.bytes four) ∷ []

spanning_local : told_by spanning_talk (Local 5) ≡ (on_region RegionOperation.probe, absent) ∷ (on_region (RegionOperation.fill eight), Reply.done) ∷ (on_region (RegionOperation.read 0 4), Reply.bytes four) ∷ []
spanning_local = refl

spanning_global : told_by spanning_talk (Global 5) ≡ (on_region (RegionOperation.send 0 8), Reply.bytes eight) ∷ []
spanning_global = refl

spanning_counts : counts (grant 8 Read) (told_by spanning_talk) ≡ 3 ∷ 1 ∷ 0 ∷ []
spanning_counts = refl

-- a store of 8 bytes, 5 of them in the replica; what is private is read back
abbrev store_over : Mode → Function
store_over mode =
    function (module_of types (host (codes "get_state") 1 ∷ []) one_page (body (c 0 ∷ Call 0 ∷ Drop ∷ c 65533 ∷ I64Const (pos 0x0807060504030201) ∷ Store 0x37 3 0 ∷ c 65533 ∷ Load 0x2F 0 0 ∷ []))) 100 (grant 8 mode) []

store_asks : run (store_over Write) [] 20 (Reply.present true ∷ []) ≡ stands (ask (Local 5) (on_region (RegionOperation.write 0 (4 ∷ 5 ∷ 6 ∷ 7 ∷ 8 ∷ []))))
store_asks = refl

store_ends : run (store_over Write) [] 20 (Reply.present true ∷ Reply.done ∷ []) ≡ seen ((ask (Local 5) (on_region RegionOperation.probe), Reply.present true) ∷ (ask (Local 5) (on_region (RegionOperation.write 0 (4 ∷ 5 ∷ 6 ∷ 7 ∷ 8 ∷ []))), Reply.done) ∷ []) (outcome.Done (pos 0x0201)) 8 []
store_ends = refl

store_denied : run (store_over Read) [] 20 (Reply.present true ∷ []) ≡ seen ((ask (Local 5) (on_region RegionOperation.probe), Reply.present true) ∷ []) (outcome.Trap trap.Denied) 6 []
store_denied = refl

-- a lock that is held at the end is released
abbrev hold : Function
hold = function (module_of types (host (codes "lock_global_write") 2 ∷ host (codes "lock_state_read") 2 ∷ []) [] (body (c 0 ∷ Call 0 ∷ c 0 ∷ Call 1 ∷ Unreachable ∷ []))) 100 (grant 1 Write) []

held : run hold [] 20 (Reply.done ∷ Reply.done ∷ Reply.done ∷ Reply.done ∷ []) ≡ seen ((ask (Global 5) (on_region RegionOperation.lock_write), Reply.done) ∷ (ask (Local 5) (on_region RegionOperation.lock_read), Reply.done) ∷ (ask (Local 5) (on_region RegionOperation.unlock), Reply.done) ∷ (ask (Global 5) (on_region RegionOperation.unlock), Reply.done) ∷ []) (outcome.Trap trap.Unreachable) 5 []
held = refl

-- `bump`: a counter under a lock
abbrev bump : Function
bump =
    function (module_of types (host (codes "lock_global_write") 2 ∷ host (codes "pull_state") 2 ∷ host (codes "get_state") 1 ∷ host (codes "push_state") 2 ∷ host (codes "unlock_global") 2 ∷ []) one_page (record {
      locals = record { count = 1; kind = I32 } ∷ [];
      code = c 0 ∷ Call 0 ∷ c 0 ∷ Call 1 ∷ c 0 ∷ Call 2 ∷ LocalTee 0 ∷ LocalGet 0 ∷ Load 0x28 2 0 ∷ c 1 ∷ Num 0x6A ∷ Store 0x36 2 0 ∷ c 0 ∷ Call 3 ∷ c 0 ∷ Call 4 ∷ c 0 ∷ End ∷ [];
    })) 100 (grant 4 Write) []

abbrev zeros : Reply
zeros = Reply.bytes (replicate 4 0)

abbrev one : List ℕ
one = 1 ∷ 0 ∷ 0 ∷ 0 ∷ []

bumped : run bump [] 40 (Reply.done ∷ absent ∷ zeros ∷ zeros ∷ zeros ∷ Reply.done ∷ Reply.bytes one ∷ Reply.done ∷ [])
    ≡ seen (
    (ask (Global 5) (on_region RegionOperation.lock_write), Reply.done)
    ∷ (ask (Local 5) (on_region RegionOperation.probe), absent)
    ∷ (fills 5 4, zeros)
    ∷ (pulls 5 0 4, zeros)
    ∷ (ask (Local 5) (on_region (RegionOperation.read 0 4)), zeros)
    ∷ (ask (Local 5) (on_region (RegionOperation.write 0 one)), Reply.done)
    ∷ (pushes 5 0 4, Reply.bytes one)
    ∷ (ask (Global 5) (on_region RegionOperation.unlock), Reply.done)
    ∷ []) (outcome.Done (pos 0)) 17 []
bumped = refl
