-- The checks of the host calls, each with its trap and what was paid, and the first that does not pass.
use Rattle.std.proofs.Common.{◌≡◌, ℕ, List, [], ◌∷◌, refl}
use Rattle.std.specs.Prelude.{pos, codes, ◌++◌, true}
use Rattle.faaslet_meaning.specs.declared.instr.ValType.TheVariants.{I32}
use Rattle.faaslet_meaning.specs.declared.instr.Instr.{Instr}
use Rattle.faaslet_meaning.specs.declared.instr.Instr.TheVariants.{Drop, Call, I32Const}
use Rattle.faaslet_meaning.specs.declared.module.FuncType.{FuncType}
use Rattle.faaslet_meaning.specs.declared.grant.Channel.TheVariants.{Local}
use Rattle.faaslet_meaning.specs.declared.grant.Mode.{Mode}
use Rattle.faaslet_meaning.specs.declared.grant.Mode.TheVariants.{Read, Write}
use Rattle.faaslet_meaning.specs.declared.outcome.Trap.{Trap}
use Rattle.faaslet_meaning.specs.declared.outcome.Trap.TheVariants as trap
use Rattle.faaslet_meaning.specs.declared.outcome.Outcome.TheVariants as outcome
use Rattle.faaslet_meaning.specs.Channels.{RegionOperation, Operation, on_region, Reply, ask}
use Rattle.faaslet_meaning.specs.Fresh.{Function}
use Rattle.faaslet_meaning.proofs.ExampleRuns.{module_of, function, body, one_page, host, func_type, seen, run}

abbrev c : ℕ → Instr
c n = I32Const (pos n)

abbrev params : List ℕ → List Instr
params [] = []
params (n ∷ ns) = c n ∷ params ns

abbrev types : List FuncType
types =
    func_type (I32 ∷ []) []
    ∷ func_type (I32 ∷ I32 ∷ []) []
    ∷ func_type (I32 ∷ I32 ∷ I32 ∷ []) []
    ∷ func_type (I32 ∷ I32 ∷ I32 ∷ I32 ∷ []) []
    ∷ []

-- a call of one host call with so many arguments, by a function with key 5 of size 8 and no other rights
abbrev calling : List ℕ → ℕ → List ℕ → Mode → ℕ → Function
calling name type args mode fuel =
    function (module_of types (host name type ∷ []) one_page (body (params args ++ Call 0 ∷ c 0 ∷ []))) fuel (record { key = 5; size = 8; mode = mode } ∷ []) []

-- what comes of it with no reply
abbrev comes : List ℕ → ℕ → List ℕ → Mode → Trap → ℕ → Type 0
comes name type args mode t used = run (calling name type args mode 2000) [] 30 [] ≡ seen [] (outcome.Trap t) used []

too_long : comes (codes "read_state") 4 (9 ∷ 0 ∷ 0 ∷ 65537 ∷ []) Read trap.BufferTooLong 5
too_long = refl

-- a buffer is paid for before the place is looked at
bad_key : comes (codes "read_state") 4 (9 ∷ 0 ∷ 0 ∷ 640 ∷ []) Read trap.BadKey 15
bad_key = refl

-- the mode before the range, the range before the buffer
denied : comes (codes "set_state") 4 (0 ∷ 9 ∷ 70000 ∷ 1 ∷ []) Read trap.Denied 5
denied = refl

past_key : comes (codes "set_state") 4 (0 ∷ 8 ∷ 70000 ∷ 1 ∷ []) Write trap.StateRange 5
past_key = refl

past_memory : comes (codes "set_state") 4 (0 ∷ 7 ∷ 65536 ∷ 1 ∷ []) Write trap.OutOfBounds 5
past_memory = refl

past_input : comes (codes "read_input") 3 (0 ∷ 0 ∷ 1 ∷ []) Read trap.CallRange 4
past_input = refl

past_room : comes (codes "write_output") 2 (0 ∷ 1025 ∷ []) Read trap.OutputFull 19
past_room = refl

not_callable : comes (codes "chain_call") 3 (0 ∷ 0 ∷ 0 ∷ []) Read trap.BadFunction 4
not_callable = refl

no_child : comes (codes "await_call") 1 (0 ∷ []) Read trap.BadChild 2
no_child = refl

not_held : comes (codes "unlock_state") 1 (0 ∷ []) Read trap.LockMisuse 2
not_held = refl

-- what the buffer costs is more than what is left: one unit is paid for the call
spent : run (calling (codes "read_state") 4 (9 ∷ 0 ∷ 0 ∷ 640 ∷ []) Read 14) [] 30 [] ≡ seen [] outcome.FuelOut 5 []
spent = refl

-- a buffer of two pieces, the second in the replica itself: the bytes come by a Read, and go by a local Write
abbrev seen_present : Reply
seen_present = Reply.present true

over_border : run (function (module_of (func_type (I32 ∷ []) (I32 ∷ []) ∷ types) (host (codes "get_state") 1 ∷ host (codes "set_state") 5 ∷ []) one_page (body (c 0 ∷ Call 0 ∷ Drop ∷ c 0 ∷ c 1 ∷ c 65534 ∷ c 5 ∷ Call 1 ∷ c 0 ∷ []))) 100 (record { key = 5; size = 8; mode = Write } ∷ []) []) [] 30 (seen_present ∷ Reply.bytes (6 ∷ 7 ∷ 8 ∷ []) ∷ Reply.done ∷ [])
    ≡ seen ((ask (Local 5) (on_region RegionOperation.probe), seen_present) ∷ (ask (Local 5) (on_region (RegionOperation.read 0 3)), Reply.bytes (6 ∷ 7 ∷ 8 ∷ [])) ∷ (ask (Local 5) (on_region (RegionOperation.write 1 (0 ∷ 0 ∷ 6 ∷ 7 ∷ 8 ∷ []))), Reply.done) ∷ []) (outcome.Done (pos 0)) 9 []
over_border = refl
