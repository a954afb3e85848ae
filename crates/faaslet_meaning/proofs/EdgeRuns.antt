-- Worked runs at the edges: buffers, replicas side by side, children, locks, branches, the limit of values.
use Rattle.std.proofs.Common.{◌≡◌, ℕ, List, [], ◌∷◌, refl}
use Rattle.std.specs.Prelude.{true, pos, negsuc, codes, replicate, ◌++◌, Some, None}
use Rattle.faaslet_meaning.specs.declared.instr.ValType.TheVariants.{I32, I64}
use Rattle.faaslet_meaning.specs.declared.instr.Instr.{Instr}
use Rattle.faaslet_meaning.specs.declared.instr.Instr.TheVariants.{Drop, Call, Load, Store, Block, Br, Return, MemoryGrow, MemorySize, I32Const, I64Const, Num, End}
use Rattle.faaslet_meaning.specs.declared.module.FuncType.{FuncType}
use Rattle.faaslet_meaning.specs.declared.module.Import.{Import}
use Rattle.faaslet_meaning.specs.declared.module.Limits.{Limits}
use Rattle.faaslet_meaning.specs.declared.grant.Channel.TheVariants.{Local, Global, Table}
use Rattle.faaslet_meaning.specs.declared.grant.Grant.{Grant}
use Rattle.faaslet_meaning.specs.declared.grant.Mode.TheVariants.{Read, Write}
use Rattle.faaslet_meaning.specs.declared.outcome.Trap.TheVariants as trap
use Rattle.faaslet_meaning.specs.declared.outcome.Outcome.TheVariants as outcome
use Rattle.faaslet_meaning.specs.Channels.{RegionOperation, Operation, on_region, Reply, Transcript, ask}
use Rattle.faaslet_meaning.specs.Fresh.{Function}
use Rattle.faaslet_meaning.proofs.ExampleRuns.{module_of, function, body, one_page, host, func_type, seen, stands, run}

abbrev c : ℕ → Instr
c n = I32Const (pos n)

abbrev types : List FuncType
types = func_type (I32 ∷ []) (I32 ∷ []) ∷ func_type (I32 ∷ []) [] ∷ func_type (I32 ∷ I32 ∷ []) [] ∷ func_type (I32 ∷ I32 ∷ I32 ∷ []) (I32 ∷ []) ∷ func_type (I32 ∷ []) (I64 ∷ []) ∷ func_type (I32 ∷ I32 ∷ I32 ∷ I32 ∷ []) [] ∷ func_type (I32 ∷ I32 ∷ I32 ∷ []) [] ∷ []

abbrev f : List Import → List Limits → List Instr → ℕ → List Grant → List ℕ → Function
f imports mem code fuel gs cs = function (module_of types imports mem (body code)) fuel gs cs

-- writes its output from a place of memory on
abbrev wo : ℕ → ℕ → ℕ → Function
wo ptr len fuel = f (host (codes "write_output") 3 ∷ []) one_page (c ptr ∷ c len ∷ Call 0 ∷ c 0 ∷ []) fuel [] []

buffer_of_64_unpaid : run (wo 0 64 3) [] 20 [] ≡ seen [] outcome.FuelOut 3 []
buffer_of_64_unpaid = refl

buffer_of_63_costs_nothing : run (wo 0 63 4) [] 20 [] ≡ seen [] (outcome.Done (pos 0)) 4 (replicate 63 0)
buffer_of_63_costs_nothing = refl

buffer_of_65537 : run (wo 0 65537 3) [] 20 [] ≡ seen [] (outcome.Trap trap.BufferTooLong) 3 []
buffer_of_65537 = refl

buffer_of_65536_paid : run (wo 0 65536 1027) [] 20 [] ≡ seen [] (outcome.Trap trap.OutputFull) 1027 []
buffer_of_65536_paid = refl

buffer_of_65536_unpaid : run (wo 0 65536 1026) [] 20 [] ≡ seen [] outcome.FuelOut 3 []
buffer_of_65536_unpaid = refl

no_bytes_at_the_end : run (wo 65536 0 10) [] 20 [] ≡ seen [] (outcome.Done (pos 0)) 4 []
no_bytes_at_the_end = refl

no_bytes_past_the_end : run (wo 65537 0 10) [] 20 [] ≡ seen [] (outcome.Trap trap.OutOfBounds) 3 []
no_bytes_past_the_end = refl

-- two replicas side by side, the second read-only; memory of 0 pages
abbrev two : List Grant
two = record { key = 5; size = 1; mode = Write } ∷ record { key = 6; size = 65537; mode = Read } ∷ []

abbrev no_pages : List Limits
no_pages = record { min = 0; max = Some 0 } ∷ []

abbrev side : List Instr → Function
side code = f (host (codes "get_state") 1 ∷ []) no_pages (c 0 ∷ Call 0 ∷ Drop ∷ c 1 ∷ Call 0 ∷ Drop ∷ code) 100 two []

abbrev y : Reply
y = Reply.present true

abbrev probes : Transcript
probes = (ask (Local 5) (on_region RegionOperation.probe), y) ∷ (ask (Local 6) (on_region RegionOperation.probe), y) ∷ []

denied_before_any_piece : run (side (c 65534 ∷ c 7 ∷ Store 0x36 0 0 ∷ c 0 ∷ [])) [] 40 (y ∷ y ∷ []) ≡ seen probes (outcome.Trap trap.Denied) 9 []
denied_before_any_piece = refl

pieces_of_two_replicas : run (side (c 65534 ∷ Load 0x28 0 0 ∷ [])) [] 40 (y ∷ y ∷ Reply.bytes (1 ∷ 2 ∷ []) ∷ Reply.bytes (3 ∷ 4 ∷ []) ∷ []) ≡ seen (probes ++ (ask (Local 5) (on_region (RegionOperation.read 65534 2)), Reply.bytes (1 ∷ 2 ∷ [])) ∷ (ask (Local 6) (on_region (RegionOperation.read 0 2)), Reply.bytes (3 ∷ 4 ∷ [])) ∷ []) (outcome.Done (pos 0x04030201)) 8 []
pieces_of_two_replicas = refl

-- mapped twice: the address, without a question; the size of memory; growth past the maximum, also of 0 pages
mapped_key_again : run (side (c 1 ∷ Call 0 ∷ [])) [] 40 (y ∷ y ∷ []) ≡ seen probes (outcome.Done (pos 65536)) 8 []
mapped_key_again = refl

size_and_no_growth : run (side (MemorySize ∷ c 0 ∷ MemoryGrow ∷ Num 0x6A ∷ [])) [] 40 (y ∷ y ∷ []) ≡ seen probes (outcome.Done (pos 2)) 10 []
size_and_no_growth = refl

last_byte_of_a_replica : run (side (c 196607 ∷ Load 0x2D 0 0 ∷ [])) [] 40 (y ∷ y ∷ []) ≡ stands (ask (Local 6) (on_region (RegionOperation.read 131071 1)))
last_byte_of_a_replica = refl

past_the_last_replica : run (side (c 196608 ∷ Load 0x2D 0 0 ∷ [])) [] 40 (y ∷ y ∷ []) ≡ seen probes (outcome.Trap trap.OutOfBounds) 8 []
past_the_last_replica = refl

-- children
abbrev kids : List Instr → Function
kids code = f (host (codes "chain_call") 4 ∷ host (codes "await_call") 5 ∷ host (codes "output_size") 1 ∷ host (codes "read_output") 6 ∷ host (codes "write_output") 3 ∷ []) one_page (c 0 ∷ c 0 ∷ c 0 ∷ Call 0 ∷ Drop ∷ code) 100 [] (9 ∷ [])

abbrev five : Reply
five = Reply.finished (outcome.Trap trap.Unreachable) (1 ∷ 2 ∷ 3 ∷ 4 ∷ 5 ∷ [])

abbrev asked : Transcript
asked = (ask Table (Operation.submit 9 []), Reply.child 0) ∷ (ask Table (Operation.look 0), five) ∷ []

size_of_output_not_awaited : run (kids (c 0 ∷ Call 2 ∷ [])) [] 40 (Reply.child 0 ∷ []) ≡ seen ((ask Table (Operation.submit 9 []), Reply.child 0) ∷ []) (outcome.Trap trap.BadChild) 7 []
size_of_output_not_awaited = refl

output_of_a_child : run (kids (c 0 ∷ Call 1 ∷ Drop ∷ c 0 ∷ c 1 ∷ c 100 ∷ c 3 ∷ Call 3 ∷ c 100 ∷ c 3 ∷ Call 4 ∷ c 0 ∷ Call 2 ∷ [])) [] 40 (Reply.child 0 ∷ five ∷ five ∷ []) ≡ seen (asked ++ (ask Table (Operation.look 0), five) ∷ []) (outcome.Done (pos 5)) 18 (2 ∷ 3 ∷ 4 ∷ [])
output_of_a_child = refl

past_the_output : run (kids (c 0 ∷ Call 1 ∷ Drop ∷ c 0 ∷ c 3 ∷ c 100 ∷ c 3 ∷ Call 3 ∷ c 0 ∷ [])) [] 40 (Reply.child 0 ∷ five ∷ []) ≡ seen asked (outcome.Trap trap.CallRange) 13 []
past_the_output = refl

status_of_a_negative_result : run (kids (c 0 ∷ Call 1 ∷ I64Const (pos 32) ∷ Num 0x88 ∷ Num 0xA7 ∷ [])) [] 40 (Reply.child 0 ∷ Reply.finished (outcome.Done (negsuc 0)) [] ∷ []) ≡ seen ((ask Table (Operation.submit 9 []), Reply.child 0) ∷ (ask Table (Operation.look 0), Reply.finished (outcome.Done (negsuc 0)) []) ∷ []) (outcome.Done (pos 0)) 10 []
status_of_a_negative_result = refl

-- locks
abbrev locks : List Instr → Function
locks code = f (host (codes "lock_state_write") 2 ∷ host (codes "unlock_state") 2 ∷ host (codes "lock_global_read") 2 ∷ host (codes "unlock_global") 2 ∷ []) [] code 100 two []

abbrev d : Reply
d = Reply.done

lock_twice : run (locks (c 0 ∷ Call 0 ∷ c 0 ∷ Call 0 ∷ c 0 ∷ [])) [] 40 (d ∷ d ∷ []) ≡ seen ((ask (Local 5) (on_region RegionOperation.lock_write), d) ∷ (ask (Local 5) (on_region RegionOperation.unlock), d) ∷ []) (outcome.Trap trap.LockMisuse) 4 []
lock_twice = refl

unlock_without_lock : run (locks (c 0 ∷ Call 1 ∷ c 0 ∷ [])) [] 40 [] ≡ seen [] (outcome.Trap trap.LockMisuse) 2 []
unlock_without_lock = refl

lock_denied : run (locks (c 1 ∷ Call 0 ∷ c 0 ∷ [])) [] 40 [] ≡ seen [] (outcome.Trap trap.Denied) 2 []
lock_denied = refl

lock_without_grant : run (locks (c 2 ∷ Call 0 ∷ c 0 ∷ [])) [] 40 [] ≡ seen [] (outcome.Trap trap.BadKey) 2 []
lock_without_grant = refl

releases_in_order : run (locks (c 1 ∷ Call 2 ∷ c 0 ∷ Call 2 ∷ c 0 ∷ Call 0 ∷ c 0 ∷ [])) [] 40 (d ∷ d ∷ d ∷ d ∷ d ∷ d ∷ []) ≡ seen ((ask (Global 6) (on_region RegionOperation.lock_read), d) ∷ (ask (Global 5) (on_region RegionOperation.lock_read), d) ∷ (ask (Local 5) (on_region RegionOperation.lock_write), d) ∷ (ask (Local 5) (on_region RegionOperation.unlock), d) ∷ (ask (Global 5) (on_region RegionOperation.unlock), d) ∷ (ask (Global 6) (on_region RegionOperation.unlock), d) ∷ []) (outcome.Done (pos 0)) 7 []
releases_in_order = refl

-- control
branch_out_of_two : run (f [] [] (Block (Some I32) ∷ Block None ∷ c 1 ∷ c 2 ∷ c 3 ∷ Br 1 ∷ End ∷ c 9 ∷ End ∷ []) 100 [] []) [] 40 [] ≡ seen [] (outcome.Done (pos 3)) 6 []
branch_out_of_two = refl

return_out_of_two : run (f [] [] (Block (Some I32) ∷ Block None ∷ c 1 ∷ c 2 ∷ c 3 ∷ Return ∷ End ∷ c 9 ∷ End ∷ Drop ∷ c 4 ∷ []) 100 [] []) [] 40 [] ≡ seen [] (outcome.Done (pos 3)) 6 []
return_out_of_two = refl

branch_out_of_the_body : run (f [] [] (Block None ∷ c 8 ∷ Br 1 ∷ End ∷ c 9 ∷ []) 3 [] []) [] 40 [] ≡ seen [] (outcome.Done (pos 8)) 3 []
branch_out_of_the_body = refl

-- values: locals of all frames count
abbrev deep : ℕ → Function
deep n =
    function (record (module_of [] [] [] (body (Call 1 ∷ []))) {
      functions = 0 ∷ 0 ∷ 0 ∷ [];
      bodies = body (Call 1 ∷ []) ∷ record { locals = record { count = 50000; kind = I64 } ∷ []; code = Call 2 ∷ End ∷ [] } ∷ record { locals = record { count = n; kind = I64 } ∷ []; code = c 7 ∷ End ∷ [] } ∷ [];
    }) 100 [] []

locals_leave_room_for_one : run (deep 15535) [] 40 [] ≡ seen [] (outcome.Done (pos 7)) 3 []
locals_leave_room_for_one = refl

locals_leave_no_room : run (deep 15536) [] 40 [] ≡ seen [] (outcome.Trap trap.StackExhausted) 3 []
locals_leave_no_room = refl

locals_past_the_limit : run (deep 15537) [] 40 [] ≡ seen [] (outcome.Trap trap.StackExhausted) 2 []
locals_past_the_limit = refl
