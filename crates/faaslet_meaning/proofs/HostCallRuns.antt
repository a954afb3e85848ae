-- Worked runs with host calls.
use Rattle.std.proofs.Common.{◌≡◌, ℕ, zero, suc, List, [], ◌∷◌, refl}
use Rattle.std.specs.Prelude.{Some, pos, codes, ◌++◌, replicate}
use Rattle.faaslet_meaning.specs.declared.instr.ValType.TheVariants.{I32, I64}
use Rattle.faaslet_meaning.specs.declared.instr.Instr.{Instr}
use Rattle.faaslet_meaning.specs.declared.instr.Instr.TheVariants.{Drop, Call, I32Const, Num, Loop, Br, End}
use Rattle.faaslet_meaning.specs.declared.module.FuncType.{FuncType}
use Rattle.faaslet_meaning.specs.declared.grant.Channel.TheVariants.{Table}
use Rattle.faaslet_meaning.specs.declared.outcome.Trap.TheVariants as trap
use Rattle.faaslet_meaning.specs.declared.outcome.Outcome.TheVariants as outcome
use Rattle.faaslet_meaning.specs.Channels.{RegionOperation, Operation, on_region, Reply, ask}
use Rattle.faaslet_meaning.specs.Fresh.{Function}
use Rattle.faaslet_meaning.proofs.ExampleRuns.{module_of, function, body, one_page, host, func_type, Seen, seen, run}

abbrev c : ℕ → Instr
c n = I32Const (pos n)

-- `par`: two children, and the sum of their results
abbrev types : List FuncType
types = func_type (I32 ∷ I32 ∷ I32 ∷ []) (I32 ∷ []) ∷ func_type (I32 ∷ []) (I64 ∷ []) ∷ func_type [] (I32 ∷ []) ∷ func_type (I32 ∷ I32 ∷ I32 ∷ []) [] ∷ func_type (I32 ∷ I32 ∷ []) [] ∷ []

abbrev child : List Instr
child = c 0 ∷ c 0 ∷ c 0 ∷ Call 0 ∷ Drop ∷ []

abbrev awaited : ℕ → List Instr
awaited n = c n ∷ Call 1 ∷ Num 0xA7 ∷ []

abbrev par : Function
par = function (module_of types (host (codes "chain_call") 1 ∷ host (codes "await_call") 2 ∷ []) one_page (body (child ++ child ++ awaited 0 ++ awaited 1 ++ Num 0x6A ∷ []))) 100 [] (7 ∷ [])

abbrev done_21 : Reply
done_21 = Reply.finished (outcome.Done (pos 21)) []

par_adds : run par [] 50 (Reply.child 0 ∷ Reply.child 1 ∷ done_21 ∷ done_21 ∷ []) ≡ seen ((ask Table (Operation.submit 7 []), Reply.child 0) ∷ (ask Table (Operation.submit 7 []), Reply.child 1) ∷ (ask Table (Operation.look 0), done_21) ∷ (ask Table (Operation.look 1), done_21) ∷ []) (outcome.Done (pos 42)) 17 []
par_adds = refl

-- a Submit for which there is no memory
no_memory : run par [] 50 (Reply.child 0 ∷ Reply.want ∷ []) ≡ seen ((ask Table (Operation.submit 7 []), Reply.child 0) ∷ (ask Table (Operation.submit 7 []), Reply.want) ∷ []) outcome.Want 9 []
no_memory = refl

-- `echo`: what comes in goes out
abbrev echo : Function
echo =
    function (module_of types (host (codes "input_size") 3 ∷ host (codes "read_input") 4 ∷ host (codes "write_output") 5 ∷ []) one_page (body (c 0 ∷ c 0 ∷ Call 0 ∷ Call 1 ∷ c 0 ∷ Call 0 ∷ Call 2 ∷ c 0 ∷ []))) 100 [] []

abbrev hello : List ℕ
hello = 0x68 ∷ 0x65 ∷ 0x6C ∷ 0x6C ∷ 0x6F ∷ []

echo_hello : run echo hello 20 [] ≡ seen [] (outcome.Done (pos 0)) 8 hello
echo_hello = refl

echo_64 : run echo (replicate 64 0) 20 [] ≡ seen [] (outcome.Done (pos 0)) 10 (replicate 64 0)
echo_64 = refl

-- `many`: submits children until there may be no more
abbrev many : Function
many = function (module_of types (host (codes "chain_call") 1 ∷ []) one_page (body (Loop (Some I32) ∷ c 0 ∷ c 0 ∷ c 0 ∷ Call 0 ∷ Drop ∷ Br 0 ∷ End ∷ []))) 100000000 [] (7 ∷ [])

abbrev children : ℕ → List Reply
children zero = Reply.chain_full ∷ []
children (suc n) = Reply.child 0 ∷ children n

abbrev how : Seen → Seen
how (seen transcript o used output) = seen [] o used output
how s = s

many_is_full : how (run many [] 8000 (children 1023)) ≡ seen [] (outcome.Trap trap.ChainFull) 6143 []
many_is_full = refl
