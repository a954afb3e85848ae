-- Worked runs of the machine: memory that grows, calls, tables, instantiation.
use Rattle.std.proofs.Common.{◌≡◌, ℕ, List, [], ◌∷◌, refl}
use Rattle.std.specs.Prelude.{Some, None, pos, codes}
use Rattle.faaslet_meaning.specs.declared.instr.ValType.TheVariants.{I32}
use Rattle.faaslet_meaning.specs.declared.instr.Instr.{Instr}
use Rattle.faaslet_meaning.specs.declared.instr.Instr.TheVariants.{Unreachable, Block, Loop, Br, BrTable, Call, CallIndirect, Load, Store, MemoryGrow, I32Const, Num, End}
use Rattle.faaslet_meaning.specs.declared.module.Module.{Module}
use Rattle.faaslet_meaning.specs.declared.module.ExportKind.TheVariants as export
use Rattle.faaslet_meaning.specs.declared.outcome.Trap.TheVariants as trap
use Rattle.faaslet_meaning.specs.declared.outcome.Broken.TheVariants as broken
use Rattle.faaslet_meaning.specs.declared.outcome.Outcome.TheVariants as outcome
use Rattle.faaslet_meaning.specs.Fresh.{Function}
use Rattle.faaslet_meaning.proofs.ExampleRuns.{module_of, function, body, one_page, func_type, seen, breaks_so, run}

abbrev c : ℕ → Instr
c n = I32Const (pos n)

abbrev grow : ℕ → Function
grow quota = record (function (module_of [] [] one_page (body (c 2 ∷ MemoryGrow ∷ c 1 ∷ MemoryGrow ∷ Num 0x6A ∷ c 0 ∷ MemoryGrow ∷ Num 0x6A ∷ []))) 100 [] []) { quota = quota }

grow_to_3 : run (grow 3) [] 10 [] ≡ seen [] (outcome.Done (pos 3)) 8 []
grow_to_3 = refl

grow_to_2 : run (grow 2) [] 10 [] ≡ seen [] (outcome.Done (pos 2)) 8 []
grow_to_2 = refl

endless_calls : run (function (module_of [] [] [] (body (Call 0 ∷ []))) 5000 [] []) [] 1100 [] ≡ seen [] (outcome.Trap trap.StackExhausted) 1024 []
endless_calls = refl

-- a data segment past the end
segment_past : run (function (record (module_of [] [] one_page (body (c 0 ∷ []))) { segments = record { memory = 0; offset = c 65536 ∷ End ∷ []; bytes = 7 ∷ [] } ∷ [] }) 10 [] []) [] 10 [] ≡ breaks_so broken.Segment
segment_past = refl

no_quota : run (record (grow 3) { quota = 0 }) [] 10 [] ≡ breaks_so broken.Quota
no_quota = refl

-- `main` and `init`, with a table of 3 elements whose second and third are these two
abbrev with_init : List Instr → List Instr → Module
with_init main init =
    record (module_of (func_type [] [] ∷ []) [] one_page (body main)) {
      functions = 0 ∷ 1 ∷ [];
      bodies = body main ∷ body init ∷ [];
      tables = record { min = 3; max = None } ∷ [];
      elements = record { table = 0; offset = c 1 ∷ End ∷ []; functions = 0 ∷ 1 ∷ [] } ∷ [];
      segments = record { memory = 0; offset = c 1024 ∷ End ∷ []; bytes = 5 ∷ [] } ∷ [];
      exports = record { name = codes "main"; kind = export.Function; index = 0 } ∷ record { name = codes "init"; kind = export.Function; index = 1 } ∷ [];
    }

abbrev kept : List Instr
kept = c 1024 ∷ Load 0x28 2 0 ∷ c 1024 ∷ c 9 ∷ Store 0x36 2 0 ∷ []

keep : run (function (with_init kept (c 1024 ∷ c 7 ∷ Store 0x36 2 0 ∷ [])) 100000000 [] []) [] 10 [] ≡ seen [] (outcome.Done (pos 7)) 5 []
keep = refl

-- the same with 17 pages
keep_17 : run (function (record (with_init kept (c 1024 ∷ c 7 ∷ Store 0x36 2 0 ∷ [])) { memories = record { min = 17; max = None } ∷ [] }) 100000000 [] []) [] 10 [] ≡ seen [] (outcome.Done (pos 7)) 5 []
keep_17 = refl

segment_kept : run (function (with_init kept []) 10 [] []) [] 10 [] ≡ seen [] (outcome.Done (pos 5)) 5 []
segment_kept = refl

init_spends : run (function (with_init kept (Loop None ∷ Br 0 ∷ End ∷ [])) 100 [] []) [] 10 [] ≡ breaks_so broken.Fuel
init_spends = refl

init_traps : run (function (with_init kept (Unreachable ∷ [])) 100 [] []) [] 10 [] ≡ breaks_so (broken.Trap trap.Unreachable)
init_traps = refl

-- the three traps of an indirect call, and one that goes well
abbrev indirect : ℕ → ℕ → Function
indirect type n = function (with_init (c n ∷ CallIndirect type ∷ c 4 ∷ []) []) 10 [] []

undefined : run (indirect 1 3) [] 10 [] ≡ seen [] (outcome.Trap trap.UndefinedElement) 2 []
undefined = refl

uninitialized : run (indirect 1 0) [] 10 [] ≡ seen [] (outcome.Trap trap.UninitializedElement) 2 []
uninitialized = refl

mismatch : run (indirect 1 1) [] 10 [] ≡ seen [] (outcome.Trap trap.TypeMismatch) 2 []
mismatch = refl

called : run (indirect 1 2) [] 10 [] ≡ seen [] (outcome.Done (pos 4)) 3 []
called = refl

-- `br_table` over two blocks: 0 leaves the inner one, all else the outer one
abbrev tabled : ℕ → Function
tabled n = function (module_of [] [] [] (body (Block (Some I32) ∷ Block None ∷ c 9 ∷ c n ∷ BrTable (1 ∷ []) 1 ∷ End ∷ c 3 ∷ End ∷ []))) 20 [] []

table_past : run (tabled 7) [] 20 [] ≡ seen [] (outcome.Done (pos 9)) 5 []
table_past = refl
