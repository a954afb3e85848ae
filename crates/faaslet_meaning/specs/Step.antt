-- The reduction rules, as a function from a configuration to what comes next. W3C WebAssembly Core Specification 1.0,
-- section 4.4, Instructions. One step begins one instruction, or leaves one label, or leaves one frame. That an instruction
-- costs fuel is this project's own.
use Rattle.std.specs.Prelude.{ℕ, zero, suc, List, [], ◌∷◌, Option, Some, None, Result, Ok, Err, length, nat_lt, if◌then◌else◌, slice_get, slice_set}
use Rattle.std.specs.Int.{w32, w64, cast_unsigned}
use Rattle.faaslet_meaning.specs.declared.instr.Instr.{Instr}
use Rattle.faaslet_meaning.specs.declared.instr.Instr.TheVariants.{Unreachable, Nop, Br, BrIf, BrTable, Return, Call, CallIndirect, Drop, Select, LocalGet, LocalSet, LocalTee, GlobalGet, GlobalSet, Load, Store, MemorySize, MemoryGrow, I32Const, I64Const, Num}
use Rattle.faaslet_meaning.specs.declared.outcome.Trap.{Trap}
use Rattle.faaslet_meaning.specs.declared.outcome.Trap.TheVariants as trap
use Rattle.faaslet_meaning.specs.declared.outcome.Outcome.TheVariants as outcome
use Rattle.faaslet_meaning.specs.Integers.{Numeric, test, compare, unary, binary, convert, test_row, compare_row, unary_row, binary_row, convert_row, numeric_of, truth}
use Rattle.faaslet_meaning.specs.Tree.{Tree, stop, plain, block, loop, if_then, if_else, arity_of}
use Rattle.faaslet_meaning.specs.Configuration.{Program, Configuration, Next, goes, ends, stuck}
use Rattle.faaslet_meaning.specs.Limits.{traps, with_values, push, enter}
use Rattle.faaslet_meaning.specs.ControlRules.{choose, leave, leave_frame, br, br_table, call_at, call_indirect}
use Rattle.faaslet_meaning.specs.MemoryRules.{begin_load, begin_store, memory_size, memory_grow}

-- a value where there is one
abbrev pub push_some : Configuration → Option ℕ → Next
push_some c None = stuck
push_some c (Some v) = push c v

abbrev pub set_local : Configuration → ℕ → ℕ → Next
set_local c k v =
    if nat_lt k (length c.frame.locals) then goes (record c { frame = record c.frame { locals = slice_set c.frame.locals k v } }) else stuck

abbrev pub set_global : Configuration → ℕ → ℕ → Next
set_global c k v =
    if nat_lt k (length c.globals) then goes (record c { globals = slice_set c.globals k v }) else stuck

-- the operands are replaced by what the row gives
abbrev pub gives : Configuration → List ℕ → Result ℕ Trap → Next
gives c vs (Ok v) = goes (with_values c (v ∷ vs))
gives c vs (Err t) = traps c t

abbrev pub numeric : Configuration → Option Numeric → List ℕ → Next
numeric c (Some (test w)) (x ∷ vs) = gives c vs (Ok (test_row w x))
numeric c (Some (compare f w)) (y ∷ x ∷ vs) = gives c vs (Ok (truth (compare_row f w x y)))
numeric c (Some (unary f w)) (x ∷ vs) = gives c vs (Ok (unary_row f w x))
numeric c (Some (binary f w)) (y ∷ x ∷ vs) = gives c vs (binary_row f w x y)
numeric c (Some (convert f)) (x ∷ vs) = gives c vs (Ok (convert_row f x))
numeric c _ vs = stuck

-- An instruction without blocks, over these values. It is paid for, and what follows it is next.
abbrev pub plain_step : Program → Configuration → Instr → List ℕ → Next
plain_step p c Unreachable vs = traps c trap.Unreachable
plain_step p c Nop vs = goes c
plain_step p c (Br n) vs = br c n
plain_step p c (BrIf n) (x ∷ vs) = let d = with_values c vs in choose x (br d n) (goes d)
plain_step p c (BrTable ls n) (x ∷ vs) = br_table (with_values c vs) ls n x
plain_step p c Return vs = leave_frame c
plain_step p c (Call f) vs = call_at p c f
plain_step p c (CallIndirect t) (x ∷ vs) = call_indirect p (with_values c vs) t x
plain_step p c Drop (v ∷ vs) = goes (with_values c vs)
plain_step p c Select (x ∷ b ∷ a ∷ vs) = choose x (goes (with_values c (a ∷ vs))) (goes (with_values c (b ∷ vs)))
plain_step p c (LocalGet k) vs = push_some c (slice_get c.frame.locals k)
plain_step p c (LocalSet k) (v ∷ vs) = set_local (with_values c vs) k v
plain_step p c (LocalTee k) (v ∷ vs) = set_local c k v
plain_step p c (GlobalGet k) vs = push_some c (slice_get c.globals k)
plain_step p c (GlobalSet k) (v ∷ vs) = set_global (with_values c vs) k v
plain_step p c (Load op align offset) vs = begin_load c op offset vs
plain_step p c (Store op align offset) vs = begin_store p c op offset vs
plain_step p c MemorySize vs = memory_size c
plain_step p c MemoryGrow (x ∷ vs) = memory_grow p c x vs
plain_step p c (I32Const n) vs = push c (cast_unsigned w32 n)
plain_step p c (I64Const n) vs = push c (cast_unsigned w64 n)
plain_step p c (Num op) vs = numeric c (numeric_of op) vs
plain_step p c _ vs = stuck

-- with other instructions next
abbrev pub with_rest : Configuration → Tree → Configuration
with_rest c e = record c { frame = record c.frame { rest = e } }

-- an `if` takes a condition, and enters its label on one side or the other
abbrev pub if_step : Configuration → ℕ → Tree → Tree → List ℕ → Next
if_step c n a b [] = stuck
if_step c n a b (x ∷ vs) = let d = with_values c vs in choose x (enter d n None a) (enter d n None b)

-- the first instruction of a sequence, once it is paid for; where there is none the sequence ends
abbrev pub begin : Program → Configuration → Tree → Next
begin p c stop = leave c c.frame.labels
begin p c (plain i e) = plain_step p (with_rest c e) i c.frame.values
begin p c (block t b e) = enter (with_rest c e) (arity_of t) None b
begin p c (loop t b e) = enter (with_rest c e) 0 (Some b) b
begin p c (if_then t b e) = if_step (with_rest c e) (arity_of t) b stop c.frame.values
begin p c (if_else t b d e) = if_step (with_rest c e) (arity_of t) b d c.frame.values

-- an instruction that is begun costs one unit of fuel
abbrev pub paid : Configuration → ℕ → (Configuration → Next) → Next
paid c zero go = ends c outcome.FuelOut
paid c (suc n) go = go (record c { fuel = n })

-- the end of a sequence costs nothing
abbrev pub step_at : Program → Configuration → Tree → Next
step_at p c stop = leave c c.frame.labels
step_at p c e = paid c c.fuel (λ d. begin p d e)

-- one step
abbrev pub step : Program → Configuration → Next
step p c = step_at p c c.frame.rest

-- after a host call: its result is pushed, or its trap ends the run
abbrev pub finished : Configuration → Result (Option ℕ) Trap → Next
finished c (Ok None) = goes c
finished c (Ok (Some v)) = push c v
finished c (Err t) = traps c t
