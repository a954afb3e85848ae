-- Labels and frames: how they are left, branched over and entered. W3C WebAssembly Core Specification 1.0, sections
-- 4.4.5, Control Instructions, 4.4.6, Blocks, and 4.4.7, Function Calls. What a host call pays is this project's own.
use Rattle.std.specs.Prelude.{ℕ, zero, suc, ◌-◌, ◌/◌, List, [], ◌∷◌, ◌++◌, Option, Some, None, Bool, length, map, take, drop, replicate, reverse, nat_le, ◌&&◌, if◌then◌else◌, slice_get, unwrap_or, option_and_then}
use Rattle.std.specs.Int.{cast_signed, w32}
use Rattle.std.specs.Prelude.{bytes_eq}
use Rattle.faaslet_meaning.specs.declared.instr.ValType.{ValType}
use Rattle.faaslet_meaning.specs.declared.instr.ValType.TheVariants.{I32, I64, F32, F64}
use Rattle.faaslet_meaning.specs.declared.module.FuncType.{FuncType}
use Rattle.faaslet_meaning.specs.declared.outcome.Trap.TheVariants as trap
use Rattle.faaslet_meaning.specs.declared.outcome.Outcome.TheVariants as outcome
use Rattle.faaslet_meaning.specs.Integers.{low}
use Rattle.faaslet_meaning.specs.Tree.{Tree}
use Rattle.faaslet_meaning.specs.HostCalls.{HostCall, Buffer, host_rows, made, buffer_of}
use Rattle.faaslet_meaning.specs.Configuration.{Func, hosted, defined, type_of, Program, Label, Frame, Configuration, Next, goes, ends, calls, stuck}
use Rattle.faaslet_meaning.specs.Limits.{traps, with_values, has_room}

-- a choice by an i32
abbrev pub choose : ℕ → Next → Next → Next
choose x a b = elim (low w32 x) [ zero ↦ b | suc n ↦ a ]

-- the first result, or 0 where there is none
abbrev pub result_of : List ℕ → ℕ
result_of [] = 0
result_of (v ∷ vs) = v

-- the caller goes on with the results; the end of the first frame is the end of the run
abbrev pub results_to : Configuration → List ℕ → List Frame → Next
results_to c vs [] = ends c (outcome.Done (cast_signed w32 (low w32 (result_of vs))))
results_to c vs (f ∷ fs) = goes (record c { frame = record f { values = vs ++ f.values }; callers = fs })

-- leaves the frame with its results
abbrev pub leave_frame : Configuration → Next
leave_frame c =
    if nat_le c.frame.arity (length c.frame.values)
    then results_to c (take c.frame.arity c.frame.values) c.callers
    else stuck

-- the end of a sequence: the innermost label is left with its values, or the frame
abbrev pub leave : Configuration → List Label → Next
leave c [] = leave_frame c
leave c (l ∷ ls) = goes (record c { frame = record c.frame { labels = ls; values = c.frame.values ++ l.under; rest = l.after } })

-- a branch to a label that has these labels outside it: a block is left, a loop goes on with its body and keeps its label
abbrev pub branch_to : Configuration → Label → Option Tree → List Label → Next
branch_to c l None ls = goes (record c { frame = record c.frame { labels = ls; values = take l.arity c.frame.values ++ l.under; rest = l.after } })
branch_to c l (Some body) ls = goes (record c { frame = record c.frame { labels = l ∷ ls; values = take l.arity c.frame.values; rest = body } })

-- a branch over the n innermost labels; past the last one it leaves the frame
abbrev pub branch : Configuration → ℕ → List Label → Next
branch c zero (l ∷ ls) = if nat_le l.arity (length c.frame.values) then branch_to c l l.again ls else stuck
branch c zero [] = leave_frame c
branch c (suc n) (l ∷ ls) = branch c n ls
branch c (suc n) [] = stuck

abbrev pub br : Configuration → ℕ → Next
br c n = branch c n c.frame.labels

-- `br_table`: the label at the index, or the last one
abbrev pub br_table : Configuration → List ℕ → ℕ → ℕ → Next
br_table c ls last x = br c (unwrap_or (slice_get ls (low w32 x)) last)

-- a frame on its arguments, the last of them on top
abbrev pub entered : FuncType → ℕ → Tree → List ℕ → Frame
entered t locals body args = record { arity = length t.results; locals = reverse args ++ replicate locals 0; labels = []; values = []; rest = body }

-- The buffer of a host call is at most so long, and costs one unit for each whole 64 bytes of it, after the unit of the `call`
-- itself, which is paid before.
abbrev pub buffer_limit : ℕ
buffer_limit = 65536

abbrev pub host_by : Configuration → HostCall → Option Buffer → Next
host_by c h None = calls c h
host_by c h (Some b) =
    if nat_le b.len buffer_limit
    then (
    let cost = b.len / 64 in
    if nat_le cost c.fuel then calls (record c { fuel = c.fuel - cost }) h else ends c outcome.FuelOut)
    else traps c trap.BufferTooLong

abbrev pub host_made : Configuration → Option HostCall → Next
host_made c None = stuck
host_made c (Some h) = host_by c h (buffer_of h)

abbrev pub host_call : Configuration → ℕ → List ℕ → Next
host_call c number args = host_made c (option_and_then (λ r. made r.form (reverse (map (low w32) args))) (slice_get host_rows number))

-- a call: its arguments are the topmost values
abbrev pub call : Configuration → Func → Next
call c (hosted number t) =
    if nat_le (length t.params) (length c.frame.values)
    then host_call (with_values c (drop (length t.params) c.frame.values)) number (take (length t.params) c.frame.values)
    else stuck
call c (defined t locals body) =
    let n = length t.params in
    let vs = c.frame.values in
    if nat_le n (length vs)
    then (
    if has_room c locals
    then goes (record c { frame = entered t locals body (take n vs); callers = record c.frame { values = drop n vs } ∷ c.callers })
    else traps c trap.StackExhausted)
    else stuck

abbrev pub call_at : Program → Configuration → ℕ → Next
call_at p c f = elim (slice_get p.functions f) [ None ↦ stuck | Some g ↦ call c g ]

-- Types are compared by a number for each value type, so that it computes.
abbrev pub type_code : ValType → ℕ
type_code I32 = 0
type_code I64 = 1
type_code F32 = 2
type_code F64 = 3

abbrev pub same_type : FuncType → FuncType → Bool
same_type s t = bytes_eq (map type_code s.params) (map type_code t.params) && bytes_eq (map type_code s.results) (map type_code t.results)

-- `call_indirect` traps where the index is outside the table, where the element is not initialised, and where the type
-- differs, in this order.
abbrev pub call_typed : Configuration → FuncType → Func → Next
call_typed c t g = if same_type (type_of g) t then call c g else traps c trap.TypeMismatch

abbrev pub call_element : Program → Configuration → FuncType → Option (Option ℕ) → Next
call_element p c t None = traps c trap.UndefinedElement
call_element p c t (Some None) = traps c trap.UninitializedElement
call_element p c t (Some (Some f)) = elim (slice_get p.functions f) [ None ↦ stuck | Some g ↦ call_typed c t g ]

abbrev pub call_indirect : Program → Configuration → ℕ → ℕ → Next
call_indirect p c t x = elim (slice_get p.types t) [ None ↦ stuck | Some type ↦ call_element p c type (slice_get c.table (low w32 x)) ]
