-- Instantiation: the state about to run `main`, or how the function is broken. W3C WebAssembly Core Specification 1.0,
-- section 4.5.4, Instantiation. The quota, the order of the refusals, `init` and the fuel are this project's own.
use Rattle.std.specs.Prelude.{ℕ, zero, suc, ◌+◌, ◌*◌, List, [], ◌∷◌, Option, Some, None, Bool, true, false, map, length, replicate, nat_le, slice_get, codes, option_and_then, option_map, ◌&&◌}
use Rattle.faaslet_meaning.specs.declared.module.Module.{Module}
use Rattle.faaslet_meaning.specs.declared.module.Element.{Element}
use Rattle.faaslet_meaning.specs.declared.module.Segment.{Segment}
use Rattle.faaslet_meaning.specs.declared.grant.Grant.{Grant}
use Rattle.faaslet_meaning.specs.declared.outcome.Broken.{Broken}
use Rattle.faaslet_meaning.specs.declared.outcome.Broken.TheVariants as broken
use Rattle.faaslet_meaning.specs.declared.outcome.Outcome.TheVariants as outcome
use Rattle.faaslet_meaning.specs.Memory.{Memory, over, size_of}
use Rattle.faaslet_meaning.specs.Configuration.{Func, defined, Program, Configuration, Next, goes, ends, calls}
use Rattle.faaslet_meaning.specs.ControlRules.{entered}
use Rattle.faaslet_meaning.specs.Step.{step}
use Rattle.faaslet_meaning.specs.Program.{program_of, memory_limits, table_size, first_memory, export_of, constant, globals_from}

-- a function of a plan: what a call of it may do and use
pub record Function : Type 0 where
  pub code : Module
  pub quota : ℕ
  pub fuel : ℕ
  pub room : ℕ
  pub grants : List Grant
  pub callees : List ℕ

-- what a module keeps between its entries
pub record Store : Type 0 where
  pub globals : List ℕ
  pub table : List (Option ℕ)
  pub memory : Memory

-- So far, or broken. A module that is valid and that a function may have (`Runnable`) does not come to `nothing`.
pub data Made (A : Type 0) : Type 0 where
  makes : A → Made A
  breaks : Broken → Made A
  nothing : Made A

abbrev pub then_make : {A B : Type 0} → Made A → (A → Made B) → Made B
then_make (makes a) go = go a
then_make (breaks k) go = breaks k
then_make nothing go = nothing

abbrev pub made : {A : Type 0} → Option A → Made A
made None = nothing
made (Some a) = makes a

abbrev pub unless : {A : Type 0} → Broken → Bool → Made A → Made A
unless k true a = a
unless k false a = breaks k

-- an offset, and what is written there
abbrev pub element_at : List ℕ → Element → Option (ℕ × List (Option ℕ))
element_at globals e = option_map (λ at. (at, map (λ f. Some f) e.functions)) (constant globals e.offset)

abbrev pub segment_at : List ℕ → Segment → Option (ℕ × List ℕ)
segment_at globals s = option_map (λ at. (at, s.bytes)) (constant globals s.offset)

-- all of them, or none
abbrev pub cons_both : {A : Type 0} → Option A → Option (List A) → Option (List A)
cons_both (Some x) (Some xs) = Some (x ∷ xs)
cons_both _ _ = None

abbrev pub all_of : {A B : Type 0} → (A → Option B) → List A → Option (List B)
all_of f [] = Some []
all_of f (x ∷ xs) = cons_both (f x) (all_of f xs)

abbrev pub all_fit : {A : Type 0} → ℕ → List (ℕ × List A) → Bool
all_fit n [] = true
all_fit n (x ∷ xs) = nat_le (x.0 + length x.1) n && all_fit n xs

-- written one after the other
abbrev pub all_over : {A : Type 0} → List A → List (ℕ × List A) → List A
all_over to [] = to
all_over to (x ∷ xs) = all_over (over to x.0 x.1) xs

-- The memory is within the quota. Globals are evaluated, then offsets; all segments fit; they are written.
abbrev pub segments_written : Function → List ℕ → List (ℕ × List (Option ℕ)) → List (ℕ × List ℕ) → Made Store
segments_written f globals es ss =
    let memory = first_memory f.code f.quota in
    unless broken.Segment (all_fit (table_size f.code) es && all_fit (size_of memory) ss) (makes (record {
      globals = globals;
      table = all_over (replicate (table_size f.code) None) es;
      memory = record memory { bytes = all_over memory.bytes ss };
    }))

abbrev pub instantiated : Function → Made Store
instantiated f =
    unless broken.Quota (nat_le (memory_limits f.code).min f.quota)
    (then_make (made (globals_from [] f.code.globals)) λ globals.
    then_make (made (all_of (element_at globals) f.code.elements)) λ es.
    then_make (made (all_of (segment_at globals) f.code.segments)) λ ss. segments_written f globals es ss)

abbrev pub program : Function → Program
program f = program_of f.code f.grants

-- About to run a function without parameters, with the whole fuel. Its frame counts as the first; it is within the limits, as
-- its locals are by the limits of decoding.
abbrev pub entry_by : Function → Store → Option Func → Made Configuration
entry_by f s (Some (defined t locals body)) =
    makes (record { frame = entered t locals body []; callers = []; globals = s.globals; table = s.table; memory = s.memory; fuel = f.fuel })
entry_by f s _ = nothing

abbrev pub entry : Function → Store → Option ℕ → Made Configuration
entry f s i = entry_by f s (option_and_then (slice_get (program f).functions) i)

-- at most n steps
abbrev pub then_go : Next → (Configuration → Next) → Next
then_go (goes c) go = go c
then_go n go = n

abbrev pub steps : Program → ℕ → Configuration → Next
steps p zero c = goes c
steps p (suc n) c = then_go (step p c) (steps p n)

-- The start function and `init`, where there is one: what they leave, or how they break the function. A host call that passes
-- its first two checks breaks it.
abbrev pub after : Next → Made Store
after (ends c (outcome.Done n)) = makes (record { globals = c.globals; table = c.table; memory = c.memory })
after (ends c (outcome.Trap t)) = breaks (broken.Trap t)
after (ends c outcome.FuelOut) = breaks broken.Fuel
after (calls c h) = breaks broken.HostCall
after _ = nothing

-- A run that was cut short would come to `nothing`, and none does of a valid module that a function may have (`valid_is_made`).
abbrev pub through : Function → Option ℕ → Store → Made Store
through f None s = makes s
through f (Some i) s = then_make (entry f s (Some i)) λ c. after (steps (program f) (2 * f.fuel + 1) c)

abbrev pub fresh : Function → Made Configuration
fresh f =
    then_make (instantiated f) λ s.
    then_make (through f f.code.start s) λ t.
    then_make (through f (export_of f.code (codes "init")) t) λ u. entry f u (export_of f.code (codes "main"))
