-- What a call finds is what it calls.
use Rattle.std.proofs.Common.{◌≡◌, ℕ, ◌<◌, ◌≤◌, List, [], ◌∷◌, refl, sym, ap, ◌∙◌, subst, None, Some, Option, Ok, Err, Bool, true, false, length, arith}
use Rattle.std.specs.Prelude.{◌≢◌, slice_get}
use Rattle.std.specs.Int.{w32}
use Rattle.std.proofs.lemmas.Option.{slice_get_past}
use Rattle.faaslet_meaning.specs.declared.grant.Grant.{Grant}
use Rattle.faaslet_meaning.specs.declared.module.Module.{Module}
use Rattle.faaslet_meaning.specs.declared.module.FuncType.{FuncType}
use Rattle.faaslet_meaning.specs.declared.instr.Instr.TheVariants.{CallIndirect}
use Rattle.faaslet_meaning.specs.declared.outcome.Outcome.{Outcome}
use Rattle.faaslet_meaning.specs.declared.outcome.Outcome.TheVariants.{Trap}
use Rattle.faaslet_meaning.specs.declared.outcome.Trap.TheVariants as trap
use Rattle.faaslet_meaning.specs.Integers.{low}
use Rattle.faaslet_meaning.specs.Step.{plain_step}
use Rattle.faaslet_meaning.specs.Memory.{Memory}
use Rattle.faaslet_meaning.specs.Tree.{Tree}
use Rattle.faaslet_meaning.specs.Program.{functions_of, program_of}
use Rattle.faaslet_meaning.specs.Configuration.{Func, hosted, defined, type_of, Program, Configuration, Next, goes, ends, touches, calls, stuck}
use Rattle.faaslet_meaning.specs.ControlRules.{call, call_at, call_element, call_typed, call_indirect, same_type}
use Rattle.wasm_interp.specs.declared.functions.Own.{Own}
use Rattle.wasm_interp.specs.declared.functions.Callee.TheVariants as callee
use Rattle.wasm_interp.specs.declared.machine.HostAsk.{HostAsk}
use Rattle.wasm_interp.specs.declared.machine.Stage.TheVariants as stage
use Rattle.wasm_interp.specs.declared.thread.Thread.{Thread}
use Rattle.wasm_interp.specs.Callees.{CalleeIs, OwnIs}
use Rattle.wasm_interp.specs.HostStops.{Asked}
use Rattle.wasm_interp.specs.Stands.{Stands, Follows}
use Rattle.wasm_interp.specs.StandsFor.{StageStands}

-- where the machine is after a rule
pub goes_on : (memory : Memory) (t : Thread) (n : Next) → Follows memory t n None → StageStands memory t stage.Runs n
goes_on memory t (goes c) f = f
goes_on memory t (ends c o) f = absurd f
goes_on memory t (touches c b) f = absurd f
goes_on memory t (calls c h) f = absurd f
goes_on memory t stuck f = absurd f

pub is_over : (memory : Memory) (t : Thread) (n : Next) (o : Outcome) → Follows memory t n (Some o) → StageStands memory t (stage.Over o) n
is_over memory t (goes c) o f = absurd f
is_over memory t (ends c p) o f = f
is_over memory t (touches c b) o f = absurd f
is_over memory t (calls c h) o f = absurd f
is_over memory t stuck o f = absurd f

pub is_asked : (memory : Memory) (t : Thread) (n : Next) (ask : HostAsk) → Asked memory t n (Ok ask) → StageStands memory t (stage.Host ask) n
is_asked memory t (goes c) ask f = absurd f
is_asked memory t (ends c p) ask f = absurd f
is_asked memory t (touches c b) ask f = absurd f
is_asked memory t (calls c h) ask f = f
is_asked memory t stuck ask f = absurd f

pub is_ended : (memory : Memory) (t : Thread) (n : Next) (o : Outcome) → Asked memory t n (Err o) → StageStands memory t (stage.Over o) n
is_ended memory t (goes c) o f = absurd f
is_ended memory t (ends c p) o f = f
is_ended memory t (touches c b) o f = absurd f
is_ended memory t (calls c h) o f = absurd f
is_ended memory t stuck o f = absurd f

-- the function of a call that isn't stuck
pub record Calls (m : Module) (grants : List Grant) (d : Configuration) (f : ℕ) : Type 0 where
  pub function : Func
  pub at : slice_get (functions_of m) f ≡ Some function
  pub is : call_at (program_of m grants) d f ≡ call d function

pub calls_of : (m : Module) (grants : List Grant) (d : Configuration) (f : ℕ) → call_at (program_of m grants) d f ≢ stuck → Calls m grants d f
calls_of m grants d f ok = by (slice_get (functions_of m) f) refl
  where
    by : (o : Option Func) → slice_get (functions_of m) f ≡ o → Calls m grants d f
    by None e = absurd (ok (rw (e, call_at) refl))
    by (Some g) e = record { function = g; at = e; is = rw (e, call_at) refl }

-- the called function is a host call
pub record CallsHost (d : Configuration) (g : Func) (number params : ℕ) : Type 0 where
  pub type : FuncType
  pub params_are : length type.params ≡ params
  pub is : call d g ≡ call d (hosted number type)

pub calls_host : (d : Configuration) (g : Func) (number params : ℕ) → CalleeIs g (callee.Host number params) → CallsHost d g number params
calls_host d (hosted n t) number params e = record { type = t; params_are = e.1; is = ap (λ k. call d (hosted k t)) e.0 }
calls_host d (defined t n b) number params e = absurd e

-- or has a body
pub record CallsOwn (d : Configuration) (g : Func) (o : Own) : Type 0 where
  pub type : FuncType
  pub body : Tree
  pub is_own : OwnIs type o.locals body o
  pub is : call d g ≡ call d (defined type o.locals body)

pub calls_own : (d : Configuration) (g : Func) (o : Own) → CalleeIs g (callee.Own o) → CallsOwn d g o
calls_own d (hosted n t) o e = absurd e
calls_own d (defined t n b) o e =
    record { type = t; body = b; is_own = subst (λ k. OwnIs t k b o) e.locals_are e; is = ap (λ k. call d (defined t k b)) e.locals_are }

-- the type that a call through the table asks for
pub record Indirect (p : Program) (d : Configuration) (t x : ℕ) : Type 0 where
  pub type : FuncType
  pub at : slice_get p.types t ≡ Some type
  pub is : call_indirect p d t x ≡ call_element p d type (slice_get d.table (low w32 x))

pub indirect_of : (p : Program) (d : Configuration) (t x : ℕ) → call_indirect p d t x ≢ stuck → Indirect p d t x
indirect_of p d t x ok = by (slice_get p.types t) refl
  where
    by : (o : Option FuncType) → slice_get p.types t ≡ o → Indirect p d t x
    by None e = absurd (ok (rw (e, call_indirect) refl))
    by (Some u) e = record { type = u; at = e; is = rw (e, call_indirect) refl }

-- the function that it finds
pub record Element (m : Module) (grants : List Grant) (d : Configuration) (type : FuncType) (f : ℕ) : Type 0 where
  pub function : Func
  pub at : slice_get (functions_of m) f ≡ Some function
  pub typed : call_element (program_of m grants) d type (Some (Some f)) ≡ call_typed d type function
  pub called : call_at (program_of m grants) d f ≡ call d function

pub element_of : (m : Module) (grants : List Grant) (d : Configuration) (type : FuncType) (f : ℕ) → call_element (program_of m grants) d type (Some (Some f)) ≢ stuck → Element m grants d type f
element_of m grants d type f ok = by (slice_get (functions_of m) f) refl
  where
    by : (o : Option Func) → slice_get (functions_of m) f ≡ o → Element m grants d type f
    by None e = absurd (ok (rw (e, call_element) refl))
    by (Some g) e = record { function = g; at = e; typed = rw (e, call_element) refl; called = rw (e, call_at) refl }

pub type_is_same : (d : Configuration) (type u v : FuncType) (g : Func) (b : Bool) → b ≡ same_type u v → type_of g ≡ u → v ≡ type → b ≡ true → call_typed d type g ≡ call d g
type_is_same d type u v g b e f h t =
    let same : same_type (type_of g) type ≡ true = ap (λ x. same_type x type) f ∙ ap (same_type u) (sym h) ∙ sym e ∙ t in
    rw same refl

pub type_differs : (memory : Memory) (t : Thread) (d : Configuration) (type u v : FuncType) (g : Func) (b : Bool) → b ≡ same_type u v → type_of g ≡ u → v ≡ type → b ≡ false → Stands memory t d → StageStands memory t (stage.Over (Trap trap.TypeMismatch)) (call_typed d type g)
type_differs memory t d type u v g b e f h n s =
    let differ : same_type (type_of g) type ≡ false = ap (λ x. same_type x type) f ∙ ap (same_type u) (sym h) ∙ sym e ∙ n in
    rw differ (refl, s.kept)

pub some_index : (p : Program) (d : Configuration) (t : ℕ) (vs : List ℕ) → plain_step p d (CallIndirect t) vs ≢ stuck → 0 < length vs
some_index p d t [] ok = absurd (ok refl)
some_index p d t (v ∷ vs) ok = omega arith

-- nothing stands at the index
pub undefined : (memory : Memory) (t : Thread) (p : Program) (d : Configuration) (type : FuncType) (x : ℕ) → length t.table.items ≤ low w32 x → Stands memory t d → StageStands memory t (stage.Over (Trap trap.UndefinedElement)) (call_element p d type (slice_get d.table (low w32 x)))
undefined memory t p d type x past s =
    let e : slice_get d.table (low w32 x) ≡ None = slice_get_past d.table (low w32 x) (omega (arith, ap length s.kept.table_is)) in
    rw e (refl, s.kept)

pub element_is : (memory : Memory) (t : Thread) (p : Program) (d : Configuration) (type : FuncType) (x : ℕ) (o : Option ℕ) → slice_get t.table.items (low w32 x) ≡ Some o → Stands memory t d → call_element p d type (slice_get d.table (low w32 x)) ≡ call_element p d type (Some o)
element_is memory t p d type x o e s = ap (call_element p d type) (ap (λ l. slice_get l (low w32 x)) (sym s.kept.table_is) ∙ e)
