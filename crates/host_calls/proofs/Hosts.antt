-- The host calls on calls with their arguments, and the order of their checks.
use Rattle.std.proofs.Common.{◌≡◌, ℕ, zero, suc, ◌+◌, ◌≤◌, Bool, true, false, List, [], ◌∷◌, ◌++◌, Option, Some, None, length, take, refl, ap, arith, ◌∙◌, sym, subst}
use Rattle.std.specs.Prelude.{if◌then◌else◌, is_some, nat_le, nat_lt, slice_get, slice_index}
use Rattle.std.proofs.lemmas.Bool.{leb-true, ltb-true, ltb-false}
use Rattle.std.proofs.lemmas.Option.{same_Some}
use Rattle.faaslet_meaning.specs.declared.outcome.Trap.{Trap}
use Rattle.faaslet_meaning.specs.declared.outcome.Trap.TheVariants.{BadChild, CallRange}
use Rattle.faaslet_meaning.specs.HostCalls.{HostCall, HostRow, Form, of_none, of_one, of_two, of_three, of_four, arity, made, host_rows}
use Rattle.faaslet_meaning.specs.CallState.{Invocation, State}
use Rattle.faaslet_meaning.specs.Checks.{Check, checks, first_trap, limit_checks, memory_checks, fits_in, passes, trap_of}
use Rattle.faaslet_meaning.specs.Operations.{operations}
use Rattle.wasm_interp.specs.StandsFor.{AsksHost}
use Rattle.wasm_interp.specs.declared.machine.HostAsk.{HostAsk}
use Rattle.host_calls.specs.declared.call_host.CallHost.{CallHost}
use Rattle.host_calls.specs.declared.call_host.CallHost.TheVariants as host
use Rattle.host_calls.specs.declared.call_host.CallLimits.{CallLimits}
use Rattle.host_calls.specs.CallHosts.{HasShort, Knows, host_of, refusal_of}
use Rattle.faaslet_meaning.specs.Fine.{has_result}
use Rattle.host_calls.specs.Calls.{acts_at, trap_at, stage_of, gives_result, IsAllowed, IsBegun, IsFresh, HasInput}
use Rattle.host_calls.specs.Children.{noted_at}

-- ---- arguments

abbrev pub at : List ℕ → ℕ → ℕ
at args k = slice_index args k

-- what a form makes of the arguments
abbrev pub from_args : Form → List ℕ → HostCall
from_args (of_none h) args = h
from_args (of_one f) args = f (at args 0)
from_args (of_two f) args = f (at args 0) (at args 1)
from_args (of_three f) args = f (at args 0) (at args 1) (at args 2)
from_args (of_four f) args = f (at args 0) (at args 1) (at args 2) (at args 3)

made_is : (f : Form) (args : List ℕ) (h : HostCall) → made f (take (arity f) args) ≡ Some h → h ≡ from_args f args
made_is (of_none g) args h e = sym (same_Some _ _ e)
made_is (of_one g) [] h e = absurd (cc)
made_is (of_one g) (x ∷ xs) h e = sym (same_Some _ _ e)
made_is (of_two g) [] h e = absurd (cc)
made_is (of_two g) (x ∷ []) h e = absurd (cc)
made_is (of_two g) (x ∷ y ∷ xs) h e = sym (same_Some _ _ e)
made_is (of_three g) [] h e = absurd (cc)
made_is (of_three g) (x ∷ []) h e = absurd (cc)
made_is (of_three g) (x ∷ y ∷ []) h e = absurd (cc)
made_is (of_three g) (x ∷ y ∷ z ∷ xs) h e = sym (same_Some _ _ e)
made_is (of_four g) [] h e = absurd (cc)
made_is (of_four g) (x ∷ []) h e = absurd (cc)
made_is (of_four g) (x ∷ y ∷ []) h e = absurd (cc)
made_is (of_four g) (x ∷ y ∷ z ∷ []) h e = absurd (cc)
made_is (of_four g) (x ∷ y ∷ z ∷ u ∷ xs) h e = sym (same_Some _ _ e)

-- the host call that is asked has the form of its row
pub asked_is : (ask : HostAsk) (h : HostCall) (n : ℕ) (row : HostRow) → AsksHost ask h → ask.call ≡ n → slice_get host_rows n ≡ Some row → h ≡ from_args row.form ask.args
asked_is ask h n row a e r =
    let same : a.row ≡ row = same_Some _ _ (sym a.row_is ∙ ap (slice_get host_rows) e ∙ r) in
    made_is row.form ask.args h (subst (λ (x : HostRow). made x.form (take (arity x.form) ask.args) ≡ Some h) same a.made_is)

-- ---- checks

noted_none : (cs : List (Option ℕ)) (c : ℕ) → length cs ≤ c → noted_at cs c ≡ None
noted_none [] c h = refl
noted_none (x ∷ xs) zero h = absurd (omega arith)
noted_none (x ∷ xs) (suc c) h = noted_none xs c (omega arith)

-- a child that was awaited is a child
awaited : (cs : List (Option ℕ)) (c : ℕ) (F : Option ℕ → Option Trap) → F None ≡ Some BadChild → (if nat_lt c (length cs) then F (noted_at cs c) else Some BadChild) ≡ F (noted_at cs c)
awaited cs c F none = by (nat_lt c (length cs)) refl
  where
    by : (b : Bool) → nat_lt c (length cs) ≡ b → (if b then F (noted_at cs c) else Some BadChild) ≡ F (noted_at cs c)
    by true t = refl
    by false t = let h = ltb-false c (length cs) t in sym (ap F (noted_none cs c h) ∙ none)

abbrev child_trap : ℕ → ℕ → Option ℕ → Option Trap
child_trap off len o = if is_some o then (if fits_in off len o then None else Some CallRange) else Some BadChild

child_trap_is : (off len : ℕ) (o : Option ℕ) → child_trap off len o ≡ (elim o as (λ _. Option Trap) [ None ↦ Some BadChild | Some n ↦ if nat_le (off + len) n then None else Some CallRange ])
child_trap_is off len None = refl
child_trap_is off len (Some n) = refl

pub refused : (j : Invocation) (s : State) (known : List (Option ℕ)) (l : CallLimits) (x : CallHost) → Knows j s known l → first_trap j s (limit_checks (host_of x)) ≡ refusal_of known l x
refused j s known l host.InputSize k = refl
refused j s known l (host.ReadInput off ptr len) k = ap (λ n. refusal_of known (record l { input = n }) (host.ReadInput off ptr len)) k.input
refused j s known l (host.WriteOutput ptr len) k =
    ap (λ n. refusal_of known (record l { output = n; room = j.room }) (host.WriteOutput ptr len)) k.output ∙ ap (λ n. refusal_of known (record l { room = n }) (host.WriteOutput ptr len)) k.room
refused j s known l (host.ChainCall f ptr len) k = ap (λ n. refusal_of known (record l { callees = n }) (host.ChainCall f ptr len)) k.callees
refused j s known l (host.AwaitCall c) k = ap (λ cs. refusal_of cs l (host.AwaitCall c)) k.children
refused j s known l (host.OutputSize c) k =
    awaited s.children c (λ o. if is_some o then None else Some BadChild) refl ∙ ap (λ cs. refusal_of cs l (host.OutputSize c)) k.children
refused j s known l (host.ReadOutput c off ptr len) k =
    awaited s.children c (child_trap off len) refl ∙ child_trap_is off len (noted_at s.children c) ∙ ap (λ cs. refusal_of cs l (host.ReadOutput c off ptr len)) k.children

pub trap_first : (j : Invocation) (s : State) (cs bs : List Check) (t : Trap) → first_trap j s cs ≡ Some t → first_trap j s (cs ++ bs) ≡ Some t
trap_first j s [] bs t e = absurd (cc)
trap_first j s (a ∷ cs) bs t e = by (passes j s a) (trap_first j s cs bs t) e
  where
    by : (b : Bool) → (first_trap j s cs ≡ Some t → first_trap j s (cs ++ bs) ≡ Some t) → (if b then first_trap j s cs else Some (trap_of a)) ≡ Some t → (if b then first_trap j s (cs ++ bs) else Some (trap_of a)) ≡ Some t
    by true ih e = ih e
    by false ih e = e

pub refuses : (j : Invocation) (s : State) (known : List (Option ℕ)) (l : CallLimits) (x : CallHost) (h : HostCall) (t : Trap) → Knows j s known l → h ≡ host_of x → refusal_of known l x ≡ Some t → first_trap j s (checks h) ≡ Some t
refuses j s known l x h t k e r =
    ap (λ y. first_trap j s (checks y)) e ∙ trap_first j s (limit_checks (host_of x)) (memory_checks (host_of x)) t (refused j s known l x k ∙ r)

none_true : (b : Bool) (t : Trap) → (if b then None else Some t) ≡ None → b ≡ true
none_true true t e = refl
none_true false t e = absurd (cc)

fits_child : (off len : ℕ) (o : Option ℕ) → (elim o as (λ _. Option Trap) [ None ↦ Some BadChild | Some n ↦ if nat_le (off + len) n then None else Some CallRange ]) ≡ None → fits_in off len o ≡ true
fits_child off len None e = absurd (cc)
fits_child off len (Some n) e = none_true (nat_le (off + len) n) CallRange e

allowed_is : (j : Invocation) (s : State) (known : List (Option ℕ)) (l : CallLimits) (x : CallHost) → Knows j s known l → refusal_of known l x ≡ None → IsAllowed j s.children (stage_of known l.input x)
allowed_is j s known l host.InputSize k e = tt
allowed_is j s known l (host.ReadInput off ptr len) k e = let h = leb-true _ _ (none_true (nat_le (off + len) l.input) CallRange e) in omega (arith, h, k.input)
allowed_is j s known l (host.WriteOutput ptr len) k e = tt
allowed_is j s known l (host.ChainCall f ptr len) k e = let h = ltb-true _ _ (none_true (nat_lt f l.callees) _ e) in omega (arith, h, k.callees)
allowed_is j s known l (host.AwaitCall c) k e = tt
allowed_is j s known l (host.OutputSize c) k e = tt
allowed_is j s known l (host.ReadOutput c off ptr len) k e = ap (λ cs. fits_in off len (noted_at cs c)) k.children ∙ fits_child off len (noted_at known c) e

acts_are : (j : Invocation) (s : State) (known : List (Option ℕ)) (l : CallLimits) (x : CallHost) → Knows j s known l → operations j s (host_of x) ≡ acts_at (stage_of known l.input x)
acts_are j s known l host.InputSize k = ap (λ n. acts_at (stage_of known n host.InputSize)) k.input
acts_are j s known l (host.ReadInput off ptr len) k = refl
acts_are j s known l (host.WriteOutput ptr len) k = refl
acts_are j s known l (host.ChainCall f ptr len) k = refl
acts_are j s known l (host.AwaitCall c) k = refl
acts_are j s known l (host.OutputSize c) k = ap (λ cs. acts_at (stage_of cs l.input (host.OutputSize c))) k.children
acts_are j s known l (host.ReadOutput c off ptr len) k = refl

traps_are : (j : Invocation) (s : State) (known : List (Option ℕ)) (input : ℕ) (x : CallHost) → first_trap j s (memory_checks (host_of x)) ≡ trap_at (stage_of known input x) j.program.grants s.config.memory
traps_are j s known input host.InputSize = refl
traps_are j s known input (host.ReadInput off ptr len) = refl
traps_are j s known input (host.WriteOutput ptr len) = refl
traps_are j s known input (host.ChainCall f ptr len) = refl
traps_are j s known input (host.AwaitCall c) = refl
traps_are j s known input (host.OutputSize c) = refl
traps_are j s known input (host.ReadOutput c off ptr len) = refl

pub begins : (j : Invocation) (s : State) (known : List (Option ℕ)) (l : CallLimits) (x : CallHost) (h : HostCall) → Knows j s known l → h ≡ host_of x → refusal_of known l x ≡ None → IsBegun (stage_of known l.input x) j s h
begins j s known l x h k e r = subst (IsBegun (stage_of known l.input x) j s) (sym e) (record {
  acts = acts_are j s known l x k;
  passed = refused j s known l x k ∙ r;
  memory = traps_are j s known l.input x;
  allowed = allowed_is j s known l x k r;
})

pub is_fresh : (known : List (Option ℕ)) (input : ℕ) (x : CallHost) → HasShort (host_of x) → IsFresh (stage_of known input x)
is_fresh known input host.InputSize h = tt
is_fresh known input (host.ReadInput off ptr len) h = record { none = refl; short = h }
is_fresh known input (host.WriteOutput ptr len) h = record { none = refl; short = h }
is_fresh known input (host.ChainCall f ptr len) h = record { none = refl; short = h }
is_fresh known input (host.AwaitCall c) h = tt
is_fresh known input (host.OutputSize c) h = tt
is_fresh known input (host.ReadOutput c off ptr len) h = record { none = refl; short = h }

pub has_input : (known : List (Option ℕ)) (l : CallLimits) (x : CallHost) (input : List ℕ) → refusal_of known l x ≡ None → length input ≡ l.input → HasInput (stage_of known l.input x) input
has_input known l host.InputSize input e n = tt
has_input known l (host.ReadInput off ptr len) input e n = let h = leb-true _ _ (none_true (nat_le (off + len) l.input) CallRange e) in omega (arith, h, n)
has_input known l (host.WriteOutput ptr len) input e n = tt
has_input known l (host.ChainCall f ptr len) input e n = tt
has_input known l (host.AwaitCall c) input e n = tt
has_input known l (host.OutputSize c) input e n = tt
has_input known l (host.ReadOutput c off ptr len) input e n = tt

pub gives_is : (known : List (Option ℕ)) (input : ℕ) (x : CallHost) → gives_result (stage_of known input x) ≡ has_result (host_of x)
gives_is known input host.InputSize = refl
gives_is known input (host.ReadInput off ptr len) = refl
gives_is known input (host.WriteOutput ptr len) = refl
gives_is known input (host.ChainCall f ptr len) = refl
gives_is known input (host.AwaitCall c) = refl
gives_is known input (host.OutputSize c) = refl
gives_is known input (host.ReadOutput c off ptr len) = refl
