-- Where the length of the input is asked for, the machine stands at that call, and a length is its result.
use Rattle.std.proofs.Common.{◌≡◌, ℕ, List, Option, Some, Result, Ok, Err, true, refl, sym, subst}
use Rattle.std.specs.Prelude.{slice_get, take, is_some, codes, MatchResult, IsOkAnd}
use Rattle.std.proofs.lemmas.Option.{same_Some}
use Rattle.faaslet_meaning.specs.declared.grant.Grant.{Grant}
use Rattle.faaslet_meaning.specs.declared.instr.ValType.TheVariants.{I32}
use Rattle.faaslet_meaning.specs.declared.module.Module.{Module}
use Rattle.faaslet_meaning.specs.declared.outcome.Trap.{Trap}
use Rattle.faaslet_meaning.specs.Configuration.{Configuration, Next, goes, ends, touches, calls, stuck}
use Rattle.faaslet_meaning.specs.HostCalls.{HostCall, HostRow, input_size, of_none, row, host_rows, made, arity}
use Rattle.faaslet_meaning.specs.Memory.{Memory}
use Rattle.wasm_interp.specs.StandsFor.{StandsFor, Ran, EventIs, AsksHost}
use Rattle.wasm_interp.specs.declared.machine.Event.{Event}
use Rattle.wasm_interp.specs.declared.machine.Event.TheVariants as event
use Rattle.wasm_interp.specs.declared.machine.HostAsk.{HostAsk}
use Rattle.wasm_interp.specs.declared.machine.Machine.{Machine}

abbrev length_row : HostRow
length_row = row (codes "input_size") (of_none input_size) (Some I32)

is_length : (ask : HostAsk) (h : HostCall) → ask.call ≡ 16 → AsksHost ask h → h ≡ input_size
is_length ask h e asks =
    let at_row : Some length_row ≡ Some asks.row = subst (λ k. slice_get host_rows k ≡ Some asks.row) e asks.row_is in
    let made_so : made length_row.form (take (arity length_row.form) ask.args) ≡ Some h = subst (λ (r : HostRow). made r.form (take (arity r.form) ask.args) ≡ Some h) (sym (same_Some _ _ at_row)) asks.made_is in
    sym (same_Some _ _ made_so)

pub length_stands : {M : Type 0} (shape : M → Memory) (m : Machine M) (code : Module) (grants : List Grant) (given : ℕ) (n : Next) (told : Event) (ask : HostAsk) → told ≡ event.Host ask → ask.call ≡ 16 → Ran shape m code grants given n told → (c : Configuration) × StandsFor shape m code grants given (calls c input_size)
length_stands shape m code grants given n told ask e number r = at r.next (subst (λ k. EventIs k m.scratch r.next) e r.event) r.stands
  where
    at : (x : Next) → EventIs (event.Host ask) m.scratch x → StandsFor shape m code grants given x → (c : Configuration) × StandsFor shape m code grants given (calls c input_size)
    at (calls c h) asks s = (c, subst (λ k. StandsFor shape m code grants given (calls c k)) (is_length ask h number asks) s)
    at (goes c) h s = absurd h
    at (ends c o) h s = absurd h
    at (touches c b) h s = absurd h
    at stuck h s = absurd h

pub has_length : (length : Result ℕ Trap) (answer : Result (Option ℕ) Trap) → MatchResult length (λ n. IsOkAnd answer (λ o. o ≡ Some n)) (λ t. answer ≡ Err t) → (o : Option ℕ) → answer ≡ Ok o → is_some o ≡ true
has_length (Ok n) (Ok p) is o e = let f : o ≡ Some n = cc in rw f refl
has_length (Ok n) (Err t) is o e = cc
has_length (Err t) answer is o e = cc
