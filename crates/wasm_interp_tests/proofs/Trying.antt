-- The module of the tests may begin.
use Rattle.std.proofs.Common.{◌≡◌, ℕ, zero, suc, List, [], ◌∷◌, Some, None, refl, sym, ap, ◌∙◌, ◌/◌, ◌%◌, ◌^◌, nat_eq, subst, arith}
use Rattle.std.specs.Prelude.{slice_get}
use Rattle.std.proofs.Math.Nat.{zero-div}
use Rattle.faaslet_meaning.specs.declared.instr.Instr.{Instr}
use Rattle.faaslet_meaning.specs.declared.instr.ValType.TheVariants.{I32}
use Rattle.faaslet_meaning.specs.declared.module.FuncType.{FuncType}
use Rattle.faaslet_meaning.specs.declared.module.Module.{Module}
use Rattle.faaslet_meaning.specs.Fine.{ground_of, TableOk}
use Rattle.faaslet_meaning.specs.IndexSpaces.{function_types}
use Rattle.faaslet_meaning.specs.Parse.{tree_of}
use Rattle.wasm_interp.specs.StandsFor.{Agrees, IsEntry, StandsFor, Ran, EventIs}
use Rattle.wasm_interp.specs.declared.machine.Machine.{Machine}
use Rattle.wasm_interp.specs.declared.machine.PieceAsk.{PieceAsk}
use Rattle.wasm_interp.specs.declared.machine.Event.{Event}
use Rattle.wasm_interp.specs.declared.machine.Event.TheVariants as event
use Rattle.faaslet_meaning.specs.declared.grant.Grant.{Grant}
use Rattle.faaslet_meaning.specs.Configuration.{Configuration, Begun, Next, goes, ends, touches, calls, stuck}
use Rattle.faaslet_meaning.specs.Memory.{Memory}
use Rattle.wasm_interp_tests.specs.Trials.{trial}

abbrev pub first_type : FuncType
first_type = record { params = []; results = I32 ∷ [] }

trial_indices : (code : List Instr) → TableOk (ground_of (trial code)) (None ∷ (Some 0 ∷ []))
trial_indices code zero f e = cc
trial_indices code (suc zero) f e = let same : 0 ≡ f = cc in subst (λ n. (t : FuncType) × (slice_get (function_types (trial code)) n ≡ Some t)) same (first_type, refl)
trial_indices code (suc (suc k)) f e = cc

pub indices : (v : Module) (code : List Instr) → v ≡ trial code → TableOk (ground_of v) (None ∷ (Some 0 ∷ []))
indices v code e = subst (λ m. TableOk (ground_of m) (None ∷ (Some 0 ∷ []))) (sym e) (trial_indices code)

trial_entry : (code : List Instr) → IsEntry (trial code) 0 first_type 2 (tree_of code)
trial_entry code = record { found = refl; params = refl; results = omega arith; few = omega arith }

pub entry_is : (v : Module) (code : List Instr) → v ≡ trial code → IsEntry v 0 first_type 2 (tree_of code)
entry_is v code e = subst (λ m. IsEntry m 0 first_type 2 (tree_of code)) (sym e) (trial_entry code)

-- where a piece is told the machine stands at it
pub piece_stands : {M : Type 0} (shape : M → Memory) (m : Machine M) (code : Module) (grants : List Grant) (given : ℕ) (n : Next) (told : Event) (ask : PieceAsk) → told ≡ event.Piece ask → Ran shape m code grants given n told → (c : Configuration) × (b : Begun) × StandsFor shape m code grants given (touches c b)
piece_stands shape m code grants given n told ask e r = at r.next (subst (λ k. EventIs k m.scratch r.next) e r.event) r.stands
  where
    at : (x : Next) → EventIs (event.Piece ask) m.scratch x → StandsFor shape m code grants given x → (c : Configuration) × (b : Begun) × StandsFor shape m code grants given (touches c b)
    at (touches c b) h s = (c, b, s)
    at (goes c) h s = absurd h
    at (ends c o) h s = absurd h
    at (calls c k) h s = absurd h
    at stuck h s = absurd h
