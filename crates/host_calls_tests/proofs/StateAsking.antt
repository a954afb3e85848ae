-- The host calls on state that the tests make, with their arguments.
use Rattle.std.proofs.Common.{◌≡◌, ℕ, zero, suc, ◌<◌, ◌≤◌, ◌^◌, Bool, true, false, List, [], ◌∷◌, Option, Some, None, refl, arith, sym, ◌∙◌, length}
use Rattle.std.specs.Prelude.{All, Result, Ok, Err, IfOk, codes}
use Rattle.std.proofs.lemmas.Option.{same_Some}
use Rattle.faaslet_meaning.specs.declared.instr.ValType.TheVariants.{I32}
use Rattle.faaslet_meaning.specs.declared.grant.Grant.{Grant}
use Rattle.faaslet_meaning.specs.HostCalls.{HostCall, row as host_row, of_one, of_four, get_state, set_state}
use Rattle.faaslet_meaning.specs.Memory.{Memory}
use Rattle.faaslet_meaning.specs.Operations.{operations}
use Rattle.faaslet_meaning.specs.Tree as Tree
use Rattle.faaslet_meaning.specs.CallState as Stage
use Rattle.faaslet_meaning.specs.CallState.{Invocation, State, fresh_state}
use Rattle.wasm_interp.specs.StandsFor.{AsksHost}
use Rattle.host_calls.specs.declared.state_act.StateAct.{StateAct}
use Rattle.host_calls.specs.declared.state_act.StateAct.TheVariants as act
use Rattle.host_calls.specs.declared.state_call.StateStage.{StateStage}
use Rattle.host_calls.specs.declared.state_call.StateStage.TheVariants as stage
use Rattle.host_calls.specs.States.{IsBegun, maps, acts_at}

pub map_asked : AsksHost (record { call = 2; args = 1 ∷ 0 ∷ 0 ∷ 0 ∷ [] }) (get_state 1)
map_asked = record { row = host_row (codes "get_state") (of_one get_state) (Some I32); row_is = refl; made_is = refl }

pub set_asked : AsksHost (record { call = 4; args = 0 ∷ 4 ∷ 65535 ∷ 2 ∷ [] }) (set_state 0 4 65535 2)
set_asked = record { row = host_row (codes "set_state") (of_four set_state) None; row_is = refl; made_is = refl }

-- a call that sets bytes maps nothing
pub set_maps_not : (t : StateStage) (j : Invocation) (s : State) → IsBegun t j s (set_state 0 4 65535 2) → maps t ≡ true → ⊥
set_maps_not (stage.Gives n) j s b e = cc
set_maps_not (stage.Collects k p a) j s b e = cc
set_maps_not (stage.Probes k a) j s b e = cc
set_maps_not (stage.Fills k a) j s b e = cc
set_maps_not (stage.Sends a) j s b e = cc
set_maps_not (stage.Acts k act.Map) j s b e = let acts = b.acts in cc
set_maps_not (stage.Acts k (act.Read off a)) j s b e = cc
set_maps_not (stage.Acts k (act.Write off len)) j s b e = cc
set_maps_not (stage.Acts k (act.Push off len)) j s b e = cc
set_maps_not (stage.Acts k (act.Pull off len)) j s b e = cc
set_maps_not (stage.Acts k act.Used) j s b e = cc
set_maps_not (stage.Acts k (act.Append len)) j s b e = cc
set_maps_not (stage.Acts k (act.Lock t m)) j s b e = cc
set_maps_not (stage.Acts k (act.Unlock t)) j s b e = cc

pub sizes_of_two : (g h : Grant) → 1 ≤ g.size → 1 ≤ h.size → All (λ (x : Grant). 1 ≤ x.size) (g ∷ h ∷ [])
sizes_of_two g h a b zero d l = a
sizes_of_two g h a b (suc zero) d l = b
sizes_of_two g h a b (suc (suc k)) d l = absurd (omega (arith, l))

-- a call with these grants, and a state that has seen these keys present and knows nothing else
abbrev pub some_call : List Grant → Invocation
some_call grants = record { program = record { functions = []; types = []; most_pages = 0; grants = grants }; callees = []; input = []; room = 0 }

abbrev pub some_state : List ℕ → State
some_state seen = record {
  config = record { frame = record { arity = 0; locals = []; labels = []; values = []; rest = Tree.stop }; callers = []; globals = []; table = []; memory = record { segments = []; bytes = []; quota = 0 }; fuel = 0 };
  present = seen;
  mapped = [];
  locks = [];
  children = [];
  output = [];
  stage = Stage.running;
}

pub ok_map : {A E : Type 0} (r : Result A E) (P Q : A → Type 0) → IfOk r P → ((x : A) → P x → Q x) → IfOk r Q
ok_map (Ok x) P Q h f = f x h
ok_map (Err e) P Q h f = tt
