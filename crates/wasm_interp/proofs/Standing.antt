-- What a machine that stands for something has.
use Rattle.std.proofs.Common.{◌≡◌, ℕ, ◌≤◌, List, subst, Some}
use Rattle.std.proofs.lemmas.Option.{same_Some}
use Rattle.faaslet_meaning.specs.declared.grant.Grant.{Grant}
use Rattle.faaslet_meaning.specs.declared.module.Module.{Module}
use Rattle.faaslet_meaning.specs.Memory.{Memory}
use Rattle.faaslet_meaning.specs.HostCalls.{HostCall}
use Rattle.faaslet_meaning.specs.Configuration.{Configuration, Next, goes, ends, touches, calls, stuck}
use Rattle.wasm_interp.specs.declared.machine.Machine.{Machine}
use Rattle.wasm_interp.specs.declared.machine.Stage.{Stage}
use Rattle.wasm_interp.specs.declared.machine.Stage.TheVariants as stage
use Rattle.wasm_interp.specs.declared.thread.Thread.{Thread}
use Rattle.wasm_interp.specs.Stands.{Stands, KeptFor}
use Rattle.wasm_interp.specs.StandsFor.{StageStands, OfRun, StandsFor, config_of}

-- at a host call
pub at_host : (memory : Memory) (t : Thread) (s : Stage) (c : Configuration) (h : HostCall) → StageStands memory t s (calls c h) → Stands memory t c
at_host memory t stage.Runs c h x = absurd x
at_host memory t (stage.Piece q) c h x = absurd x
at_host memory t (stage.Host a) c h x = x.0
at_host memory t (stage.Over o) c h x = absurd x

-- globals, table, memory and fuel, wherever it is
pub kept_at : (memory : Memory) (t : Thread) (s : Stage) (n : Next) (c : Configuration) → StageStands memory t s n → config_of n ≡ Some c → KeptFor memory t c
kept_at memory t s (goes d) c x e = subst (λ y. KeptFor memory t y) (let f : d ≡ c = cc in f) (in_run s x)
  where
    in_run : (s : Stage) → StageStands memory t s (goes d) → KeptFor memory t d
    in_run stage.Runs x = x.kept
    in_run (stage.Piece q) x = absurd x
    in_run (stage.Host a) x = absurd x
    in_run (stage.Over o) x = absurd x
kept_at memory t s (ends d p) c x e = subst (λ y. KeptFor memory t y) (let f : d ≡ c = cc in f) (at_end s x)
  where
    at_end : (s : Stage) → StageStands memory t s (ends d p) → KeptFor memory t d
    at_end stage.Runs x = absurd x
    at_end (stage.Piece q) x = absurd x
    at_end (stage.Host a) x = absurd x
    at_end (stage.Over o) x = x.1
kept_at memory t s (touches d b) c x e = subst (λ y. KeptFor memory t y) (let f : d ≡ c = cc in f) (at_piece s x)
  where
    at_piece : (s : Stage) → StageStands memory t s (touches d b) → KeptFor memory t d
    at_piece stage.Runs x = absurd x
    at_piece (stage.Piece q) x = x.0.kept
    at_piece (stage.Host a) x = absurd x
    at_piece (stage.Over o) x = absurd x
kept_at memory t s (calls d h) c x e = subst (λ y. KeptFor memory t y) (let f : d ≡ c = cc in f) (at_host memory t s d h x).kept
kept_at memory t s stuck c x e = absurd (cc)

pub memory_stands : {M : Type 0} (shape : M → Memory) (m : Machine M) (code : Module) (grants : List Grant) (given : ℕ) (n : Next) (c : Configuration) → StandsFor shape m code grants given n → config_of n ≡ Some c → shape m.memory ≡ c.memory
memory_stands shape m code grants given n c s e = (kept_at (shape m.memory) m.thread m.stage n c s.stage e).memory_is

pub fuel_left : (given : ℕ) (n : Next) (c : Configuration) → OfRun given n → config_of n ≡ Some c → c.fuel ≤ given
fuel_left given (goes d) c h e = subst (λ (x : Configuration). x.fuel ≤ given) (same_Some _ _ e) h
fuel_left given (ends d o) c h e = subst (λ (x : Configuration). x.fuel ≤ given) (same_Some _ _ e) h.0
fuel_left given (touches d b) c h e = subst (λ (x : Configuration). x.fuel ≤ given) (same_Some _ _ e) h
fuel_left given (calls d k) c h e = subst (λ (x : Configuration). x.fuel ≤ given) (same_Some _ _ e) h
fuel_left given stuck c h e = absurd (cc)
