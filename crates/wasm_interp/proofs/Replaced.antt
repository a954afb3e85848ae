-- What a machine stands for where a part of it was replaced, as the layers above do between two runs.
use Rattle.std.proofs.Common.{ℕ, List, refl}
use Rattle.std.specs.Prelude.{◌≢◌}
use Rattle.faaslet_meaning.specs.declared.grant.Grant.{Grant}
use Rattle.faaslet_meaning.specs.declared.module.Module.{Module}
use Rattle.faaslet_meaning.specs.Fine.{Ground, ground_of, NextOk}
use Rattle.faaslet_meaning.specs.Memory.{Memory}
use Rattle.faaslet_meaning.specs.Configuration.{Configuration, Begun, Next, goes, ends, touches, calls, stuck}
use Rattle.wasm_interp.specs.declared.machine.Machine.{Machine}
use Rattle.wasm_interp.specs.declared.machine.Stage.{Stage}
use Rattle.wasm_interp.specs.declared.machine.Stage.TheVariants as stage
use Rattle.wasm_interp.specs.declared.thread.Thread.{Thread}
use Rattle.wasm_interp.specs.Stands.{Stands, KeptFor}
use Rattle.wasm_interp.specs.StandsFor.{StageStands, OfRun, StandsFor, with_memory}

-- the buffers count for nothing
pub scratch_replaced : {M : Type 0} (shape : M → Memory) (m : Machine M) (code : Module) (grants : List Grant) (given : ℕ) (n : Next) (bytes : List ℕ) → StandsFor shape m code grants given n → StandsFor shape (record m { scratch = bytes }) code grants given n
scratch_replaced shape m code grants given n bytes s = record { loaded = s.loaded; valid = s.valid; imports = s.imports; agrees = s.agrees; given_is = s.given_is; typed = s.typed; within = s.within; stage = s.stage }

pub aside_replaced : {M : Type 0} (shape : M → Memory) (m : Machine M) (code : Module) (grants : List Grant) (given : ℕ) (n : Next) (bytes : List ℕ) → StandsFor shape m code grants given n → StandsFor shape (record m { aside = bytes }) code grants given n
aside_replaced shape m code grants given n bytes s = record { loaded = s.loaded; valid = s.valid; imports = s.imports; agrees = s.agrees; given_is = s.given_is; typed = s.typed; within = s.within; stage = s.stage }

kept_with : (old new : Memory) (t : Thread) (c : Configuration) → KeptFor old t c → KeptFor new t (record c { memory = new })
kept_with old new t c k = record { globals_are = k.globals_are; table_is = k.table_is; memory_is = refl; fuel_is = k.fuel_is }

stands_with : (old new : Memory) (t : Thread) (c : Configuration) → Stands old t c → Stands new t (record c { memory = new })
stands_with old new t c s = record { values = s.values; frames = s.frames; kept = kept_with old new t c s.kept }

stage_with : (old new : Memory) (t : Thread) (k : Stage) (n : Next) → ((c : Configuration) (b : Begun) → n ≢ touches c b) → StageStands old t k n → StageStands new t k (with_memory new n)
stage_with old new t stage.Runs (goes c) h s = stands_with old new t c s
stage_with old new t (stage.Piece q) (touches c b) h s = absurd (h c b refl)
stage_with old new t (stage.Host a) (calls c g) h s = (stands_with old new t c s.0, s.1)
stage_with old new t (stage.Over o) (ends c p) h s = (s.0, kept_with old new t c s.1)
stage_with old new t _ _ h s = absurd s

typed_with : (g : Ground) (memory : Memory) (n : Next) → ((c : Configuration) (b : Begun) → n ≢ touches c b) → NextOk g n → NextOk g (with_memory memory n)
typed_with g memory (goes c) h t = t
typed_with g memory (ends c o) h t = t
typed_with g memory (touches c b) h t = absurd (h c b refl)
typed_with g memory (calls c k) h t = t
typed_with g memory stuck h t = t

within_with : (given : ℕ) (memory : Memory) (n : Next) → OfRun given n → OfRun given (with_memory memory n)
within_with given memory (goes c) w = w
within_with given memory (ends c o) w = w
within_with given memory (touches c b) w = w
within_with given memory (calls c k) w = w
within_with given memory stuck w = w

-- but at a shared piece the memory is replaced in the machine and in the configuration
pub memory_replaced : {M : Type 0} (shape : M → Memory) (m : Machine M) (code : Module) (grants : List Grant) (given : ℕ) (n : Next) (w : M) → ((c : Configuration) (b : Begun) → n ≢ touches c b) → StandsFor shape m code grants given n → StandsFor shape (record m { memory = w }) code grants given (with_memory (shape w) n)
memory_replaced shape m code grants given n w h s =
    record {
      loaded = s.loaded;
      valid = s.valid;
      imports = s.imports;
      agrees = s.agrees;
      given_is = s.given_is;
      typed = typed_with (ground_of code) (shape w) n h s.typed;
      within = within_with given (shape w) n s.within;
      stage = stage_with (shape m.memory) (shape w) m.thread m.stage n h s.stage;
    }
