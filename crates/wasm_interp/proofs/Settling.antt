-- What the rules of the thread leave of the machine.
use Rattle.std.proofs.Common.{◌≡◌, ℕ, ◌<◌, List, length, refl, sym, ap, ◌∙◌, subst, None, Some, Option, arith}
use Rattle.std.specs.Prelude.{slice_index_or, option_map}
use Rattle.std.proofs.lemmas.Option.{slice_get-get_or}
use Rattle.faaslet_meaning.specs.declared.instr.Instr.{Instr}
use Rattle.faaslet_meaning.specs.declared.instr.Instr.TheVariants as instr
use Rattle.faaslet_meaning.specs.declared.outcome.Outcome.{Outcome}
use Rattle.faaslet_meaning.specs.declared.grant.Grant.{Grant}
use Rattle.faaslet_meaning.specs.declared.module.Module.{Module}
use Rattle.faaslet_meaning.specs.Memory.{Memory, Backing}
use Rattle.faaslet_meaning.specs.Configuration.{Program, Configuration, Next, goes, ends, touches, calls, stuck}
use Rattle.faaslet_meaning.specs.Tree.{IsPlain}
use Rattle.wasm_validate.specs.declared.jumps.Jump.{Jump}
use Rattle.wasm_interp.specs.declared.thread.Thread.{Thread}
use Rattle.wasm_interp.specs.declared.machine.Stage.{Stage}
use Rattle.wasm_interp.specs.declared.machine.Stage.TheVariants as stage
use Rattle.wasm_interp.specs.declared.machine.Machine.{Machine}
use Rattle.wasm_interp.specs.Rooms.{SameRooms}
use Rattle.wasm_interp.specs.Places.{InstrAt, JumpAt, IsOwn}
use Rattle.wasm_interp.specs.Stands.{Stands, Follows, Does}
use Rattle.wasm_interp.specs.StandsFor.{StageStands, Agrees, bit}
use Rattle.wasm_interp.specs.Goes.{Loaded, SameRun, settled}
use Rattle.wasm_interp.proofs.Opening.{place_there}

-- an instruction named by another word
pub does_as : (t new : Thread) (i j : Instr) (left : Option Outcome) → i ≡ j → Does t j new left → Does t i new left
does_as t new i j left e h = subst (λ k. Does t k new left) (sym e) h

follows_stage : (memory : Memory) (t : Thread) (n : Next) (left : Option Outcome) → Follows memory t n left → StageStands memory t (settled left stage.Runs) n
follows_stage memory t (goes c) None h = h
follows_stage memory t (goes c) (Some p) h = absurd h
follows_stage memory t (ends c o) None h = absurd h
follows_stage memory t (ends c o) (Some p) h = h
follows_stage memory t (touches c b) None h = absurd h
follows_stage memory t (touches c b) (Some p) h = absurd h
follows_stage memory t (calls c b) None h = absurd h
follows_stage memory t (calls c b) (Some p) h = absurd h
follows_stage memory t stuck None h = absurd h
follows_stage memory t stuck (Some p) h = absurd h

-- after a rule of the thread the machine stands for what comes next
pub settled_stands : {M : Type 0} (shape : M → Memory) (m new : Machine M) (t : Thread) (n : Next) (left : Option Outcome) → new ≡ record m { thread = t; stage = settled left m.stage } → m.stage ≡ stage.Runs → Follows (shape m.memory) t n left → StageStands (shape new.memory) new.thread new.stage n
settled_stands {M = M} shape m new t n left e r h =
    subst (λ (k : Machine M). StageStands (shape k.memory) k.thread k.stage n) (sym e)
    (subst (λ s. StageStands (shape m.memory) t (settled left s) n) (sym r) (follows_stage (shape m.memory) t n left h))

pub settled_same : {M : Type 0} (behind : M → Backing) (m new : Machine M) (t : Thread) (s : Stage) → new ≡ record m { thread = t; stage = s } → SameRooms m.thread t → SameRun behind m new
settled_same {M = M} behind m new t s e r = subst (λ (k : Machine M). SameRun behind m k) (sym e) (record { code = refl; given = refl; writable = refl; rooms = r; backing = refl; aside = refl })

pub scratch_same : {M : Type 0} (behind : M → Backing) (m new : Machine M) → new ≡ record m { scratch = new.scratch } → SameRun behind m new
scratch_same {M = M} behind m new e = subst (λ (k : Machine M). SameRun behind m k) (sym e) (record { code = refl; given = refl; writable = refl; rooms = record { globals = refl; table = refl }; backing = refl; aside = refl })

pub still_code : {M : Type 0} {behind : M → Backing} (m new : Machine M) (code : Module) → SameRun behind m new → option_map (λ r. r.now) m.code ≡ Some code → option_map (λ r. r.now) new.code ≡ Some code
still_code m new code s e = ap (λ q. option_map (λ r. r.now) q) s.code ∙ e

pub still_agrees : {M : Type 0} {behind : M → Backing} (m new : Machine M) (grants : List Grant) → SameRun behind m new → Agrees m.writable grants → Agrees new.writable grants
still_agrees m new grants s a k lt = a k lt ∙ ap (λ w. bit w k) (sym s.writable)

-- the module stays
pub still_loaded : {M : Type 0} (behind : M → Backing) (m new : Machine M) (p : Program) → SameRun behind m new → Loaded m p → Loaded new p
still_loaded behind m new p s l =
    record {
      code = l.code;
      grants = l.grants;
      is_loaded = still_code m new l.code s l.is_loaded;
      valid = l.valid;
      imports = l.imports;
      agrees = still_agrees m new l.grants s l.agrees;
      program_is = l.program_is;
    }

pub same_then : {M : Type 0} {behind : M → Backing} (a b c : Machine M) → SameRun behind a b → SameRun behind b c → SameRun behind a c
same_then a b c s t = record { code = t.code ∙ s.code; given = t.given ∙ s.given; writable = t.writable ∙ s.writable; rooms = record { globals = t.rooms.globals ∙ s.rooms.globals; table = t.rooms.table ∙ s.rooms.table }; backing = t.backing ∙ s.backing; aside = t.aside ∙ s.aside }

pub instr_is : (memory : Memory) (t : Thread) (c : Configuration) (i x : Instr) → Stands memory t c → i ≡ slice_index_or t.here.code.now t.here.pc x → InstrAt t.here i
instr_is memory t c i x s e =
    let lt = place_there t.here.code.now t.here.pc _ _ s.frames.next in
    slice_get-get_or t.here.code.now t.here.pc x lt ∙ ap Some (sym e)

pub jump_is : (memory : Memory) (t : Thread) (c : Configuration) (x : Jump) → Stands memory t c → JumpAt t.here (slice_index_or t.here.jumps.now t.here.pc x)
jump_is memory t c x s =
    let f = s.frames in
    let lt : t.here.pc < length t.here.jumps.now = omega (arith, place_there t.here.code.now t.here.pc _ _ f.next, f.jumps.long) in
    f.jumps.each t.here.pc _ (slice_get-get_or t.here.jumps.now t.here.pc x lt)

-- an instruction without blocks that no other arm has taken
pub own_is : (i : Instr) → IsPlain i → ((f : ℕ) → i ≡ instr.Call f → ⊥) → ((t : ℕ) → i ≡ instr.CallIndirect t → ⊥) → ((a b c : ℕ) → i ≡ instr.Load a b c → ⊥) → ((a b c : ℕ) → i ≡ instr.Store a b c → ⊥) → (i ≡ instr.MemorySize → ⊥) → (i ≡ instr.MemoryGrow → ⊥) → IsOwn i
own_is (instr.Block t) h a b c d e f = h
own_is (instr.Loop t) h a b c d e f = h
own_is (instr.If t) h a b c d e f = h
own_is instr.Else h a b c d e f = h
own_is instr.End h a b c d e f = h
own_is (instr.Call n) h a b c d e f = a n refl
own_is (instr.CallIndirect n) h a b c d e f = b n refl
own_is (instr.Load x y z) h a b c d e f = c x y z refl
own_is (instr.Store x y z) h a b c d e f = d x y z refl
own_is instr.MemorySize h a b c d e f = e refl
own_is instr.MemoryGrow h a b c d e f = f refl
own_is _ h a b c d e f = tt
