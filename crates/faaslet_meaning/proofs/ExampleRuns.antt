-- What the worked examples of runs are made of, and that what is computed in them is a run.
use Rattle.std.proofs.Common.{◌≡◌, refl, ap, sym, subst, Bool, true, false, cond, arith}
use Rattle.std.proofs.lemmas.Bool.{leb-true}
use Rattle.std.specs.Prelude.{ℕ, ◌-◌, nat_le, if◌then◌else◌, List, [], ◌∷◌, ◌++◌, None, length, codes}
use Rattle.faaslet_meaning.specs.declared.instr.ValType.{ValType}
use Rattle.faaslet_meaning.specs.declared.instr.ValType.TheVariants.{I32}
use Rattle.faaslet_meaning.specs.declared.instr.Instr.{Instr}
use Rattle.faaslet_meaning.specs.declared.instr.Instr.TheVariants.{End}
use Rattle.faaslet_meaning.specs.declared.module.Module.{Module}
use Rattle.faaslet_meaning.specs.declared.module.FuncType.{FuncType}
use Rattle.faaslet_meaning.specs.declared.module.Limits.{Limits}
use Rattle.faaslet_meaning.specs.declared.module.Import.{Import}
use Rattle.faaslet_meaning.specs.declared.module.ImportKind.TheVariants as import
use Rattle.faaslet_meaning.specs.declared.module.ExportKind.TheVariants as export
use Rattle.faaslet_meaning.specs.declared.module.Body.{Body}
use Rattle.faaslet_meaning.specs.declared.grant.Grant.{Grant}
use Rattle.faaslet_meaning.specs.declared.outcome.Outcome.{Outcome}
use Rattle.faaslet_meaning.specs.Channels.{Reply, Question, Transcript, told_by}
use Rattle.faaslet_meaning.specs.Configuration.{Configuration}
use Rattle.faaslet_meaning.specs.CallState.{runs, fresh_state}
use Rattle.faaslet_meaning.specs.Fresh.{Function, Made, makes, breaks, nothing, fresh}
use Rattle.faaslet_meaning.specs.Runs.{Run, Runs, runs_by, invocation}
use Rattle.faaslet_meaning.proofs.Came.{Come, came, stands_at, unfinished, wrong, run_told, come_runs}
use Rattle.faaslet_meaning.specs.declared.outcome.Broken.{Broken}

abbrev pub func_type : List ValType → List ValType → FuncType
func_type params results = record { params = params; results = results }

abbrev pub host : List ℕ → ℕ → Import
host name t = record { «module» = codes "faasm"; name = name; kind = import.Function t }

abbrev pub body : List Instr → Body
body code = record { locals = []; code = code ++ End ∷ [] }

-- A module with these types, host calls, pages and body of `main`. The type of `main` is the first one.
abbrev pub module_of : List FuncType → List Import → List Limits → Body → Module
module_of types imports memories main =
    record {
      types = func_type [] (I32 ∷ []) ∷ types;
      imports = imports;
      functions = 0 ∷ [];
      tables = [];
      memories = memories;
      globals = [];
      exports = record { name = codes "main"; kind = export.Function; index = length imports } ∷ [];
      start = None;
      elements = [];
      bodies = main ∷ [];
      segments = [];
    }

abbrev pub one_page : List Limits
one_page = record { min = 1; max = None } ∷ []

-- a function with the defaults
abbrev pub function : Module → ℕ → List Grant → List ℕ → Function
function m fuel grants callees = record { code = m; quota = 64; fuel = fuel; room = 1024; grants = grants; callees = callees }

-- what is seen of a run: its questions with their replies, and how it ends
pub data Seen : Type 0 where
  seen : (transcript : Transcript) (outcome : Outcome) (used : ℕ) (output : List ℕ) → Seen
  stands : (question : Question) → Seen
  breaks_so : (kind : Broken) → Seen
  more : Seen
  bad : Seen

abbrev pub seen_of : ℕ → Come → Seen
seen_of fuel (came transcript s o) = if nat_le s.config.fuel fuel then seen transcript o (fuel - s.config.fuel) s.output else bad
seen_of fuel (stands_at q) = stands q
seen_of fuel unfinished = more
seen_of fuel wrong = bad

abbrev pub run_by : Function → Made Configuration → List ℕ → ℕ → List Reply → Seen
run_by f (makes c) input n replies = seen_of f.fuel (run_told (invocation f input) n (runs (fresh_state c)) replies)
run_by f (breaks k) input n replies = breaks_so k
run_by f nothing input n replies = bad

-- a run of at most n steps and replies
abbrev pub run : Function → List ℕ → ℕ → List Reply → Seen
run f input n replies = run_by f (fresh f) input n replies

-- ---- What is seen of a computed run is so of a run.

seen_same : {a b : Transcript} {o p : Outcome} {m n : ℕ} {x y : List ℕ} → seen a o m x ≡ seen b p n y → (a ≡ b) × (o ≡ p) × (m ≡ n) × (x ≡ y)
seen_same e = (cc, cc, cc, cc)

came_seen : (f : Function) (c : Configuration) (input : List ℕ) (n : ℕ) (replies : List Reply) (transcript : Transcript) (o : Outcome) (used : ℕ) (output : List ℕ) (come : Come) → run_told (invocation f input) n (runs (fresh_state c)) replies ≡ come → seen_of f.fuel come ≡ seen transcript o used output → runs_by f (makes c) input (told_by transcript) o output used
came_seen f c input n replies transcript o used output (came t s p) e g = by (nat_le s.config.fuel f.fuel) refl g
  where
    by : (b : Bool) → nat_le s.config.fuel f.fuel ≡ b → cond b (seen t p (f.fuel - s.config.fuel) s.output) bad ≡ seen transcript o used output → runs_by f (makes c) input (told_by transcript) o output used
    by true h g =
        let same = seen_same g in
        record {
          transcript = t;
          last = s;
          run = subst (λ q. Run (invocation f input) (runs (fresh_state c)) t s q) same.1 (come_runs (invocation f input) n (runs (fresh_state c)) s replies t p e);
          told_so = λ ch. ap (λ x. told_by x ch) (sym same.0);
          output_so = sym same.3;
          used_so = let few = leb-true s.config.fuel f.fuel h in omega (arith, same.2, few);
        }
    by false h g = let no : ⊥ = cc in absurd no
came_seen f c input n replies transcript o used output (stands_at q) e g = let no : ⊥ = cc in absurd no
came_seen f c input n replies transcript o used output unfinished e g = let no : ⊥ = cc in absurd no
came_seen f c input n replies transcript o used output wrong e g = let no : ⊥ = cc in absurd no

made_seen : (f : Function) (made : Made Configuration) (input : List ℕ) (n : ℕ) (replies : List Reply) (transcript : Transcript) (o : Outcome) (used : ℕ) (output : List ℕ) → run_by f made input n replies ≡ seen transcript o used output → runs_by f made input (told_by transcript) o output used
made_seen f (makes c) input n replies transcript o used output e = came_seen f c input n replies transcript o used output (run_told (invocation f input) n (runs (fresh_state c)) replies) refl e
made_seen f (breaks k) input n replies transcript o used output e = let no : ⊥ = cc in absurd no
made_seen f nothing input n replies transcript o used output e = let no : ⊥ = cc in absurd no

pub seen_runs : (f : Function) (input : List ℕ) (n : ℕ) (replies : List Reply) (transcript : Transcript) (o : Outcome) (used : ℕ) (output : List ℕ) → run f input n replies ≡ seen transcript o used output → Runs f input (told_by transcript) o output used
seen_runs f input n replies transcript o used output e = made_seen f (fresh f) input n replies transcript o used output e
