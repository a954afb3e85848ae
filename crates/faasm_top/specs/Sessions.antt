-- What comes of a session file and of the modules of its functions, which are read in their order: the line of the first
-- refusal, or nothing where all is accepted. This project's own.
use Rattle.std.specs.Prelude.{◌≡◌, ℕ, ◌+◌, ◌<◌, ◌≤◌, ◌⊎◌, Bool, false, List, [], ◌∷◌, Option, Some, None, Ok, Err, IsTrue, length, slice_get}
use Rattle.std.specs.String.{string_bytes}
use Rattle.fa_outside.specs.Faults.{Rose}
use Rattle.fa_outside.specs.Files.{Files, IsFile}
use Rattle.faaslet_meaning.specs.declared.module.Module.{Module}
use Rattle.faaslet_meaning.specs.Decoding.{module_limit}
use Rattle.faaslet_meaning.specs.Runnable.{Runnable}
use Rattle.session_meaning.specs.Draft.{Draft, DraftFunction, with_module}
use Rattle.session_meaning.specs.RefusalLines.{refused_line, function_line, modules_line}
use Rattle.session_meaning.specs.SessionFile.{Answer, Planned, PlanOf, Refused}
use Rattle.session_meaning.specs.SessionLimits.{modules_limit}
use Rattle.session_meaning.specs.WellFormed.{function_names}
use Rattle.faasm_top.specs.declared.stop.Stop.{Stop}
use Rattle.faasm_top.specs.declared.stop.Stop.TheVariants as stop
use Rattle.faasm_top.specs.ModuleFiles.{IsAccepted, IsUsable, IsUnusable}

-- ---- One module. The number `before` counts the bytes of the modules before it.

-- as many bytes as a module may have, and with those before more than all modules of a session may have
pub record IsOver (before : ℕ) (bytes : List ℕ) : Type 0 where
  pub few : length bytes ≤ module_limit
  pub many : modules_limit < before + length bytes

-- this is a refusal with the name of function `place` before it
pub record IsFunctionLine (names : List (List ℕ)) (place : ℕ) (refusal line : List ℕ) : Type 0 where
  pub name : List ℕ
  pub is_name : slice_get names place ≡ Some name
  pub is_line : line ≡ function_line name refusal

-- the file of a module has so many bytes, and function `place` may have the module in it
pub record TakesFile (told : Option Files) (before : ℕ) (path : List ℕ) (count : ℕ) : Type 0 where
  pub bytes : List ℕ
  pub is_file : IsFile told path bytes
  pub is_count : count ≡ length bytes
  pub not_over : IsOver before bytes → ⊥
  pub usable : IsUsable bytes

-- function `place` may not have what these bytes hold, and this is the line of the first reason
pub data RefusesBytes (names : List (List ℕ)) (place before : ℕ) (bytes line : List ℕ) : Type 0 where
  over : IsOver before bytes → line ≡ modules_line place → RefusesBytes names place before bytes line
  unusable : (IsOver before bytes → ⊥) → (refusal : List ℕ) → IsUnusable bytes refusal → IsFunctionLine names place refusal line → RefusesBytes names place before bytes line

-- the same of what its file holds
pub record RefusesFile (told : Option Files) (names : List (List ℕ)) (place before : ℕ) (path line : List ℕ) : Type 0 where
  pub bytes : List ℕ
  pub is_file : IsFile told path bytes
  pub refuses : RefusesBytes names place before bytes line

-- function `place` of a draft is given the module in these bytes, which it may have
pub record GivesModule (bytes : List ℕ) (place : ℕ) (old new : Draft) : Type 0 where
  pub code : Module
  pub accepted : IsAccepted code bytes
  pub runnable : Runnable code
  pub is_given : new ≡ with_module old place code

-- the same of what its file holds
pub record GivesFile (told : Option Files) (path : List ℕ) (place : ℕ) (old new : Draft) : Type 0 where
  pub bytes : List ℕ
  pub is_file : IsFile told path bytes
  pub gives : GivesModule bytes place old new

-- ---- All modules of functions with these names: those of the files that are left, the first of which is that of `place`.

abbrev pub ModulesCome : Option Files → List (List ℕ) → ℕ → ℕ → List (List ℕ) → Option (List ℕ) → Type 0
ModulesCome told names place before [] answer = answer ≡ None
ModulesCome told names place before (path ∷ paths) answer =
    ((line : List ℕ) × RefusesFile told names place before path line × (answer ≡ Some line))
    ⊎ ((count : ℕ) × TakesFile told before path count × ModulesCome told names (place + 1) (before + count) paths answer)

-- ---- A session.

-- the file holds bytes that are answered so
pub record IsSession (told : Option Files) (file : List ℕ) (answer : Answer Planned) : Type 0 where
  pub bytes : List ℕ
  pub is_file : IsFile told file bytes
  pub plan_of : PlanOf bytes answer

-- the file is refused, with this line
pub record RefusesSession (told : Option Files) (file line : List ℕ) : Type 0 where
  pub why : Refused
  pub is_session : IsSession told file (Err why)
  pub is_line : line ≡ refused_line why

pub data SessionComes (told : Option Files) (file : List ℕ) (answer : Option (List ℕ)) : Type 0 where
  refused : (line : List ℕ) → RefusesSession told file line → answer ≡ Some line → SessionComes told file answer
  planned : (plan : Planned) → IsSession told file (Ok plan) → ModulesCome told (function_names plan.draft) 0 0 plan.paths answer → SessionComes told file answer

-- ---- A session with the modules of its functions.

-- a function gets the module that its file holds
pub record GetsModule (told : Option Files) (path : List ℕ) (f g : DraftFunction) : Type 0 where
  pub code : Module
  pub bytes : List ℕ
  pub is_file : IsFile told path bytes
  pub accepted : IsAccepted code bytes
  pub is_given : g ≡ record f { code = Some code }

-- each function gets its own
abbrev pub GetModules : Option Files → List (List ℕ) → List DraftFunction → List DraftFunction → Type 0
GetModules told [] [] [] = Unit {0}
GetModules told (path ∷ paths) (f ∷ fs) (g ∷ gs) = GetsModule told path f g × GetModules told paths fs gs
GetModules told _ _ _ = ⊥

-- The file and those of the modules are accepted. The draft is what the session file says, with the modules of its functions.
pub record IsWholeSession (told : Option Files) (file : List ℕ) (draft : Draft) : Type 0 where
  pub comes : SessionComes told file None
  pub planned : Planned
  pub is_session : IsSession told file (Ok planned)
  pub modules : GetModules told planned.paths planned.draft.functions draft.functions
  pub is_draft : draft ≡ record planned.draft { functions = draft.functions }

-- Why reading a session stopped: with a line that refuses it, where the last file is still open, with a fault of the
-- shelf, or for want of memory, of which nothing is said.
abbrev pub StopsBy : Stop → ℕ → ℕ → Bool → (List ℕ → Type 0) → Type 0
StopsBy (stop.Refused line) before after is_open Refuses = IsTrue is_open × Refuses (string_bytes line)
StopsBy stop.Unreadable before after is_open Refuses = Rose before after × (is_open ≡ false)
StopsBy stop.Want before after is_open Refuses = Unit {0}
