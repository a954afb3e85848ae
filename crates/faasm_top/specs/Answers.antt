-- What is due to the words and the files: a line, or the report of a session, and the status that goes with it. This project's own.
-- PROVISIONAL: `run` and `load` do not do their work yet.
use Rattle.std.specs.Prelude.{◌≡◌, ◌≢◌, ℕ, ◌≤◌, Bool, false, List, [], Option, Some, None, IsSome, IsTrue}
use Rattle.fa_outside.specs.Appended.{Appends, AppendsPart}
use Rattle.fa_outside.specs.Faults.{Rose}
use Rattle.fa_outside.specs.Files.{Files, IsFile}
use Rattle.faaslet_meaning.specs.declared.module.Module.{Module}
use Rattle.faaslet_meaning.specs.declared.outcome.Outcome.{Outcome}
use Rattle.faaslet_meaning.specs.declared.outcome.Outcome.TheVariants as outcomes
use Rattle.faaslet_meaning.specs.Channels.{told_nothing}
use Rattle.faaslet_meaning.specs.Productions.{NoSpelling}
use Rattle.faaslet_meaning.specs.Report as report
use Rattle.faaslet_meaning.specs.Runnable.{Runnable, Unfit, IsUnfit}
use Rattle.faaslet_meaning.specs.Runs.{Runs}
use Rattle.faaslet_meaning.specs.Words.{Command, check, call, trace, CommandOf, call_function}
use Rattle.faasm_top.specs.declared.report.Status.{Status}
use Rattle.faasm_top.specs.declared.report.Status.TheVariants.{Done, NotDone, Usage, Refused, ShelfFailed, SinkFailed, Want}
use Rattle.faasm_top.specs.ModuleFiles.{IsAccepted, IsRefusal}
use Rattle.faasm_top.specs.Refusals.{unfit_line}
use Rattle.session_meaning.specs.Draft.{Draft}
use Rattle.faasm_top.specs.Sessions.{IsWholeSession, SessionComes}
use Rattle.faasm_top.specs.Traced.{TracesTo}

-- the statuses
abbrev pub code_of : Status → ℕ
code_of Done = 0
code_of NotDone = 1
code_of Usage = 2
code_of Refused = 3
code_of ShelfFailed = 4
code_of SinkFailed = 5
code_of Want = 6

-- the status of a run
abbrev pub status_of : Outcome → ℕ
status_of (outcomes.Done code) = 0
status_of _ = 1

-- ---- What the words ask.

-- the file of a module that a command reads
abbrev pub file_of : Command → Option (List ℕ)
file_of (check file) = Some file
file_of (call file input fuel) = Some file
file_of _ = None

-- the file that a command reads first, of a module or of a session; the commands that read none aren't built yet
abbrev pub first_file_of : Command → Option (List ℕ)
first_file_of (trace file seed) = Some file
first_file_of command = file_of command

-- the words are this command, and its file holds these bytes, where that is told
pub record Reads (words : List (List ℕ)) (told : Option Files) (command : Command) (bytes : List ℕ) : Type 0 where
  pub is_command : CommandOf command words
  pub file : List ℕ
  pub is_named : file_of command ≡ Some file
  pub is_file : IsFile told file bytes

-- the words are a command that reads a file
pub record ReadsFile (words : List (List ℕ)) : Type 0 where
  pub command : Command
  pub is_command : CommandOf command words
  pub file : List ℕ
  pub is_named : first_file_of command ≡ Some file

-- ---- What is due.

-- `check` of a file that holds a valid module
pub record IsValid (words : List (List ℕ)) (told : Option Files) : Type 0 where
  pub file : List ℕ
  pub bytes : List ℕ
  pub reads : Reads words told (check file) bytes
  pub code : Module
  pub accepted : IsAccepted code bytes

-- the words are `call` with this input and fuel, and its file holds this valid module
pub record CallsModule (words : List (List ℕ)) (told : Option Files) (code : Module) (input : List ℕ) (fuel : ℕ) : Type 0 where
  pub file : List ℕ
  pub bytes : List ℕ
  pub reads : Reads words told (call file input fuel) bytes
  pub accepted : IsAccepted code bytes

-- `call` of a module that a function may have: the line of what its run comes to
pub record IsRun (words : List (List ℕ)) (told : Option Files) (status : ℕ) (line : List ℕ) : Type 0 where
  pub code : Module
  pub input : List ℕ
  pub fuel : ℕ
  pub calls : CallsModule words told code input fuel
  pub runnable : Runnable code
  pub outcome : Outcome
  pub no_want : outcome ≢ outcomes.Want
  pub output : List ℕ
  pub used : ℕ
  pub runs : Runs (call_function code fuel) input told_nothing outcome output used
  pub is_line : line ≡ report.call_line outcome output used
  pub is_status : status ≡ status_of outcome

-- `call` of a module that a function may not have: the line of the first reason
pub record IsUnfitCall (words : List (List ℕ)) (told : Option Files) (line : List ℕ) : Type 0 where
  pub code : Module
  pub input : List ℕ
  pub fuel : ℕ
  pub calls : CallsModule words told code input fuel
  pub why : Unfit
  pub unfit : IsUnfit why code
  pub is_line : line ≡ unfit_line why

-- `check` or `call` of a file that is refused
pub record IsRefused (words : List (List ℕ)) (told : Option Files) (line : List ℕ) : Type 0 where
  pub command : Command
  pub bytes : List ℕ
  pub reads : Reads words told command bytes
  pub refusal : IsRefusal bytes line

-- a command that isn't built yet
pub record IsLater (words : List (List ℕ)) : Type 0 where
  pub command : Command
  pub is_command : CommandOf command words
  pub no_file : first_file_of command ≡ None

-- `trace` of a session that is refused: the line of the first refusal of its file or of a module
pub record IsSessionRefused (words : List (List ℕ)) (told : Option Files) (line : List ℕ) : Type 0 where
  pub file : List ℕ
  pub seed : ℕ
  pub is_command : CommandOf (trace file seed) words
  pub comes : SessionComes told file (Some line)

-- the words are `trace` with this seed, and its files hold the session of this draft
pub record NamesTrace (words : List (List ℕ)) (told : Option Files) (draft : Draft) (seed : ℕ) : Type 0 where
  pub file : List ℕ
  pub is_command : CommandOf (trace file seed) words
  pub session : IsWholeSession told file draft

-- `trace` of an accepted session: the report and the status that it comes to
pub record IsTraced (words : List (List ℕ)) (told : Option Files) (status : ℕ) (text : List ℕ) : Type 0 where
  pub draft : Draft
  pub seed : ℕ
  pub names : NamesTrace words told draft seed
  pub traces : TracesTo draft seed status text

-- a command that reads a file, and the shelf's count rose
pub record IsReadFault (words : List (List ℕ)) (before after : ℕ) : Type 0 where
  pub reads : ReadsFile words
  pub rose : Rose before after

-- This text and this status are due. The shelf's count of faults was before, and is after.
pub data IsDue (words : List (List ℕ)) (told : Option Files) (before after : ℕ) (status : ℕ) (text : List ℕ) : Type 0 where
  valid : IsValid words told → status ≡ 0 → text ≡ report.valid → IsDue words told before after status text
  ran : IsRun words told status text → IsDue words told before after status text
  traced : IsTraced words told status text → IsDue words told before after status text
  usage : NoSpelling CommandOf words → status ≡ 2 → text ≡ report.usage → IsDue words told before after status text
  refused : IsRefused words told text → status ≡ 3 → IsDue words told before after status text
  later : IsLater words → status ≡ 3 → text ≡ report.not_built → IsDue words told before after status text
  session_refused : IsSessionRefused words told text → status ≡ 3 → IsDue words told before after status text
  unfit : IsUnfitCall words told text → status ≡ 3 → IsDue words told before after status text
  read_fault : IsReadFault words before after → status ≡ 4 → text ≡ report.read_fault → IsDue words told before after status text

-- whatever the words that are this command, where its file holds these bytes
abbrev pub DueToModule : Command → List ℕ → ℕ → List ℕ → Type 0
DueToModule command bytes status line =
    (words : List (List ℕ)) (told : Option Files) (before after : ℕ) → Reads words told command bytes → IsDue words told before after status line

-- whatever the words that are `call` with this input and this fuel, where their file holds this valid module
abbrev pub DueToCalls : Module → List ℕ → ℕ → ℕ → List ℕ → Type 0
DueToCalls code input fuel status line =
    (words : List (List ℕ)) (told : Option Files) (before after : ℕ) → CallsModule words told code input fuel → IsDue words told before after status line

-- the text that is due was written whole, and the status is its own
pub record WritesWhole (words : List (List ℕ)) (told : Option Files) (before after : ℕ) (old new : Option (List ℕ)) (status : ℕ) : Type 0 where
  pub text : List ℕ
  pub is_due : IsDue words told before after status text
  pub appends : Appends old new text

-- What is left of the shelf where a text with this status is due: after a read fault nothing is open; otherwise the last
-- file that the command read is, and after 0 and 1 it was read to its end.
pub record Leaves (words : List (List ℕ)) (told : Option Files) (status : ℕ) (is_open : Bool) (rest : List ℕ) : Type 0 where
  pub closed : status ≡ 4 → is_open ≡ false
  pub ended : status ≤ 1 → IsSome told → rest ≡ []
  pub left_open : ReadsFile words → (status ≡ 4 → ⊥) → IsTrue is_open

-- of a text that was due a front was written, and not all; the shelf is left as the status of that text says
pub record WritesPart (words : List (List ℕ)) (told : Option Files) (before after : ℕ) (old new : Option (List ℕ)) (is_open : Bool) (rest : List ℕ) : Type 0 where
  pub status : ℕ
  pub text : List ℕ
  pub is_due : IsDue words told before after status text
  pub appends : AppendsPart old new text
  pub leaves : Leaves words told status is_open rest

-- the same of a trace alone
pub record WritesPartOfTrace (words : List (List ℕ)) (told : Option Files) (old new : Option (List ℕ)) (is_open : Bool) (rest : List ℕ) : Type 0 where
  pub status : ℕ
  pub text : List ℕ
  pub is_trace : IsTraced words told status text
  pub appends : AppendsPart old new text
  pub leaves : Leaves words told status is_open rest
