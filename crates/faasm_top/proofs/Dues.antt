-- What is due, of what the parts ensure.
use Rattle.std.proofs.Common.{◌≡◌, ℕ, ◌≤◌, List, Option, Some, None, Result, Ok, Err, sym, subst, refl, arith, ◌⊎◌, inl, inr}
use Rattle.std.specs.Prelude.{Bool, false, [], IfOk, IsSome, IsTrue}
use Rattle.std.specs.String.{string_bytes}
use Rattle.fa_outside.specs.Files.{Files, IsFile}
use Rattle.faaslet_meaning.specs.declared.module.Module.{Module}
use Rattle.faaslet_meaning.specs.declared.outcome.Outcome.{Outcome}
use Rattle.faaslet_meaning.specs.declared.outcome.Outcome.TheVariants as outcome
use Rattle.faaslet_meaning.specs.Channels.{told_nothing}
use Rattle.faaslet_meaning.specs.Decoding.{DecodesTo}
use Rattle.faaslet_meaning.specs.Decoding as decoding
use Rattle.faaslet_meaning.specs.Productions.{NoSpelling}
use Rattle.faaslet_meaning.specs.Report as report
use Rattle.faaslet_meaning.specs.Runnable.{Runnable, Unfit, IsUnfit}
use Rattle.faaslet_meaning.specs.Runs.{Runs}
use Rattle.faaslet_meaning.specs.Words.{Command, check, CommandOf, call_function}
use Rattle.wasm_decode.specs.Decoded.{IsDecoded, limit_of}
use Rattle.wasm_decode.specs.declared.fault.DecodeFault.{DecodeFault}
use Rattle.wasm_decode.specs.declared.fault.DecodeFault.TheVariants as fault
use Rattle.wasm_validate.specs.Causes.{IsCause}
use Rattle.wasm_validate.specs.declared.invalid.Invalid.{Invalid}
use Rattle.wasm_validate.specs.declared.invalid.Invalid.TheVariants as cause
use Rattle.session_meaning.specs.Draft.{Draft}
use Rattle.faasm_top.specs.declared.due.Due.{Due}
use Rattle.faasm_top.specs.declared.due.Due.TheVariants as due
use Rattle.faasm_top.specs.declared.report.Report.{Report}
use Rattle.faasm_top.specs.declared.words.Command as commands
use Rattle.faasm_top.specs.declared.words.Command.TheVariants.{Check, Call, Trace, Run, Load}
use Rattle.faasm_top.specs.Answers.{code_of, status_of, file_of, first_file_of, ReadsFile, IsDue, valid, ran, traced, usage, refused, later, session_refused, unfit, read_fault, DueToModule, DueToCalls, Leaves, WritesPart, WritesPartOfTrace, WritesWhole}
use Rattle.faasm_top.specs.Commands.{command_of}
use Rattle.faasm_top.specs.Dues.{DueSo, TracesInPart, WritesDue, WritesDuePart, status_now}
use Rattle.faasm_top.specs.ModuleFiles.{IsAccepted, IsRefusal, too_long, malformed, float, limit, invalid, untyped}
use Rattle.faasm_top.specs.Refusals.{undecoded_line, invalid_line, unfit_line}
use Rattle.faasm_top.proofs.OneLine.{same_name}
use Rattle.faasm_top.proofs.Traces.{few_statuses}

-- what holds of a status and a line holds of a report that has them
pub made : {E : Type 0} (P : ℕ → List ℕ → Type 0) (status : ℕ) (line : List ℕ) (r : Result Report E) → IfOk r (λ x. code_of x.status ≡ status) → IfOk r (λ x. string_bytes x.line ≡ line) → P status line
    → IfOk r (λ x. P (code_of x.status) (string_bytes x.line))
made P status line (Ok x) s l p = subst (λ t. P t (string_bytes x.line)) (sym s) (subst (P status) (sym l) p)
made P status line (Err e) s l p = tt

-- ---- files that are refused

same_some : (a b : List ℕ) → (let o : Option (List ℕ) = Some a in o ≡ Some b) → b ≡ a
same_some a b e = cc

pub undecoded_is : (f : DecodeFault) (bytes line : List ℕ) → (let r : Result Module DecodeFault = Err f in IsDecoded r bytes) → undecoded_line f ≡ Some line → IsRefusal bytes line
undecoded_is fault.TooLong bytes line d e = too_long d (same_some _ _ e)
undecoded_is fault.Malformed bytes line d e = malformed d (same_some _ _ e)
undecoded_is fault.Float bytes line d e = float d (same_some _ _ e)
undecoded_is (fault.Limit w) bytes line d e = limit (limit_of w) d (same_some _ _ e)
undecoded_is fault.Want bytes line d e = absurd cc

pub invalid_is : (f : Invalid) (m : Module) (bytes line : List ℕ) → DecodesTo (decoding.accepted m) bytes → IsCause f m → invalid_line f ≡ Some line → IsRefusal bytes line
invalid_is cause.Module m bytes line d c e = invalid m d c (same_some _ _ e)
invalid_is (cause.Function k) m bytes line d c e = untyped m k d c (same_some _ _ e)
invalid_is cause.Want m bytes line d c e = absurd cc

-- ---- modules that are accepted

pub valid_due : (file bytes : List ℕ) (m : Module) → IsAccepted m bytes → DueToModule (check file) bytes 0 report.valid
valid_due file bytes m accepted words told before after reads = valid (record { file = file; bytes = bytes; reads = reads; code = m; accepted = accepted }) refl refl

pub unfit_due : (m : Module) (input : List ℕ) (fuel : ℕ) (u : Unfit) → IsUnfit u m → DueToCalls m input fuel 3 (unfit_line u)
unfit_due m input fuel u p words told before after calls = unfit (record { code = m; input = input; fuel = fuel; calls = calls; why = u; unfit = p; is_line = refl }) refl

pub run_due : (m : Module) (input : List ℕ) (fuel : ℕ) (o : Outcome) (output : List ℕ) (used : ℕ) → Runnable m → (o ≡ outcome.Want → ⊥) → Runs (call_function m fuel) input told_nothing o output used → DueToCalls m input fuel (status_of o) (report.call_line o output used)
run_due m input fuel o output used r no_want runs words told before after calls =
    ran (record { code = m; input = input; fuel = fuel; calls = calls; runnable = r; outcome = o; no_want = no_want; output = output; used = used; runs = runs; is_line = refl; is_status = refl })

-- of the commands that read a file one is no call
pub check_due : {E : Type 0} (c : commands.Command) (bytes : List ℕ) (m : Module) (r : Result Report E) → (file_of (command_of c) ≡ None → ⊥) → ((f : _) (i : List ℕ) (n : ℕ) → c ≡ Call f i n → ⊥) → IsAccepted m bytes
    → IfOk r (λ x. code_of x.status ≡ 0) → IfOk r (λ x. string_bytes x.line ≡ report.valid)
    → IfOk r (λ x. DueToModule (command_of c) bytes (code_of x.status) (string_bytes x.line))
check_due (Check f) bytes m r reads other_call accepted s l = made (DueToModule (check f.now) bytes) 0 report.valid r s l (valid_due f.now bytes m accepted)
check_due (Call f i n) bytes m r reads other_call accepted s l = absurd (other_call f i n refl)
check_due (Trace f n) bytes m r reads other_call accepted s l = absurd (reads refl)
check_due (Run f) bytes m r reads other_call accepted s l = absurd (reads refl)
check_due (Load n) bytes m r reads other_call accepted s l = absurd (reads refl)

pub call_due : {E : Type 0} (c : commands.Command) (f : _) (i : List ℕ) (n : ℕ) (bytes : List ℕ) (m : Module) (r : Result Report E) → c ≡ Call f i n → IsAccepted m bytes → IfOk r (λ x. DueToCalls m i n (code_of x.status) (string_bytes x.line))
    → IfOk r (λ x. DueToModule (command_of c) bytes (code_of x.status) (string_bytes x.line))
call_due c f i n bytes m (Ok x) is accepted due =
    subst (λ d. DueToModule (command_of d) bytes (code_of x.status) (string_bytes x.line)) (sym is)
    (λ words told before after reads. due words told before after (record { file = f.now; bytes = bytes; reads = reads; accepted = accepted }))
call_due c f i n bytes m (Err e) is accepted due = tt

-- ---- commands

-- what is due to the words that are a command
abbrev pub DueToCommand : Command → Option Files → ℕ → ℕ → ℕ → List ℕ → Type 0
DueToCommand c told before after status line = (words : List (List ℕ)) → CommandOf c words → IsDue words told before after status line

-- what is due to the bytes of its file is due to a command
pub module_due : {E : Type 0} (c : Command) (file bytes : List ℕ) (told : Option Files) (before after : ℕ) (r : Result Report E) → file_of c ≡ Some file → IsFile told file bytes → IfOk r (λ x. DueToModule c bytes (code_of x.status) (string_bytes x.line))
    → IfOk r (λ x. DueToCommand c told before after (code_of x.status) (string_bytes x.line))
module_due c file bytes told before after (Ok x) named holds due = λ words is. due words told before after (record { is_command = is; file = file; is_named = named; is_file = holds })
module_due c file bytes told before after (Err e) named holds due = tt

-- what is due to a command that the words are
pub words_due : {E : Type 0} (c : Command) (words : List (List ℕ)) (told : Option Files) (before after : ℕ) (r : Result Due E) → CommandOf c words → IfOk r (λ d. (ws : List (List ℕ)) → CommandOf c ws → DueSo ws told before after d)
    → IfOk r (λ d. DueSo words told before after d)
words_due c words told before after (Ok x) is due = due words is
words_due c words told before after (Err e) is due = tt

-- a command that reads no file
pub no_file : (c : Command) (words : List (List ℕ)) → (ReadsFile words → ⊥) → CommandOf c words → first_file_of c ≡ None
no_file c words none is = by (first_file_of c) refl
  where
    by : (o : Option (List ℕ)) → first_file_of c ≡ o → first_file_of c ≡ None
    by None e = e
    by (Some f) e = absurd (none (record { command = c; is_command = is; file = f; is_named = e }))

-- where the words are one that does it is left open
pub reader_open : {E : Type 0} (c : Command) (words : List (List ℕ)) (Open : Type 0) (r : Result Due E) → CommandOf c words → IfOk r (λ d. (first_file_of c ≡ None → ⊥) → (status_now d ≡ 4 → ⊥) → Open)
    → IfOk r (λ d. ReadsFile words → (status_now d ≡ 4 → ⊥) → Open)
reader_open c words Open (Ok x) is opens = λ reads calm. opens (λ none. (let e = same_name words c reads is in let f = reads.is_named in cc)) calm
reader_open c words Open (Err e) is opens = tt

pub usage_open : (words : List (List ℕ)) (Open : Type 0) (status : ℕ) → NoSpelling CommandOf words → ReadsFile words → (status ≡ 4 → ⊥) → Open
usage_open words Open status none reads calm = absurd (none.none reads.command reads.is_command)

-- a status that is no fault of the shelf
pub calm : {E : Type 0} (r : Result Report E) → IfOk r (λ x. code_of x.status ≡ 0) → IfOk r (λ x. code_of x.status ≡ 4 → ⊥)
calm (Ok x) zero = λ four. absurd (omega (arith, zero, four))
calm (Err e) zero = tt

pub not_four : (n m : ℕ) → n ≡ m → (n ≤ 1) ⊎ (n ≡ 3) → m ≡ 4 → ⊥
not_four n m same (inl few) e = absurd (omega arith)
not_four n m same (inr three) e = absurd (omega arith)

-- ---- What is written

run_status : (o : Outcome) → status_of o ≤ 1
run_status (outcome.Done code) = omega arith
run_status (outcome.Trap kind) = omega arith
run_status outcome.FuelOut = omega arith
run_status (outcome.Broken kind) = omega arith
run_status outcome.Want = omega arith

-- each text goes with a status of its own
pub few_now : (words : List (List ℕ)) (told : Option Files) (before after : ℕ) (d : Due) → DueSo words told before after d → status_now d ≤ 4
few_now words told before after (due.Trace session seed) h = omega arith
few_now words told before after (due.Line r) h = by (code_of r.status) (string_bytes r.line) h
  where
    by : (status : ℕ) (text : List ℕ) → IsDue words told before after status text → status ≤ 4
    by status text (valid p a b) = omega (arith, a)
    by status text (ran p) = omega (arith, p.is_status, run_status p.outcome)
    by status text (traced p) = (let few = few_statuses p.draft p.seed status text p.traces in omega (arith, few))
    by status text (usage p a b) = omega (arith, a)
    by status text (refused p a) = omega (arith, a)
    by status text (later p a b) = omega (arith, a)
    by status text (session_refused p a) = omega (arith, a)
    by status text (unfit p a) = omega (arith, a)
    by status text (read_fault p a b) = omega (arith, a)

-- the status that was answered is that of what is due, or both are those of a trace
pub status_is : (d : Due) (status : ℕ) (old new : Option (List ℕ)) → WritesDue d status old new → (status ≡ status_now d) ⊎ ((status ≤ 1) × (status_now d ≡ 0))
status_is (due.Line r) status old new w = inl w.0
status_is (due.Trace session seed) status old new w = inr (w.0, refl)

module _ (words : List (List ℕ)) (told : Option Files) (before after : ℕ) where
  pub whole_due : (d : Due) (status : ℕ) (old new : Option (List ℕ)) → DueSo words told before after d → WritesDue d status old new → WritesWhole words told before after old new status
  whole_due (due.Line r) status old new is w =
      record { text = string_bytes r.line; is_due = subst (λ s. IsDue words told before after s (string_bytes r.line)) (sym w.0) is; appends = w.1 }
  whole_due (due.Trace session seed) status old new is w =
      record {
        text = w.1.text;
        is_due = traced (record { draft = session; seed = seed; names = is; traces = w.1.traces });
        appends = w.1.appends;
      }

  -- what is left of the shelf
  pub record Left (d : Due) (is_open : Bool) (rest : List ℕ) : Type 0 where
    pub closed : status_now d ≡ 4 → is_open ≡ false
    pub ended : status_now d ≤ 1 → IsSome told → rest ≡ []
    pub left_open : ReadsFile words → (status_now d ≡ 4 → ⊥) → IsTrue is_open

  of_trace : (session : Draft) (seed status : ℕ) (is_open : Bool) (rest : List ℕ) → Left (due.Trace session seed) is_open rest → status ≤ 1 → Leaves words told status is_open rest
  of_trace session seed status is_open rest left few =
      record {
        closed = λ four. absurd (omega (arith, four, few));
        ended = λ one. left.ended (omega arith);
        left_open = λ reads calm. left.left_open reads (λ four. absurd (omega (arith, four)));
      }

  pub part_of_trace : (d : Due) (old new : Option (List ℕ)) (is_open : Bool) (rest : List ℕ) → DueSo words told before after d → TracesInPart d old new → Left d is_open rest → WritesPartOfTrace words told old new is_open rest
  part_of_trace (due.Line r) old new is_open rest is w left = absurd w
  part_of_trace (due.Trace session seed) old new is_open rest is w left =
      record {
        status = w.status;
        text = w.text;
        is_trace = record { draft = session; seed = seed; names = is; traces = w.traces };
        appends = w.appends;
        leaves = of_trace session seed w.status is_open rest left (few_statuses session seed w.status w.text w.traces);
      }

  pub part_due : (d : Due) (old new : Option (List ℕ)) (is_open : Bool) (rest : List ℕ) → DueSo words told before after d → WritesDuePart d old new → Left d is_open rest → WritesPart words told before after old new is_open rest
  part_due (due.Line r) old new is_open rest is w left =
      record {
        status = code_of r.status;
        text = string_bytes r.line;
        is_due = is;
        appends = w;
        leaves = record { closed = left.closed; ended = left.ended; left_open = left.left_open };
      }
  part_due (due.Trace session seed) old new is_open rest is w left =
      record {
        status = w.status;
        text = w.text;
        is_due = traced (record { draft = session; seed = seed; names = is; traces = w.traces });
        appends = w.appends;
        leaves = of_trace session seed w.status is_open rest left (few_statuses session seed w.status w.text w.traces);
      }

  pub want_due : (d : Due) (Same : Type 0) (old new : Option (List ℕ)) (is_open : Bool) (rest : List ℕ) → DueSo words told before after d → Same ⊎ TracesInPart d old new → Left d is_open rest → Same ⊎ WritesPartOfTrace words told old new is_open rest
  want_due d Same old new is_open rest is (inl same) left = inl same
  want_due d Same old new is_open rest is (inr part) left = inr (part_of_trace d old new is_open rest is part left)
