-- Where the files are told and the shelf did not fail, one text is due.
use Rattle.std.proofs.Common.{◌≡◌, ℕ, List, Option, Some, None, refl, sym, ap, subst, ◌∙◌}
use Rattle.fa_outside.specs.Faults.{Rose}
use Rattle.fa_outside.specs.Files.{Files, file_named}
use Rattle.faaslet_meaning.specs.declared.module.Module.{Module}
use Rattle.faaslet_meaning.specs.declared.outcome.Outcome.{Outcome}
use Rattle.faaslet_meaning.specs.Channels.{told_nothing}
use Rattle.faaslet_meaning.specs.Report as report
use Rattle.faaslet_meaning.specs.Runs.{Runs}
use Rattle.faaslet_meaning.specs.Productions.{NoSpelling}
use Rattle.faaslet_meaning.specs.Runnable.{Runnable, IsUnfit}
use Rattle.faaslet_meaning.specs.Words.{Command, call, check, trace, CommandOf, call_function}
use Rattle.faaslet_meaning.proofs.OneCommand.{one_command}
use Rattle.faaslet_meaning.proofs.OneModule.{one_module}
use Rattle.faaslet_meaning.proofs.One.{one_run}
use Rattle.faasm_top.specs.Answers.{status_of, file_of, first_file_of, Reads, IsValid, ReadsFile, CallsModule, IsRun, IsUnfitCall, IsRefused, IsLater, IsSessionRefused, IsTraced, IsDue, valid, ran, traced, usage, refused, later, session_refused, unfit, read_fault}
use Rattle.faasm_top.specs.ModuleFiles.{IsAccepted, IsRefusal}
use Rattle.faasm_top.specs.Refusals.{unfit_line}
use Rattle.faasm_top.specs.Sessions.{IsWholeSession, SessionComes}
use Rattle.faasm_top.specs.Traced.{TracesTo}
use Rattle.faasm_top.proofs.OneSession.{one_refusal, not_refused, same_content, one_session, one_whole}
use Rattle.faasm_top.proofs.Traces.{one_trace}
use Rattle.faasm_top.proofs.Unfits.{one_reason, not_unfit}

-- ---- the words and their file

same_call : (f g i j : List ℕ) (m n : ℕ) → call f i m ≡ call g j n → (f ≡ g) × (i ≡ j) × (m ≡ n)
same_call f g i j m n e = (cc, cc, cc)

check_call : {A : Type 0} (f g i : List ℕ) (n : ℕ) → check f ≡ call g i n → A
check_call f g i n e = absurd cc

-- the file of a command is that of the words
pub same_name : (words : List (List ℕ)) (c : Command) (reads : ReadsFile words) → CommandOf c words → first_file_of c ≡ first_file_of reads.command
same_name words c reads is = ap first_file_of (one_command words c reads.command is reads.is_command)

-- two readings of one list of words have one command and the same bytes
same_bytes : (words : List (List ℕ)) (files : Files) (c d : Command) (a b : List ℕ) → Reads words (Some files) c a → Reads words (Some files) d b → (c ≡ d) × (a ≡ b)
same_bytes words files c d a b p q =
    let same : c ≡ d = one_command words c d p.is_command q.is_command in
    let name : p.file ≡ q.file = same_content p.file q.file (file_of c) p.is_named (ap file_of same ∙ q.is_named) in
    (same, same_content a b (file_named files p.file) p.is_file (ap (file_named files) name ∙ q.is_file))

-- ---- two lines that are due

lines : (o r : Outcome) (x y : List ℕ) (u v : ℕ) → o ≡ r → x ≡ y → u ≡ v → report.call_line o x u ≡ report.call_line r y v
lines o r x y u v e f g = cc

-- two calls of modules by one list of words are one
same_calls : (words : List (List ℕ)) (files : Files) (m n : Module) (i j : List ℕ) (a b : ℕ) → CallsModule words (Some files) m i a → CallsModule words (Some files) n j b → (m ≡ n) × (i ≡ j) × (a ≡ b)
same_calls words files m n i j a b p q =
    let same = same_bytes words files (call p.file i a) (call q.file j b) p.bytes q.bytes p.reads q.reads in
    let values = same_call p.file q.file i j a b same.0 in
    let moved = subst (IsAccepted n) (sym same.1) q.accepted in
    (one_module m n p.bytes p.accepted.decodes.0.1 moved.decodes.0.1, values.1, values.2)

run_once : (words : List (List ℕ)) (files : Files) (s t : ℕ) (l m : List ℕ) → IsRun words (Some files) s l → IsRun words (Some files) t m → (s ≡ t) × (l ≡ m)
run_once words files s t l m p q =
    let same = same_calls words files p.code q.code p.input q.input p.fuel q.fuel p.calls q.calls in
    let again = subst (λ c. Runs (call_function c p.fuel) p.input told_nothing q.outcome q.output q.used) (sym same.0)
    (subst (λ n. Runs (call_function q.code n) p.input told_nothing q.outcome q.output q.used) (sym same.2)
    (subst (λ i. Runs (call_function q.code q.fuel) i told_nothing q.outcome q.output q.used) (sym same.1) q.runs)) in
    let ends = one_run (call_function p.code p.fuel) p.input told_nothing told_nothing p.outcome q.outcome p.output q.output p.used q.used p.no_want q.no_want (λ ch. refl) p.runs again in
    (p.is_status ∙ ap status_of ends.0 ∙ sym q.is_status, p.is_line ∙ lines p.outcome q.outcome p.output q.output p.used q.used ends.0 ends.1 ends.2 ∙ sym q.is_line)

unfit_once : (words : List (List ℕ)) (files : Files) (l m : List ℕ) → IsUnfitCall words (Some files) l → IsUnfitCall words (Some files) m → l ≡ m
unfit_once words files l m p q =
    let same = same_calls words files p.code q.code p.input q.input p.fuel q.fuel p.calls q.calls in
    p.is_line ∙ ap unfit_line (one_reason p.code p.why q.why p.unfit (subst (IsUnfit q.why) (sym same.0) q.unfit)) ∙ sym q.is_line

-- a module that a function may have is not unfit
ran_unfit : (words : List (List ℕ)) (files : Files) (s : ℕ) (l m : List ℕ) → IsRun words (Some files) s l → IsUnfitCall words (Some files) m → ⊥
ran_unfit words files s l m p q =
    let same = same_calls words files p.code q.code p.input q.input p.fuel q.fuel p.calls q.calls in
    not_unfit q.code q.why (subst Runnable same.0 p.runnable) q.unfit

-- bytes of one reading are accepted, and those of another refused
split : (words : List (List ℕ)) (files : Files) (c : Command) (bytes line : List ℕ) (m : Module) → Reads words (Some files) c bytes → IsAccepted m bytes → IsRefused words (Some files) line → ⊥
split words files c bytes line m reads accepted q =
    let same = same_bytes words files c q.command bytes q.bytes reads q.reads in
    not_refused q.bytes line m (subst (λ b. IsAccepted m b) same.1 accepted) q.refusal

-- a command with a file of a module has a first file
first_named : (c : Command) (file : List ℕ) → file_of c ≡ Some file → first_file_of c ≡ None → ⊥
first_named c file e f = by c e f
  where
    by : (d : Command) → file_of d ≡ Some file → first_file_of d ≡ None → ⊥
    by (check g) e f = absurd cc
    by (call g i n) e f = absurd cc
    by (trace g n) e f = absurd cc
    by d e f = absurd cc

-- a command that reads a file is built
built : (words : List (List ℕ)) (told : Option Files) (c : Command) (bytes : List ℕ) → Reads words told c bytes → IsLater words → ⊥
built words told c bytes reads q =
    let same = one_command words c q.command reads.is_command q.is_command in
    first_named c reads.file reads.is_named (ap first_file_of same ∙ q.no_file)

-- `check` is no `call`
apart : {A : Type 0} (words : List (List ℕ)) (told : Option Files) (f g i a b : List ℕ) (n : ℕ) → Reads words told (check f) a → Reads words told (call g i n) b → A
apart words told f g i a b n p q = check_call f g i n (one_command words (check f) (call g i n) p.is_command q.is_command)

-- a module that `call` reads is not refused, and is no file of `check`
call_split : (words : List (List ℕ)) (files : Files) (m : Module) (input line : List ℕ) (fuel : ℕ) → CallsModule words (Some files) m input fuel → IsRefused words (Some files) line → ⊥
call_split words files m input line fuel p q = split words files (call p.file input fuel) p.bytes line m p.reads p.accepted q

call_built : (words : List (List ℕ)) (told : Option Files) (m : Module) (input : List ℕ) (fuel : ℕ) → CallsModule words told m input fuel → IsLater words → ⊥
call_built words told m input fuel p q = built words told (call p.file input fuel) p.bytes p.reads q

call_apart : {A : Type 0} (words : List (List ℕ)) (told : Option Files) (m : Module) (input : List ℕ) (fuel : ℕ) → IsValid words told → CallsModule words told m input fuel → A
call_apart words told m input fuel p q = apart words told p.file q.file input p.bytes q.bytes fuel p.reads q.reads

call_words : (words : List (List ℕ)) (told : Option Files) (m : Module) (input : List ℕ) (fuel : ℕ) → NoSpelling CommandOf words → CallsModule words told m input fuel → ⊥
call_words words told m input fuel none p = none.none (call p.file input fuel) p.reads.is_command

-- ---- `trace` reads no file of a module, is built, and has one text

module _ (words : List (List ℕ)) (file : List ℕ) (seed : ℕ) (is : CommandOf (trace file seed) words) where
  trace_reads : (told : Option Files) (c : Command) (bytes : List ℕ) → Reads words told c bytes → ⊥
  trace_reads told c bytes q =
      let named : file_of (trace file seed) ≡ Some q.file = ap file_of (one_command words (trace file seed) c is q.is_command) ∙ q.is_named in
      absurd cc

  trace_later : IsLater words → ⊥
  trace_later q =
      let named : first_file_of (trace file seed) ≡ None = ap first_file_of (one_command words (trace file seed) q.command is q.is_command) ∙ q.no_file in
      absurd cc

same_trace : (f g : List ℕ) (m n : ℕ) → trace f m ≡ trace g n → (f ≡ g) × (m ≡ n)
same_trace f g m n e = (cc, cc)

-- what comes of one session
same_answer : (words : List (List ℕ)) (files : Files) (f g : List ℕ) (m n : ℕ) (a b : Option (List ℕ)) → CommandOf (trace f m) words → CommandOf (trace g n) words → SessionComes (Some files) f a → SessionComes (Some files) g b → a ≡ b
same_answer words files f g m n a b p q comes other =
    let file = same_trace f g m n (one_command words (trace f m) (trace g n) p q) in
    one_session files g a b (subst (λ h. SessionComes (Some files) h a) file.0 comes) other

session_refused_once : (words : List (List ℕ)) (files : Files) (l m : List ℕ) → IsSessionRefused words (Some files) l → IsSessionRefused words (Some files) m → l ≡ m
session_refused_once words files l m p q =
    let same = same_answer words files p.file q.file p.seed q.seed (Some l) (Some m) p.is_command q.is_command p.comes q.comes in
    cc

traced_refused : (words : List (List ℕ)) (files : Files) (s : ℕ) (l m : List ℕ) → IsTraced words (Some files) s l → IsSessionRefused words (Some files) m → ⊥
traced_refused words files s l m p q =
    let same = same_answer words files p.names.file q.file p.seed q.seed None (Some m) p.names.is_command q.is_command p.names.session.comes q.comes in
    absurd cc

traced_once : (words : List (List ℕ)) (files : Files) (s t : ℕ) (l m : List ℕ) → IsTraced words (Some files) s l → IsTraced words (Some files) t m → (s ≡ t) × (l ≡ m)
traced_once words files s t l m p q =
    let named = same_trace p.names.file q.names.file p.seed q.seed (one_command words (trace p.names.file p.seed) (trace q.names.file q.seed) p.names.is_command q.names.is_command) in
    let draft = one_whole files q.names.file p.draft q.draft (subst (λ f. IsWholeSession (Some files) f p.draft) named.0 p.names.session) q.names.session in
    one_trace q.draft q.seed s t l m (subst (λ d. TracesTo d q.seed s l) draft (subst (λ n. TracesTo p.draft n s l) named.1 p.traces)) q.traces

refused_once : (words : List (List ℕ)) (files : Files) (l m : List ℕ) → IsRefused words (Some files) l → IsRefused words (Some files) m → l ≡ m
refused_once words files l m p q =
    let same = same_bytes words files p.command q.command p.bytes q.bytes p.reads q.reads in
    one_refusal q.bytes l m (subst (λ b. IsRefusal b l) same.1 p.refusal) q.refusal

pub one_line : (words : List (List ℕ)) (files : Files) (before after s t : ℕ) (l m : List ℕ) → (Rose before after → ⊥) → IsDue words (Some files) before after s l → IsDue words (Some files) before after t m
    → (s ≡ t) × (l ≡ m)
one_line words files before after s t l m calm (read_fault p a b) q = absurd (calm p.rose)
one_line words files before after s t l m calm p (read_fault q c d) = absurd (calm q.rose)
one_line words files before after s t l m calm (valid p a b) (valid q c d) = (a ∙ sym c, b ∙ sym d)
one_line words files before after s t l m calm (valid p a b) (ran q) = call_apart words (Some files) q.code q.input q.fuel p q.calls
one_line words files before after s t l m calm (valid p a b) (usage q c d) = absurd (q.none (check p.file) p.reads.is_command)
one_line words files before after s t l m calm (valid p a b) (refused q c) = absurd (split words files (check p.file) p.bytes m p.code p.reads p.accepted q)
one_line words files before after s t l m calm (valid p a b) (later q c d) = absurd (built words (Some files) (check p.file) p.bytes p.reads q)
one_line words files before after s t l m calm (valid p a b) (unfit q c) = call_apart words (Some files) q.code q.input q.fuel p q.calls
one_line words files before after s t l m calm (ran p) (valid q c d) = call_apart words (Some files) p.code p.input p.fuel q p.calls
one_line words files before after s t l m calm (ran p) (ran q) = run_once words files s t l m p q
one_line words files before after s t l m calm (ran p) (usage q c d) = absurd (call_words words (Some files) p.code p.input p.fuel q p.calls)
one_line words files before after s t l m calm (ran p) (refused q c) = absurd (call_split words files p.code p.input m p.fuel p.calls q)
one_line words files before after s t l m calm (ran p) (later q c d) = absurd (call_built words (Some files) p.code p.input p.fuel p.calls q)
one_line words files before after s t l m calm (ran p) (unfit q c) = absurd (ran_unfit words files s l m p q)
one_line words files before after s t l m calm (usage p a b) (valid q c d) = absurd (p.none (check q.file) q.reads.is_command)
one_line words files before after s t l m calm (usage p a b) (ran q) = absurd (call_words words (Some files) q.code q.input q.fuel p q.calls)
one_line words files before after s t l m calm (usage p a b) (usage q c d) = (a ∙ sym c, b ∙ sym d)
one_line words files before after s t l m calm (usage p a b) (refused q c) = absurd (p.none q.command q.reads.is_command)
one_line words files before after s t l m calm (usage p a b) (later q c d) = absurd (p.none q.command q.is_command)
one_line words files before after s t l m calm (usage p a b) (unfit q c) = absurd (call_words words (Some files) q.code q.input q.fuel p q.calls)
one_line words files before after s t l m calm (refused p a) (valid q c d) = absurd (split words files (check q.file) q.bytes l q.code q.reads q.accepted p)
one_line words files before after s t l m calm (refused p a) (ran q) = absurd (call_split words files q.code q.input l q.fuel q.calls p)
one_line words files before after s t l m calm (refused p a) (usage q c d) = absurd (q.none p.command p.reads.is_command)
one_line words files before after s t l m calm (refused p a) (refused q c) = (a ∙ sym c, refused_once words files l m p q)
one_line words files before after s t l m calm (refused p a) (later q c d) = absurd (built words (Some files) p.command p.bytes p.reads q)
one_line words files before after s t l m calm (refused p a) (unfit q c) = absurd (call_split words files q.code q.input l q.fuel q.calls p)
one_line words files before after s t l m calm (later p a b) (valid q c d) = absurd (built words (Some files) (check q.file) q.bytes q.reads p)
one_line words files before after s t l m calm (later p a b) (ran q) = absurd (call_built words (Some files) q.code q.input q.fuel q.calls p)
one_line words files before after s t l m calm (later p a b) (usage q c d) = absurd (q.none p.command p.is_command)
one_line words files before after s t l m calm (later p a b) (refused q c) = absurd (built words (Some files) q.command q.bytes q.reads p)
one_line words files before after s t l m calm (later p a b) (later q c d) = (a ∙ sym c, b ∙ sym d)
one_line words files before after s t l m calm (later p a b) (unfit q c) = absurd (call_built words (Some files) q.code q.input q.fuel q.calls p)
one_line words files before after s t l m calm (unfit p a) (valid q c d) = call_apart words (Some files) p.code p.input p.fuel q p.calls
one_line words files before after s t l m calm (unfit p a) (ran q) = absurd (ran_unfit words files t m l q p)
one_line words files before after s t l m calm (unfit p a) (usage q c d) = absurd (call_words words (Some files) p.code p.input p.fuel q p.calls)
one_line words files before after s t l m calm (unfit p a) (refused q c) = absurd (call_split words files p.code p.input m p.fuel p.calls q)
one_line words files before after s t l m calm (unfit p a) (later q c d) = absurd (call_built words (Some files) p.code p.input p.fuel p.calls q)
one_line words files before after s t l m calm (unfit p a) (unfit q c) = (a ∙ sym c, unfit_once words files l m p q)
one_line words files before after s t l m calm (valid p a b) (session_refused q c) = absurd (trace_reads words q.file q.seed q.is_command (Some files) (check p.file) p.bytes p.reads)
one_line words files before after s t l m calm (session_refused p a) (valid q c d) = absurd (trace_reads words p.file p.seed p.is_command (Some files) (check q.file) q.bytes q.reads)
one_line words files before after s t l m calm (ran p) (session_refused q c) = absurd (trace_reads words q.file q.seed q.is_command (Some files) (call p.calls.file p.input p.fuel) p.calls.bytes p.calls.reads)
one_line words files before after s t l m calm (session_refused p a) (ran q) = absurd (trace_reads words p.file p.seed p.is_command (Some files) (call q.calls.file q.input q.fuel) q.calls.bytes q.calls.reads)
one_line words files before after s t l m calm (usage p a b) (session_refused q c) = absurd (p.none (trace q.file q.seed) q.is_command)
one_line words files before after s t l m calm (session_refused p a) (usage q c d) = absurd (q.none (trace p.file p.seed) p.is_command)
one_line words files before after s t l m calm (refused p a) (session_refused q c) = absurd (trace_reads words q.file q.seed q.is_command (Some files) p.command p.bytes p.reads)
one_line words files before after s t l m calm (session_refused p a) (refused q c) = absurd (trace_reads words p.file p.seed p.is_command (Some files) q.command q.bytes q.reads)
one_line words files before after s t l m calm (later p a b) (session_refused q c) = absurd (trace_later words q.file q.seed q.is_command p)
one_line words files before after s t l m calm (session_refused p a) (later q c d) = absurd (trace_later words p.file p.seed p.is_command q)
one_line words files before after s t l m calm (unfit p a) (session_refused q c) = absurd (trace_reads words q.file q.seed q.is_command (Some files) (call p.calls.file p.input p.fuel) p.calls.bytes p.calls.reads)
one_line words files before after s t l m calm (session_refused p a) (unfit q c) = absurd (trace_reads words p.file p.seed p.is_command (Some files) (call q.calls.file q.input q.fuel) q.calls.bytes q.calls.reads)
one_line words files before after s t l m calm (valid p a b) (traced q) = absurd (trace_reads words q.names.file q.seed q.names.is_command (Some files) (check p.file) p.bytes p.reads)
one_line words files before after s t l m calm (traced p) (valid q c d) = absurd (trace_reads words p.names.file p.seed p.names.is_command (Some files) (check q.file) q.bytes q.reads)
one_line words files before after s t l m calm (ran p) (traced q) = absurd (trace_reads words q.names.file q.seed q.names.is_command (Some files) (call p.calls.file p.input p.fuel) p.calls.bytes p.calls.reads)
one_line words files before after s t l m calm (traced p) (ran q) = absurd (trace_reads words p.names.file p.seed p.names.is_command (Some files) (call q.calls.file q.input q.fuel) q.calls.bytes q.calls.reads)
one_line words files before after s t l m calm (usage p a b) (traced q) = absurd (p.none (trace q.names.file q.seed) q.names.is_command)
one_line words files before after s t l m calm (traced p) (usage q c d) = absurd (q.none (trace p.names.file p.seed) p.names.is_command)
one_line words files before after s t l m calm (refused p a) (traced q) = absurd (trace_reads words q.names.file q.seed q.names.is_command (Some files) p.command p.bytes p.reads)
one_line words files before after s t l m calm (traced p) (refused q c) = absurd (trace_reads words p.names.file p.seed p.names.is_command (Some files) q.command q.bytes q.reads)
one_line words files before after s t l m calm (later p a b) (traced q) = absurd (trace_later words q.names.file q.seed q.names.is_command p)
one_line words files before after s t l m calm (traced p) (later q c d) = absurd (trace_later words p.names.file p.seed p.names.is_command q)
one_line words files before after s t l m calm (unfit p a) (traced q) = absurd (trace_reads words q.names.file q.seed q.names.is_command (Some files) (call p.calls.file p.input p.fuel) p.calls.bytes p.calls.reads)
one_line words files before after s t l m calm (traced p) (unfit q c) = absurd (trace_reads words p.names.file p.seed p.names.is_command (Some files) (call q.calls.file q.input q.fuel) q.calls.bytes q.calls.reads)
one_line words files before after s t l m calm (session_refused p a) (session_refused q c) = (a ∙ sym c, session_refused_once words files l m p q)
one_line words files before after s t l m calm (traced p) (traced q) = traced_once words files s t l m p q
one_line words files before after s t l m calm (traced p) (session_refused q c) = absurd (traced_refused words files s l m p q)
one_line words files before after s t l m calm (session_refused p a) (traced q) = absurd (traced_refused words files t m l q p)
