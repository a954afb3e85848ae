-- What comes of a session, of what its parts ensure.
use Rattle.std.proofs.Common.{◌≡◌, ℕ, zero, suc, ◌+◌, ◌<◌, ◌≤◌, Bool, List, [], ◌∷◌, ◌++◌, length, map, drop, get_or, Option, Some, None, Result, Ok, Err, String, Global, string_bytes, refl, sym, ap, subst, ◌∙◌, arith, add-one, length-append, inl, inr}
use Rattle.std.specs.Prelude.{slice_get, IfSome, IfOk, IfErr, IsErrAnd, OnOk, OnErr, unwrap_or}
use Rattle.fa_outside.specs.declared.fault.ReadFault.{ReadFault}
use Rattle.fa_outside.specs.declared.fault.ReadFault.TheVariants as read_faults
use Rattle.fa_outside.specs.Faults.{Rose}
use Rattle.fa_outside.specs.Files.{Files, IsFile}
use Rattle.faaslet_meaning.specs.declared.module.Module.{Module}
use Rattle.faaslet_meaning.specs.Report as report
use Rattle.faaslet_meaning.specs.Words.{trace, CommandOf}
use Rattle.grant_registry.specs.Shows.{ShowsFunction}
use Rattle.grant_registry.specs.declared.shown.FunctionPlan.{FunctionPlan}
use Rattle.session_meaning.specs.declared.fault.Kind.TheVariants.{Long}
use Rattle.session_meaning.specs.declared.fault.SessionList.TheVariants.{Session}
use Rattle.session_meaning.specs.Draft.{Draft, DraftFunction, with_module}
use Rattle.session_meaning.specs.RefusalLines.{refused_line}
use Rattle.session_meaning.specs.SessionFile.{Planned, PlanOf, Refused, too_many_bytes}
use Rattle.session_meaning.specs.SessionFile as file
use Rattle.session_meaning.specs.WellFormed.{function_names}
use Rattle.session_meaning.proofs.Entries.{map-changed}
use Rattle.faasm_top.specs.declared.due.Due.{Due}
use Rattle.faasm_top.specs.declared.words.Command as commands
use Rattle.faasm_top.specs.declared.words.Command.TheVariants.{Trace}
use Rattle.faasm_top.specs.Answers.{IsDue, session_refused, read_fault}
use Rattle.faasm_top.specs.Commands.{texts, command_of}
use Rattle.faasm_top.specs.Dues.{DueSo}
use Rattle.faasm_top.specs.ModuleFiles.{too_long, refused}
use Rattle.faasm_top.specs.declared.stop.Stop.{Stop}
use Rattle.faasm_top.specs.declared.stop.Stop.TheVariants as stops
use Rattle.faasm_top.specs.Sessions.{GetModules, GivesFile, IsFunctionLine, TakesFile, RefusesFile, unusable, ModulesCome, RefusesSession, SessionComes, StopsBy}

-- ---- counts of faults

pub rose_later : (a b c : ℕ) → a ≤ b → Rose b c → Rose a c
rose_later a b c less (inl rose) = inl (omega arith)
rose_later a b c less (inr end) = inr end

-- ---- how a reading ended

pub ok_calm : {A : Type 0} (r : Result A ReadFault) (a : A) → r ≡ Ok a → r ≡ Err read_faults.Failed → ⊥
ok_calm r a e f = absurd cc

pub long_calm : {A : Type 0} (r : Result A ReadFault) (e : ReadFault) → r ≡ Err e → e ≡ read_faults.TooLong → r ≡ Err read_faults.Failed → ⊥
long_calm r e is long f = absurd cc

pub is_long : {A : Type 0} (r : Result A ReadFault) (e : ReadFault) → r ≡ Err e → e ≡ read_faults.TooLong → r ≡ Err read_faults.TooLong
is_long r e is long = cc

-- an error that is handed on
pub handed_on : {A : Type 0} (r : Result A Stop) (e : Stop) (P : Stop → Type 0) → IsErrAnd r (λ f. f ≡ e) → P e → IfErr r P
handed_on (Ok a) e P is p = tt
handed_on (Err f) e P is p = subst P (sym is) p

-- a refusal that leads to another, with faults counted from an earlier time on
pub stops_later : (s : Stop) (a b c : ℕ) (is_open : Bool) (P Q : List ℕ → Type 0) → a ≤ b → ((line : List ℕ) → P line → Q line) → StopsBy s b c is_open P → StopsBy s a c is_open Q
stops_later (stops.Refused line) a b c is_open P Q less leads h = (h.0, leads (string_bytes line) h.1)
stops_later stops.Unreadable a b c is_open P Q less leads h = (rose_later a b c less h.0, h.1)
stops_later stops.Want a b c is_open P Q less leads h = tt

-- ---- names of functions

pub names_kept : (d : Draft) (f : ℕ) (m : Module) → function_names (with_module d f m) ≡ function_names d
names_kept d f m = map-changed (λ g. record g { code = Some m }) (λ g. g.name) (λ g. refl) d.functions f

pub names_after : {A B : Type 0} (d e : Draft) (f : ℕ) (m : Module) (r : Result A B) → OnOk r (e ≡ with_module d f m) → OnErr r (e ≡ d) → function_names e ≡ function_names d
names_after d e f m (Ok a) ok err = ap function_names ok ∙ names_kept d f m
names_after d e f m (Err b) ok err = ap function_names err

pub name_at : (fs : List DraftFunction) (k : ℕ) (p : FunctionPlan) → k < length fs → IfSome (slice_get fs k) (λ g. ShowsFunction g p) → slice_get (map (λ g. g.name) fs) k ≡ Some p.name.now
name_at [] k p less shown = absurd (omega arith)
name_at (f ∷ fs) zero p less shown = ap (λ n. Some n) (sym shown.name)
name_at (f ∷ fs) (suc k) p less shown = name_at fs k p (omega (arith, less)) shown

-- the same line, by other names for its parts
pub same_line : (a b : List (List ℕ)) (place : ℕ) (x y line : List ℕ) → a ≡ b → x ≡ y → IsFunctionLine a place x line → IsFunctionLine b place y line
same_line a b place x y line names text h = subst (λ n. IsFunctionLine n place y line) names (subst (λ t. IsFunctionLine a place t line) text h)

-- ---- files that are too long

long_length : (read rest : List ℕ) (limit : ℕ) → length read ≡ limit + 1 → limit < length (read ++ rest)
long_length read rest limit e = omega (arith, e, length-append read rest)

pub long_file : (told : Option Files) (names : List (List ℕ)) (place before : ℕ) (path read rest line : List ℕ) → length read ≡ 4194304 + 1 → IsFile told path (read ++ rest) → IsFunctionLine names place report.too_long line → RefusesFile told names place before path line
long_file told names place before path read rest line many holds named =
    let long = long_length read rest 4194304 many in
    record {
      bytes = read ++ rest;
      is_file = holds;
      refuses = unusable (λ o. (let few = o.few in omega (arith, long, few))) report.too_long (refused (too_long long refl)) named;
    }

pub long_session : (told : Option Files) (path read rest line : List ℕ) → length read ≡ 8388608 + 1 → IsFile told path (read ++ rest) → line ≡ refused_line (file.refused Long Session 0) → RefusesSession told path line
long_session told path read rest line many holds is =
    record {
      why = file.refused Long Session 0;
      is_session = record { bytes = read ++ rest; is_file = holds; plan_of = too_many_bytes (long_length read rest 8388608 many) };
      is_line = is;
    }

-- ---- one module after another

pub text_at : (ps : List (String Global)) (i : ℕ) (p : String Global) → i < length ps → p ≡ get_or ps i p → drop i (texts ps) ≡ string_bytes p ∷ drop (suc i) (texts ps)
text_at [] i p less e = absurd (omega arith)
text_at (q ∷ ps) zero p less e = ap (λ s. string_bytes s ∷ texts ps) (sym e)
text_at (q ∷ ps) (suc i) p less e = text_at ps i p (omega (arith, less)) e

-- what comes of the modules from a place on comes of all
abbrev pub SoFar : Option Files → List (List ℕ) → List (List ℕ) → ℕ → ℕ → Type 0
SoFar told names paths place before = (answer : Option (List ℕ)) → ModulesCome told names place before (drop place paths) answer → ModulesCome told names 0 0 paths answer

pub next_module : (told : Option Files) (names : List (List ℕ)) (ps : List (String Global)) (place before count : ℕ) (p : String Global) → place < length ps → p ≡ get_or ps place p → SoFar told names (texts ps) place before → TakesFile told before (string_bytes p) count → SoFar told names (texts ps) (place + 1) (before + count)
next_module told names ps place before count p less is so_far takes = λ answer rest.
    so_far answer (subst (λ t. ModulesCome told names place before t answer) (sym (text_at ps place p less is)) (inr (count, takes, subst (λ k. ModulesCome told names (place + 1) (before + count) (drop k (texts ps)) answer) (add-one place) rest)))

pub refused_module : (told : Option Files) (names : List (List ℕ)) (ps : List (String Global)) (place before : ℕ) (p : String Global) (line : List ℕ) → place < length ps → p ≡ get_or ps place p → SoFar told names (texts ps) place before → RefusesFile told names place before (string_bytes p) line → ModulesCome told names 0 0 (texts ps) (Some line)
refused_module told names ps place before p line less is so_far refuses =
    so_far (Some line) (subst (λ t. ModulesCome told names place before t (Some line)) (sym (text_at ps place p less is)) (inl (line, refuses, refl)))

behind : (xs : List (List ℕ)) (i : ℕ) → length xs ≤ i → drop i xs ≡ []
behind [] zero most = refl
behind [] (suc i) most = refl
behind (x ∷ xs) zero most = absurd (omega arith)
behind (x ∷ xs) (suc i) most = behind xs i (omega (arith, most))

pub all_modules : (told : Option Files) (names paths : List (List ℕ)) (place before : ℕ) → length paths ≤ place → SoFar told names paths place before → ModulesCome told names 0 0 paths None
all_modules told names paths place before most so_far = so_far None (subst (λ t. ModulesCome told names place before t None) (sym (behind paths place most)) refl)

-- ---- the same by other names: of the shelf's files, of functions, of a path or paths

pub moved_refusal : (t u : Option Files) (m n : List (List ℕ)) (place before : ℕ) (p q line : List ℕ) → t ≡ u → m ≡ n → p ≡ q → RefusesFile t m place before p line → RefusesFile u n place before q line
moved_refusal t u m n place before p q line told names path h =
    subst (λ x. RefusesFile x n place before q line) told (subst (λ x. RefusesFile t x place before q line) names (subst (λ x. RefusesFile t m place before x line) path h))

pub moved_taken : (t u : Option Files) (before count : ℕ) (p q : List ℕ) → t ≡ u → p ≡ q → TakesFile t before p count → TakesFile u before q count
moved_taken t u before count p q told path h = subst (λ x. TakesFile x before q count) told (subst (λ x. TakesFile t before x count) path h)

pub moved_given : (t u : Option Files) (place : ℕ) (old new : Draft) (p q : List ℕ) → t ≡ u → p ≡ q → GivesFile t p place old new → GivesFile u q place old new
moved_given t u place old new p q told path h = subst (λ x. GivesFile x q place old new) told (subst (λ x. GivesFile t x place old new) path h)

pub moved_gets : (t u : Option Files) (p q : List (List ℕ)) (fs gs : List DraftFunction) → t ≡ u → p ≡ q → GetModules t p fs gs → GetModules u q fs gs
moved_gets t u p q fs gs told paths h = subst (λ x. GetModules x q fs gs) told (subst (λ x. GetModules t x fs gs) paths h)

pub moved_modules : (t u : Option Files) (names p q : List (List ℕ)) (answer : Option (List ℕ)) → t ≡ u → p ≡ q → ModulesCome t names 0 0 p answer → ModulesCome u names 0 0 q answer
moved_modules t u names p q answer told paths h = subst (λ x. ModulesCome x names 0 0 q answer) told (subst (λ x. ModulesCome t names 0 0 x answer) paths h)

-- ---- what is due

-- the same text and status are due, however they are spelled
pub same_due : (words : List (List ℕ)) (told : Option Files) (before after s t : ℕ) (l m : List ℕ) → s ≡ t → l ≡ m → IsDue words told before after t m → IsDue words told before after s l
same_due words told before after s t l m status text due = subst (λ n. IsDue words told before after n l) (sym status) (subst (λ x. IsDue words told before after t x) (sym text) due)

pub refused_due : (path : List ℕ) (told : Option Files) (before after : ℕ) (line : List ℕ) → SessionComes told path (Some line) → (words : List (List ℕ)) (seed : ℕ) → CommandOf (trace path seed) words → IsDue words told before after 3 line
refused_due path told before after line comes words seed command = session_refused (record { file = path; seed = seed; is_command = command; comes = comes }) refl

pub fault_due : (path : List ℕ) (told : Option Files) (before after : ℕ) → Rose before after → (words : List (List ℕ)) (seed : ℕ) → CommandOf (trace path seed) words → IsDue words told before after 4 report.read_fault
fault_due path told before after rose words seed command =
    read_fault (record { reads = record { command = trace path seed; is_command = command; file = path; is_named = refl }; rose = rose }) refl refl

pub command_due : {E : Type 0} (c : commands.Command) (f : _) (n : ℕ) (told : Option Files) (before after : ℕ) (r : Result Due E) → c ≡ Trace f n → IfOk r (λ d. (words : List (List ℕ)) → CommandOf (trace f.now n) words → DueSo words told before after d)
    → IfOk r (λ d. (words : List (List ℕ)) → CommandOf (command_of c) words → DueSo words told before after d)
command_due c f n told before after (Ok x) is due = λ words command. due words (subst (λ d. CommandOf (command_of d) words) is command)
command_due c f n told before after (Err e) is due = tt
