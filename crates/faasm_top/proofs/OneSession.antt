-- The bytes of a file, and a session, have one line.
use Rattle.std.proofs.Common.{◌≡◌, ℕ, ◌+◌, ◌<◌, List, [], ◌∷◌, length, Option, Some, Ok, Err, refl, sym, ap, ap₂, subst, ◌∙◌, arith, ◌⊎◌, inl, inr}
use Rattle.std.specs.Prelude.{slice_get}
use Rattle.fa_outside.specs.Files.{Files, file_named}
use Rattle.faaslet_meaning.specs.declared.module.Module.{Module}
use Rattle.faaslet_meaning.specs.Decoding.{Decoded, DecodesTo}
use Rattle.faaslet_meaning.specs.Decoding as decoding
use Rattle.faaslet_meaning.specs.Report as report
use Rattle.faaslet_meaning.specs.Runnable.{Runnable, IsUnfit}
use Rattle.faaslet_meaning.specs.Valid.{RulesHold, FirstUntyped}
use Rattle.faaslet_meaning.proofs.OneAnswer.{one_answer}
use Rattle.faaslet_meaning.proofs.OneModule.{one_module}
use Rattle.session_meaning.specs.Draft.{Draft, DraftFunction}
use Rattle.session_meaning.specs.RefusalLines.{refused_line, function_line}
use Rattle.session_meaning.specs.SessionFile.{Answer, Planned, PlanOf, Refused}
use Rattle.session_meaning.specs.WellFormed.{function_names}
use Rattle.session_meaning.proofs.FilePlans as plans
use Rattle.faasm_top.specs.ModuleFiles.{IsAccepted, IsRefusal, too_long, malformed, float, limit, invalid, untyped, IsUsable, IsUnusable, refused, unfit}
use Rattle.faasm_top.specs.Refusals.{unfit_line}
use Rattle.faasm_top.specs.Sessions as session
use Rattle.faasm_top.specs.Sessions.{IsOver, IsFunctionLine, TakesFile, RefusesBytes, over, unusable, RefusesFile, GetsModule, GetModules, IsWholeSession, ModulesCome, IsSession, RefusesSession, SessionComes, planned}
use Rattle.faasm_top.proofs.Unfits.{one_reason, not_unfit}

-- ---- the bytes of a file

-- what `decode` says of bytes that are refused
abbrev Why : Decoded → List ℕ → Type 0
Why decoding.too_long line = line ≡ report.too_long
Why decoding.malformed line = line ≡ report.malformed
Why decoding.float line = line ≡ report.float
Why (decoding.limit l) line = line ≡ report.limit l
Why (decoding.accepted m) line = ((RulesHold m → ⊥) × (line ≡ report.invalid_module)) ⊎ ((k : ℕ) × FirstUntyped m k × (line ≡ report.invalid_function k))

record IsWhy (bytes line : List ℕ) : Type 0 where
  decoded : Decoded
  decodes : DecodesTo decoded bytes
  why : Why decoded line

why_of : (bytes line : List ℕ) → IsRefusal bytes line → IsWhy bytes line
why_of bytes line (too_long d e) = record { decoded = decoding.too_long; decodes = d; why = e }
why_of bytes line (malformed d e) = record { decoded = decoding.malformed; decodes = d; why = e }
why_of bytes line (float d e) = record { decoded = decoding.float; decodes = d; why = e }
why_of bytes line (limit l d e) = record { decoded = decoding.limit l; decodes = d; why = e }
why_of bytes line (invalid m d r e) = record { decoded = decoding.accepted m; decodes = d; why = inl (r, e) }
why_of bytes line (untyped m k d f e) = record { decoded = decoding.accepted m; decodes = d; why = inr (k, f, e) }

-- a module has one first untyped body
one_first : (m : Module) (j k : ℕ) → FirstUntyped m j → FirstUntyped m k → j ≡ k
one_first m j k p q =
    let not_below : j < k → ⊥ = λ less. p.untyped (q.before j less) in
    let not_above : k < j → ⊥ = λ less. q.untyped (p.before k less) in
    omega (arith, not_below, not_above)

one_why : (d : Decoded) (l m : List ℕ) → Why d l → Why d m → l ≡ m
one_why decoding.too_long l m p q = p ∙ sym q
one_why decoding.malformed l m p q = p ∙ sym q
one_why decoding.float l m p q = p ∙ sym q
one_why (decoding.limit k) l m p q = p ∙ sym q
one_why (decoding.accepted c) l m (inl p) (inl q) = p.1 ∙ sym q.1
one_why (decoding.accepted c) l m (inl p) (inr (k, f, e)) = absurd (p.0 f.rules)
one_why (decoding.accepted c) l m (inr (k, f, e)) (inl q) = absurd (q.0 f.rules)
one_why (decoding.accepted c) l m (inr (j, f, e)) (inr (k, g, h)) = e ∙ ap report.invalid_function (one_first c j k f g) ∙ sym h

pub one_refusal : (bytes l m : List ℕ) → IsRefusal bytes l → IsRefusal bytes m → l ≡ m
one_refusal bytes l m p q =
    let a = why_of bytes l p in
    let b = why_of bytes m q in
    one_why b.decoded l m (subst (λ d. Why d l) (one_answer a.decoded b.decoded bytes a.decodes b.decodes) a.why) b.why

-- a file that is accepted is not refused
pub not_refused : (bytes line : List ℕ) (m : Module) → IsAccepted m bytes → IsRefusal bytes line → ⊥
not_refused bytes line m p q =
    let w = why_of bytes line q in
    by (subst (λ d. Why d line) (one_answer w.decoded (decoding.accepted m) bytes w.decodes p.decodes) w.why)
  where
    by : Why (decoding.accepted m) line → ⊥
    by (inl r) = r.0 p.valid.rules
    by (inr (k, f, e)) = f.untyped (p.valid.bodies_typed k)

-- ---- which module a function may have

same_module : (m n : Module) (bytes : List ℕ) → IsAccepted m bytes → IsAccepted n bytes → m ≡ n
same_module m n bytes p q = one_module m n bytes p.decodes.0.1 q.decodes.0.1

not_unusable : (bytes line : List ℕ) → IsUsable bytes → IsUnusable bytes line → ⊥
not_unusable bytes line p (refused q) = not_refused bytes line p.code p.accepted q
not_unusable bytes line p (unfit code accepted why q e) = not_unfit code why (subst Runnable (same_module p.code code bytes p.accepted accepted) p.runnable) q

one_unusable : (bytes l m : List ℕ) → IsUnusable bytes l → IsUnusable bytes m → l ≡ m
one_unusable bytes l m (refused p) (refused q) = one_refusal bytes l m p q
one_unusable bytes l m (refused p) (unfit code accepted why q e) = absurd (not_refused bytes l code accepted p)
one_unusable bytes l m (unfit code accepted why p e) (refused q) = absurd (not_refused bytes m code accepted q)
one_unusable bytes l m (unfit c a v p d) (unfit e b w q f) =
    d ∙ ap unfit_line (one_reason c v w p (subst (IsUnfit w) (sym (same_module c e bytes a b)) q)) ∙ sym f

-- ---- one module of a session

pub same_content : (a b : List ℕ) (o : Option (List ℕ)) → o ≡ Some a → o ≡ Some b → a ≡ b
same_content a b o p q = cc

function_lines : (a b x y : List ℕ) → a ≡ b → x ≡ y → function_line a x ≡ function_line b y
function_lines a b x y e f = cc

one_function_line : (names : List (List ℕ)) (place : ℕ) (x y l m : List ℕ) → x ≡ y → IsFunctionLine names place x l → IsFunctionLine names place y m → l ≡ m
one_function_line names place x y l m same p q =
    p.is_line ∙ function_lines p.name q.name x y (same_content p.name q.name (slice_get names place) p.is_name q.is_name) same ∙ sym q.is_line

one_refused : (names : List (List ℕ)) (place before : ℕ) (bytes l m : List ℕ) → RefusesBytes names place before bytes l → RefusesBytes names place before bytes m → l ≡ m
one_refused names place before bytes l m (over p e) (over q f) = e ∙ sym f
one_refused names place before bytes l m (over p e) (unusable few r q f) = absurd (few p)
one_refused names place before bytes l m (unusable few r p e) (over q f) = absurd (few q)
one_refused names place before bytes l m (unusable few r p e) (unusable less t q f) = one_function_line names place r t l m (one_unusable bytes r t p q) e f

not_taken : (names : List (List ℕ)) (place before : ℕ) (bytes line : List ℕ) → (IsOver before bytes → ⊥) → IsUsable bytes → RefusesBytes names place before bytes line → ⊥
not_taken names place before bytes line few usable (over p e) = few p
not_taken names place before bytes line few usable (unusable less r p e) = not_unusable bytes r usable p

-- two readings of one file
same_file : (files : Files) (path a b : List ℕ) → file_named files path ≡ Some a → file_named files path ≡ Some b → a ≡ b
same_file files path a b p q = same_content a b (file_named files path) p q

one_file : (files : Files) (names : List (List ℕ)) (place before : ℕ) (path l m : List ℕ) → RefusesFile (Some files) names place before path l → RefusesFile (Some files) names place before path m → l ≡ m
one_file files names place before path l m p q =
    one_refused names place before q.bytes l m (subst (λ b. RefusesBytes names place before b l) (same_file files path p.bytes q.bytes p.is_file q.is_file) p.refuses) q.refuses

taken_refused : (files : Files) (names : List (List ℕ)) (place before count : ℕ) (path line : List ℕ) → TakesFile (Some files) before path count → RefusesFile (Some files) names place before path line → ⊥
taken_refused files names place before count path line p q =
    not_taken names place before p.bytes line p.not_over p.usable (subst (λ b. RefusesBytes names place before b line) (sym (same_file files path p.bytes q.bytes p.is_file q.is_file)) q.refuses)

one_count : (files : Files) (before m n : ℕ) (path : List ℕ) → TakesFile (Some files) before path m → TakesFile (Some files) before path n → m ≡ n
one_count files before m n path p q = p.is_count ∙ ap length (same_file files path p.bytes q.bytes p.is_file q.is_file) ∙ sym q.is_count

-- ---- all modules, and a session

one_answer_of : (files : Files) (names : List (List ℕ)) (place before : ℕ) (paths : List (List ℕ)) (a b : Option (List ℕ)) → ModulesCome (Some files) names place before paths a → ModulesCome (Some files) names place before paths b → a ≡ b
one_answer_of files names place before [] a b p q = p ∙ sym q
one_answer_of files names place before (path ∷ paths) a b (inl p) (inl q) = p.2 ∙ ap (λ l. Some l) (one_file files names place before path p.0 q.0 p.1 q.1) ∙ sym q.2
one_answer_of files names place before (path ∷ paths) a b (inl p) (inr q) = absurd (taken_refused files names place before q.0 path p.0 q.1 p.1)
one_answer_of files names place before (path ∷ paths) a b (inr p) (inl q) = absurd (taken_refused files names place before p.0 path q.0 p.1 q.1)
one_answer_of files names place before (path ∷ paths) a b (inr p) (inr q) =
    let same = one_count files before p.0 q.0 path p.1 q.1 in
    one_answer_of files names (place + 1) (before + q.0) paths a b (subst (λ n. ModulesCome (Some files) names (place + 1) (before + n) paths a) same p.2) q.2

same_answer : (files : Files) (file : List ℕ) (a b : Answer Planned) → IsSession (Some files) file a → IsSession (Some files) file b → a ≡ b
same_answer files file a b p q = plans.one_answer q.bytes a b (subst (λ t. PlanOf t a) (same_file files file p.bytes q.bytes p.is_file q.is_file) p.plan_of) q.plan_of

same_ok : (p q : Planned) → (let r : Answer Planned = Ok p in r ≡ Ok q) → p ≡ q
same_ok p q e = cc

same_err : (p q : Refused) → (let r : Answer Planned = Err p in r ≡ Err q) → p ≡ q
same_err p q e = cc

ok_err : {A : Type 0} (p : Planned) (q : Refused) → (let r : Answer Planned = Ok p in r ≡ Err q) → A
ok_err p q e = absurd cc

refused_lines : (p q : Refused) → p ≡ q → refused_line p ≡ refused_line q
refused_lines p q e = ap refused_line e

pub one_session : (files : Files) (file : List ℕ) (a b : Option (List ℕ)) → SessionComes (Some files) file a → SessionComes (Some files) file b → a ≡ b
one_session files file a b (session.refused l p d) (session.refused m q e) =
    let same = same_err p.why q.why (same_answer files file _ _ p.is_session q.is_session) in
    d ∙ ap (λ x. Some x) (p.is_line ∙ refused_lines p.why q.why same ∙ sym q.is_line) ∙ sym e
one_session files file a b (session.refused l p d) (planned plan q e) = ok_err plan p.why (same_answer files file _ _ q p.is_session)
one_session files file a b (planned plan p d) (session.refused m q e) = ok_err plan q.why (same_answer files file _ _ p q.is_session)
one_session files file a b (planned plan p d) (planned other q e) =
    let same = same_ok plan other (same_answer files file _ _ p q) in
    one_answer_of files (function_names other.draft) 0 0 other.paths a b (subst (λ r. ModulesCome (Some files) (function_names r.draft) 0 0 r.paths a) same d) e

-- ---- a session with its modules

one_gets : (files : Files) (path : List ℕ) (f g h : DraftFunction) → GetsModule (Some files) path f g → GetsModule (Some files) path f h → g ≡ h
one_gets files path f g h p q =
    let bytes = same_file files path p.bytes q.bytes p.is_file q.is_file in
    let code = same_module p.code q.code q.bytes (subst (λ b. IsAccepted p.code b) bytes p.accepted) q.accepted in
    p.is_given ∙ ap (λ m. record f { code = Some m }) code ∙ sym q.is_given

one_filling : (files : Files) (ps : List (List ℕ)) (fs gs hs : List DraftFunction) → GetModules (Some files) ps fs gs → GetModules (Some files) ps fs hs → gs ≡ hs
one_filling files [] [] [] [] p q = refl
one_filling files (path ∷ ps) (f ∷ fs) (g ∷ gs) (h ∷ hs) p q = ap₂ (λ x xs. x ∷ xs) (one_gets files path f g h p.0 q.0) (one_filling files ps fs gs hs p.1 q.1)
one_filling files [] [] (g ∷ gs) hs p q = absurd p
one_filling files [] [] [] (h ∷ hs) p q = absurd q
one_filling files [] (f ∷ fs) gs hs p q = absurd p
one_filling files (path ∷ ps) [] gs hs p q = absurd p
one_filling files (path ∷ ps) (f ∷ fs) [] hs p q = absurd p
one_filling files (path ∷ ps) (f ∷ fs) (g ∷ gs) [] p q = absurd q

pub one_whole : (files : Files) (file : List ℕ) (d e : Draft) → IsWholeSession (Some files) file d → IsWholeSession (Some files) file e → d ≡ e
one_whole files file d e p q =
    let same = same_ok p.planned q.planned (same_answer files file _ _ p.is_session q.is_session) in
    let gets = subst (λ r. GetModules (Some files) r.paths r.draft.functions d.functions) same p.modules in
    let functions = one_filling files q.planned.paths q.planned.draft.functions d.functions e.functions gets q.modules in
    p.is_draft ∙ ap (λ r. record r.draft { functions = d.functions }) same ∙ ap (λ fs. record q.planned.draft { functions = fs }) functions ∙ sym q.is_draft
