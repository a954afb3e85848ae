-- Locals lie on the stack, above the values of the callers.
use Rattle.std.proofs.Common.{◌≡◌, ℕ, ◌+◌, ◌-◌, ◌<◌, List, [], ◌∷◌, ◌++◌, length, refl, sym, ap, ◌∙◌, subst, arith, length-append, append_assoc, None, Some, Option, ⊎_elim, true, false}
use Rattle.std.specs.Prelude.{◌≢◌, slice_get, slice_set, reverse, nat_lt}
use Rattle.std.proofs.lemmas.List.{reverse-append, reverse-reverse, length-reverse, length-set, set-append_right, set-append_left}
use Rattle.std.proofs.lemmas.Option.{slice_get_past}
use Rattle.std.proofs.lemmas.Bool.{lt-ltb, le-ltb, cases_lt}
use Rattle.faaslet_meaning.specs.declared.outcome.Outcome.{Outcome}
use Rattle.faaslet_meaning.specs.declared.instr.Instr.TheVariants.{LocalSet, LocalTee}
use Rattle.faaslet_meaning.specs.Memory.{Memory}
use Rattle.faaslet_meaning.specs.Configuration.{Program, Label, Configuration, stuck}
use Rattle.faaslet_meaning.specs.Limits.{push}
use Rattle.faaslet_meaning.specs.Step.{push_some, set_local, plain_step}
use Rattle.wasm_interp.specs.declared.thread.Thread.{Thread}
use Rattle.wasm_interp.specs.Stands.{below, all_values, FrameStands, FramesStand, Stands, Follows}
use Rattle.faaslet_meaning.proofs.Appended.{get_above, get_within}
use Rattle.wasm_interp.proofs.Values.{Taken, taken}

pub below_is : (ls : List Label) (vs : List ℕ) → below ls vs ≡ below ls [] ++ vs
below_is [] vs = refl
below_is (l ∷ ls) vs = ap (λ x. l.under ++ x) (below_is ls vs) ∙ sym (append_assoc l.under (below ls []) vs)

-- a stack from its bottom: what lies under the locals, the locals, and the others
turned : (own locals low : List ℕ) → reverse (own ++ (reverse locals ++ low)) ≡ reverse low ++ (locals ++ reverse own)
turned own locals low =
    reverse-append own (reverse locals ++ low) ∙ ap (λ l. l ++ reverse own) (reverse-append (reverse locals) low)
    ∙ append_assoc (reverse low) (reverse (reverse locals)) (reverse own) ∙ ap (λ l. reverse low ++ (l ++ reverse own)) (reverse-reverse locals)

read_is : (own locals low : List ℕ) (base k : ℕ) → base ≡ length low → k < length locals → slice_get (reverse (own ++ (reverse locals ++ low))) (base + k) ≡ slice_get locals k
read_is own locals low base k e lt =
    let b : base ≡ length (reverse low) = e ∙ sym (length-reverse low) in
    ap (λ l. slice_get l (base + k)) (turned own locals low) ∙ ap (λ n. slice_get (reverse low ++ (locals ++ reverse own)) (n + k)) b
    ∙ get_above (reverse low) (locals ++ reverse own) k ∙ get_within locals (reverse own) k lt

set_is : (own locals low : List ℕ) (base k v : ℕ) → base ≡ length low → k < length locals → reverse (slice_set (reverse (own ++ (reverse locals ++ low))) (base + k) v) ≡ own ++ (reverse (slice_set locals k v) ++ low)
set_is own locals low base k v e lt =
    let b : base ≡ length (reverse low) = e ∙ sym (length-reverse low) in
    let back : base + k - base ≡ k = omega arith in
    let at : slice_set (reverse (own ++ (reverse locals ++ low))) (base + k) v ≡ reverse low ++ (slice_set locals k v ++ reverse own) =
    ap (λ l. slice_set l (base + k) v) (turned own locals low) ∙ set-append_right (reverse low) (locals ++ reverse own) base (base + k) v (sym b) (omega arith)
    ∙ ap (λ n. reverse low ++ slice_set (locals ++ reverse own) n v) back ∙ ap (λ l. reverse low ++ l) (set-append_left locals (reverse own) k v lt) in
    ap reverse (at ∙ sym (turned own (slice_set locals k v) low)) ∙ reverse-reverse (own ++ (reverse (slice_set locals k v) ++ low))

-- all values, with the frame's own in one list
split : (d : Configuration) (vs : List ℕ) → vs ++ below d.frame.labels (reverse d.frame.locals ++ all_values d.callers) ≡ (vs ++ below d.frame.labels []) ++ (reverse d.frame.locals ++ all_values d.callers)
split d vs =
    let low = reverse d.frame.locals ++ all_values d.callers in
    ap (λ l. vs ++ l) (below_is d.frame.labels low) ∙ sym (append_assoc vs (below d.frame.labels []) low)

pub local_there : (d : Configuration) (k : ℕ) → push_some d (slice_get d.frame.locals k) ≢ stuck → k < length d.frame.locals
local_there d k ok =
    ⊎_elim (λ lt. lt) (λ le. absurd (ok (ap (push_some d) (slice_get_past d.frame.locals k le)))) (cases_lt k (length d.frame.locals))

-- a frame's local lies so far above the callers' values
pub local_is : (memory : Memory) (t : Thread) (d : Configuration) (k : ℕ) → Stands memory t d → k < length d.frame.locals → slice_get (reverse t.values) (t.here.base + k) ≡ slice_get d.frame.locals k
local_is memory t d k s lt =
    ap (λ l. slice_get (reverse l) (t.here.base + k)) (s.values ∙ split d d.frame.values)
    ∙ read_is (d.frame.values ++ below d.frame.labels []) d.frame.locals (all_values d.callers) t.here.base k s.frames.base lt

-- and on the stack
pub local_within : (memory : Memory) (t : Thread) (d : Configuration) (k : ℕ) → Stands memory t d → k < length d.frame.locals → t.here.base + k < length t.values
local_within memory t d k s lt =
    let own = d.frame.values ++ below d.frame.labels [] in
    omega (arith, ap length (s.values ∙ split d d.frame.values), length-append own (reverse d.frame.locals ++ all_values d.callers), length-append (reverse d.frame.locals) (all_values d.callers), length-reverse d.frame.locals, s.frames.base)

pub get_follows : (memory : Memory) (d : Configuration) (v : ℕ) (o : Option ℕ) (new : Thread) (r : Option Outcome) → o ≡ Some v → Follows memory new (push d v) r → Follows memory new (push_some d o) r
get_follows memory d v o new r e h = subst (λ p. Follows memory new (push_some d p) r) (sym e) h

pub set_there : (d : Configuration) (k v : ℕ) → set_local d k v ≢ stuck → k < length d.frame.locals
set_there d k v ok =
    ⊎_elim
    (λ lt. lt)
    (λ le. let b : nat_lt k (length d.frame.locals) ≡ false = le-ltb _ _ le in absurd (ok (rw b refl)))
    (cases_lt k (length d.frame.locals))

-- a local is set
pub set_follows : (memory : Memory) (t : Thread) (d : Configuration) (k v : ℕ) (new : List ℕ) → new ≡ reverse (slice_set (reverse t.values) (t.here.base + k) v) → Stands memory t d → set_local d k v ≢ stuck → Follows memory (record t { values = new }) (set_local d k v) None
set_follows memory t d k v new e s ok =
    let lt = set_there d k v ok in
    let b : nat_lt k (length d.frame.locals) ≡ true = lt-ltb _ _ lt in
    let own = d.frame.values ++ below d.frame.labels [] in
    let xs = slice_set d.frame.locals k v in
    let at : new ≡ d.frame.values ++ below d.frame.labels (reverse xs ++ all_values d.callers) =
    e ∙ ap (λ l. reverse (slice_set (reverse l) (t.here.base + k) v)) (s.values ∙ split d d.frame.values)
    ∙ set_is own d.frame.locals (all_values d.callers) t.here.base k v s.frames.base lt
    ∙ sym (split (record d { frame = record d.frame { locals = xs } }) d.frame.values) in
    let frames = subst (λ n. FrameStands t.here d.frame.rest d.frame.arity d.frame.labels n (length (all_values d.callers)) t.labels (λ ls. FramesStand t.frames d.callers ls)) (sym (length-set d.frame.locals k v)) s.frames in
    rw b (record { values = at; frames = frames; kept = s.kept })

some_set : (p : Program) (d : Configuration) (k : ℕ) (vs : List ℕ) → plain_step p d (LocalSet k) vs ≢ stuck → 0 < length vs
some_set p d k [] ok = absurd (ok refl)
some_set p d k (v ∷ vs) ok = omega arith

some_tee : (p : Program) (d : Configuration) (k : ℕ) (vs : List ℕ) → plain_step p d (LocalTee k) vs ≢ stuck → 0 < length vs
some_tee p d k [] ok = absurd (ok refl)
some_tee p d k (v ∷ vs) ok = omega arith

-- the value that `local.set` takes
pub set_taken : (p : Program) (memory : Memory) (t : Thread) (d : Configuration) (k v : ℕ) (new : List ℕ) → t.values ≡ v ∷ new → Stands memory t d → plain_step p d (LocalSet k) d.frame.values ≢ stuck → Taken memory t d v new
set_taken p memory t d k v new e s ok = taken memory t d v new d.frame.values e s refl (some_set p d k d.frame.values ok)

pub tee_taken : (p : Program) (memory : Memory) (t : Thread) (d : Configuration) (k v : ℕ) (new : List ℕ) → t.values ≡ v ∷ new → Stands memory t d → plain_step p d (LocalTee k) d.frame.values ≢ stuck → Taken memory t d v new
tee_taken p memory t d k v new e s ok = taken memory t d v new d.frame.values e s refl (some_tee p d k d.frame.values ok)

pub value_there : (memory : Memory) (t : Thread) (d : Configuration) → Stands memory t d → 0 < length d.frame.values → 0 < length t.values
value_there memory t d s lt = omega (arith, ap length s.values, length-append d.frame.values (below d.frame.labels (reverse d.frame.locals ++ all_values d.callers)))

pub some_for_set : (p : Program) (memory : Memory) (t : Thread) (d : Configuration) (k : ℕ) → Stands memory t d → plain_step p d (LocalSet k) d.frame.values ≢ stuck → 0 < length t.values
some_for_set p memory t d k s ok = value_there memory t d s (some_set p d k d.frame.values ok)

pub some_for_tee : (p : Program) (memory : Memory) (t : Thread) (d : Configuration) (k : ℕ) → Stands memory t d → plain_step p d (LocalTee k) d.frame.values ≢ stuck → 0 < length t.values
some_for_tee p memory t d k s ok = value_there memory t d s (some_tee p d k d.frame.values ok)
