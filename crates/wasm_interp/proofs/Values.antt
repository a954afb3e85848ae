-- Rules that change values alone, and how many values are held.
use Rattle.std.proofs.Common.{◌≡◌, ℕ, ◌+◌, List, [], ◌∷◌, ◌++◌, length, refl, sym, ap, ◌∙◌, arith, length-append, None, Some, true, false, ◌<◌, ◌≤◌}
use Rattle.std.specs.Prelude.{nat_lt, reverse}
use Rattle.std.proofs.lemmas.Bool.{lt-ltb, le-ltb}
use Rattle.std.proofs.lemmas.List.{length-reverse}
use Rattle.faaslet_meaning.specs.declared.outcome.Trap.TheVariants as trap
use Rattle.faaslet_meaning.specs.declared.outcome.Outcome.TheVariants.{Trap}
use Rattle.faaslet_meaning.specs.Lists.{total}
use Rattle.faaslet_meaning.specs.Memory.{Memory}
use Rattle.faaslet_meaning.specs.Configuration.{Label, Frame, Configuration, frame_values, values_held}
use Rattle.faaslet_meaning.specs.Limits.{value_limit, with_values, push}
use Rattle.wasm_interp.specs.declared.thread.Thread.{Thread}
use Rattle.wasm_interp.specs.Stands.{below, all_values, Stands, Follows}

-- what lies under the frame's own values
abbrev pub under_own : Configuration → List ℕ
under_own d = below d.frame.labels (reverse d.frame.locals ++ all_values d.callers)

-- other values in the frame
pub values_stand : (memory : Memory) (t : Thread) (d : Configuration) (new vs : List ℕ) → new ≡ vs ++ under_own d → Stands memory t d → Stands memory (record t { values = new }) (with_values d vs)
values_stand memory t d new vs e s = record { values = e; frames = s.frames; kept = s.kept }

-- how many values lie under labels
pub below_length : (ls : List Label) (vs : List ℕ) → length (below ls vs) ≡ total (λ (l : Label). length l.under) ls + length vs
below_length [] vs = omega arith
below_length (l ∷ ls) vs = omega (arith, length-append l.under (below ls vs), below_length ls vs)

pub all_length : (cs : List Frame) → length (all_values cs) ≡ total frame_values cs
all_length [] = refl
all_length (c ∷ cs) =
    omega (arith, all_length cs, length-append c.values (below c.labels (reverse c.locals ++ all_values cs)), below_length c.labels (reverse c.locals ++ all_values cs), length-append (reverse c.locals) (all_values cs), length-reverse c.locals)

-- all that are held stand on the stack
pub held_is : (memory : Memory) (t : Thread) (d : Configuration) → Stands memory t d → values_held d ≡ length t.values
held_is memory t d s = sym (ap length s.values ∙ all_length (d.frame ∷ d.callers))

-- one more value where there is room, and the trap where there is none
pub room_follows : (memory : Memory) (t : Thread) (d : Configuration) (v : ℕ) (new : List ℕ) → new ≡ v ∷ t.values → length t.values < 65536 → Stands memory t d → Follows memory (record t { values = new }) (push d v) None
room_follows memory t d v new e h s =
    let b : nat_lt (values_held d) value_limit ≡ true = lt-ltb _ _ (omega (arith, held_is memory t d s)) in
    rw b (values_stand memory t d new (v ∷ d.frame.values) (e ∙ ap (λ l. v ∷ l) s.values) s)

pub full_follows : (memory : Memory) (t : Thread) (d : Configuration) (v : ℕ) → 65536 ≤ length t.values → Stands memory t d → Follows memory t (push d v) (Some (Trap trap.StackExhausted))
full_follows memory t d v h s =
    let b : nat_lt (values_held d) value_limit ≡ false = le-ltb _ _ (omega (arith, held_is memory t d s)) in
    rw b (refl, s.kept)

-- The topmost value taken off: this holds wherever a rule needs one.
pub record Taken (memory : Memory) (t : Thread) (d : Configuration) (v : ℕ) (new : List ℕ) : Type 0 where
  pub rest : List ℕ
  pub values_are : d.frame.values ≡ v ∷ rest
  pub stands : Stands memory (record t { values = new }) (with_values d rest)

pub taken : (memory : Memory) (t : Thread) (d : Configuration) (v : ℕ) (new vs : List ℕ) → t.values ≡ v ∷ new → Stands memory t d → vs ≡ d.frame.values → 0 < length vs → Taken memory t d v new
taken memory t d v new [] e s h lt = absurd (omega arith)
taken memory t d v new (x ∷ vs) e s h lt =
    let low = under_own d in
    let both : v ∷ new ≡ x ∷ (vs ++ low) = sym e ∙ s.values ∙ ap (λ l. l ++ low) (sym h) in
    let first : v ≡ x = cc in
    let after : new ≡ vs ++ low = cc in
    record { rest = vs; values_are = sym h ∙ ap (λ y. y ∷ vs) (sym first); stands = values_stand memory t d new vs after s }
