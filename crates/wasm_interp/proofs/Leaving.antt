-- Frames are left.
use Rattle.std.proofs.Common.{◌≡◌, ℕ, ◌+◌, ◌-◌, ◌≤◌, List, [], ◌∷◌, ◌++◌, length, drop, take, refl, sym, ap, ◌∙◌, subst, arith, length-append, append_assoc, None, Some, true, false, ⊎_elim}
use Rattle.std.specs.Prelude.{◌≢◌, nat_le, reverse}
use Rattle.std.specs.Int.{cast_signed, w32}
use Rattle.std.proofs.lemmas.Bool.{le-leb, lt-leb, cases_lt}
use Rattle.std.proofs.lemmas.List.{take-append-le}
use Rattle.std.proofs.Math.Seq.{drop-append_seam}
use Rattle.faaslet_meaning.specs.declared.outcome.Outcome.{Outcome}
use Rattle.faaslet_meaning.specs.declared.outcome.Outcome.TheVariants as outcome
use Rattle.faaslet_meaning.specs.Integers.{low}
use Rattle.faaslet_meaning.specs.Memory.{Memory}
use Rattle.faaslet_meaning.specs.Configuration.{Frame, Configuration, stuck}
use Rattle.faaslet_meaning.specs.ControlRules.{leave_frame, results_to, result_of}
use Rattle.wasm_interp.specs.declared.thread.Label.{Label as Mark}
use Rattle.wasm_interp.specs.declared.thread.Frame.{Frame as Place}
use Rattle.wasm_interp.specs.declared.thread.Thread.{Thread}
use Rattle.wasm_interp.specs.Stands.{below, all_values, FramesStand, Stands, Follows}
use Rattle.wasm_interp.proofs.LocalSteps.{below_is}

-- what is kept of all values, where so many of the topmost stay and so many of the lowest
kept_of : (vs above low : List ℕ) (k n : ℕ) (all : List ℕ) → all ≡ vs ++ (above ++ low) → k ≤ length vs → n ≡ length low → take k all ++ drop (length all - n) all ≡ take k vs ++ low
kept_of vs above low k n all e le h =
    let whole : all ≡ (vs ++ above) ++ low = e ∙ sym (append_assoc vs above low) in
    let count : length all - n ≡ length (vs ++ above) = omega (arith, ap length whole, length-append (vs ++ above) low) in
    ap (λ l. take k l ++ drop (length all - n) all) e ∙ ap (λ l. l ++ drop (length all - n) all) (take-append-le k vs (above ++ low) le)
    ∙ ap (λ j. take k vs ++ drop j all) count ∙ ap (λ l. take k vs ++ drop (length (vs ++ above)) l) whole ∙ ap (λ l. take k vs ++ l) (drop-append_seam (vs ++ above) low)

pub frame_count : (ms : List Place) (cs : List Frame) (labels : List Mark) → FramesStand ms cs labels → length ms ≡ length cs
frame_count [] [] labels s = refl
frame_count (m ∷ ms) (c ∷ cs) labels s = omega (arith, frame_count ms cs s.lower s.callers)
frame_count [] (c ∷ cs) labels s = absurd s
frame_count (m ∷ ms) [] labels s = absurd s

-- what lies between the frame's own values and those of its callers
abbrev pub between : Configuration → List ℕ
between d = below d.frame.labels [] ++ reverse d.frame.locals

module _ (memory : Memory) (t : Thread) (d : Configuration) (s : Stands memory t d) where
  results : leave_frame d ≢ stuck → d.frame.arity ≤ length d.frame.values
  results ok =
      ⊎_elim
      (λ lt. let b : nat_le d.frame.arity (length d.frame.values) ≡ false = lt-leb _ _ lt in absurd (ok (rw b refl)))
      (λ le. le)
      (cases_lt (length d.frame.values) d.frame.arity)

  values : t.values ≡ d.frame.values ++ (between d ++ all_values d.callers)
  values =
      s.values ∙ ap (λ l. d.frame.values ++ l) (below_is d.frame.labels (reverse d.frame.locals ++ all_values d.callers))
      ∙ ap (λ l. d.frame.values ++ l) (sym (append_assoc (below d.frame.labels []) (reverse d.frame.locals) (all_values d.callers)))

  pub results_fit : leave_frame d ≢ stuck → (t.here.arity ≤ 1) × (t.here.arity + t.here.base ≤ length t.values)
  results_fit ok =
      (s.frames.few, omega (arith, results ok, s.frames.arity, s.frames.base, ap length values, length-append d.frame.values (between d ++ all_values d.callers), length-append (between d) (all_values d.callers)))

  leaves : leave_frame d ≢ stuck → leave_frame d ≡ results_to d (take d.frame.arity d.frame.values) d.callers
  leaves ok = let b : nat_le d.frame.arity (length d.frame.values) ≡ true = le-leb _ _ (results ok) in rw b refl

  kept_is : leave_frame d ≢ stuck → take t.here.arity t.values ++ drop (length t.values - t.here.base) t.values ≡ take d.frame.arity d.frame.values ++ all_values d.callers
  kept_is ok =
      ap (λ j. take j t.values ++ drop (length t.values - t.here.base) t.values) s.frames.arity
      ∙ kept_of d.frame.values (between d) (all_values d.callers) d.frame.arity t.here.base t.values values (results ok) s.frames.base

  labels_left : drop t.here.depth t.labels ≡ s.frames.lower
  labels_left = ap (drop t.here.depth) s.frames.labels_are ∙ ap (λ n. drop n (s.frames.own ++ s.frames.lower)) s.frames.depth ∙ drop-append_seam s.frames.own s.frames.lower

  pub depth_within : t.here.depth ≤ length t.labels
  depth_within = omega (arith, s.frames.depth, ap length s.frames.labels_are, length-append s.frames.own s.frames.lower)

  to_caller : (p : Place) (ps : List Place) (cs : List Frame) (res vs : List ℕ) (ls : List Mark) → vs ≡ res ++ all_values cs → FramesStand (p ∷ ps) cs ls → Follows memory (record t { values = vs; labels = ls; frames = ps; here = p }) (results_to d res cs) None
  to_caller p ps [] res vs ls e h = absurd h
  to_caller p ps (f ∷ cs) res vs ls e h =
      record { values = e ∙ sym (append_assoc res f.values (below f.labels (reverse f.locals ++ all_values cs))); frames = h; kept = s.kept }

  -- the caller goes on
  pub frame_left : (p : Place) (ps : List Place) (vs : List ℕ) (ls : List Mark) → t.frames ≡ p ∷ ps → vs ≡ take t.here.arity t.values ++ drop (length t.values - t.here.base) t.values → ls ≡ drop t.here.depth t.labels → leave_frame d ≢ stuck → Follows memory (record t { values = vs; labels = ls; frames = ps; here = p }) (leave_frame d) None
  frame_left p ps vs ls e v l ok =
      let under_it : FramesStand (p ∷ ps) d.callers ls =
      subst (λ z. FramesStand (p ∷ ps) d.callers z) (sym (l ∙ labels_left)) (subst (λ z. FramesStand z d.callers s.frames.lower) e s.frames.callers) in
      subst (λ n. Follows memory (record t { values = vs; labels = ls; frames = ps; here = p }) n None) (sym (leaves ok)) (to_caller p ps d.callers (take d.frame.arity d.frame.values) vs ls (v ∙ kept_is ok) under_it)

  ends_with : (cs : List Frame) (res : List ℕ) (o : Outcome) → 0 ≡ length cs → o ≡ outcome.Done (cast_signed w32 (low w32 (result_of res))) → Follows memory t (results_to d res cs) (Some o)
  ends_with [] res o e h = (h, s.kept)
  ends_with (c ∷ cs) res o e h = absurd (omega arith)

  -- the run ends
  pub run_ends : (o : Outcome) → length t.frames ≡ 0 → o ≡ outcome.Done (cast_signed w32 (low w32 (result_of (take t.here.arity t.values)))) → leave_frame d ≢ stuck → Follows memory t (leave_frame d) (Some o)
  run_ends o e h ok =
      let count = frame_count t.frames d.callers s.frames.lower s.frames.callers in
      let same : take t.here.arity t.values ≡ take d.frame.arity d.frame.values =
      ap (λ j. take j t.values) s.frames.arity ∙ ap (take d.frame.arity) values ∙ take-append-le d.frame.arity d.frame.values (between d ++ all_values d.callers) (results ok) in
      subst (λ n. Follows memory t n (Some o)) (sym (leaves ok)) (ends_with d.callers (take d.frame.arity d.frame.values) o (omega (arith, count)) (h ∙ ap (λ l. outcome.Done (cast_signed w32 (low w32 (result_of l)))) same))
