-- A branch inside a frame.
use Rattle.std.proofs.Common.{◌≡◌, ℕ, ◌+◌, ◌-◌, ◌<◌, ◌≤◌, List, ◌∷◌, ◌++◌, length, drop, take, refl, sym, ap, ◌∙◌, subst, arith, length-append, append_assoc, None, Some, true, false, Option, ⊎_elim}
use Rattle.std.specs.Prelude.{◌≢◌, slice_get, nat_le, reverse}
use Rattle.std.proofs.lemmas.Bool.{le-leb, lt-leb, cases_lt}
use Rattle.std.proofs.lemmas.List.{take-append-le, drop-append-le, length-drop}
use Rattle.std.proofs.Math.Seq.{drop-append_seam}
use Rattle.faaslet_meaning.specs.Tree.{Tree}
use Rattle.faaslet_meaning.specs.Parse.{part}
use Rattle.faaslet_meaning.specs.Memory.{Memory}
use Rattle.faaslet_meaning.specs.Configuration.{Label, Configuration, stuck}
use Rattle.faaslet_meaning.specs.ControlRules.{branch, branch_to, br}
use Rattle.wasm_interp.specs.declared.thread.Label.{Label as Mark}
use Rattle.wasm_interp.specs.declared.thread.Thread.{Thread}
use Rattle.wasm_interp.specs.Stands.{below, all_values, height_of, other_of, Stands, Follows, TargetIs}
use Rattle.wasm_interp.proofs.Labels.{At, find, part_is, below_height, height_is}

-- what is on top after n labels are cut
cut_is : (own lower ms : List Mark) (n : ℕ) (mark : Mark) → n < length own → drop n own ≡ mark ∷ ms → drop n (own ++ lower) ≡ mark ∷ (ms ++ lower)
cut_is own lower ms n mark lt e = drop-append-le n own lower (omega arith) ∙ ap (λ l. l ++ lower) e

-- where a branch isn't stuck it finds the values that it carries
enough : (d : Configuration) (l : Label) (ls : List Label) → branch d 0 (l ∷ ls) ≢ stuck → l.arity ≤ length d.frame.values
enough d l ls ok =
    ⊎_elim
    (λ lt. let t : nat_le l.arity (length d.frame.values) ≡ false = lt-leb _ _ lt in absurd (ok (rw t refl)))
    (λ le. le)
    (cases_lt (length d.frame.values) l.arity)

-- so the branch is one to this label
taken : (d : Configuration) (l : Label) (ls : List Label) → l.arity ≤ length d.frame.values → branch d 0 (l ∷ ls) ≡ branch_to d l l.again ls
taken d l ls le = let t : nat_le l.arity (length d.frame.values) ≡ true = le-leb _ _ le in rw t refl

-- the values that are kept
pub kept : (vs above low : List ℕ) (k n : ℕ) (all : List ℕ) → all ≡ vs ++ (above ++ low) → k ≤ length vs → n ≡ length low → take k all ++ drop (length all - n) all ≡ take k vs ++ low
kept vs above low k n all e le h =
    let whole : all ≡ (vs ++ above) ++ low = e ∙ sym (append_assoc vs above low) in
    let count : length all - n ≡ length (vs ++ above) = omega (arith, ap length whole, length-append (vs ++ above) low) in
    ap (λ l. take k l ++ drop (length all - n) all) e ∙ ap (λ l. l ++ drop (length all - n) all) (take-append-le k vs (above ++ low) le)
    ∙ ap (λ j. take k vs ++ drop j all) count ∙ ap (λ l. take k vs ++ drop (length (vs ++ above)) l) whole ∙ ap (λ l. take k vs ++ l) (drop-append_seam (vs ++ above) low)

module _ (memory : Memory) (t : Thread) (d : Configuration) (n : ℕ) (s : Stands memory t d) (inner : n < t.here.depth) where
  at : At t.here.code.now n s.frames.own d.frame.labels s.frames.outer t.here.height
  at = find t.here.code.now n s.frames.own d.frame.labels s.frames.other s.frames.outer t.here.height s.frames.labels_stand (omega (arith, s.frames.depth))

  marks : drop n t.labels ≡ at.mark ∷ (at.marks ++ s.frames.lower)
  marks = ap (drop n) s.frames.labels_are ∙ cut_is s.frames.own s.frames.lower at.marks n at.mark (omega (arith, s.frames.depth)) at.marks_are

  many : br d n ≢ stuck → at.label.arity ≤ length d.frame.values
  many ok = enough d at.label at.labels (λ e. ok (at.branches d ∙ e))

  abbrev floor : List ℕ
  floor = reverse d.frame.locals ++ all_values d.callers

  abbrev rest : List ℕ
  rest = at.label.under ++ below at.labels floor

  values : t.values ≡ d.frame.values ++ (at.above ++ rest)
  values = s.values ∙ ap (λ l. d.frame.values ++ l) (at.split floor)

  height : at.mark.height ≡ length rest
  height =
      let h : length (below at.labels floor) ≡ height_of at.labels t.here.height = below_height at.labels floor ∙ ap (height_of at.labels) (height_is memory t d s) in
      omega (arith, at.one.height, length-append at.label.under (below at.labels floor), h)

  pub branch_fits : (mark : Mark) → slice_get (drop n t.labels) 0 ≡ Some mark → br d n ≢ stuck → (mark.arity ≤ 1) × (mark.arity + mark.height ≤ length t.values)
  branch_fits mark e ok =
      let same : Some at.mark ≡ Some mark = ap (λ l. slice_get l 0) (sym marks) ∙ e in
      let is : at.mark ≡ mark = cc in
      let le : at.mark.arity + at.mark.height ≤ length t.values =
      omega (arith, many ok, at.one.arity, height, ap length values, length-append d.frame.values (at.above ++ rest), length-append at.above rest) in
      subst (λ (k : Mark). (k.arity ≤ 1) × (k.arity + k.height ≤ length t.values)) is (at.one.few, le)

  -- the thread at the label's target
  abbrev after : ℕ → List ℕ → List Mark → ℕ → Thread
  after pc vs ms k = record t { values = vs; labels = ms; here = record t.here { pc = pc; depth = k } }

  to_label : (again : Option Tree) (vs : List ℕ) (ms : List Mark) (k : ℕ) → TargetIs t.here.code.now at.mark.target at.mark.again again at.p at.ps → vs ≡ take at.label.arity d.frame.values ++ rest → (at.mark.again ≡ false → (ms ≡ at.marks ++ s.frames.lower) × (k ≡ t.here.depth - n - 1)) → (at.mark.again ≡ true → (ms ≡ at.mark ∷ (at.marks ++ s.frames.lower)) × (k ≡ t.here.depth - n)) → Follows memory (after at.mark.target vs ms k) (branch_to d at.label again at.labels) None
  to_label None vs ms k to e out on =
      let f = s.frames in
      let o = out to.0 in
      record {
        values = e ∙ sym (append_assoc (take at.label.arity d.frame.values) at.label.under (below at.labels floor));
        frames = record {
          arity = f.arity;
          few = f.few;
          jumps = f.jumps;
          base = f.base;
          height = f.height;
          other = other_of at.p;
          outer = at.ps;
          next = to.1 ∙ ap (λ q. q ∷ at.ps) (part_is at.p ∙ ap (λ x. part x (other_of at.p)) (sym at.one.after));
          own = at.marks;
          lower = f.lower;
          labels_are = o.0;
          depth = omega (arith, o.1, f.depth, ap length at.marks_are, length-drop n f.own);
          labels_stand = at.rest;
          callers = f.callers;
        };
        kept = s.kept;
      }
  to_label (Some body) vs ms k to e out on =
      let f = s.frames in
      let o = on to.0 in
      record {
        values = e;
        frames = record {
          arity = f.arity;
          few = f.few;
          jumps = f.jumps;
          base = f.base;
          height = f.height;
          other = None;
          outer = at.p ∷ at.ps;
          next = to.1;
          own = at.mark ∷ at.marks;
          lower = f.lower;
          labels_are = o.0;
          depth = omega (arith, o.1, f.depth, ap length at.marks_are, length-drop n f.own);
          labels_stand = (record { arity = at.one.arity; few = at.one.few; after = at.one.after; height = at.one.height; target = at.one.target; side = tt }, at.rest);
          callers = f.callers;
        };
        kept = s.kept;
      }

  pub branch_follows : (mark : Mark) (vs : List ℕ) (ms : List Mark) (k : ℕ) → slice_get (drop n t.labels) 0 ≡ Some mark → vs ≡ take mark.arity t.values ++ drop (length t.values - mark.height) t.values → (mark.again ≡ false → (drop n t.labels ≡ mark ∷ ms) × (k ≡ t.here.depth - n - 1)) → (mark.again ≡ true → (ms ≡ drop n t.labels) × (k ≡ t.here.depth - n)) → br d n ≢ stuck → Follows memory (after mark.target vs ms k) (br d n) None
  branch_follows mark vs ms k e v out on ok =
      let same : Some at.mark ≡ Some mark = ap (λ l. slice_get l 0) (sym marks) ∙ e in
      let is : mark ≡ at.mark = cc in
      let le = many ok in
      let vs_are : vs ≡ take at.label.arity d.frame.values ++ rest =
      v ∙ ap (λ (q : Mark). take q.arity t.values ++ drop (length t.values - q.height) t.values) is
      ∙ ap (λ j. take j t.values ++ drop (length t.values - at.mark.height) t.values) at.one.arity
      ∙ kept d.frame.values at.above rest at.label.arity at.mark.height t.values values le height in
      let out' = λ (h : at.mark.again ≡ false). let r = out (ap (λ (q : Mark). q.again) is ∙ h) in let both : mark ∷ ms ≡ at.mark ∷ (at.marks ++ s.frames.lower) = sym r.0 ∙ marks in let ms_are : ms ≡ at.marks ++ s.frames.lower = cc in let p : (ms ≡ at.marks ++ s.frames.lower) × (k ≡ t.here.depth - n - 1) = (ms_are, r.1) in p in
      let on' = λ (h : at.mark.again ≡ true). let r = on (ap (λ (q : Mark). q.again) is ∙ h) in let p : (ms ≡ at.mark ∷ (at.marks ++ s.frames.lower)) × (k ≡ t.here.depth - n) = (r.0 ∙ marks, r.1) in p in
      let there = to_label at.label.again vs ms k at.one.target vs_are out' on' in
      subst (λ b. Follows memory (after mark.target vs ms k) b None) (sym (at.branches d ∙ taken d at.label at.labels le)) (subst (λ (q : Mark). Follows memory (after q.target vs ms k) (branch_to d at.label at.label.again at.labels) None) (sym is) there)
