-- Labels are entered and left.
use Rattle.std.proofs.Common.{◌≡◌, ℕ, zero, suc, ◌+◌, ◌-◌, ◌<◌, ◌≤◌, List, [], ◌∷◌, ◌++◌, length, drop, append_assoc, refl, sym, ap, ◌∙◌, subst, arith, length-append, None, Some, true, false, Option}
use Rattle.std.specs.Prelude.{nat_lt, reverse}
use Rattle.std.proofs.lemmas.Bool.{lt-ltb, le-ltb}
use Rattle.std.proofs.lemmas.List.{length-reverse}
use Rattle.faaslet_meaning.specs.declared.instr.Instr.{Instr}
use Rattle.faaslet_meaning.specs.declared.outcome.Outcome.TheVariants.{Trap}
use Rattle.faaslet_meaning.specs.declared.outcome.Trap.TheVariants as trap
use Rattle.faaslet_meaning.specs.Lists.{total}
use Rattle.faaslet_meaning.specs.Tree.{Tree}
use Rattle.faaslet_meaning.specs.Parse.{Part, part, parts}
use Rattle.faaslet_meaning.specs.Memory.{Memory}
use Rattle.faaslet_meaning.specs.Configuration.{Label, Frame, Configuration, frame_labels, labels_held, frames_held}
use Rattle.faaslet_meaning.specs.ControlRules.{leave, branch}
use Rattle.faaslet_meaning.specs.Limits.{enter, label_limit}
use Rattle.wasm_interp.specs.declared.thread.Label.{Label as Mark}
use Rattle.wasm_interp.specs.declared.thread.Frame.{Frame as Place}
use Rattle.wasm_interp.specs.declared.thread.Thread.{Thread}
use Rattle.wasm_interp.specs.Places.{Opens, Closes}
use Rattle.wasm_interp.specs.Stands.{below, all_values, height_of, seq_of, other_of, LabelStands, LabelsStand, FramesStand, Stands, Follows}

pub same_length : (code : List Instr) (ms : List Mark) (ls : List Label) (o : Option Tree) (ps : List Part) (n : ℕ) → LabelsStand code ms ls o ps n → length ms ≡ length ls
same_length code [] [] o ps n h = refl
same_length code [] (l ∷ ls) o ps n h = absurd h
same_length code (m ∷ ms) [] o ps n h = absurd h
same_length code (m ∷ ms) (l ∷ ls) o [] n h = absurd h
same_length code (m ∷ ms) (l ∷ ls) o (p ∷ ps) n h = omega (arith, same_length code ms ls (other_of p) ps n h.1)

pub frame_count : (ms : List Place) (cs : List Frame) (labels : List Mark) → FramesStand ms cs labels → length ms ≡ length cs
frame_count [] [] labels s = refl
frame_count (m ∷ ms) (c ∷ cs) labels s = omega (arith, frame_count ms cs s.lower s.callers)
frame_count [] (c ∷ cs) labels s = absurd s
frame_count (m ∷ ms) [] labels s = absurd s

marks_held : (ms : List Place) (cs : List Frame) (labels : List Mark) → FramesStand ms cs labels → length labels + length ms ≡ total frame_labels cs
marks_held [] [] labels s = omega (arith, ap length s)
marks_held (m ∷ ms) (c ∷ cs) labels s =
    omega (arith, marks_held ms cs s.lower s.callers, same_length m.code.now s.own c.labels s.other s.outer m.height s.labels_stand, ap length s.labels_are, length-append s.own s.lower)
marks_held [] (c ∷ cs) labels s = absurd s
marks_held (m ∷ ms) [] labels s = absurd s

-- all that are held, those of frames too
pub labels_are : (memory : Memory) (t : Thread) (d : Configuration) → Stands memory t d → labels_held d ≡ length t.labels + length t.frames + 1
labels_are memory t d s = omega (arith, marks_held (t.here ∷ t.frames) (d.frame ∷ d.callers) t.labels s.frames)

pub frames_are : (memory : Memory) (t : Thread) (d : Configuration) → Stands memory t d → frames_held d ≡ length t.frames + 1
frames_are memory t d s = omega (arith, frame_count t.frames d.callers s.frames.lower s.frames.callers)

-- how high the values under labels are
pub below_height : (ls : List Label) (vs : List ℕ) → length (below ls vs) ≡ height_of ls (length vs)
below_height [] vs = refl
below_height (l ∷ ls) vs = omega (arith, length-append l.under (below ls vs), below_height ls vs)

pub height_is : (memory : Memory) (t : Thread) (d : Configuration) → Stands memory t d → length (reverse d.frame.locals ++ all_values d.callers) ≡ t.here.height
height_is memory t d s = omega (arith, s.frames.height, length-append (reverse d.frame.locals) (all_values d.callers), length-reverse d.frame.locals)

pub full_follows : (memory : Memory) (t : Thread) (d : Configuration) (n : ℕ) (again : Option Tree) (body : Tree) → 65535 ≤ length t.labels + length t.frames → Stands memory t d → Follows memory t (enter d n again body) (Some (Trap trap.StackExhausted))
full_follows memory t d n again body h s =
    let b : nat_lt (labels_held d) label_limit ≡ false = le-ltb _ _ (omega (arith, labels_are memory t d s)) in
    rw b (refl, s.kept)

-- the thread inside the block
abbrev pub inside : Thread → ℕ → Mark → Thread
inside t pc mark = record t { labels = mark ∷ t.labels; here = record t.here { pc = pc; depth = t.here.depth + 1 } }

pub enter_follows : (memory : Memory) (t : Thread) (d : Configuration) (pc : ℕ) (mark : Mark) (again : Option Tree) (body : Tree) → mark.height ≡ length t.values → mark.arity ≤ 1 → length t.labels + length t.frames < 65535 → Stands memory t d → Opens t.here.code.now t.here.pc pc mark.target mark.again body again → Follows memory (inside t pc mark) (enter d mark.arity again body) None
enter_follows memory t d pc mark again body h few lt s o =
    let b : nat_lt (labels_held d) label_limit ≡ true = lt-ltb _ _ (omega (arith, labels_are memory t d s)) in
    let f = s.frames in
    let code = t.here.code.now in
    let low = reverse d.frame.locals ++ all_values d.callers in
    let next : o.p ∷ o.ps ≡ part d.frame.rest f.other ∷ f.outer = sym o.after ∙ f.next in
    let p : o.p ≡ part d.frame.rest f.other = cc in
    let ps : o.ps ≡ f.outer = cc in
    let height : mark.height ≡ length d.frame.values + height_of d.frame.labels t.here.height =
    h ∙ ap length s.values ∙ length-append d.frame.values (below d.frame.labels low) ∙ ap (λ n. length d.frame.values + n) (below_height d.frame.labels low ∙ ap (height_of d.frame.labels) (height_is memory t d s)) in
    rw b (record {
      values = s.values;
      frames = record {
        arity = f.arity;
        few = f.few;
        jumps = f.jumps;
        base = f.base;
        height = f.height;
        other = o.other;
        outer = o.p ∷ o.ps;
        next = o.body_at;
        own = mark ∷ f.own;
        lower = f.lower;
        labels_are = ap (λ l. mark ∷ l) f.labels_are;
        depth = omega (arith, f.depth);
        labels_stand = (record { arity = refl; few = few; after = sym (ap seq_of p); height = height; target = o.leads; side = o.side }, subst (λ q. LabelsStand code f.own d.frame.labels (other_of q) o.ps t.here.height) (sym p) (subst (λ q. LabelsStand code f.own d.frame.labels f.other q t.here.height) (sym ps) f.labels_stand));
        callers = f.callers;
      };
      kept = s.kept;
    })

-- the label over which n others are entered
pub record At (code : List Instr) (n : ℕ) (ms : List Mark) (ls : List Label) (outer : List Part) (h : ℕ) : Type 0 where
  pub mark : Mark
  pub marks : List Mark
  pub label : Label
  pub labels : List Label
  pub other : Option Tree
  pub p : Part
  pub ps : List Part
  pub marks_are : drop n ms ≡ mark ∷ marks
  pub labels_are : drop n ls ≡ label ∷ labels
  pub outer_is : drop n outer ≡ p ∷ ps
  pub one : LabelStands code mark label other p ps (height_of labels h)
  pub rest : LabelsStand code marks labels (other_of p) ps h
  pub above : List ℕ
  pub split : (vs : List ℕ) → below ls vs ≡ above ++ (label.under ++ below labels vs)
  pub branches : (d : Configuration) → branch d n ls ≡ branch d 0 (label ∷ labels)

pub find : (code : List Instr) (n : ℕ) (ms : List Mark) (ls : List Label) (o : Option Tree) (outer : List Part) (h : ℕ) → LabelsStand code ms ls o outer h → n < length ms → At code n ms ls outer h
find code n [] ls o outer h s lt = absurd (omega arith)
find code n (m ∷ ms) [] o outer h s lt = absurd s
find code n (m ∷ ms) (l ∷ ls) o [] h s lt = absurd s
find code zero (m ∷ ms) (l ∷ ls) o (p ∷ ps) h s lt =
    record { mark = m; marks = ms; label = l; labels = ls; other = o; p = p; ps = ps; marks_are = refl; labels_are = refl; outer_is = refl; one = s.0; rest = s.1; above = []; split = λ vs. refl; branches = λ d. refl }
find code (suc n) (m ∷ ms) (l ∷ ls) o (p ∷ ps) h s lt =
    let r = find code n ms ls (other_of p) ps h s.1 (omega arith) in
    record { mark = r.mark; marks = r.marks; label = r.label; labels = r.labels; other = r.other; p = r.p; ps = r.ps; marks_are = r.marks_are; labels_are = r.labels_are; outer_is = r.outer_is; one = r.one; rest = r.rest; above = l.under ++ r.above; split = λ vs. ap (λ x. l.under ++ x) (r.split vs) ∙ sym (append_assoc l.under r.above (r.label.under ++ below r.labels vs)); branches = r.branches }

pub part_is : (p : Part) → p ≡ part (seq_of p) (other_of p)
part_is (part e o) = refl

-- the thread outside the innermost block
abbrev pub outside : Thread → ℕ → List Mark → Thread
outside t pc marks = record t { labels = marks; here = record t.here { pc = pc; depth = t.here.depth - 1 } }

pub leave_follows : (memory : Memory) (t : Thread) (d : Configuration) (pc : ℕ) (mark : Mark) (marks : List Mark) → t.labels ≡ mark ∷ marks → 0 < t.here.depth → Stands memory t d → Closes t.here.code.now t.here.pc pc → Follows memory (outside t pc marks) (leave d d.frame.labels) None
leave_follows memory t d pc mark marks e deep s o =
    let f = s.frames in
    let code = t.here.code.now in
    let a = find code 0 f.own d.frame.labels f.other f.outer t.here.height f.labels_stand (omega (arith, f.depth)) in
    let labels : d.frame.labels ≡ a.label ∷ a.labels = a.labels_are in
    let own : f.own ≡ a.mark ∷ a.marks = a.marks_are in
    let outer : f.outer ≡ a.p ∷ a.ps = a.outer_is in
    let here : o.p ∷ o.outer ≡ part d.frame.rest f.other ∷ f.outer = sym o.inside ∙ f.next in
    let follows : o.outer ≡ f.outer = cc in
    let next : parts (drop pc code) ≡ part a.label.after (other_of a.p) ∷ a.ps =
    o.after ∙ follows ∙ outer ∙ ap (λ q. q ∷ a.ps) (part_is a.p ∙ ap (λ x. part x (other_of a.p)) (sym a.one.after)) in
    let all : mark ∷ marks ≡ a.mark ∷ (a.marks ++ f.lower) = sym e ∙ f.labels_are ∙ ap (λ l. l ++ f.lower) own in
    let marks_are : marks ≡ a.marks ++ f.lower = cc in
    let low = reverse d.frame.locals ++ all_values d.callers in
    rw labels (record {
      values = s.values ∙ ap (λ ls. d.frame.values ++ below ls low) labels ∙ sym (append_assoc d.frame.values a.label.under (below a.labels low));
      frames = record {
        arity = f.arity;
        few = f.few;
        jumps = f.jumps;
        base = f.base;
        height = f.height;
        other = other_of a.p;
        outer = a.ps;
        next = next;
        own = a.marks;
        lower = f.lower;
        labels_are = marks_are;
        depth = omega (arith, f.depth, ap length own);
        labels_stand = a.rest;
        callers = f.callers;
      };
      kept = s.kept;
    })
