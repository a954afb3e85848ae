-- Frames are entered.
use Rattle.std.proofs.Common.{◌≡◌, ℕ, zero, suc, ◌+◌, ◌-◌, ◌<◌, ◌≤◌, List, [], ◌∷◌, ◌++◌, length, drop, take, refl, sym, ap, ◌∙◌, subst, arith, length-append, append_assoc, None, Some, Option, true, false, ⊎_elim}
use Rattle.std.specs.Prelude.{◌≢◌, nat_le, nat_lt, reverse, replicate}
use Rattle.std.proofs.lemmas.Bool.{le-leb, lt-leb, lt-ltb, le-ltb, cases_lt}
use Rattle.std.proofs.lemmas.List.{reverse-append, reverse-reverse, length-reverse, replicate_more, take-append-drop, length-drop}
use Rattle.faaslet_meaning.specs.declared.instr.Instr.{Instr}
use Rattle.faaslet_meaning.specs.declared.module.FuncType.{FuncType}
use Rattle.faaslet_meaning.specs.declared.outcome.Trap.TheVariants as trap
use Rattle.faaslet_meaning.specs.declared.outcome.Outcome.TheVariants.{Trap}
use Rattle.faaslet_meaning.specs.Lists.{total}
use Rattle.faaslet_meaning.specs.Memory.{Memory}
use Rattle.faaslet_meaning.specs.Tree.{Tree}
use Rattle.faaslet_meaning.specs.Parse.{Part, part, parts}
use Rattle.faaslet_meaning.specs.Configuration.{Label, Frame, Configuration, defined, stuck, frame_labels, frames_held, labels_held, values_held}
use Rattle.faaslet_meaning.specs.Limits.{has_room, frame_limit, label_limit, value_limit}
use Rattle.faaslet_meaning.specs.ControlRules.{call, entered}
use Rattle.wasm_interp.specs.declared.thread.Label.{Label as Mark}
use Rattle.wasm_interp.specs.declared.thread.Frame.{Frame as Place}
use Rattle.wasm_interp.specs.declared.thread.Thread.{Thread}
use Rattle.wasm_validate.specs.Jumps.{JumpsFit}
use Rattle.wasm_interp.specs.Stands.{other_of, FramesStand, LabelsStand, Stands, Follows}
use Rattle.wasm_interp.proofs.Values.{under_own, held_is}
use Rattle.wasm_interp.proofs.Leaving.{frame_count}

reverse_replicate : (n : ℕ) → reverse (replicate {A = ℕ} n 0) ≡ replicate n 0
reverse_replicate zero = refl
reverse_replicate (suc n) =
    let e : n + 1 ≡ suc n = omega arith in
    reverse-append {A = ℕ} (0 ∷ []) (replicate n 0) ∙ ap (λ (l : List ℕ). l ++ 0 ∷ []) (reverse_replicate n) ∙ replicate_more {X = ℕ} n 0 ∙ ap (λ k. replicate {A = ℕ} k 0) e

-- the locals of a frame as they lie on the stack
pub locals_lie : (args : List ℕ) (n : ℕ) → reverse (reverse args ++ replicate n 0) ≡ replicate n 0 ++ args
locals_lie args n =
    reverse-append (reverse args) (replicate n 0) ∙ ap (λ l. l ++ reverse (reverse args)) (reverse_replicate n) ∙ ap (λ l. replicate n 0 ++ l) (reverse-reverse args)

pub label_count : (code : List Instr) (ms : List Mark) (ls : List Label) (o : Option Tree) (ps : List Part) (n : ℕ) → LabelsStand code ms ls o ps n → length ms ≡ length ls
label_count code [] [] o ps n s = refl
label_count code (m ∷ ms) (l ∷ ls) o (p ∷ ps) n s = omega (arith, label_count code ms ls (other_of p) ps n s.1)
label_count code [] (l ∷ ls) o ps n s = absurd s
label_count code (m ∷ ms) [] o ps n s = absurd s
label_count code (m ∷ ms) (l ∷ ls) o [] n s = absurd s

pub labels_in : (ms : List Place) (cs : List Frame) (labels : List Mark) → FramesStand ms cs labels → total frame_labels cs ≡ length labels + length ms
labels_in [] [] labels s = omega (arith, ap length s)
labels_in (m ∷ ms) (c ∷ cs) labels s =
    omega (arith, labels_in ms cs s.lower s.callers, label_count m.code.now s.own c.labels s.other s.outer m.height s.labels_stand, ap length s.labels_are, length-append s.own s.lower)
labels_in [] (c ∷ cs) labels s = absurd s
labels_in (m ∷ ms) [] labels s = absurd s

-- room for one more frame with so many locals beside its arguments
abbrev pub Room : Thread → ℕ → Type 0
Room t extra = (length t.frames < 1023) × (length t.frames + length t.labels < 65535) × (length t.values + extra ≤ 65536)

module _ (memory : Memory) (t : Thread) (d : Configuration) (s : Stands memory t d) where
  frames_are : frames_held d ≡ length t.frames + 1
  frames_are = omega (arith, frame_count t.frames d.callers s.frames.lower s.frames.callers)

  labels_are : labels_held d ≡ length t.labels + (length t.frames + 1)
  labels_are = omega (arith, labels_in (t.here ∷ t.frames) (d.frame ∷ d.callers) t.labels s.frames)

  room_is : (extra : ℕ) → Room t extra → has_room d extra ≡ true
  room_is extra r =
      let a : nat_lt (frames_held d) frame_limit ≡ true = lt-ltb _ _ (omega (arith, frames_are)) in
      let b : nat_lt (labels_held d) label_limit ≡ true = lt-ltb _ _ (omega (arith, labels_are)) in
      let c : nat_le (values_held d + extra) value_limit ≡ true = le-leb _ _ (omega (arith, held_is memory t d s)) in
      rw (a, b, c) refl

  no_room : (extra : ℕ) → (Room t extra → ⊥) → has_room d extra ≡ false
  no_room extra none =
      ⊎_elim
      (λ lt.
      let a : nat_lt (frames_held d) frame_limit ≡ true = lt-ltb _ _ lt in
      ⊎_elim
      (λ few.
      let b : nat_lt (labels_held d) label_limit ≡ true = lt-ltb _ _ few in
      ⊎_elim
      (λ more. let c : nat_le (values_held d + extra) value_limit ≡ false = lt-leb _ _ more in rw (a, b, c) refl)
      (λ le. absurd (none (omega (arith, frames_are), omega (arith, labels_are), omega (arith, held_is memory t d s))))
      (cases_lt value_limit (values_held d + extra)))
      (λ le. let b : nat_lt (labels_held d) label_limit ≡ false = le-ltb _ _ le in rw (a, b) refl)
      (cases_lt (labels_held d) label_limit))
      (λ le. let a : nat_lt (frames_held d) frame_limit ≡ false = le-ltb _ _ le in rw a refl)
      (cases_lt (frames_held d) frame_limit)

  module _ (type : FuncType) (extra : ℕ) (body : Tree) (ok : call d (defined type extra body) ≢ stuck) where
    many : length type.params ≤ length d.frame.values
    many =
        ⊎_elim
        (λ lt. let b : nat_le (length type.params) (length d.frame.values) ≡ false = lt-leb _ _ lt in absurd (ok (rw b refl)))
        (λ le. le)
        (cases_lt (length d.frame.values) (length type.params))

    pub params_within : length type.params ≤ length t.values
    params_within = omega (arith, many, ap length s.values, length-append d.frame.values (under_own d))

    -- there is no room
    pub call_traps : (Room t extra → ⊥) → Follows memory t (call d (defined type extra body)) (Some (Trap trap.StackExhausted))
    call_traps none =
        let a : nat_le (length type.params) (length d.frame.values) ≡ true = le-leb _ _ many in
        rw (a, no_room extra none) (refl, s.kept)

    -- there is room
    pub call_enters : (p : Place) (vs : List ℕ) (ps : List Place) → Room t extra → ps ≡ t.here ∷ t.frames → vs ≡ replicate extra 0 ++ t.values
        → p.pc ≡ 0 → p.depth ≡ 0 → p.base ≡ length t.values - length type.params → p.height ≡ length vs → p.arity ≡ length type.results → p.arity ≤ 1
        → parts p.code.now ≡ part body None ∷ [] → JumpsFit p.code.now p.jumps.now
        → Follows memory (record t { values = vs; frames = ps; here = p }) (call d (defined type extra body)) None
    call_enters p vs ps r e v pc depth base height arity few whole fit =
        let n = length type.params in
        let own = d.frame.values in
        let low = under_own d in
        let a : nat_le n (length own) ≡ true = le-leb _ _ many in
        let parted : own ++ low ≡ take n own ++ (drop n own ++ low) =
        ap (λ l. l ++ low) (sym (take-append-drop n own)) ∙ append_assoc (take n own) (drop n own) low in
        let vs_are : vs ≡ reverse (reverse (take n own) ++ replicate extra 0) ++ (drop n own ++ low) =
        v ∙ ap (λ l. replicate extra 0 ++ l) (s.values ∙ parted) ∙ sym (append_assoc (replicate extra 0) (take n own) (drop n own ++ low))
        ∙ ap (λ l. l ++ (drop n own ++ low)) (sym (locals_lie (take n own) extra)) in
        let count : length t.values ≡ length own + length low = ap length s.values ∙ length-append own low in
        let floor : p.base ≡ length (drop n own ++ low) = omega (arith, length-append (drop n own) low, length-drop n own, many) in
        let top : p.height ≡ length (reverse (take n own) ++ replicate extra 0) + length (drop n own ++ low) =
        height ∙ ap length vs_are ∙ length-append (reverse (reverse (take n own) ++ replicate extra 0)) (drop n own ++ low)
        ∙ ap (λ k. k + length (drop n own ++ low)) (length-reverse (reverse (take n own) ++ replicate extra 0)) in
        let first : parts (drop p.pc p.code.now) ≡ part body None ∷ [] = ap (λ k. parts (drop k p.code.now)) pc ∙ whole in
        let stand : Stands memory (record t { values = vs; frames = ps; here = p }) (record d {
          frame = entered type extra body (take n own);
          callers = record d.frame { values = drop n own } ∷ d.callers;
        }) = record {
          values = vs_are;
          frames = record {
            arity = arity;
            few = few;
            jumps = fit;
            base = floor;
            height = top;
            other = None;
            outer = [];
            next = first;
            own = [];
            lower = t.labels;
            labels_are = refl;
            depth = depth;
            labels_stand = tt;
            callers = subst (λ l. FramesStand l (record d.frame { values = drop n own } ∷ d.callers) t.labels) (sym e) s.frames;
          };
          kept = s.kept;
        } in
        rw (a, room_is extra r) stand
