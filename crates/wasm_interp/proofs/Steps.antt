-- One step: an end of a sequence, or an instruction that is paid for.
use Rattle.std.proofs.Common.{◌≡◌, ℕ, zero, suc, ◌+◌, ◌-◌, ◌<◌, List, [], ◌∷◌, ◌++◌, length, drop, refl, ap, ◌∙◌, subst, arith, None, Some, Option, Bool}
use Rattle.faaslet_meaning.specs.declared.instr.ValType.{ValType}
use Rattle.faaslet_meaning.specs.declared.instr.Instr.{Instr}
use Rattle.faaslet_meaning.specs.declared.instr.Instr.TheVariants.{Block, Loop, If, Else, End, Unreachable, Nop, Br, BrIf, BrTable, Return, Call, CallIndirect, Drop, Select, LocalGet, LocalSet, LocalTee, GlobalGet, GlobalSet, Load, Store, MemorySize, MemoryGrow, I32Const, I64Const, F32Const, F64Const, Num}
use Rattle.faaslet_meaning.specs.declared.outcome.Outcome.TheVariants.{FuelOut}
use Rattle.faaslet_meaning.specs.Tree.{Tree, stop, plain, block, loop, if_then, if_else, IsPlain}
use Rattle.faaslet_meaning.specs.Parse.{Part, part, parts, before, before_plain, before_block, before_loop, before_if, before_else}
use Rattle.faaslet_meaning.specs.Memory.{Memory}
use Rattle.faaslet_meaning.specs.Configuration.{Label, Program, Configuration, Next, ends}
use Rattle.faaslet_meaning.specs.Step.{begin, step_at, paid}
use Rattle.wasm_interp.specs.declared.thread.Label.{Label as Mark}
use Rattle.wasm_interp.specs.declared.thread.Thread.{Thread}
use Rattle.wasm_interp.specs.Places.{InstrAt, IsBegun, Closes}
use Rattle.wasm_interp.specs.Stands.{LabelsStand, TargetIs, SideIs, Stands}
use Rattle.wasm_interp.proofs.Opening.{next_is}

side_target : (code : List Instr) (target : ℕ) (again : Bool) (e : Tree) (back : Option Tree) (p : Part) (ps : List Part) → TargetIs code target again back p ps → SideIs (Some e) back → parts (drop target code) ≡ p ∷ ps
side_target code target again e None p ps t h = t.1
side_target code target again e (Some b) p ps t h = absurd h

-- the label of an `if` that has another side
record SideLabel (code : List Instr) (ms : List Mark) (outer : List Part) : Type 0 where
  mark : Mark
  marks : List Mark
  is : ms ≡ mark ∷ marks
  leads : parts (drop mark.target code) ≡ outer

side_label : (code : List Instr) (ms : List Mark) (ls : List Label) (e : Tree) (outer : List Part) (n : ℕ) → LabelsStand code ms ls (Some e) outer n → SideLabel code ms outer
side_label code [] [] e outer n h = absurd h
side_label code [] (l ∷ ls) e outer n h = absurd h
side_label code (m ∷ ms) [] e outer n h = absurd h
side_label code (m ∷ ms) (l ∷ ls) e [] n h = absurd h
side_label code (m ∷ ms) (l ∷ ls) e (p ∷ ps) n h =
    record { mark = m; marks = ms; is = refl; leads = side_target code m.target m.again e l.again p ps h.0.target h.0.side }

record ElseParts (rest : Tree) (other : Option Tree) : Type 0 where
  side : Tree
  is : rest ≡ stop
  other_is : other ≡ Some side

else_parts : (ps : List Part) (rest : Tree) (other : Option Tree) (outer : List Part) → before_else ps ≡ part rest other ∷ outer → ElseParts rest other
else_parts [] rest other outer e = cc
else_parts (part d (Some x) ∷ ps) rest other outer e = cc
else_parts (part d None ∷ ps) rest other outer e =
    let is : rest ≡ stop = cc in
    let o : other ≡ Some d = cc in
    record { side = d; is = is; other_is = o }

-- at an `else` the innermost label is left
pub record ElseCloses (t : Thread) (c : Configuration) : Type 0 where
  pub is : c.frame.rest ≡ stop
  pub mark : Mark
  pub marks : List Mark
  pub labels_are : t.labels ≡ mark ∷ marks
  pub deep : 0 < t.here.depth
  pub closes : Closes t.here.code.now t.here.pc mark.target

pub else_closes : (memory : Memory) (t : Thread) (c : Configuration) → InstrAt t.here Else → Stands memory t c → ElseCloses t c
else_closes memory t c at s =
    let f = s.frames in
    let code = t.here.code.now in
    let e = else_parts (parts (drop (t.here.pc + 1) code)) c.frame.rest f.other f.outer (next_is memory t c Else s at) in
    let l = side_label code f.own c.frame.labels e.side f.outer t.here.height (subst (λ o. LabelsStand code f.own c.frame.labels o f.outer t.here.height) e.other_is f.labels_stand) in
    record {
      is = e.is;
      mark = l.mark;
      marks = l.marks ++ f.lower;
      labels_are = f.labels_are ∙ ap (λ x. x ++ f.lower) l.is;
      deep = omega (arith, f.depth, ap length l.is);
      closes = record { p = part c.frame.rest f.other; outer = f.outer; inside = f.next; after = l.leads };
    }

-- no instruction is begun at the end of a sequence
no_plain : (i : Instr) (ps : List Part) (o : Option Tree) (outer : List Part) → before_plain i ps ≡ part stop o ∷ outer → ⊥
no_plain i [] o outer e = cc
no_plain i (part a b ∷ ps) o outer e = cc

no_block : (t : Option ValType) (ps : List Part) (o : Option Tree) (outer : List Part) → before_block t ps ≡ part stop o ∷ outer → ⊥
no_block t [] o outer e = cc
no_block t (part b (Some d) ∷ ps) o outer e = cc
no_block t (part b None ∷ []) o outer e = cc
no_block t (part b None ∷ (part a x ∷ ps)) o outer e = cc

no_loop : (t : Option ValType) (ps : List Part) (o : Option Tree) (outer : List Part) → before_loop t ps ≡ part stop o ∷ outer → ⊥
no_loop t [] o outer e = cc
no_loop t (part b (Some d) ∷ ps) o outer e = cc
no_loop t (part b None ∷ []) o outer e = cc
no_loop t (part b None ∷ (part a x ∷ ps)) o outer e = cc

no_if : (t : Option ValType) (ps : List Part) (o : Option Tree) (outer : List Part) → before_if t ps ≡ part stop o ∷ outer → ⊥
no_if t [] o outer e = cc
no_if t (part b (Some d) ∷ []) o outer e = cc
no_if t (part b None ∷ []) o outer e = cc
no_if t (part b None ∷ (part a x ∷ ps)) o outer e = cc
no_if t (part b (Some d) ∷ (part a x ∷ ps)) o outer e = cc

not_stop : (i : Instr) (ps : List Part) (o : Option Tree) (outer : List Part) → IsBegun i → before i ps ≡ part stop o ∷ outer → ⊥
not_stop (Block t) ps o outer h e = no_block t ps o outer e
not_stop (Loop t) ps o outer h e = no_loop t ps o outer e
not_stop (If t) ps o outer h e = no_if t ps o outer e
not_stop Else ps o outer h e = h
not_stop End ps o outer h e = h
not_stop Unreachable ps o outer h e = no_plain Unreachable ps o outer e
not_stop Nop ps o outer h e = no_plain Nop ps o outer e
not_stop (Br a) ps o outer h e = no_plain (Br a) ps o outer e
not_stop (BrIf a) ps o outer h e = no_plain (BrIf a) ps o outer e
not_stop (BrTable a b) ps o outer h e = no_plain (BrTable a b) ps o outer e
not_stop Return ps o outer h e = no_plain Return ps o outer e
not_stop (Call a) ps o outer h e = no_plain (Call a) ps o outer e
not_stop (CallIndirect a) ps o outer h e = no_plain (CallIndirect a) ps o outer e
not_stop Drop ps o outer h e = no_plain Drop ps o outer e
not_stop Select ps o outer h e = no_plain Select ps o outer e
not_stop (LocalGet a) ps o outer h e = no_plain (LocalGet a) ps o outer e
not_stop (LocalSet a) ps o outer h e = no_plain (LocalSet a) ps o outer e
not_stop (LocalTee a) ps o outer h e = no_plain (LocalTee a) ps o outer e
not_stop (GlobalGet a) ps o outer h e = no_plain (GlobalGet a) ps o outer e
not_stop (GlobalSet a) ps o outer h e = no_plain (GlobalSet a) ps o outer e
not_stop (Load a b c) ps o outer h e = no_plain (Load a b c) ps o outer e
not_stop (Store a b c) ps o outer h e = no_plain (Store a b c) ps o outer e
not_stop MemorySize ps o outer h e = no_plain MemorySize ps o outer e
not_stop MemoryGrow ps o outer h e = no_plain MemoryGrow ps o outer e
not_stop (I32Const a) ps o outer h e = no_plain (I32Const a) ps o outer e
not_stop (I64Const a) ps o outer h e = no_plain (I64Const a) ps o outer e
not_stop (F32Const a) ps o outer h e = no_plain (F32Const a) ps o outer e
not_stop (F64Const a) ps o outer h e = no_plain (F64Const a) ps o outer e
not_stop (Num a) ps o outer h e = no_plain (Num a) ps o outer e

begun_at : (p : Program) (c : Configuration) (e : Tree) → (e ≡ stop → ⊥) → step_at p c e ≡ paid c c.fuel (λ d. begin p d e)
begun_at p c stop h = absurd (h refl)
begun_at p c (plain i e) h = refl
begun_at p c (block t b e) h = refl
begun_at p c (loop t b e) h = refl
begun_at p c (if_then t b e) h = refl
begun_at p c (if_else t b d e) h = refl

pub pays : (p : Program) (memory : Memory) (t : Thread) (c : Configuration) (i : Instr) → IsBegun i → InstrAt t.here i → Stands memory t c → step_at p c c.frame.rest ≡ paid c c.fuel (λ d. begin p d c.frame.rest)
pays p memory t c i h at s =
    let f = s.frames in
    begun_at p c c.frame.rest (λ e. not_stop i (parts (drop (t.here.pc + 1) t.here.code.now)) f.other f.outer h (next_is memory t c i s at ∙ ap (λ x. part x f.other ∷ f.outer) e))

pub pays_none : (c : Configuration) (n : ℕ) (go : Configuration → Next) → n ≡ 0 → paid c n go ≡ ends c FuelOut
pays_none c n go e = ap (λ k. paid c k go) e

pub pays_one : (c : Configuration) (n : ℕ) (go : Configuration → Next) → 0 < n → paid c n go ≡ go (record c { fuel = n - 1 })
pays_one c zero go h = absurd (omega arith)
pays_one c (suc n) go h = let e : n ≡ suc n - 1 = omega arith in ap (λ k. go (record c { fuel = k })) e

pub paid_stands : (memory : Memory) (t : Thread) (c : Configuration) → Stands memory t c → Stands memory (record t { fuel = t.fuel - 1 }) (record c { fuel = c.fuel - 1 })
paid_stands memory t c s = record { values = s.values; frames = s.frames; kept = record { globals_are = s.kept.globals_are; table_is = s.kept.table_is; memory_is = s.kept.memory_is; fuel_is = ap (λ n. n - 1) s.kept.fuel_is } }

pub begun_is : (i : Instr) → (i ≡ End → ⊥) → (i ≡ Else → ⊥) → IsBegun i
begun_is End h k = h refl
begun_is Else h k = k refl
begun_is _ h k = tt

pub plain_is : (i : Instr) → IsBegun i → ((t : Option ValType) → i ≡ Block t → ⊥) → ((t : Option ValType) → i ≡ Loop t → ⊥) → ((t : Option ValType) → i ≡ If t → ⊥) → IsPlain i
plain_is End h a b c = h
plain_is Else h a b c = h
plain_is (Block t) h a b c = a t refl
plain_is (Loop t) h a b c = b t refl
plain_is (If t) h a b c = c t refl
plain_is _ h a b c = tt
