-- What stands at the frame's place, and blocks that are opened and left.
use Rattle.std.proofs.Common.{◌≡◌, ℕ, zero, suc, ◌+◌, ◌<◌, List, [], ◌∷◌, length, drop, refl, sym, ap, ◌∙◌, arith, None, Some, Option, true, false}
use Rattle.faaslet_meaning.specs.declared.instr.ValType.{ValType}
use Rattle.faaslet_meaning.specs.declared.instr.Instr.{Instr}
use Rattle.faaslet_meaning.specs.declared.instr.Instr.TheVariants.{Block, Loop, If, End}
use Rattle.faaslet_meaning.specs.Tree.{Tree, stop, plain, block, loop, if_then, if_else, IsPlain, arity_of}
use Rattle.faaslet_meaning.specs.Parse.{Part, part, parts, before, before_plain, before_block, before_loop, before_if}
use Rattle.faaslet_meaning.specs.Memory.{Memory}
use Rattle.faaslet_meaning.specs.Configuration.{Program, Configuration}
use Rattle.faaslet_meaning.specs.Step.{begin, with_rest, if_step}
use Rattle.faaslet_meaning.proofs.Written.{plain_before}
use Rattle.wasm_validate.specs.declared.jumps.Jump.{Jump}
use Rattle.wasm_interp.specs.declared.thread.Thread.{Thread}
use Rattle.wasm_validate.specs.Jumps.{side_of}
use Rattle.wasm_validate.proofs.JumpTables.{drop_one}
use Rattle.wasm_interp.specs.Places.{InstrAt, JumpAt, Opens, Closes}
use Rattle.wasm_interp.specs.Stands.{Stands, SideIs}

-- the thread at another place of the same code
abbrev pub moved : Thread → ℕ → Thread
moved t pc = record t { here = record t.here { pc = pc } }

-- the thread at a place from which other instructions are left in the innermost block
pub moved_stands : (memory : Memory) (t : Thread) (c : Configuration) (pc : ℕ) (e : Tree) (s : Stands memory t c) → parts (drop pc t.here.code.now) ≡ part e s.frames.other ∷ s.frames.outer → Stands memory (moved t pc) (with_rest c e)
moved_stands memory t c pc e s h =
    let f = s.frames in
    record {
      values = s.values;
      frames = record { arity = f.arity; few = f.few; jumps = f.jumps; base = f.base; height = f.height; other = f.other; outer = f.outer; next = h; own = f.own; lower = f.lower; labels_are = f.labels_are; depth = f.depth; labels_stand = f.labels_stand; callers = f.callers };
      kept = s.kept;
    }

-- what the parts from the frame's place are
pub next_is : (memory : Memory) (t : Thread) (c : Configuration) (i : Instr) (s : Stands memory t c) → InstrAt t.here i → before i (parts (drop (t.here.pc + 1) t.here.code.now)) ≡ part c.frame.rest s.frames.other ∷ s.frames.outer
next_is memory t c i s at = ap parts (sym (drop_one t.here.code.now t.here.pc i at)) ∙ s.frames.next

-- an instruction without blocks is passed
pub record Passed (memory : Memory) (t : Thread) (c : Configuration) (i : Instr) : Type 0 where
  pub rest : Tree
  pub is : c.frame.rest ≡ plain i rest
  pub stands : Stands memory (moved t (t.here.pc + 1)) (with_rest c rest)

record PlainParts (i : Instr) (ps : List Part) (rest : Tree) (other : Option Tree) (outer : List Part) : Type 0 where
  after : Tree
  is : rest ≡ plain i after
  there : ps ≡ part after other ∷ outer

plain_parts : (i : Instr) (ps : List Part) (rest : Tree) (other : Option Tree) (outer : List Part) → before_plain i ps ≡ part rest other ∷ outer → PlainParts i ps rest other outer
plain_parts i [] rest other outer e = cc
plain_parts i (part a o ∷ ps) rest other outer e =
    let is : rest ≡ plain i a = cc in
    let side : o ≡ other = cc in
    let out : ps ≡ outer = cc in
    record { after = a; is = is; there = ap (λ x. part a x ∷ ps) side ∙ ap (λ x. part a other ∷ x) out }

pub passes : (memory : Memory) (t : Thread) (c : Configuration) (i : Instr) → IsPlain i → InstrAt t.here i → Stands memory t c → Passed memory t c i
passes memory t c i h at s =
    let f = s.frames in
    let ps = parts (drop (t.here.pc + 1) t.here.code.now) in
    let p = plain_parts i ps c.frame.rest f.other f.outer (sym (plain_before i h ps) ∙ next_is memory t c i s at) in
    record { rest = p.after; is = p.is; stands = moved_stands memory t c (t.here.pc + 1) p.after s p.there }

record BlockParts (t : Option ValType) (ps : List Part) (rest : Tree) (other : Option Tree) (outer : List Part) : Type 0 where
  body : Tree
  after : Tree
  is : rest ≡ block t body after
  there : ps ≡ part body None ∷ (part after other ∷ outer)

block_parts : (t : Option ValType) (ps : List Part) (rest : Tree) (other : Option Tree) (outer : List Part) → before_block t ps ≡ part rest other ∷ outer → BlockParts t ps rest other outer
block_parts t [] rest other outer e = cc
block_parts t (part b (Some d) ∷ ps) rest other outer e = cc
block_parts t (part b None ∷ []) rest other outer e = cc
block_parts t (part b None ∷ (part a o ∷ ps)) rest other outer e =
    let is : rest ≡ block t b a = cc in
    let side : o ≡ other = cc in
    let out : ps ≡ outer = cc in
    record { body = b; after = a; is = is; there = ap (λ x. part b None ∷ (part a x ∷ ps)) side ∙ ap (λ x. part b None ∷ (part a other ∷ x)) out }

-- a block is opened
pub record BlockOpened (memory : Memory) (t : Thread) (c : Configuration) (j : Jump) (k : Option ValType) : Type 0 where
  pub body : Tree
  pub rest : Tree
  pub is : c.frame.rest ≡ block k body rest
  pub stands : Stands memory (moved t j.after) (with_rest c rest)
  pub opens : Opens t.here.code.now j.after (t.here.pc + 1) j.after false body None

pub block_opens : (memory : Memory) (t : Thread) (c : Configuration) (k : Option ValType) (j : Jump) → InstrAt t.here (Block k) → JumpAt t.here j → Stands memory t c → BlockOpened memory t c j k
block_opens memory t c k j at to s =
    let f = s.frames in
    let p = block_parts k (parts (drop (t.here.pc + 1) t.here.code.now)) c.frame.rest f.other f.outer (next_is memory t c (Block k) s at) in
    let after = to.after (part p.body None) (part p.after f.other) f.outer p.there in
    record {
      body = p.body;
      rest = p.after;
      is = p.is;
      stands = moved_stands memory t c j.after p.after s after;
      opens = record { other = None; p = part p.after f.other; ps = f.outer; after = after; body_at = p.there; leads = (refl, after); side = tt };
    }

record LoopParts (t : Option ValType) (ps : List Part) (rest : Tree) (other : Option Tree) (outer : List Part) : Type 0 where
  body : Tree
  after : Tree
  is : rest ≡ loop t body after
  there : ps ≡ part body None ∷ (part after other ∷ outer)

loop_parts : (t : Option ValType) (ps : List Part) (rest : Tree) (other : Option Tree) (outer : List Part) → before_loop t ps ≡ part rest other ∷ outer → LoopParts t ps rest other outer
loop_parts t [] rest other outer e = cc
loop_parts t (part b (Some d) ∷ ps) rest other outer e = cc
loop_parts t (part b None ∷ []) rest other outer e = cc
loop_parts t (part b None ∷ (part a o ∷ ps)) rest other outer e =
    let is : rest ≡ loop t b a = cc in
    let side : o ≡ other = cc in
    let out : ps ≡ outer = cc in
    record { body = b; after = a; is = is; there = ap (λ x. part b None ∷ (part a x ∷ ps)) side ∙ ap (λ x. part b None ∷ (part a other ∷ x)) out }

pub record LoopOpened (memory : Memory) (t : Thread) (c : Configuration) (j : Jump) (k : Option ValType) : Type 0 where
  pub body : Tree
  pub rest : Tree
  pub is : c.frame.rest ≡ loop k body rest
  pub stands : Stands memory (moved t j.after) (with_rest c rest)
  pub opens : Opens t.here.code.now j.after (t.here.pc + 1) (t.here.pc + 1) true body (Some body)

pub loop_opens : (memory : Memory) (t : Thread) (c : Configuration) (k : Option ValType) (j : Jump) → InstrAt t.here (Loop k) → JumpAt t.here j → Stands memory t c → LoopOpened memory t c j k
loop_opens memory t c k j at to s =
    let f = s.frames in
    let p = loop_parts k (parts (drop (t.here.pc + 1) t.here.code.now)) c.frame.rest f.other f.outer (next_is memory t c (Loop k) s at) in
    let after = to.after (part p.body None) (part p.after f.other) f.outer p.there in
    record {
      body = p.body;
      rest = p.after;
      is = p.is;
      stands = moved_stands memory t c j.after p.after s after;
      opens = record { other = None; p = part p.after f.other; ps = f.outer; after = after; body_at = p.there; leads = (refl, p.there); side = tt };
    }

-- both kinds of `if`
record IfParts (p : Program) (c : Configuration) (t : Option ValType) (ps : List Part) (rest : Tree) (other : Option Tree) (outer : List Part) : Type 0 where
  body : Tree
  side : Option Tree
  after : Tree
  is : begin p c rest ≡ if_step (with_rest c after) (arity_of t) body (side_of side) c.frame.values
  there : ps ≡ part body side ∷ (part after other ∷ outer)

if_parts : (p : Program) (c : Configuration) (t : Option ValType) (ps : List Part) (rest : Tree) (other : Option Tree) (outer : List Part) → before_if t ps ≡ part rest other ∷ outer → IfParts p c t ps rest other outer
if_parts p c t [] rest other outer e = cc
if_parts p c t (part b None ∷ []) rest other outer e = cc
if_parts p c t (part b (Some d) ∷ []) rest other outer e = cc
if_parts p c t (part b None ∷ (part a o ∷ ps)) rest other outer e =
    let is : rest ≡ if_then t b a = cc in
    let same : o ≡ other = cc in
    let out : ps ≡ outer = cc in
    record { body = b; side = None; after = a; is = ap (begin p c) is; there = ap (λ x. part b None ∷ (part a x ∷ ps)) same ∙ ap (λ x. part b None ∷ (part a other ∷ x)) out }
if_parts p c t (part b (Some d) ∷ (part a o ∷ ps)) rest other outer e =
    let is : rest ≡ if_else t b d a = cc in
    let same : o ≡ other = cc in
    let out : ps ≡ outer = cc in
    record { body = b; side = Some d; after = a; is = ap (begin p c) is; there = ap (λ x. part b (Some d) ∷ (part a x ∷ ps)) same ∙ ap (λ x. part b (Some d) ∷ (part a other ∷ x)) out }

pub record IfOpened (p : Program) (memory : Memory) (t : Thread) (c : Configuration) (j : Jump) (k : Option ValType) : Type 0 where
  pub body : Tree
  pub side : Option Tree
  pub rest : Tree
  pub is : begin p c c.frame.rest ≡ if_step (with_rest c rest) (arity_of k) body (side_of side) c.frame.values
  pub stands : Stands memory (moved t j.after) (with_rest c rest)
  pub first : Opens t.here.code.now j.after (t.here.pc + 1) j.after false body None
  pub second : Opens t.here.code.now j.after j.other j.after false (side_of side) None

open_side : (o : Option Tree) → SideIs o None
open_side None = tt
open_side (Some e) = tt

pub if_opens : (p : Program) (memory : Memory) (t : Thread) (c : Configuration) (k : Option ValType) (j : Jump) → InstrAt t.here (If k) → JumpAt t.here j → Stands memory t c → IfOpened p memory t c j k
if_opens p memory t c k j at to s =
    let f = s.frames in
    let q = if_parts p c k (parts (drop (t.here.pc + 1) t.here.code.now)) c.frame.rest f.other f.outer (next_is memory t c (If k) s at) in
    let after = to.after (part q.body q.side) (part q.after f.other) f.outer q.there in
    let other = to.other q.body q.side (part q.after f.other ∷ f.outer) q.there in
    record {
      body = q.body;
      side = q.side;
      rest = q.after;
      is = q.is;
      stands = moved_stands memory t c j.after q.after s after;
      first = record { other = q.side; p = part q.after f.other; ps = f.outer; after = after; body_at = q.there; leads = (refl, after); side = open_side q.side };
      second = record { other = None; p = part q.after f.other; ps = f.outer; after = after; body_at = other; leads = (refl, after); side = tt };
    }

-- the end of a block
pub end_closes : (memory : Memory) (t : Thread) (c : Configuration) → InstrAt t.here End → Stands memory t c → (c.frame.rest ≡ stop) × Closes t.here.code.now t.here.pc (t.here.pc + 1)
end_closes memory t c at s =
    let f = s.frames in
    let e : part stop None ∷ parts (drop (t.here.pc + 1) t.here.code.now) ≡ part c.frame.rest f.other ∷ f.outer = next_is memory t c End s at in
    let is : c.frame.rest ≡ stop = cc in
    let out : parts (drop (t.here.pc + 1) t.here.code.now) ≡ f.outer = cc in
    (is, record { p = part c.frame.rest f.other; outer = f.outer; inside = f.next; after = out })

-- the frame's place is in its code
pub place_there : (xs : List Instr) (n : ℕ) (p : Part) (ps : List Part) → parts (drop n xs) ≡ p ∷ ps → n < length xs
place_there [] zero p ps e = let f : ⊥ = cc in absurd f
place_there [] (suc n) p ps e = let f : ⊥ = cc in absurd f
place_there (x ∷ xs) zero p ps e = omega arith
place_there (x ∷ xs) (suc n) p ps e = omega (arith, place_there xs n p ps e)
