-- Flat lists that are trees written out, by a stack of what is open.
use Rattle.std.proofs.Common.{◌≡◌, Bool, true, false, List, [], ◌∷◌, ◌++◌, Option, Some, ◌⊎◌, inl, inr, refl, sym, ap, ◌∙◌, append_assoc}
use Rattle.faaslet_meaning.specs.declared.instr.Instr.{Instr}
use Rattle.faaslet_meaning.specs.declared.instr.Instr.TheVariants.{Unreachable, Nop, Block, Loop, If, Else, End, Br, BrIf, BrTable, Return, Call, CallIndirect, Drop, Select, LocalGet, LocalSet, LocalTee, GlobalGet, GlobalSet, Load, Store, MemorySize, MemoryGrow, I32Const, I64Const, F32Const, F64Const, Num}
use Rattle.faaslet_meaning.specs.Tree.{Tree, stop, plain, block, loop, if_then, if_else, written, IsPlain, AllPlain}
use Rattle.faaslet_meaning.specs.Nesting.{step, run}

-- ---- a flat list that runs to its end is a tree

-- the end of an open part, or its else and the end of that
pub record Ends (rests : List Instr → Type 0) (code : List Instr) : Type 0 where
  pub after : List Instr
  pub parts : code ≡ End ∷ after
  pub then : rests after

pub record Elses (rests : List Instr → Type 0) (code : List Instr) : Type 0 where
  pub other : Tree
  pub after : List Instr
  pub proper : AllPlain other
  pub parts : code ≡ Else ∷ (written other ++ End ∷ after)
  pub then : rests after

abbrev pub Closes : Bool → (List Instr → Type 0) → List Instr → Type 0
Closes false rests code = Ends rests code
Closes true rests code = Ends rests code ⊎ Elses rests code

pub record Rest (closes : List Instr → Type 0) (code : List Instr) : Type 0 where
  pub tree : Tree
  pub tail : List Instr
  pub proper : AllPlain tree
  pub parts : code ≡ written tree ++ tail
  pub then : closes tail

-- the rest of a list, where so much is open
abbrev pub Rests : List Bool → List Instr → Type 0
Rests [] code = code ≡ []
Rests (m ∷ ms) code = Rest (Closes m (Rests ms)) code

leaf : (m : Bool) (ms : List Bool) (i : Instr) (code : List Instr) → IsPlain i → Rests (m ∷ ms) code → Rests (m ∷ ms) (i ∷ code)
leaf m ms i code l r = record { tree = plain i r.tree; tail = r.tail; proper = (l, r.proper); parts = ap (λ (c : List Instr). i ∷ c) r.parts; then = r.then }

around : (i : Instr) (head : List Instr) (a b c code : List Instr) → code ≡ a ++ End ∷ b → b ≡ c ++ head → i ∷ code ≡ (i ∷ (a ++ End ∷ c)) ++ head
around i head a b c code e f = ap (λ (t : List Instr). i ∷ t) (e ∙ ap (λ (t : List Instr). a ++ End ∷ t) f ∙ sym (append_assoc a (End ∷ c) head))

rests_end : (m : Bool) (ms : List Bool) (code : List Instr) → Rests ms code → Rests (m ∷ ms) (End ∷ code)
rests_end true ms code r = record { tree = stop; tail = End ∷ code; proper = tt; parts = refl; then = inl (record { after = code; parts = refl; then = r }) }
rests_end false ms code r = record { tree = stop; tail = End ∷ code; proper = tt; parts = refl; then = record { after = code; parts = refl; then = r } }

rests_else : (ms : List Bool) (code : List Instr) → Rests (false ∷ ms) code → Rests (true ∷ ms) (Else ∷ code)
rests_else ms code r = record { tree = stop; tail = Else ∷ code; proper = tt; parts = refl; then = inr (record { other = r.tree; after = r.then.after; proper = r.proper; parts = ap (λ (t : List Instr). Else ∷ t) (r.parts ∙ ap (λ (t : List Instr). written r.tree ++ t) r.then.parts); then = r.then.then }) }

rests_block : (m : Bool) (ms : List Bool) (t : Option _) (code : List Instr) → Rests (false ∷ m ∷ ms) code → Rests (m ∷ ms) (Block t ∷ code)
rests_block m ms t code r = let o = r.then.then in record { tree = block t r.tree o.tree; tail = o.tail; proper = (r.proper, o.proper); parts = around (Block t) o.tail (written r.tree) r.then.after (written o.tree) code (r.parts ∙ ap (λ (c : List Instr). written r.tree ++ c) r.then.parts) o.parts; then = o.then }

rests_loop : (m : Bool) (ms : List Bool) (t : Option _) (code : List Instr) → Rests (false ∷ m ∷ ms) code → Rests (m ∷ ms) (Loop t ∷ code)
rests_loop m ms t code r = let o = r.then.then in record { tree = loop t r.tree o.tree; tail = o.tail; proper = (r.proper, o.proper); parts = around (Loop t) o.tail (written r.tree) r.then.after (written o.tree) code (r.parts ∙ ap (λ (c : List Instr). written r.tree ++ c) r.then.parts) o.parts; then = o.then }

rests_if : (m : Bool) (ms : List Bool) (t : Option _) (code : List Instr) → Rests (true ∷ m ∷ ms) code → Rests (m ∷ ms) (If t ∷ code)
rests_if m ms t code r = go r.then
  where
    go : Closes true (Rests (m ∷ ms)) r.tail → Rests (m ∷ ms) (If t ∷ code)
    go (inl e) = let o = e.then in record { tree = if_then t r.tree o.tree; tail = o.tail; proper = (r.proper, o.proper); parts = around (If t) o.tail (written r.tree) e.after (written o.tree) code (r.parts ∙ ap (λ (c : List Instr). written r.tree ++ c) e.parts) o.parts; then = o.then }
    go (inr e) = let o = e.then in record {
      tree = if_else t r.tree e.other o.tree;
      tail = o.tail;
      proper = (r.proper, e.proper, o.proper);
      parts = ap (λ (c : List Instr). If t ∷ c) (r.parts ∙ ap (λ (c : List Instr). written r.tree ++ c) (e.parts ∙ ap (λ (c : List Instr). Else ∷ (written e.other ++ End ∷ c)) o.parts ∙ ap (λ (c : List Instr). Else ∷ c) (sym (append_assoc (written e.other) (End ∷ written o.tree) o.tail))) ∙ sym (append_assoc (written r.tree) (Else ∷ (written e.other ++ End ∷ written o.tree)) o.tail));
      then = o.then;
    }

pub rests : (code : List Instr) (ms : List Bool) → run ms code ≡ Some [] → Rests ms code
rests [] [] e = refl
rests [] (m ∷ ms) e = absurd cc
rests (i ∷ code) [] e = absurd cc
rests (Block t ∷ code) (m ∷ ms) e = rests_block m ms t code (rests code (false ∷ m ∷ ms) e)
rests (Loop t ∷ code) (m ∷ ms) e = rests_loop m ms t code (rests code (false ∷ m ∷ ms) e)
rests (If t ∷ code) (m ∷ ms) e = rests_if m ms t code (rests code (true ∷ m ∷ ms) e)
rests (Else ∷ code) (true ∷ ms) e = rests_else ms code (rests code (false ∷ ms) e)
rests (Else ∷ code) (false ∷ ms) e = absurd cc
rests (End ∷ code) (m ∷ ms) e = rests_end m ms code (rests code ms e)
rests (Unreachable ∷ code) (m ∷ ms) e = leaf m ms Unreachable code tt (rests code (m ∷ ms) e)
rests (Nop ∷ code) (m ∷ ms) e = leaf m ms Nop code tt (rests code (m ∷ ms) e)
rests ((Br l) ∷ code) (m ∷ ms) e = leaf m ms (Br l) code tt (rests code (m ∷ ms) e)
rests ((BrIf l) ∷ code) (m ∷ ms) e = leaf m ms (BrIf l) code tt (rests code (m ∷ ms) e)
rests ((BrTable ls l) ∷ code) (m ∷ ms) e = leaf m ms (BrTable ls l) code tt (rests code (m ∷ ms) e)
rests (Return ∷ code) (m ∷ ms) e = leaf m ms Return code tt (rests code (m ∷ ms) e)
rests ((Call f) ∷ code) (m ∷ ms) e = leaf m ms (Call f) code tt (rests code (m ∷ ms) e)
rests ((CallIndirect t) ∷ code) (m ∷ ms) e = leaf m ms (CallIndirect t) code tt (rests code (m ∷ ms) e)
rests (Drop ∷ code) (m ∷ ms) e = leaf m ms Drop code tt (rests code (m ∷ ms) e)
rests (Select ∷ code) (m ∷ ms) e = leaf m ms Select code tt (rests code (m ∷ ms) e)
rests ((LocalGet x) ∷ code) (m ∷ ms) e = leaf m ms (LocalGet x) code tt (rests code (m ∷ ms) e)
rests ((LocalSet x) ∷ code) (m ∷ ms) e = leaf m ms (LocalSet x) code tt (rests code (m ∷ ms) e)
rests ((LocalTee x) ∷ code) (m ∷ ms) e = leaf m ms (LocalTee x) code tt (rests code (m ∷ ms) e)
rests ((GlobalGet x) ∷ code) (m ∷ ms) e = leaf m ms (GlobalGet x) code tt (rests code (m ∷ ms) e)
rests ((GlobalSet x) ∷ code) (m ∷ ms) e = leaf m ms (GlobalSet x) code tt (rests code (m ∷ ms) e)
rests ((Load op a o) ∷ code) (m ∷ ms) e = leaf m ms (Load op a o) code tt (rests code (m ∷ ms) e)
rests ((Store op a o) ∷ code) (m ∷ ms) e = leaf m ms (Store op a o) code tt (rests code (m ∷ ms) e)
rests (MemorySize ∷ code) (m ∷ ms) e = leaf m ms MemorySize code tt (rests code (m ∷ ms) e)
rests (MemoryGrow ∷ code) (m ∷ ms) e = leaf m ms MemoryGrow code tt (rests code (m ∷ ms) e)
rests ((I32Const n) ∷ code) (m ∷ ms) e = leaf m ms (I32Const n) code tt (rests code (m ∷ ms) e)
rests ((I64Const n) ∷ code) (m ∷ ms) e = leaf m ms (I64Const n) code tt (rests code (m ∷ ms) e)
rests ((F32Const n) ∷ code) (m ∷ ms) e = leaf m ms (F32Const n) code tt (rests code (m ∷ ms) e)
rests ((F64Const n) ∷ code) (m ∷ ms) e = leaf m ms (F64Const n) code tt (rests code (m ∷ ms) e)
rests ((Num op) ∷ code) (m ∷ ms) e = leaf m ms (Num op) code tt (rests code (m ∷ ms) e)

-- ---- and a tree runs to its end

leaf_step : (m : Bool) (ms : List Bool) (i : Instr) → IsPlain i → step (m ∷ ms) i ≡ Some (m ∷ ms)
leaf_step m ms (Block t) l = absurd l
leaf_step m ms (Loop t) l = absurd l
leaf_step m ms (If t) l = absurd l
leaf_step m ms Else l = absurd l
leaf_step m ms End l = absurd l
leaf_step m ms Unreachable leaf = refl
leaf_step m ms Nop leaf = refl
leaf_step m ms (Br l) leaf = refl
leaf_step m ms (BrIf l) leaf = refl
leaf_step m ms (BrTable ls l) leaf = refl
leaf_step m ms Return leaf = refl
leaf_step m ms (Call f) leaf = refl
leaf_step m ms (CallIndirect t) leaf = refl
leaf_step m ms Drop leaf = refl
leaf_step m ms Select leaf = refl
leaf_step m ms (LocalGet x) leaf = refl
leaf_step m ms (LocalSet x) leaf = refl
leaf_step m ms (LocalTee x) leaf = refl
leaf_step m ms (GlobalGet x) leaf = refl
leaf_step m ms (GlobalSet x) leaf = refl
leaf_step m ms (Load op a o) leaf = refl
leaf_step m ms (Store op a o) leaf = refl
leaf_step m ms MemorySize leaf = refl
leaf_step m ms MemoryGrow leaf = refl
leaf_step m ms (I32Const n) leaf = refl
leaf_step m ms (I64Const n) leaf = refl
leaf_step m ms (F32Const n) leaf = refl
leaf_step m ms (F64Const n) leaf = refl
leaf_step m ms (Num op) leaf = refl

-- a tree leaves open what was open
pub runs_over : (t : Tree) (m : Bool) (ms : List Bool) (c : List Instr) → AllPlain t → run (m ∷ ms) (written t ++ c) ≡ run (m ∷ ms) c
runs_over stop m ms c p = refl
runs_over (plain i rest) m ms c p = rw (leaf_step m ms i p.0) (runs_over rest m ms c p.1)
runs_over (block t body rest) m ms c p = ap (run (false ∷ m ∷ ms)) (append_assoc (written body) (End ∷ written rest) c) ∙ runs_over body false (m ∷ ms) (End ∷ (written rest ++ c)) p.0 ∙ runs_over rest m ms c p.1
runs_over (loop t body rest) m ms c p = ap (run (false ∷ m ∷ ms)) (append_assoc (written body) (End ∷ written rest) c) ∙ runs_over body false (m ∷ ms) (End ∷ (written rest ++ c)) p.0 ∙ runs_over rest m ms c p.1
runs_over (if_then t body rest) m ms c p = ap (run (true ∷ m ∷ ms)) (append_assoc (written body) (End ∷ written rest) c) ∙ runs_over body true (m ∷ ms) (End ∷ (written rest ++ c)) p.0 ∙ runs_over rest m ms c p.1
runs_over (if_else t body other rest) m ms c p =
    ap (run (true ∷ m ∷ ms)) (append_assoc (written body) (Else ∷ (written other ++ End ∷ written rest)) c)
    ∙ runs_over body true (m ∷ ms) (Else ∷ ((written other ++ End ∷ written rest) ++ c)) p.0
    ∙ ap (run (false ∷ m ∷ ms)) (append_assoc (written other) (End ∷ written rest) c)
    ∙ runs_over other false (m ∷ ms) (End ∷ (written rest ++ c)) p.1 ∙ runs_over rest m ms c p.2
