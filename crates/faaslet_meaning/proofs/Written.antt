-- A tree written out is read as that tree.
use Rattle.std.proofs.Common.{◌≡◌, List, [], ◌∷◌, ◌++◌, refl, sym, ap, ◌∙◌, subst, append_assoc, None, Some, Option}
use Rattle.faaslet_meaning.specs.declared.instr.ValType.{ValType}
use Rattle.faaslet_meaning.specs.declared.instr.Instr.{Instr}
use Rattle.faaslet_meaning.specs.declared.instr.Instr.TheVariants.{Unreachable, Nop, Block, Loop, If, Else, End, Br, BrIf, BrTable, Return, Call, Drop, Select, LocalGet, LocalSet, LocalTee, I32Const, I64Const, F32Const, F64Const, Num, GlobalGet, GlobalSet, Load, Store, MemorySize, MemoryGrow, CallIndirect}
use Rattle.faaslet_meaning.specs.Tree.{Tree, stop, plain, block, loop, if_then, if_else, written, IsPlain, AllPlain, IsWritten}
use Rattle.faaslet_meaning.specs.Typing.{Context, HasType, Typed, IsTyped}
use Rattle.faaslet_meaning.specs.Parse.{Part, part, parts, before, before_plain, before_block, before_loop, before_if, before_else, tree_of, first_seq}

pub plain_before : (i : Instr) → IsPlain i → (ps : List Part) → before i ps ≡ before_plain i ps
plain_before Unreachable h ps = refl
plain_before Nop h ps = refl
plain_before (Block t) h ps = absurd h
plain_before (Loop t) h ps = absurd h
plain_before (If t) h ps = absurd h
plain_before Else h ps = absurd h
plain_before End h ps = absurd h
plain_before (Br n) h ps = refl
plain_before (BrIf n) h ps = refl
plain_before (BrTable ns n) h ps = refl
plain_before Return h ps = refl
plain_before (Call n) h ps = refl
plain_before Drop h ps = refl
plain_before Select h ps = refl
plain_before (LocalGet n) h ps = refl
plain_before (LocalSet n) h ps = refl
plain_before (LocalTee n) h ps = refl
plain_before (I32Const n) h ps = refl
plain_before (I64Const n) h ps = refl
plain_before (F32Const n) h ps = refl
plain_before (F64Const n) h ps = refl
plain_before (Num n) h ps = refl
plain_before (GlobalGet k) h ps = refl
plain_before (GlobalSet k) h ps = refl
plain_before (Load o a n) h ps = refl
plain_before (Store o a n) h ps = refl
plain_before MemorySize h ps = refl
plain_before MemoryGrow h ps = refl
plain_before (CallIndirect k) h ps = refl

-- a sequence before what is read as the rest of a block
pub parts_before : (e : Tree) (is : List Instr) (o : Option Tree) (ps : List Part) → AllPlain e → parts is ≡ part stop o ∷ ps → parts (written e ++ is) ≡ part e o ∷ ps
parts_before stop is o ps h k = k
parts_before (plain i r) is o ps h k = plain_before i h.0 (parts (written r ++ is)) ∙ ap (before_plain i) (parts_before r is o ps h.1 k)
parts_before (block t b r) is o ps h k =
    let rest = parts_before r is o ps h.1 k in
    let inner = parts_before b (End ∷ (written r ++ is)) None (part r o ∷ ps) h.0 (ap (λ x. part stop None ∷ x) rest) in
    ap (λ l. before_block t (parts l)) (append_assoc (written b) (End ∷ written r) is) ∙ ap (before_block t) inner
parts_before (loop t b r) is o ps h k =
    let rest = parts_before r is o ps h.1 k in
    let inner = parts_before b (End ∷ (written r ++ is)) None (part r o ∷ ps) h.0 (ap (λ x. part stop None ∷ x) rest) in
    ap (λ l. before_loop t (parts l)) (append_assoc (written b) (End ∷ written r) is) ∙ ap (before_loop t) inner
parts_before (if_then t b r) is o ps h k =
    let rest = parts_before r is o ps h.1 k in
    let inner = parts_before b (End ∷ (written r ++ is)) None (part r o ∷ ps) h.0 (ap (λ x. part stop None ∷ x) rest) in
    ap (λ l. before_if t (parts l)) (append_assoc (written b) (End ∷ written r) is) ∙ ap (before_if t) inner
parts_before (if_else t b d r) is o ps h k =
    let rest = parts_before r is o ps h.2 k in
    let other = parts_before d (End ∷ (written r ++ is)) None (part r o ∷ ps) h.1 (ap (λ x. part stop None ∷ x) rest) in
    let inner = parts_before b (Else ∷ (written d ++ (End ∷ (written r ++ is)))) (Some d) (part r o ∷ ps) h.0 (ap before_else other) in
    ap (λ l. before_if t (parts l)) (append_assoc (written b) (Else ∷ (written d ++ (End ∷ written r))) is ∙ ap (λ l. written b ++ Else ∷ l) (append_assoc (written d) (End ∷ written r) is)) ∙ ap (before_if t) inner

-- so an expression is read as its tree
pub parts_written : (code : List Instr) (e : Tree) → IsWritten code e → parts code ≡ part e None ∷ []
parts_written code e h = ap parts h.flat ∙ parts_before e (End ∷ []) None [] h.plain refl

pub tree_written : (code : List Instr) (e : Tree) → IsWritten code e → tree_of code ≡ e
tree_written code e h = ap first_seq (parts_written code e h)

has_plain : (c : Context) (i : Instr) (ps qs : List ValType) → HasType c i ps qs → IsPlain i
has_plain c Unreachable ps qs h = tt
has_plain c Nop ps qs h = tt
has_plain c (Block t) ps qs h = absurd h
has_plain c (Loop t) ps qs h = absurd h
has_plain c (If t) ps qs h = absurd h
has_plain c Else ps qs h = absurd h
has_plain c End ps qs h = absurd h
has_plain c (Br n) ps qs h = tt
has_plain c (BrIf n) ps qs h = tt
has_plain c (BrTable ns n) ps qs h = tt
has_plain c Return ps qs h = tt
has_plain c (Call n) ps qs h = tt
has_plain c Drop ps qs h = tt
has_plain c Select ps qs h = tt
has_plain c (LocalGet n) ps qs h = tt
has_plain c (LocalSet n) ps qs h = tt
has_plain c (LocalTee n) ps qs h = tt
has_plain c (I32Const n) ps qs h = tt
has_plain c (I64Const n) ps qs h = tt
has_plain c (F32Const n) ps qs h = absurd h
has_plain c (F64Const n) ps qs h = absurd h
has_plain c (Num n) ps qs h = tt
has_plain c (GlobalGet k) ps qs h = tt
has_plain c (GlobalSet k) ps qs h = tt
has_plain c (Load o a n) ps qs h = tt
has_plain c (Store o a n) ps qs h = tt
has_plain c MemorySize ps qs h = tt
has_plain c MemoryGrow ps qs h = tt
has_plain c (CallIndirect k) ps qs h = tt

-- in a typed tree only instructions without blocks stand alone
pub typed_plain : (e : Tree) (c : Context) (rs ts : List ValType) → Typed e c rs ts → AllPlain e
typed_plain stop c rs ts h = tt
typed_plain (plain i e) c rs ts h = (has_plain c i h.1.takes h.1.leaves h.1.type, typed_plain e c rs h.0 h.2)
typed_plain (block t b e) c rs ts h = (typed_plain b _ _ _ h.0, typed_plain e c rs _ h.1)
typed_plain (loop t b e) c rs ts h = (typed_plain b _ _ _ h.0, typed_plain e c rs _ h.1)
typed_plain (if_then t b e) c rs ts h = (typed_plain b _ _ _ h.3, typed_plain e c rs _ h.4)
typed_plain (if_else t b d e) c rs ts h = (typed_plain b _ _ _ h.2, typed_plain d _ _ _ h.3, typed_plain e c rs _ h.4)

-- a typed body is typed as the tree that its list is read as
pub typed_body : (c : Context) (code : List Instr) → IsTyped c code → Typed (tree_of code) c c.results []
typed_body c code h = subst (λ (e : Tree). Typed e c c.results []) (sym (tree_written code h.tree h.is_written)) h.typed
