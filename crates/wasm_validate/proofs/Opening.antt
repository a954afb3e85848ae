-- A block is opened: the rest is typed exactly where the step goes on and what follows is.
use Rattle.std.proofs.Common.{◌≡◌, Bool, false, Option, List, [], ◌∷◌, ◌++◌, refl, sym, ap, ◌∙◌, subst, append_assoc}
use Rattle.faaslet_meaning.specs.declared.instr.ValType.{ValType}
use Rattle.faaslet_meaning.specs.declared.instr.Instr.{Instr}
use Rattle.faaslet_meaning.specs.declared.instr.Instr.TheVariants.{Block, Loop, End}
use Rattle.faaslet_meaning.specs.Typing.{Context, HasType, Typed, with_label}
use Rattle.faaslet_meaning.specs.Tree.{Tree, stop, plain, block, loop, if_then, if_else, written, types_of}
use Rattle.wasm_validate.specs.declared.kind.Kind.{Kind}
use Rattle.wasm_validate.specs.declared.kind.Kind.TheVariants.{Body, Again}
use Rattle.wasm_validate.specs.Frames.{Frame}
use Rattle.wasm_validate.specs.Steps.{go_at}
use Rattle.wasm_validate.specs.Admits.{Admits, Both, inside, Closes, Rest, Fits, FitsSome}
use Rattle.wasm_validate.proofs.Taking.{known, push_admits, admits_push}
use Rattle.wasm_validate.proofs.Plain.{not_closer}

-- the code goes on inside a block just opened, after whose end the block outside goes on with its results
abbrev pub Inside : Context → Kind → Option ValType → Bool → List (Option ValType) → Kind → Option ValType → List ValType → List Instr → (List Instr → Type 0) → Type 0
Inside c k t u os j x label code After = Rest (with_label c label) j x false [] code (λ code. Rest c k t u (known (types_of x) ++ os) code After)

block_tree : (c : Context) (k : Kind) (t x : Option ValType) (u : Bool) (os : List (Option ValType)) (is : List Instr) (After : List Instr → Type 0) (e : Tree) (tail rest : List Instr) (ts : List ValType) → Block x ∷ is ≡ written e ++ tail → Admits os u ts → Typed e c (types_of t) ts → Closes k t c tail rest → After rest → Inside c k t u os Body x (types_of x) is After
block_tree c k t x u os is After stop tail rest ts q a h cl af =
    absurd (not_closer k t c (Block x) is rest (λ e. cc) (λ e. cc) (subst (λ l. Closes k t c l rest) (sym q) cl))
block_tree c k t x u os is After (plain j e) tail rest ts q a h cl af =
    let same : j ≡ Block x = cc in absurd (subst (λ y. HasType c y h.1.takes h.1.leaves) same h.1.type)
block_tree c k t x u os is After (loop y b e) tail rest ts q a h cl af = let f : ⊥ = cc in absurd f
block_tree c k t x u os is After (if_then y b e) tail rest ts q a h cl af = let f : ⊥ = cc in absurd f
block_tree c k t x u os is After (if_else y b d e) tail rest ts q a h cl af = let f : ⊥ = cc in absurd f
block_tree c k t x u os is After (block y b e) tail rest ts q a h cl af =
    let same : y ≡ x = cc in
    let next : is ≡ (written b ++ (End ∷ written e)) ++ tail = cc in
    subst (λ z. Inside c k t u os Body z (types_of z) is After) same (record {
      tree = b;
      tail = End ∷ (written e ++ tail);
      rest = written e ++ tail;
      types = [];
      code_is = next ∙ append_assoc (written b) (End ∷ written e) tail;
      admits = refl;
      typed = h.0;
      closes = refl;
      after = record { tree = e; tail = tail; rest = rest; types = types_of y ++ ts; code_is = refl; admits = push_admits (types_of y) u os (types_of y ++ ts) ts refl a; typed = h.1; closes = cl; after = af };
    })

block_back : (c : Context) (k : Kind) (t x : Option ValType) (u : Bool) (os : List (Option ValType)) (is : List Instr) (After : List Instr → Type 0) → Inside c k t u os Body x (types_of x) is After → Rest c k t u os (Block x ∷ is) After
block_back c k t x u os is After r =
    let q = r.after in
    let a = admits_push (types_of x) u os q.types q.admits in
    record {
      tree = block x r.tree q.tree;
      tail = q.tail;
      rest = q.rest;
      types = a.0;
      code_is = ap (λ l. Block x ∷ l) (r.code_is ∙ ap (λ l. written r.tree ++ l) (r.closes ∙ ap (λ l. End ∷ l) q.code_is) ∙ sym (append_assoc (written r.tree) (End ∷ written q.tree) q.tail));
      admits = a.2;
      typed = (subst (λ l. Typed r.tree (with_label c (types_of x)) (types_of x) l) r.admits r.typed, subst (λ l. Typed q.tree c (types_of t) l) a.1 q.typed);
      closes = q.closes;
      after = q.after;
    }

pub block_fits : (s : Context) (x : Option ValType) (f : Frame) (fs : List Frame) (is : List Instr) → Both (Fits s [] (f ∷ fs) (Block x ∷ is)) (FitsSome s (go_at s (Block x) (f ∷ fs)) is)
block_fits s x f fs is = (
  λ r. block_tree (inside s (f ∷ fs)) f.kind f.ends x f.unreachable f.operands is (Fits s (types_of f.ends) fs) r.tree r.tail r.rest r.types r.code_is r.admits r.typed r.closes r.after,
  λ r. block_back (inside s (f ∷ fs)) f.kind f.ends x f.unreachable f.operands is (Fits s (types_of f.ends) fs) r,
)

loop_tree : (c : Context) (k : Kind) (t x : Option ValType) (u : Bool) (os : List (Option ValType)) (is : List Instr) (After : List Instr → Type 0) (e : Tree) (tail rest : List Instr) (ts : List ValType) → Loop x ∷ is ≡ written e ++ tail → Admits os u ts → Typed e c (types_of t) ts → Closes k t c tail rest → After rest → Inside c k t u os Again x ([]) is After
loop_tree c k t x u os is After stop tail rest ts q a h cl af =
    absurd (not_closer k t c (Loop x) is rest (λ e. cc) (λ e. cc) (subst (λ l. Closes k t c l rest) (sym q) cl))
loop_tree c k t x u os is After (plain j e) tail rest ts q a h cl af =
    let same : j ≡ Loop x = cc in absurd (subst (λ y. HasType c y h.1.takes h.1.leaves) same h.1.type)
loop_tree c k t x u os is After (block y b e) tail rest ts q a h cl af = let f : ⊥ = cc in absurd f
loop_tree c k t x u os is After (if_then y b e) tail rest ts q a h cl af = let f : ⊥ = cc in absurd f
loop_tree c k t x u os is After (if_else y b d e) tail rest ts q a h cl af = let f : ⊥ = cc in absurd f
loop_tree c k t x u os is After (loop y b e) tail rest ts q a h cl af =
    let same : y ≡ x = cc in
    let next : is ≡ (written b ++ (End ∷ written e)) ++ tail = cc in
    subst (λ z. Inside c k t u os Again z ([]) is After) same (record {
      tree = b;
      tail = End ∷ (written e ++ tail);
      rest = written e ++ tail;
      types = [];
      code_is = next ∙ append_assoc (written b) (End ∷ written e) tail;
      admits = refl;
      typed = h.0;
      closes = refl;
      after = record { tree = e; tail = tail; rest = rest; types = types_of y ++ ts; code_is = refl; admits = push_admits (types_of y) u os (types_of y ++ ts) ts refl a; typed = h.1; closes = cl; after = af };
    })

loop_back : (c : Context) (k : Kind) (t x : Option ValType) (u : Bool) (os : List (Option ValType)) (is : List Instr) (After : List Instr → Type 0) → Inside c k t u os Again x ([]) is After → Rest c k t u os (Loop x ∷ is) After
loop_back c k t x u os is After r =
    let q = r.after in
    let a = admits_push (types_of x) u os q.types q.admits in
    record {
      tree = loop x r.tree q.tree;
      tail = q.tail;
      rest = q.rest;
      types = a.0;
      code_is = ap (λ l. Loop x ∷ l) (r.code_is ∙ ap (λ l. written r.tree ++ l) (r.closes ∙ ap (λ l. End ∷ l) q.code_is) ∙ sym (append_assoc (written r.tree) (End ∷ written q.tree) q.tail));
      admits = a.2;
      typed = (subst (λ l. Typed r.tree (with_label c ([])) (types_of x) l) r.admits r.typed, subst (λ l. Typed q.tree c (types_of t) l) a.1 q.typed);
      closes = q.closes;
      after = q.after;
    }

pub loop_fits : (s : Context) (x : Option ValType) (f : Frame) (fs : List Frame) (is : List Instr) → Both (Fits s [] (f ∷ fs) (Loop x ∷ is)) (FitsSome s (go_at s (Loop x) (f ∷ fs)) is)
loop_fits s x f fs is = (
  λ r. loop_tree (inside s (f ∷ fs)) f.kind f.ends x f.unreachable f.operands is (Fits s (types_of f.ends) fs) r.tree r.tail r.rest r.types r.code_is r.admits r.typed r.closes r.after,
  λ r. loop_back (inside s (f ∷ fs)) f.kind f.ends x f.unreachable f.operands is (Fits s (types_of f.ends) fs) r,
)
