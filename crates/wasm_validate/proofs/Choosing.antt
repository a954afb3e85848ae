-- An if is opened: the rest is typed exactly where the step goes on and what follows is.
use Rattle.std.proofs.Common.{◌≡◌, Bool, inl, inr, ⊎_elim, Option, Some, None, List, [], ◌∷◌, ◌++◌, refl, sym, ap, ◌∙◌, subst, append_assoc, option_map}
use Rattle.faaslet_meaning.specs.declared.instr.ValType.{ValType}
use Rattle.faaslet_meaning.specs.declared.instr.ValType.TheVariants.{I32}
use Rattle.faaslet_meaning.specs.declared.instr.Instr.{Instr}
use Rattle.faaslet_meaning.specs.declared.instr.Instr.TheVariants.{If, Else, End}
use Rattle.faaslet_meaning.specs.Typing.{Context, HasType, Typed, with_label}
use Rattle.faaslet_meaning.specs.Tree.{Tree, stop, plain, block, loop, if_then, if_else, written, types_of}
use Rattle.wasm_validate.specs.declared.kind.Kind.{Kind}
use Rattle.wasm_validate.specs.declared.kind.Kind.TheVariants.{Choice}
use Rattle.wasm_validate.specs.Frames.{Frame, opened, pop}
use Rattle.wasm_validate.specs.Steps.{go_at}
use Rattle.wasm_validate.specs.Admits.{Admits, AdmitsSome, Both, inside, Closes, Rest, Fits, FitsSome}
use Rattle.wasm_validate.proofs.Taking.{pop_os, lift, pop_lift, pop_admits, push_admits, admits_push}
use Rattle.wasm_validate.proofs.Plain.{not_closer}
use Rattle.wasm_validate.proofs.Opening.{Inside}

-- the first side, once the condition is taken
abbrev pub InsideSome : Context → Kind → Option ValType → Bool → Option (List (Option ValType)) → Option ValType → List Instr → (List Instr → Type 0) → Type 0
InsideSome c k t u None x code After = ⊥
InsideSome c k t u (Some os) x code After = Inside c k t u os Choice x (types_of x) code After

only_from : (c : Context) (k : Kind) (t x : Option ValType) (u : Bool) (o : Option (List (Option ValType))) (is : List Instr) (After : List Instr → Type 0) (b e : Tree) (tail rest : List Instr) (ts : List ValType) → is ≡ (written b ++ (End ∷ written e)) ++ tail → AdmitsSome o u ts → x ≡ None → Typed b (with_label c (types_of x)) (types_of x) [] → Typed e c (types_of t) (types_of x ++ ts) → Closes k t c tail rest → After rest → InsideSome c k t u o x is After
only_from c k t x u None is After b e tail rest ts q a n hb h cl af = a
only_from c k t x u (Some os) is After b e tail rest ts q a n hb h cl af = record {
  tree = b;
  tail = End ∷ (written e ++ tail);
  rest = written e ++ tail;
  types = [];
  code_is = q ∙ append_assoc (written b) (End ∷ written e) tail;
  admits = refl;
  typed = hb;
  closes = inl (n, refl);
  after = record { tree = e; tail = tail; rest = rest; types = types_of x ++ ts; code_is = refl; admits = push_admits (types_of x) u os (types_of x ++ ts) ts refl a; typed = h; closes = cl; after = af };
}

both_from : (c : Context) (k : Kind) (t x : Option ValType) (u : Bool) (o : Option (List (Option ValType))) (is : List Instr) (After : List Instr → Type 0) (b d e : Tree) (tail rest : List Instr) (ts : List ValType) → is ≡ (written b ++ (Else ∷ (written d ++ (End ∷ written e)))) ++ tail → AdmitsSome o u ts → Typed b (with_label c (types_of x)) (types_of x) [] → Typed d (with_label c (types_of x)) (types_of x) [] → Typed e c (types_of t) (types_of x ++ ts) → Closes k t c tail rest → After rest → InsideSome c k t u o x is After
both_from c k t x u None is After b d e tail rest ts q a hb hd h cl af = a
both_from c k t x u (Some os) is After b d e tail rest ts q a hb hd h cl af = record {
  tree = b;
  tail = Else ∷ (written d ++ (End ∷ (written e ++ tail)));
  rest = written e ++ tail;
  types = [];
  code_is = q ∙ append_assoc (written b) (Else ∷ (written d ++ (End ∷ written e))) tail ∙ ap (λ l. written b ++ (Else ∷ l)) (append_assoc (written d) (End ∷ written e) tail);
  admits = refl;
  typed = hb;
  closes = inr (d, hd, refl);
  after = record { tree = e; tail = tail; rest = rest; types = types_of x ++ ts; code_is = refl; admits = push_admits (types_of x) u os (types_of x ++ ts) ts refl a; typed = h; closes = cl; after = af };
}

if_tree : (c : Context) (k : Kind) (t x : Option ValType) (u : Bool) (os : List (Option ValType)) (is : List Instr) (After : List Instr → Type 0) (e : Tree) (tail rest : List Instr) (ts : List ValType) → If x ∷ is ≡ written e ++ tail → Admits os u ts → Typed e c (types_of t) ts → Closes k t c tail rest → After rest → InsideSome c k t u (pop_os I32 u os) x is After
if_tree c k t x u os is After stop tail rest ts q a h cl af =
    absurd (not_closer k t c (If x) is rest (λ e. cc) (λ e. cc) (subst (λ l. Closes k t c l rest) (sym q) cl))
if_tree c k t x u os is After (plain j e) tail rest ts q a h cl af =
    let same : j ≡ If x = cc in absurd (subst (λ y. HasType c y h.1.takes h.1.leaves) same h.1.type)
if_tree c k t x u os is After (block y b e) tail rest ts q a h cl af = let f : ⊥ = cc in absurd f
if_tree c k t x u os is After (loop y b e) tail rest ts q a h cl af = let f : ⊥ = cc in absurd f
if_tree c k t x u os is After (if_then y b e) tail rest ts q a h cl af =
    let same : y ≡ x = cc in
    let next : is ≡ (written b ++ (End ∷ written e)) ++ tail = cc in
    let p = (pop_admits I32 u os h.0).0 (subst (λ l. Admits os u l) h.1 a) in
    subst (λ z. InsideSome c k t u (pop_os I32 u os) z is After) same (only_from c k t y u (pop_os I32 u os) is After b e tail rest h.0 next p h.2 h.3 h.4 cl af)
if_tree c k t x u os is After (if_else y b d e) tail rest ts q a h cl af =
    let same : y ≡ x = cc in
    let next : is ≡ (written b ++ (Else ∷ (written d ++ (End ∷ written e)))) ++ tail = cc in
    let p = (pop_admits I32 u os h.0).0 (subst (λ l. Admits os u l) h.1 a) in
    subst (λ z. InsideSome c k t u (pop_os I32 u os) z is After) same (both_from c k t y u (pop_os I32 u os) is After b d e tail rest h.0 next p h.2 h.3 h.4 cl af)

if_back : (c : Context) (k : Kind) (t x : Option ValType) (u : Bool) (os : List (Option ValType)) (o : Option (List (Option ValType))) (is : List Instr) (After : List Instr → Type 0) → ((xs : List ValType) → AdmitsSome o u xs → Admits os u (I32 ∷ xs)) → InsideSome c k t u o x is After → Rest c k t u os (If x ∷ is) After
if_back c k t x u os None is After pop r = absurd r
if_back c k t x u os (Some ws) is After pop r = ⊎_elim only both r.closes
  where
    only : (x ≡ None) × (r.tail ≡ End ∷ r.rest) → Rest c k t u os (If x ∷ is) After
    only h =
        let q = r.after in
        let a = admits_push (types_of x) u ws q.types q.admits in
        record {
          tree = if_then x r.tree q.tree;
          tail = q.tail;
          rest = q.rest;
          types = I32 ∷ a.0;
          code_is = ap (λ l. If x ∷ l) (r.code_is ∙ ap (λ l. written r.tree ++ l) (h.1 ∙ ap (λ l. End ∷ l) q.code_is) ∙ sym (append_assoc (written r.tree) (End ∷ written q.tree) q.tail));
          admits = pop a.0 a.2;
          typed = (a.0, refl, h.0, subst (λ l. Typed r.tree (with_label c (types_of x)) (types_of x) l) r.admits r.typed, subst (λ l. Typed q.tree c (types_of t) l) a.1 q.typed);
          closes = q.closes;
          after = q.after;
        }

    both : (d : Tree) × Typed d (with_label c (types_of x)) (types_of x) [] × (r.tail ≡ Else ∷ (written d ++ (End ∷ r.rest))) → Rest c k t u os (If x ∷ is) After
    both h =
        let q = r.after in
        let a = admits_push (types_of x) u ws q.types q.admits in
        record {
          tree = if_else x r.tree h.0 q.tree;
          tail = q.tail;
          rest = q.rest;
          types = I32 ∷ a.0;
          code_is = ap (λ l. If x ∷ l) (r.code_is ∙ ap (λ l. written r.tree ++ l) (h.2 ∙ ap (λ l. Else ∷ (written h.0 ++ (End ∷ l))) q.code_is ∙ ap (λ l. Else ∷ l) (sym (append_assoc (written h.0) (End ∷ written q.tree) q.tail))) ∙ sym (append_assoc (written r.tree) (Else ∷ (written h.0 ++ (End ∷ written q.tree))) q.tail));
          admits = pop a.0 a.2;
          typed = (a.0, refl, subst (λ l. Typed r.tree (with_label c (types_of x)) (types_of x) l) r.admits r.typed, h.1, subst (λ l. Typed q.tree c (types_of t) l) a.1 q.typed);
          closes = q.closes;
          after = q.after;
        }

inside_some : (s : Context) (f : Frame) (fs : List Frame) (x : Option ValType) (o : Option (List (Option ValType))) (is : List Instr) → Both (InsideSome (inside s (f ∷ fs)) f.kind f.ends f.unreachable o x is (Fits s (types_of f.ends) fs)) (FitsSome s (option_map (opened Choice x) (lift f fs o)) is)
inside_some s f fs x None is = (λ r. r, λ r. r)
inside_some s f fs x (Some os) is = (λ r. r, λ r. r)

pub if_fits : (s : Context) (x : Option ValType) (f : Frame) (fs : List Frame) (is : List Instr) → Both (Fits s [] (f ∷ fs) (If x ∷ is)) (FitsSome s (go_at s (If x) (f ∷ fs)) is)
if_fits s x f fs is =
    let c = inside s (f ∷ fs) in
    let o = pop_os I32 f.unreachable f.operands in
    let w = inside_some s f fs x o is in
    let link : go_at s (If x) (f ∷ fs) ≡ option_map (opened Choice x) (lift f fs o) = ap (option_map (opened Choice x)) (pop_lift I32 f fs) in (
      λ r. subst (λ m. FitsSome s m is) (sym link) (w.0 (if_tree c f.kind f.ends x f.unreachable f.operands is (Fits s (types_of f.ends) fs) r.tree r.tail r.rest r.types r.code_is r.admits r.typed r.closes r.after)),
      λ g. if_back c f.kind f.ends x f.unreachable f.operands o is (Fits s (types_of f.ends) fs) (λ xs a. (pop_admits I32 f.unreachable f.operands xs).1 a) (w.1 (subst (λ m. FitsSome s m is) link g)),
    )
