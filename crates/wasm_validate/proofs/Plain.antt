-- One instruction of the code, where blocks are open: the rest is typed exactly where the step goes on and what follows is.
use Rattle.std.proofs.Common.{◌≡◌, Bool, ⊎_elim, Option, Some, None, List, [], ◌∷◌, ◌++◌, sym, ap, subst}
use Rattle.faaslet_meaning.specs.declared.instr.ValType.{ValType}
use Rattle.faaslet_meaning.specs.declared.instr.Instr.{Instr}
use Rattle.faaslet_meaning.specs.declared.instr.Instr.TheVariants.{Block, Loop, If, Else, End}
use Rattle.faaslet_meaning.specs.Typing.{Context, Effect, Typed}
use Rattle.faaslet_meaning.specs.Tree.{Tree, IsPlain, stop, plain, block, loop, if_then, if_else, written, types_of}
use Rattle.wasm_validate.specs.declared.kind.Kind.{Kind}
use Rattle.wasm_validate.specs.declared.kind.Kind.TheVariants.{Body, Again, Choice}
use Rattle.wasm_validate.specs.Frames.{Frame}
use Rattle.wasm_validate.specs.Steps.{go_at}
use Rattle.wasm_validate.specs.Admits.{Admits, AdmitsSome, Both, Image, inside, Closes, Rest, Fits, FitsSome}
use Rattle.wasm_validate.proofs.Images.{moves, lifts}

-- what neither ends a block nor its first side does not close one
pub not_closer : (k : Kind) (t : Option ValType) (c : Context) (i : Instr) (is rest : List Instr) → (i ≡ End → ⊥) → (i ≡ Else → ⊥) → Closes k t c (i ∷ is) rest → ⊥
not_closer Body t c i is rest a b h = a (let e : i ≡ End = cc in e)
not_closer Again t c i is rest a b h = a (let e : i ≡ End = cc in e)
not_closer Choice t c i is rest a b h = ⊎_elim (λ x. let q = x.1 in a (let e : i ≡ End = cc in e)) (λ x. let q = x.2 in b (let e : i ≡ Else = cc in e)) h

abbrev pub RestSome : Context → Kind → Option ValType → Bool → Option (List (Option ValType)) → List Instr → (List Instr → Type 0) → Type 0
RestSome c k t v None code After = ⊥
RestSome c k t v (Some os) code After = Rest c k t v os code After

rest_from : (c : Context) (k : Kind) (t : Option ValType) (v : Bool) (o : Option (List (Option ValType))) (is : List Instr) (After : List Instr → Type 0) (e : Tree) (tail rest : List Instr) (us : List ValType) → is ≡ written e ++ tail → AdmitsSome o v us → Typed e c (types_of t) us → Closes k t c tail rest → After rest → RestSome c k t v o is After
rest_from c k t v None is After e tail rest us q a h cl af = a
rest_from c k t v (Some os) is After e tail rest us q a h cl af = record { tree = e; tail = tail; rest = rest; types = us; code_is = q; admits = a; typed = h; closes = cl; after = af }

plain_tree : (c : Context) (k : Kind) (t : Option ValType) (u v : Bool) (os : List (Option ValType)) (o : Option (List (Option ValType))) (i : Instr) (is : List Instr) (After : List Instr → Type 0) → IsPlain i → Image c i u os v o → (e : Tree) (tail rest : List Instr) (ts : List ValType) → i ∷ is ≡ written e ++ tail → Admits os u ts → Typed e c (types_of t) ts → Closes k t c tail rest → After rest → RestSome c k t v o is After
plain_tree c k t u v os o i is After p im stop tail rest ts q a h cl af =
    absurd (not_closer k t c i is rest (λ e. subst IsPlain e p) (λ e. subst IsPlain e p) (subst (λ x. Closes k t c x rest) (sym q) cl))
plain_tree c k t u v os o i is After p im (plain j e) tail rest ts q a h cl af =
    let same : j ≡ i = cc in
    let next : is ≡ written e ++ tail = cc in
    rest_from c k t v o is After e tail rest h.0 next (im.forth ts h.0 a (subst (λ x. Effect c x ts h.0) same h.1)) h.2 cl af
plain_tree c k t u v os o i is After p im (block x b e) tail rest ts q a h cl af = let same : i ≡ Block x = cc in absurd (subst IsPlain same p)
plain_tree c k t u v os o i is After p im (loop x b e) tail rest ts q a h cl af = let same : i ≡ Loop x = cc in absurd (subst IsPlain same p)
plain_tree c k t u v os o i is After p im (if_then x b e) tail rest ts q a h cl af = let same : i ≡ If x = cc in absurd (subst IsPlain same p)
plain_tree c k t u v os o i is After p im (if_else x b d e) tail rest ts q a h cl af = let same : i ≡ If x = cc in absurd (subst IsPlain same p)

plain_back : (c : Context) (k : Kind) (t : Option ValType) (u v : Bool) (os : List (Option ValType)) (o : Option (List (Option ValType))) (i : Instr) (is : List Instr) (After : List Instr → Type 0) → Image c i u os v o → RestSome c k t v o is After → Rest c k t u os (i ∷ is) After
plain_back c k t u v os None i is After im r = absurd r
plain_back c k t u v os (Some l) i is After im r =
    let b = im.back r.types r.admits in
    record { tree = plain i r.tree; tail = r.tail; rest = r.rest; types = b.0; code_is = ap (λ x. i ∷ x) r.code_is; admits = b.1; typed = (r.types, b.2, r.typed); closes = r.closes; after = r.after }

fits_lifts : (s : Context) (f : Frame) (fs : List Frame) (v : Bool) (o : Option (List (Option ValType))) (is : List Instr) → Both (RestSome (inside s (f ∷ fs)) f.kind f.ends v o is (Fits s (types_of f.ends) fs)) (FitsSome s (lifts f fs v o) is)
fits_lifts s f fs v None is = (λ r. r, λ r. r)
fits_lifts s f fs v (Some os) is = (λ r. r, λ r. r)

pub plain_fits : (s : Context) (i : Instr) (f : Frame) (fs : List Frame) (is : List Instr) → IsPlain i → Both (Fits s [] (f ∷ fs) (i ∷ is)) (FitsSome s (go_at s i (f ∷ fs)) is)
plain_fits s i f fs is p =
    let m = moves s i f fs p in
    let c = inside s (f ∷ fs) in
    let w = fits_lifts s f fs m.flag m.made is in (
      λ r. subst (λ x. FitsSome s x is) (sym m.link) (w.0 (plain_tree c f.kind f.ends f.unreachable m.flag f.operands m.made i is (Fits s (types_of f.ends) fs) p m.image r.tree r.tail r.rest r.types r.code_is r.admits r.typed r.closes r.after)),
      λ g. plain_back c f.kind f.ends f.unreachable m.flag f.operands m.made i is (Fits s (types_of f.ends) fs) m.image (w.1 (subst (λ x. FitsSome s x is) m.link g)),
    )
